use Rattle.std.proofs.Common.{◌≡◌}
use Rattle.calculus.specs.LocalFunction.{factorial}
use Rattle.weigh.specs.Weighing.{kept}
use Rattle.admit.proofs.forms.kept_factorial.Given as goal

abbrev pub invariant-loop-k : goal.invariant-loop-k
invariant-loop-k l = l.all ≡ kept (factorial l.k)
