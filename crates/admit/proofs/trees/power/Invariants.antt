use Rattle.std.proofs.Common.{◌≡◌}
use Rattle.weigh.specs.Weighing.{kept, power_weight}
use Rattle.admit.specs.Denominators.{HasDenominators}
use Rattle.admit.proofs.trees.power.Given as goal

abbrev pub invariant-loop-k : goal.invariant-loop-k
invariant-loop-k l = record { value : l.all ≡ power_weight kept l.a l._k; denominators : HasDenominators l.all }
