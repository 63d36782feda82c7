use Rattle.std.proofs.Common.{◌≡◌}
use Rattle.ufl_form.specs.Patterns.{raised}
use Rattle.ufl_form.proofs.pattern_set.PatternSet.raised.Given as goal

abbrev pub invariant-loop-number : goal.invariant-loop-number
invariant-loop-number l = l.all ≡ raised l.self l.number
