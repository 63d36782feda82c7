use Rattle.std.proofs.Common.{◌≡◌}
use Rattle.calculus.specs.Integral.{sum_below}
use Rattle.tree_values.specs.PolyValue.{value_of}
use Rattle.tree_values.specs.Meaning.{meaning_with}
use Rattle.tree_values.proofs.meanings.+meanings.Given as goal

abbrev pub invariant-over-loop-k : goal.invariant-over-loop-k
invariant-over-loop-k l = value_of l.total ≡ sum_below l.k (meaning_with l.scene l.body l.index)
