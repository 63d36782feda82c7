use Rattle.std.proofs.Common.{◌≡◌}
use Rattle.ufl_tree.specs.Reading.{term_of}
use Rattle.lower.specs.Lowering.{power_term}
use Rattle.passes.proofs.nodes.power.Given as goal

abbrev pub invariant-loop-k : goal.invariant-loop-k
invariant-loop-k l = term_of l.all ≡ power_term (term_of l.base) l.k
