use Rattle.monos.specs.Monomial.{monomials_of}
use Rattle.ufl_tree.specs.Places.{table_of}
use Rattle.ufl_tree.specs.Reading.{term_of}
use Rattle.normal.specs.Gathering.{names_of, IsSumBelowOf}
use Rattle.normal.proofs.walk.+walk.Given as goal

abbrev pub invariant-over-loop-k : goal.invariant-over-loop-k
invariant-over-loop-k l = IsSumBelowOf (table_of l.elements) (term_of l.body) l.index (names_of l.bounds) l.k (monomials_of l.all.items)
