use Rattle.std.proofs.Common.{drop}
use Rattle.polyalg.proofs.DerivedLaws.{Derived}
use Rattle.polyalg.proofs.scaled.derived.Given as goal

abbrev pub invariant-loop-term : goal.invariant-loop-term
invariant-loop-term l = Derived l.k l.out.items (drop l.term-index l.terms) l.terms
