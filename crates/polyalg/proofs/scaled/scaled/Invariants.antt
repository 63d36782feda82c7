use Rattle.std.proofs.Common.{drop}
use Rattle.ratio.specs.Value.{fraction_of}
use Rattle.polyalg.proofs.ScaledLaws.{Scaled}
use Rattle.polyalg.proofs.scaled.scaled.Given as goal

abbrev pub invariant-loop-term : goal.invariant-loop-term
invariant-loop-term l = Scaled (fraction_of l.c) l.out.items (drop l.term-index l.terms) l.terms
