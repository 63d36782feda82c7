use Rattle.std.proofs.Common.{take}
use Rattle.std.specs.List.{AllByRecursion}
use Rattle.monos.specs.Monomial.{monomials_of}
use Rattle.planner.specs.Contractions.{AreContractionsOf, AreRowsBounded}
use Rattle.planner.proofs.planning.contractions_of.Given as goal

abbrev pub invariant-loop-m : goal.invariant-loop-m
invariant-loop-m l = record {
  contractions : AreContractionsOf l.l (monomials_of (take l.m-index l.monos)) l.contractions.items;
  bounds : AllByRecursion (AreRowsBounded l.l l.w) (monomials_of (take l.m-index l.monos));
}
