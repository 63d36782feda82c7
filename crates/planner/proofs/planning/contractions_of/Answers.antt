use Rattle.std.proofs.Common.{[], sym, subst, arith}
use Rattle.std.proofs.lemmas.List.{take_all}
use Rattle.std.specs.List.{AllByRecursion}
use Rattle.monos.specs.Monomial.{monomials_of}
use Rattle.monomial_weights.specs.Weighed.{IsWithin}
use Rattle.planner.specs.Contractions.{AreContractionsOf, AreRowsBounded, none}
use Rattle.planner.specs.Kernels.{HasArguments}
use Rattle.planner.proofs.ListedLaws.{each_monomial, next_each, next_found}
use Rattle.planner.proofs.planning.contractions_of.Goals as goal

pub contraction_of-requires-clause-within : goal.contraction_of-requires-clause-within
contraction_of-requires-clause-within c = each_monomial (IsWithin c.args.l.now c.args.w.now) c.args.monos.now c.loop-m.m-index c.m-item.result (omega arith) c.m-item.is c.requires.weight.each

pub contraction_of-requires-clause-arguments : goal.contraction_of-requires-clause-arguments
contraction_of-requires-clause-arguments c = each_monomial (HasArguments c.args.l.now) c.args.monos.now c.loop-m.m-index c.m-item.result (omega arith) c.m-item.is c.requires.arguments

pub loop-m-init : goal.loop-m-init
loop-m-init c = record {
  contractions = subst (AreContractionsOf c.args.l.now []) (sym c.new-contractions.ensures.items) none;
  bounds = tt;
}

pub loop-m-preserved : goal.loop-m-preserved
loop-m-preserved c = record {
  contractions =
      next_found c.args.l.now c.args.monos.now c.loop-m.contractions.items c.keep.new.contractions.items c.in_ok-found.found c.loop-m.m-index c.m-item.result (omega arith) c.m-item.is
      c.loop-m.invariant.contractions c.in_ok-found.ensures.contraction c.in_ok-keep.ensures;
  bounds =
      next_each (AreRowsBounded c.args.l.now c.args.w.now) c.args.monos.now c.loop-m.m-index c.m-item.result (omega arith) c.m-item.is
      c.loop-m.invariant.bounds c.in_ok-found.ensures.bounds;
}

pub returns-clause-contractions : goal.returns-clause-contractions
returns-clause-contractions c =
    subst (λ ms. AreContractionsOf c.args.l.now (monomials_of ms) c.loop-m.contractions.items) (take_all c.loop-m.m-index c.args.monos.now (omega arith)) c.loop-m.invariant.contractions

pub returns-clause-bounds : goal.returns-clause-bounds
returns-clause-bounds c =
    subst (λ ms. AllByRecursion (AreRowsBounded c.args.l.now c.args.w.now) (monomials_of ms)) (take_all c.loop-m.m-index c.args.monos.now (omega arith)) c.loop-m.invariant.bounds
