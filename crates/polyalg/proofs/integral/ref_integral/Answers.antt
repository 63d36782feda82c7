use Rattle.std.proofs.lemmas.List.{drop_all}
use Rattle.polyalg.proofs.IntegralLaws.{integral_done, formula_done}
use Rattle.polyalg.proofs.integral.ref_integral.Goals as goal

pub returns-clause-value : goal.returns-clause-value
returns-clause-value c =
    integral_done c.args.d c.requires.dimension.0 c.requires.dimension.1 c.args.p.now c.terms-term-items.result.now _ _
    c.terms-term-items.ensures.same (drop_all c.loop-term.term-index c.terms-term-items.result.now c.loop-term-test.false) c.terms-term-items.ensures.lawful
    c.requires.variables c.loop-term.invariant.0

pub returns-clause-formula : goal.returns-clause-formula
returns-clause-formula c =
    formula_done c.args.d c.requires.dimension.0 c.args.p.now c.terms-term-items.result.now _ _
    c.terms-term-items.ensures.same (drop_all c.loop-term.term-index c.terms-term-items.result.now c.loop-term-test.false) c.terms-term-items.ensures.lawful c.loop-term.invariant.0
