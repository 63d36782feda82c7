use Rattle.ufl_tree.specs.Places.{table_of}
use Rattle.monos.specs.Monomial.{monomials_of}
use Rattle.form_kernels.proofs.PartLaws.{all_planned, integrands_admitted, layout_lawful, sum_arguments, sum_function, sum_within}
use Rattle.form_kernels.proofs.form_functions.function.Goals as goal

pub monomials-requires : goal.monomials-requires
monomials-requires c =
    let h = c.requires in
    rw c.as_slice.ensures.value (integrands_admitted (table_of c.args.elements.now) h.numbers h.f h.k h.w c.args.parts.now h.are)

pub plan-requires-clause-layout : goal.plan-requires-clause-layout
plan-requires-clause-layout c = let h = c.requires in layout_lawful (table_of c.args.elements.now) h.numbers h.f h.k h.w c.args.parts.now h.are

pub plan-requires-clause-weight : goal.plan-requires-clause-weight
plan-requires-clause-weight c =
    let h = c.requires in
    let m = c.in_ok-monomials in
    sum_within (table_of c.args.elements.now) h.numbers h.f h.k h.w c.args.parts.now h.are c.args.marker _ (cc) (monomials_of m.monomials.items) m.ensures.value m.ensures.weight m.ensures.numbers m.ensures.arguments
    m.ensures.leaves _ cc

pub plan-requires-clause-arguments : goal.plan-requires-clause-arguments
plan-requires-clause-arguments c =
    let h = c.requires in
    let m = c.in_ok-monomials in
    sum_arguments (table_of c.args.elements.now) h.numbers h.f h.k h.w c.args.parts.now h.are c.args.marker _ (cc) (monomials_of m.monomials.items) m.ensures.value m.ensures.weight m.ensures.numbers m.ensures.arguments
    m.ensures.leaves _ cc

pub returns : goal.returns
returns c = λ numbers f k w are.
    let m = c.in_ok-monomials in
    sum_function (table_of c.args.elements.now) numbers f k w c.args.parts.now are c.args.marker _ (cc) (monomials_of m.monomials.items) m.ensures.value m.ensures.weight m.ensures.numbers m.ensures.arguments
    m.ensures.leaves _ (cc) c.args.name.now c.plan.result
    (all_planned c.args.name.now _ c.args.parts.now.layout c.args.parts.now.weight c.plan.result c.plan.ensures.name c.plan.ensures.sizes c.plan.ensures.lawful c.plan.ensures.share c.plan.ensures.room c.plan.ensures.bound)
