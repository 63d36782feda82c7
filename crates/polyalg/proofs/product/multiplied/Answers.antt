use Rattle.std.proofs.Common.{ap, ap₂, sym, subst, ◌∙◌, arith}
use Rattle.calculus.specs.Polynomial.{plus}
use Rattle.polyalg.specs.Range.{row_passes, sum_passes}
use Rattle.polyalg.specs.Products.{degree_of}
use Rattle.std.proofs.lemmas.List.{drop_all}
use Rattle.polyalg.specs.Terms.{value_of, IsPoly}
use Rattle.polyalg.proofs.ScaledLaws.{first_left}
use Rattle.polyalg.proofs.ProductLaws.{product_begin, next_lawful, product_step, row_refused, sum_refused, product_value, product_fits, range_on, range_residual}
use Rattle.polyalg.proofs.Variables.{product_variables}
use Rattle.polyalg.proofs.product.multiplied.Goals as goal

pub loop-term-init : goal.loop-term-init
loop-term-init c = product_begin c.new-all.result.items c.args.left.now c.args.right.now c.new-all.ensures.items c.requires.left

pub returns-in_err-products-clause-range : goal.returns-in_err-products-clause-range
returns-in_err-products-clause-range c =
    range_residual _ c.from_residual.result _ c.in_err-products.field-0.0 c.from_residual.ensures.0 c.from_residual.ensures.1
    (range_on (Unit {0}) (Unit {0}) (row_passes c.term-item.result c.args.right.now) _ c.in_err-products.field-0.0 c.in_err-products.ensures.range
    (λ h. row_refused c.loop-term.all.items _ c.args.left.now c.args.right.now _ c.term-item.result
    (first_left c.args.left.now c.loop-term.term-index c.term-item.result c.loop-term-test.true c.term-item.is) h c.loop-term.invariant))

pub merged-requires-clause-right : goal.merged-requires-clause-right
merged-requires-clause-right c =
    subst IsPoly (sym c.as_slice-in-loop-term.ensures.value)
    (next_lawful c.loop-term.all.items _ c.args.left.now c.args.right.now _ c.in_ok-products.products.items c.term-item.result
    (first_left c.args.left.now c.loop-term.term-index c.term-item.result c.loop-term-test.true c.term-item.is)
    c.requires.degrees c.requires.right c.in_ok-products.ensures.row c.loop-term.invariant)

pub returns-in_err-all-clause-range : goal.returns-in_err-all-clause-range
returns-in_err-all-clause-range c =
    range_residual _ c.from_residual-in_err-all.result _ c.in_err-all.field-0.0 c.from_residual-in_err-all.ensures.0 c.from_residual-in_err-all.ensures.1
    (range_on (Unit {0}) (Unit {0}) (sum_passes c.as_slice.result.now c.as_slice-in-loop-term.result.now) _ c.in_err-all.field-0.0 c.in_err-all.ensures.range
    (λ h. sum_refused c.loop-term.all.items _ c.args.left.now c.args.right.now _ c.in_ok-products.products.items c.term-item.result
    (first_left c.args.left.now c.loop-term.term-index c.term-item.result c.loop-term-test.true c.term-item.is)
    c.requires.degrees c.requires.right c.in_ok-products.ensures.row
    (sym (ap₂ sum_passes c.as_slice.ensures.value c.as_slice-in-loop-term.ensures.value) ∙ h) c.loop-term.invariant))

pub loop-term-preserved : goal.loop-term-preserved
loop-term-preserved c =
    let first = first_left c.args.left.now c.loop-term.term-index c.term-item.result c.loop-term-test.true c.term-item.is in
    product_step c.loop-term.all.items _ c.args.left.now c.args.right.now c.in_ok-all.all.items _ c.in_ok-products.products.items c.term-item.result first
    c.requires.degrees c.requires.right c.in_ok-products.ensures.row
    (c.in_ok-all.ensures.value ∙ ap₂ (λ ts us. plus (value_of ts) (value_of us)) c.as_slice.ensures.value c.as_slice-in-loop-term.ensures.value)
    (sym (ap₂ sum_passes c.as_slice.ensures.value c.as_slice-in-loop-term.ensures.value) ∙ c.in_ok-all.ensures.range)
    c.in_ok-all.ensures.lawful
    (omega (arith, c.in_ok-all.ensures.degree, ap degree_of c.as_slice.ensures.value, ap degree_of c.as_slice-in-loop-term.ensures.value))
    c.loop-term.invariant

pub returns-clause-value : goal.returns-clause-value
returns-clause-value c = product_value c.loop-term.all.items _ c.args.left.now c.args.right.now (drop_all c.loop-term.term-index c.args.left.now c.loop-term-test.false) c.loop-term.invariant

pub returns-clause-range : goal.returns-clause-range
returns-clause-range c = product_fits c.loop-term.all.items _ c.args.left.now c.args.right.now (drop_all c.loop-term.term-index c.args.left.now c.loop-term-test.false) c.loop-term.invariant

pub returns-clause-variables : goal.returns-clause-variables
returns-clause-variables c d h g = product_variables d c.args.left.now c.args.right.now _ c.loop-term.invariant.lawful (returns-clause-value c) h g
