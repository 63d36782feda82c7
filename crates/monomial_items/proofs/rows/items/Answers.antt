use Rattle.std.proofs.Common.{List, map, ap, sym, subst, ◌∙◌, refl}
use Rattle.std.specs.List.{AllByRecursion}
use Rattle.ratio.specs.Value.{fraction_of}
use Rattle.polyalg.specs.Prelude.{value_of, VariablesBelow}
use Rattle.polyalg.specs.declared.term.Term.{Term}
use Rattle.ufl_tree.specs.declared.function.Role.TheVariants.{Test, Trial}
use Rattle.monos.specs.Monomial.{monomial_of}
use Rattle.lagrange.proofs.Sizes.{never}
use Rattle.monomial_products.specs.Supports.{AreOn}
use Rattle.monomial_products.specs.Products.{products_of, HaveSmallProducts, AreProductsBounded, degree_left, denominator, coefficient_bound}
use Rattle.monomial_products.proofs.FormedLaws.{denominator_positive}
use Rattle.monomial_items.specs.Integrals.{integrals_of}
use Rattle.monomial_items.proofs.ItemLaws.{rows_are_integrals, all_variables}
use Rattle.monomial_items.proofs.rows.items.Goals as goal

pub integrals-requires-clause-variables : goal.integrals-requires-clause-variables
integrals-requires-clause-variables c =
    let l = c.args.l.now in
    let s = c.requires.supports in
    let p = c.in_ok-products.ensures.value s.tests s.trials (subst (AreOn l Test s.tests) (sym c.as_slice.ensures) s.on_tests) (subst (AreOn l Trial s.trials) (sym c.as_slice.ensures) s.on_trials) in
    subst (AllByRecursion (VariablesBelow l.d)) (sym c.as_slice-2.ensures.value) (all_variables l.d _ _ _ c.in_ok-products.products.items.items p.bounds)

pub returns-clause-value : goal.returns-clause-value
returns-clause-value c tests trials on too =
    let l = c.args.l.now in
    let p = c.in_ok-products.ensures.value tests trials (subst (AreOn l Test tests) (sym c.as_slice.ensures) on) (subst (AreOn l Trial trials) (sym c.as_slice.ensures) too) in
    c.in_ok-items.ensures.value
    ∙ ap (λ (q : List (List Term)). integrals_of l.d (fraction_of c.args.m.now.c) (map value_of q)) c.as_slice-2.ensures.value
    ∙ ap (integrals_of l.d (fraction_of c.args.m.now.c)) (p.items ∙ ap (products_of l tests trials) c.as_slice.ensures)
    ∙ rows_are_integrals l tests trials (monomial_of c.args.m.now)

pub returns-in_err-items-clause-range : goal.returns-in_err-items-clause-range
returns-in_err-items-clause-range c small f =
    let l = c.args.l.now in
    let s = c.requires.supports in
    let p = c.in_ok-products.ensures.value s.tests s.trials (subst (AreOn l Test s.tests) (sym c.as_slice.ensures) s.on_tests) (subst (AreOn l Trial s.trials) (sym c.as_slice.ensures) s.on_trials) in
    let b = subst (λ xs. AreProductsBounded l xs c.in_ok-products.products.items.items) c.as_slice.ensures p.bounds in
    let q = subst (AreProductsBounded l c.args.m.now.atoms) (sym c.as_slice-2.ensures.value) b in
    never _ c.from_residual-in_err-items.result _ c.in_err-items.field-0.0 c.from_residual-in_err-items.ensures.0 c.from_residual-in_err-items.ensures.1 refl
    (c.in_err-items.ensures.range (degree_left l c.args.m.now.atoms) (denominator l c.args.m.now.atoms) (coefficient_bound l c.args.m.now.atoms) (denominator_positive l c.args.m.now.atoms) q f)

pub returns-in_err-products-clause-range : goal.returns-in_err-products-clause-range
returns-in_err-products-clause-range c small f =
    never _ c.from_residual.result _ c.in_err-products.field-0.0 c.from_residual.ensures.0 c.from_residual.ensures.1 refl
    (c.in_err-products.ensures.range (subst (HaveSmallProducts c.args.l.now) (sym c.as_slice.ensures) small))

pub returns-clause-bounds : goal.returns-clause-bounds
returns-clause-bounds c j i o f =
    let l = c.args.l.now in
    let s = c.requires.supports in
    let p = c.in_ok-products.ensures.value s.tests s.trials (subst (AreOn l Test s.tests) (sym c.as_slice.ensures) s.on_tests) (subst (AreOn l Trial s.trials) (sym c.as_slice.ensures) s.on_trials) in
    let b = subst (λ xs. AreProductsBounded l xs c.in_ok-products.products.items.items) c.as_slice.ensures p.bounds in
    let q = subst (AreProductsBounded l c.args.m.now.atoms) (sym c.as_slice-2.ensures.value) b in
    c.in_ok-items.ensures.bounds (degree_left l c.args.m.now.atoms) (denominator l c.args.m.now.atoms) (coefficient_bound l c.args.m.now.atoms) j i (denominator_positive l c.args.m.now.atoms) o q f
