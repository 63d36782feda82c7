use Rattle.std.proofs.Common.{◌-◌, ◌*◌, ◌^◌, ◌<◌, arith, ap, sym, subst, ◌∙◌, refl}
use Rattle.calculus.specs.LocalFunction.{factorial}
use Rattle.calculus.proofs.Nodes.{factorial_positive}
use Rattle.lagrange.specs.Bounds.{basis_bound}
use Rattle.lagrange.proofs.Sizes.{never}
use Rattle.monos.specs.Monomial.{derivative_count}
use Rattle.monomial_products.specs.Products.{degree_in, degree_left, denominator, coefficient_bound}
use Rattle.monomial_products.proofs.PartLaws.{lawful_part}
use Rattle.monomial_products.proofs.FormedLaws.{low_functions, low_products, denominator_positive, small_positive}
use Rattle.monomial_products.proofs.SkippedLaws.{is_one, skipped_items, skipped_sizes, skipped_bounds, formed_fits, formed_items, formed_sizes, formed_bounds}
use Rattle.monomial_products.proofs.formed.with_atom.Goals as goal

pub with-requires-clause-sizes : goal.with-requires-clause-sizes
with-requires-clause-sizes c =
    let r = c.requires.ready.1 in
    formed_fits c.args.l.now c.requires.layout r.supports.tests r.supports.trials c.args.atom c.requires.ready.0 c.in_ok-factor.factor c.args.products c.in_ok-factor.ensures.value r.products
    r.supports.on_tests r.supports.on_trials r.small

pub with-requires-clause-left : goal.with-requires-clause-left
with-requires-clause-left c =
    let i = c.in_ok-factor.ensures.value in
    low_functions c.args.l.now.d i.part.degree (derivative_count c.args.atom) _ _ c.in_ok-factor.factor.functions.items
    (lawful_part c.args.l.now c.requires.layout c.args.atom.f.role c.args.atom.component i.part i.own).degree i.bounds

pub with-requires-clause-right : goal.with-requires-clause-right
with-requires-clause-right c =
    let r = c.requires.ready.1 in
    low_products c.args.l.now c.requires.layout c.requires.ready.0 c.args.products.items.items (omega (arith, r.small.atoms)) r.products.bounds

pub returns-then-factor-le1-clause-value : goal.returns-then-factor-le1-clause-value
returns-then-factor-le1-clause-value c xs tests trials a on too =
    let i = c.in_ok-factor.ensures.value in
    let o = is_one c.args.l.now c.requires.layout c.args.atom i.part i.own c.requires.alive (omega (arith, i.nodes, c.if-factor-le1.true)) in
    record {
      items = a.items ∙ sym (skipped_items c.args.l.now tests trials c.args.atom xs i.part i.own on too o);
      sizes = a.sizes ∙ sym (skipped_sizes c.args.l.now tests trials c.args.atom xs i.part i.own on too o);
      bounds = skipped_bounds c.args.l.now tests trials c.args.atom xs i.part i.own on too o c.args.products.items.items a.bounds;
    }

pub returns-clause-value : goal.returns-clause-value
returns-clause-value c xs tests trials a on too =
    let l = c.args.l.now in
    let x = c.args.atom in
    let i = c.in_ok-factor.ensures.value in
    record {
      items = formed_items l tests trials x xs c.in_ok-factor.factor c.args.products c.in_ok-next.next i a on too c.in_ok-next.ensures.value;
      sizes = formed_sizes l tests trials x xs c.in_ok-factor.factor c.args.products c.in_ok-next.next i a on too c.in_ok-next.ensures.sizes;
      bounds = formed_bounds l x xs i.part _ i.own
          (c.in_ok-next.ensures.bounds l.d (i.part.degree - derivative_count x) (factorial i.part.degree) (basis_bound i.part.degree * 3 ^ derivative_count x)
          (degree_left l xs) (denominator l xs) (coefficient_bound l xs) (factorial_positive i.part.degree) (denominator_positive l xs) i.bounds a.bounds);
    }

pub returns-in_err-next-clause-range : goal.returns-in_err-next-clause-range
returns-in_err-next-clause-range c xs b s =
    let l = c.args.l.now in
    let x = c.args.atom in
    let i = c.in_ok-factor.ensures.value in
    never _ c.from_residual-in_err-next.result _ c.in_err-next.field-0.0 c.from_residual-in_err-next.ensures.0 c.from_residual-in_err-next.ensures.1 refl
    (c.in_err-next.ensures.range l.d (i.part.degree - derivative_count x) (factorial i.part.degree) (basis_bound i.part.degree * 3 ^ derivative_count x)
    (degree_left l xs) (denominator l xs) (coefficient_bound l xs)
    (small_positive (factorial i.part.degree) (denominator l xs) (factorial_positive i.part.degree) (denominator_positive l xs))
    (subst (λ q. factorial q * denominator l xs < 2 ^ 127) (ap degree_in i.own) s.denominator)
    (subst (λ q. basis_bound q * 3 ^ derivative_count x * coefficient_bound l xs < 2 ^ 127) (ap degree_in i.own) s.sum)
    i.bounds b)
