use Rattle.std.proofs.Common.{◌-◌, ◌+◌, ◌<◌, [], length, drop, arith, sym, subst, refl}
use Rattle.ufl_tree.specs.declared.function.Role.TheVariants.{Test, Trial}
use Rattle.monos.specs.declared.mono.Atom.{Atom}
use Rattle.lagrange.proofs.Sizes.{never}
use Rattle.monomial_products.specs.Products.{IsSmall, HaveSmallProducts}
use Rattle.monomial_products.specs.Formed.{AreProductsOf}
use Rattle.monomial_products.proofs.PartLaws.{lawful_dimension}
use Rattle.monomial_products.proofs.FormedLaws.{alive_at, small_drop, small_products_drop}
use Rattle.monomial_products.proofs.SuffixLaws.{suffix_next, suffix_on, whole_suffix, no_suffix, start_products}
use Rattle.monomial_products.proofs.formed.products.Goals as goal

-- what stands past the end of a list
nothing : Atom
nothing = record { f = record { role = Test; element = 0 }; component = 0; dirs = [] }

pub loop-k-init : goal.loop-k-init
loop-k-init c tests trials on too =
    subst (λ xs. AreProductsOf c.args.l.now tests trials xs c.in_ok-products.products) (sym (no_suffix c.args.atoms.now))
    (start_products c.args.l.now tests trials c.in_ok-products.products c.in_ok-products.ensures.value c.in_ok-products.ensures.sizes (c.in_ok-products.ensures.bounds c.args.l.now.d))

pub with_atom-requires-clause-alive : goal.with_atom-requires-clause-alive
unfolding nothing
with_atom-requires-clause-alive c = alive_at c.args.l.now c.args.atoms.now (length c.args.atoms.now - 1 - c.loop-k.k) nothing (omega arith) c.requires.alive

pub with_atom-requires-clause-ready : goal.with_atom-requires-clause-ready
unfolding nothing
with_atom-requires-clause-ready c =
    let xs = c.args.atoms.now in
    let s = c.requires.supports in
    let within : c.loop-k.k < length xs = omega arith in (
      drop (length xs - c.loop-k.k) xs,
      record {
        supports = record {
          tests = s.tests;
          trials = s.trials;
          on_tests = suffix_on c.args.l.now Test s.tests xs c.loop-k.k nothing within s.on_tests;
          on_trials = suffix_on c.args.l.now Trial s.trials xs c.loop-k.k nothing within s.on_trials;
        };
        products = c.loop-k.invariant s.tests s.trials s.on_tests s.on_trials;
        small = subst (IsSmall c.args.l.now) (suffix_next xs c.loop-k.k nothing within)
            (small_drop c.args.l.now xs (length xs - (c.loop-k.k + 1)) (lawful_dimension c.args.l.now c.requires.layout).0 c.requires.small);
      },
    )

pub returns-in_err-products-2-clause-range : goal.returns-in_err-products-2-clause-range
unfolding nothing
returns-in_err-products-2-clause-range c small =
    let xs = c.args.atoms.now in
    let s = c.requires.supports in
    let within : c.loop-k.k < length xs = omega arith in
    never _ c.from_residual-in_err-products-2.result _ c.in_err-products-2.field-0.0 c.from_residual-in_err-products-2.ensures.0 c.from_residual-in_err-products-2.ensures.1 refl
    (c.in_err-products-2.ensures.range (drop (length xs - c.loop-k.k) xs) (c.loop-k.invariant s.tests s.trials s.on_tests s.on_trials).bounds
    (subst (HaveSmallProducts c.args.l.now) (suffix_next xs c.loop-k.k nothing within) (small_products_drop c.args.l.now xs (length xs - (c.loop-k.k + 1)) small)))

pub loop-k-preserved : goal.loop-k-preserved
unfolding nothing
loop-k-preserved c tests trials on too =
    let xs = c.args.atoms.now in
    let within : c.loop-k.k < length xs = omega arith in
    subst (λ ys. AreProductsOf c.args.l.now tests trials ys c.in_ok-products-2.products) (sym (suffix_next xs c.loop-k.k nothing within))
    (c.in_ok-products-2.ensures.value (drop (length xs - c.loop-k.k) xs) tests trials (c.loop-k.invariant tests trials on too)
    (suffix_on c.args.l.now Test tests xs c.loop-k.k nothing within on) (suffix_on c.args.l.now Trial trials xs c.loop-k.k nothing within too))

pub returns-clause-value : goal.returns-clause-value
returns-clause-value c tests trials on too =
    subst (λ ys. AreProductsOf c.args.l.now tests trials ys c.loop-k.products) (whole_suffix c.args.atoms.now c.loop-k.k (omega arith)) (c.loop-k.invariant tests trials on too)
