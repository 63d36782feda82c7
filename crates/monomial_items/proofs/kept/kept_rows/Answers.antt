use Rattle.std.proofs.Common.{sym, ◌≡◌, ◌<◌, not, ◌&&◌, map, ap, subst, ◌∙◌, refl, arith}
use Rattle.algebra.specs.Fraction.{is_zero_fraction}
use Rattle.ratio.specs.Value.{fraction_of}
use Rattle.ufl_tree.specs.declared.function.Role.TheVariants.{Test, Trial}
use Rattle.monos.specs.Monomial.{monomial_of}
use Rattle.monomial_products.specs.declared.support.Support.TheVariants.{Nowhere}
use Rattle.monomial_products.specs.Supports.{places_at, support_of, AreOn}
use Rattle.monomial_products.specs.Products.{are_alive}
use Rattle.monomial_items.specs.Integrals.{AreWithin}
use Rattle.monomial_items.proofs.KeptLaws.{kept_are, no_trials, chosen}
use Rattle.monomial_items.proofs.kept.kept_rows.Goals as goal

pub returns-then-places-eq0-2-clause-items : goal.returns-then-places-eq0-2-clause-items
returns-then-places-eq0-2-clause-items c =
    ap (map fraction_of) c.new-then-places-eq0-2.ensures.items
    ∙ no_trials c.args.l.now c.test_nodes-tests.result c.trial_support-trials.result (monomial_of c.args.m.now) (omega (arith, c.places-2.ensures, c.if-places-eq0-2.true))

pub returns-clause-items : goal.returns-clause-items
returns-clause-items c =
    let l = c.args.l.now in
    let m = monomial_of c.args.m.now in
    let tests = c.test_nodes-tests.result in
    let trials = c.trial_support-trials.result in
    let some : 0 < places_at tests = omega (arith, c.places.ensures, c.if-places-eq0.false) in
    let any : 0 < places_at trials = omega (arith, c.places-2.ensures, c.if-places-eq0-2.false) in
    let here : tests ≡ support_of l Test m.atoms =
    (chosen (not (is_zero_fraction m.c) && are_alive l m.atoms) (support_of l Test m.atoms) Nowhere tests c.test_nodes-tests.ensures.value refl some).1 in
    c.in_ok-items.ensures.value tests trials (c.test_nodes-tests.ensures.on c.requires.layout some)
    (subst (AreOn l Trial trials) c.as_slice.ensures (c.trial_support-trials.ensures.on c.requires.layout any))
    ∙ kept_are l tests trials m here (c.trial_support-trials.ensures.value ∙ ap (support_of l Trial) c.as_slice.ensures)

pub returns-then-places-eq0-clause-bounds : goal.returns-then-places-eq0-clause-bounds
returns-then-places-eq0-clause-bounds c j i o f = subst (AreWithin c.args.l.now c.args.m.now.atoms j i) (sym c.new.ensures.items) tt

pub returns-then-places-eq0-2-clause-bounds : goal.returns-then-places-eq0-2-clause-bounds
returns-then-places-eq0-2-clause-bounds c j i o f = subst (AreWithin c.args.l.now c.args.m.now.atoms j i) (sym c.new-then-places-eq0-2.ensures.items) tt
