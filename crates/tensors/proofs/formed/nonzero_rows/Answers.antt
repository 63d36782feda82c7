use Rattle.std.proofs.Common.{◌≡◌, true, false, ap, sym, ◌∙◌}
use Rattle.algebra.specs.Fraction.{is_zero_fraction}
use Rattle.monos.specs.Monomial.{monomial_of}
use Rattle.weigh.specs.Numerators.{size_over}
use Rattle.monomial_products.specs.Products.{are_alive}
use Rattle.monomial_items.specs.Integrals.{AreWithin}
use Rattle.monomial_weights.proofs.SmallLaws.{number_over, small_products, small_integrals}
use Rattle.monomial_weights.proofs.ItemLaws.{items_within}
use Rattle.tensors.proofs.ResultLaws.{if_ok, at_ok}
use Rattle.tensors.proofs.formed.nonzero_rows.Goals as goal

pub returns-clause-range : goal.returns-clause-range
returns-clause-range c w a h =
    let l = c.args.l.now in
    let m = monomial_of c.args.m.now in
    let number : is_zero_fraction m.c ≡ false = sym c.is_zero.ensures ∙ c.if-is_zero.false in
    let alive : are_alive l m.atoms ≡ true = ap (λ xs. are_alive l xs) (sym c.as_slice-atoms.ensures) ∙ sym c.are_alive.ensures ∙ c.if-not-are_alive.false in
    c.kept_rows.ensures.range (small_products l w m a h c.requires.layout number) (small_integrals l w m a h c.requires.layout number alive)

pub returns-clause-bounds : goal.returns-clause-bounds
returns-clause-bounds c =
    let l = c.args.l.now in
    let m = monomial_of c.args.m.now in
    let number : is_zero_fraction m.c ≡ false = sym c.is_zero.ensures ∙ c.if-is_zero.false in
    let alive : are_alive l m.atoms ≡ true = ap (λ xs. are_alive l xs) (sym c.as_slice-atoms.ensures) ∙ sym c.are_alive.ensures ∙ c.if-not-are_alive.false in
    if_ok c.kept_rows.result _ (λ k e w a h.
    items_within l w m a h alive k.items.items
    (at_ok c.kept_rows.result k (λ k. AreWithin l m.atoms w.den (size_over w.den m.c) k.items.items) e
    (c.kept_rows.ensures.bounds w.den (size_over w.den m.c) (number_over l w m a h) (small_integrals l w m a h c.requires.layout number alive))))
