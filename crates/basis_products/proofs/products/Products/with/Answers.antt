use Rattle.std.proofs.Common.{◌*◌, ◌<◌, ◌++◌, [], length, get_or, map, arith, ap, ap₂, sym, subst, ◌∙◌, refl}
use Rattle.std.specs.List.{flat_map}
use Rattle.std.proofs.lemmas.List.{take_all}
use Rattle.calculus.specs.Polynomial.{times}
use Rattle.polyalg.specs.Prelude.{value_of}
use Rattle.refint.proofs.Combined.{map_length}
use Rattle.lagrange.proofs.Sizes.{never}
use Rattle.basis_products.specs.declared.products.Pair.{Pair}
use Rattle.basis_products.specs.declared.products.Sizes.{Sizes}
use Rattle.basis_products.specs.Functions.{IsBounded, AreBounded}
use Rattle.basis_products.specs.Order.{piece, joined}
use Rattle.basis_products.proofs.Lists.{more_items, get_same}
use Rattle.basis_products.proofs.OrderLaws.{there_at, piece_mapped, all_piece, products_length}
use Rattle.basis_products.proofs.products.Products.with.Goals as goal

pub row-requires : goal.row-requires
row-requires c =
    let f = c.args.factor.now in
    (there_at c.args.self.now.sizes f.source f.nodes f.directions c.deref-pair-items.result.now c.loop-pair.pair-index (record { row = 0; block = 0 }) c.requires.sizes
    (c.deref-pair-items.ensures.value ∙ c.in_ok-pairs.ensures) (omega arith)).0

pub block-requires : goal.block-requires
block-requires c =
    let f = c.args.factor.now in
    (there_at c.args.self.now.sizes f.source f.nodes f.directions c.deref-pair-items.result.now c.loop-pair.pair-index (record { row = 0; block = 0 }) c.requires.sizes
    (c.deref-pair-items.ensures.value ∙ c.in_ok-pairs.ensures) (omega arith)).1

pub returns-in_err-push_products-clause-range : goal.returns-in_err-push_products-clause-range
returns-in_err-push_products-clause-range c d n l b m k e p h g f s =
    never _ c.from_residual-in_err-push_products.result _ c.in_err-push_products.field-0.0 c.from_residual-in_err-push_products.ensures.0 c.from_residual-in_err-push_products.ensures.1 refl
    (c.in_err-push_products.ensures.range d n l b m k e p h g
    (subst (AreBounded d n l b) (sym c.row.ensures) (all_piece (IsBounded d n l b) c.args.factor.now.directions _ c.args.factor.now.functions.items f))
    (subst (AreBounded d m k e) (sym c.block.ensures) (all_piece (IsBounded d m k e) c.args.self.now.sizes.directions _ c.args.self.now.items.items s)))

pub loop-pair-preserved : goal.loop-pair-preserved
loop-pair-preserved c =
    let f = c.args.factor.now in
    let s = c.args.self.now in
    let ps = c.deref-pair-items.result.now in
    let pair : Pair = get_or ps c.loop-pair.pair-index (record { row = 0; block = 0 }) in
    let within : c.loop-pair.pair-index < length ps = omega arith in
    record {
      value = more_items (λ (p : Pair). flat_map (λ x. map (times x) (piece s.sizes.directions p.block (map value_of s.items.items))) (piece f.directions p.row (map value_of f.functions.items)))
          ps c.loop-pair.pair-index pair [] (map value_of c.loop-pair.items.items) _ within (get_same ps c.loop-pair.pair-index (record { row = 0; block = 0 }) pair within) c.loop-pair.invariant.value
          (c.in_ok-push_products.ensures.value
          ∙ ap₂ (λ r l. map value_of c.loop-pair.items.items ++ flat_map (λ p. map (times p) r) l)
          (ap (map value_of) c.block.ensures ∙ piece_mapped value_of s.sizes.directions pair.block s.items.items)
          (ap (map value_of) c.row.ensures ∙ piece_mapped value_of f.directions pair.row f.functions.items));
      bounds = λ d n l b m k e h g t u.
          c.in_ok-push_products.ensures.bounds d n l b m k e h g
          (subst (AreBounded d n l b) (sym c.row.ensures) (all_piece (IsBounded d n l b) f.directions _ f.functions.items t))
          (subst (AreBounded d m k e) (sym c.block.ensures) (all_piece (IsBounded d m k e) s.sizes.directions _ s.items.items u))
          (c.loop-pair.invariant.bounds d n l b m k e h g t u);
    }

pub invariant_of-result : goal.invariant_of-result
invariant_of-result c =
    let f = c.args.factor.now in
    let s = c.args.self.now in
    let ps = c.deref-pair-items.result.now in
    let rows = map value_of f.functions.items in
    let blocks = map value_of s.items.items in
    record {
      shape = sym (map_length value_of c.loop-pair.items.items)
          ∙ ap length c.loop-pair.invariant.value
          ∙ ap (λ qs. length (joined times f.directions rows s.sizes.directions blocks qs))
          (take_all c.loop-pair.pair-index ps (omega arith) ∙ c.deref-pair-items.ensures.value ∙ c.in_ok-pairs.ensures)
          ∙ products_length times s.sizes f.source f.nodes f.directions rows blocks c.requires.sizes
          (map_length value_of f.functions.items ∙ f.shape) (map_length value_of s.items.items ∙ s.shape)
          ∙ ap (λ (z : Sizes). z.tests * (z.trials * (z.nodes * z.directions))) (sym c.with-sizes.ensures);
    }
