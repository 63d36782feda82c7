-- Items as integrals of products
use Rattle.std.proofs.Common.{◌≡◌, ℕ, List, map, sym, ◌∙◌}
use Rattle.std.specs.List.{flat_map, AllByRecursion}
use Rattle.algebra.specs.Fraction.{mul}
use Rattle.polyalg.specs.ReferenceIntegral.{VariablesBelow}
use Rattle.polyalg.specs.declared.term.Term.{Term}
use Rattle.ufl_tree.specs.declared.function.Role.TheVariants.{Test, Trial}
use Rattle.monos.specs.declared.layout.Layout.{Layout}
use Rattle.monos.specs.Monomial.{Monomial, directions}
use Rattle.refint.specs.Local.{numbers_below}
use Rattle.refint.specs.Reference.{items, digit_lists, node_counts, product_at}
use Rattle.refint.proofs.Lists.{map_flat, map_map, flat_same}
use Rattle.basis_products.specs.Functions.{IsBounded, AreBounded}
use Rattle.basis_products.proofs.Lists.{all_weaken}
use Rattle.monomial_products.specs.declared.support.Support.{Support}
use Rattle.monomial_products.specs.Supports.{node_at}
use Rattle.monomial_products.specs.Products.{products_at, products_of, own_places}
use Rattle.monomial_items.specs.Integrals.{integral_on, integrals_of, items_at}

pub items_are : (l : Layout) (m : Monomial) (a b : ℕ) → items l m a b ≡ integrals_of l.d m.c (products_at l a b m.atoms)
unfolding items
items_are l m a b =
    flat_same _ _ (λ ns. sym (map_map (λ p. mul m.c (integral_on l.d p)) (λ ds. product_at l a b m.atoms ns ds) (digit_lists (map (λ i. l.d) (flat_map directions m.atoms)))))
    (digit_lists (node_counts l m.atoms))
    ∙ sym (map_flat (λ p. mul m.c (integral_on l.d p)) (λ ns. map (λ ds. product_at l a b m.atoms ns ds) (digit_lists (map (λ i. l.d) (flat_map directions m.atoms)))) (digit_lists (node_counts l m.atoms)))

-- at all places of the arguments
pub rows_are_integrals : (l : Layout) (tests trials : Support) (m : Monomial) → integrals_of l.d m.c (products_of l tests trials m.atoms) ≡ items_at l tests trials m
rows_are_integrals l tests trials m =
    map_flat (λ p. mul m.c (integral_on l.d p)) (λ t. flat_map (λ u. products_at l (node_at tests t) (node_at trials u) m.atoms) (numbers_below (own_places trials Trial m.atoms))) (numbers_below (own_places tests Test m.atoms))
    ∙ flat_same _ _ (λ t.
    map_flat (λ p. mul m.c (integral_on l.d p)) (λ u. products_at l (node_at tests t) (node_at trials u) m.atoms) (numbers_below (own_places trials Trial m.atoms))
    ∙ flat_same _ _ (λ u. sym (items_are l m (node_at tests t) (node_at trials u))) (numbers_below (own_places trials Trial m.atoms))) (numbers_below (own_places tests Test m.atoms))

pub all_variables : (d n l b : ℕ) (ps : List (List Term)) → AreBounded d n l b ps → AllByRecursion (VariablesBelow d) ps
all_variables d n l b ps s = all_weaken (IsBounded d n l b) (VariablesBelow d) (λ ts t. t.variables) ps s
