-- The rows that are kept: those at the nodes at which a monomial may be other than 0
use Rattle.std.specs.Prelude.{not, ◌&&◌, if◌then◌else◌, List}
use Rattle.std.specs.List.{flat_map}
use Rattle.algebra.specs.Fraction.{Fraction, is_zero_fraction}
use Rattle.ufl_tree.specs.declared.function.Role.TheVariants.{Test}
use Rattle.monos.specs.declared.layout.Layout.{Layout}
use Rattle.monos.specs.Monomial.{Monomial}
use Rattle.refint.specs.Local.{numbers_below}
use Rattle.refint.specs.Reference.{items}
use Rattle.monomial_products.specs.declared.support.Support.{Support}
use Rattle.monomial_products.specs.declared.support.Support.TheVariants.{Nowhere}
use Rattle.monomial_products.specs.Supports.{places_at, node_at, support_of}
use Rattle.monomial_products.specs.Products.{are_alive}

-- no node where the number or the function of an atom is 0
abbrev pub tests_of : Layout → Monomial → Support
tests_of l m = if not (is_zero_fraction m.c) && are_alive l m.atoms then support_of l Test m.atoms else Nowhere

-- the items of the rows at all places of two supports, one row after the other
abbrev pub kept_items : Layout → Support → Support → Monomial → List Fraction
kept_items l tests trials m =
    flat_map (λ t. flat_map (λ u. items l m (node_at tests t) (node_at trials u)) (numbers_below (places_at trials))) (numbers_below (places_at tests))
