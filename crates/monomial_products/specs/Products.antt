-- The products of the functions of some atoms, for each choice of nodes and reference directions
use Rattle.std.specs.Prelude.{ℕ, ◌+◌, ◌-◌, ◌*◌, ◌^◌, ◌≤◌, ◌<◌, ◌&&◌, ◌||◌, Bool, true, false, nat_le, max, if◌then◌else◌, List, [], ◌∷◌, length, map, Option, None, Some, slice_get}
use Rattle.std.specs.List.{flat_map}
use Rattle.calculus.specs.LocalFunction.{factorial}
use Rattle.calculus.specs.Polynomial.{Polynomial}
use Rattle.lagrange.specs.Bounds.{basis_bound}
use Rattle.polyalg.specs.declared.term.Term.{Term}
use Rattle.spaces.specs.declared.parts.Part.{Part}
use Rattle.ufl_tree.specs.declared.function.Role.{Role}
use Rattle.ufl_tree.specs.declared.function.Role.TheVariants.{Test, Trial, Position, Coefficient}
use Rattle.monos.specs.declared.layout.Layout.{Layout}
use Rattle.monos.specs.declared.mono.Atom.{Atom}
use Rattle.monos.specs.Layout.{role_parts}
use Rattle.monos.specs.Monomial.{directions, derivative_count, derivatives}
use Rattle.refint.specs.Local.{numbers_below}
use Rattle.refint.specs.Reference.{digit_lists, node_counts, nodes_in, product_at}
use Rattle.basis_products.specs.declared.factor.Source.{Source}
use Rattle.basis_products.specs.declared.factor.Source.TheVariants as source
use Rattle.basis_products.specs.declared.products.Sizes.{Sizes}
use Rattle.basis_products.specs.Functions.{AreBounded}
use Rattle.monomial_products.specs.declared.support.Support.{Support}
use Rattle.monomial_products.specs.Supports.{is_role, places_at, node_at}

-- ---- what the products are
-- at local nodes a and b
abbrev pub products_at : Layout → ℕ → ℕ → List Atom → List Polynomial
products_at l a b xs =
    flat_map (λ ns. map (λ ds. product_at l a b xs ns ds) (digit_lists (map (λ i. l.d) (flat_map directions xs))))
    (digit_lists (node_counts l xs))

-- where nothing depends on an argument's node, one stands for all
abbrev pub has_role : Role → List Atom → Bool
has_role r [] = false
has_role r (x ∷ xs) = is_role x.f.role r || has_role r xs

abbrev pub own_places : Support → Role → List Atom → ℕ
own_places s r xs = if has_role r xs then places_at s else 1

-- at all nodes where the arguments let them be other than 0
abbrev pub products_of : Layout → Support → Support → List Atom → List Polynomial
products_of l tests trials xs =
    flat_map
    (λ t. flat_map (λ u. products_at l (node_at tests t) (node_at trials u) xs) (numbers_below (own_places trials Trial xs)))
    (numbers_below (own_places tests Test xs))

abbrev pub product : List ℕ → ℕ
product [] = 1
product (n ∷ ns) = n * product ns

abbrev pub sizes_of : Layout → Support → Support → List Atom → Sizes
sizes_of l tests trials xs = record {
  tests = own_places tests Test xs;
  trials = own_places trials Trial xs;
  nodes = product (node_counts l xs);
  directions = l.d ^ derivatives xs;
}

-- ---- their bounds
abbrev pub degree_in : Option Part → ℕ
degree_in None = 0
degree_in (Some p) = p.degree

abbrev pub degree_at : Layout → Atom → ℕ
degree_at l x = degree_in (slice_get (role_parts l x.f.role) x.component)

-- the degree, the denominator and the sum of coefficients of the products, where each atom has the degree that it is derived
abbrev pub degree_left : Layout → List Atom → ℕ
degree_left l [] = 0
degree_left l (x ∷ xs) = degree_at l x - derivative_count x + degree_left l xs

abbrev pub denominator : Layout → List Atom → ℕ
denominator l [] = 1
denominator l (x ∷ xs) = factorial (degree_at l x) * denominator l xs

abbrev pub coefficient_bound : Layout → List Atom → ℕ
coefficient_bound l [] = 1
coefficient_bound l (x ∷ xs) = basis_bound (degree_at l x) * 3 ^ derivative_count x * coefficient_bound l xs

abbrev pub AreProductsBounded : Layout → List Atom → List (List Term) → Type 0
AreProductsBounded l xs ps = AreBounded l.d (degree_left l xs) (denominator l xs) (coefficient_bound l xs) ps

-- a step of a product doesn't pass
pub record HaveSmallProducts (l : Layout) (xs : List Atom) : Type 0 where
  pub denominator : denominator l xs < 2 ^ 127
  pub sum : coefficient_bound l xs < 2 ^ 127

-- an atom's function isn't 0: it has a part, of at least the degree that it is derived
abbrev pub alive_on : Option Part → ℕ → Bool
alive_on None k = false
alive_on (Some p) k = nat_le k p.degree

abbrev pub is_alive : Layout → Atom → Bool
is_alive l x = alive_on (slice_get (role_parts l x.f.role) x.component) (derivative_count x)

abbrev pub are_alive : Layout → List Atom → Bool
are_alive l [] = true
are_alive l (x ∷ xs) = is_alive l x && are_alive l xs

-- where the node of an atom comes from
abbrev pub source_of : Role → Source
source_of Test = source.Test
source_of Trial = source.Trial
source_of Position = source.Summed
source_of (Coefficient n) = source.Summed

-- the product of the numbers of nodes of all atoms' parts, and of the dimension for each derivative
abbrev pub own_spread : Layout → List Atom → ℕ
own_spread l [] = 1
own_spread l (x ∷ xs) =
    max 1 (nodes_in (slice_get (role_parts l x.f.role) x.component)) * l.d ^ derivative_count x * own_spread l xs

-- what every monomial within an admitted weight has, whatever its coefficient: few atoms, and few rows and columns
pub record IsSmall (l : Layout) (xs : List Atom) : Type 0 where
  pub atoms : length xs ≤ 256
  pub spread : own_spread l xs ≤ 2 ^ 20
