-- How many items a row has
use Rattle.std.proofs.Common.{◌≡◌, ℕ, ◌*◌, ◌^◌, ◌≤◌, max, Bool, true, false, if◌then◌else◌, List, [], ◌∷◌, Option, None, Some, length, map, replicate, sym, ap, refl, ◌∙◌, arith}
use Rattle.std.specs.List.{flat_map}
use Rattle.std.specs.Prelude.{slice_get}
use Rattle.std.proofs.lemmas.Nat.{pow-add}
use native.Mathlib.Nat as N
use Rattle.spaces.specs.declared.parts.Parts.{Parts}
use Rattle.ufl_tree.specs.declared.function.Role.{Role}
use Rattle.ufl_tree.specs.declared.function.Role.TheVariants.{Test, Trial, Position, Coefficient}
use Rattle.monos.specs.declared.layout.CoefPlace.{CoefPlace}
use Rattle.monos.specs.declared.layout.Layout.{Layout}
use Rattle.monos.specs.declared.mono.Atom.{Atom}
use Rattle.monos.specs.Layout.{role_parts, parts_or_none, place_parts, place_of}
use Rattle.monos.specs.Monomial.{Monomial, directions, derivative_count, derivatives}
use Rattle.refint.specs.Local.{position_part}
use Rattle.refint.specs.Reference.{items, item, digit_lists, is_argument, nodes_in, node_counts, part_in, part_of}
use Rattle.refint.proofs.Combined.{map_length}
use Rattle.room.proofs.PartLaws.{directions_long}
use Rattle.weigh.specs.Lists.{costs}
use Rattle.basis_products.proofs.OrderLaws.{each_flat, each_all}
use Rattle.monomial_products.specs.Products.{product}
use Rattle.monomial_products.proofs.JoinedLaws.{digit_count, power_of}
use Rattle.monomial_weights.specs.Weighed.{cost_at}
use Rattle.monomial_weights.specs.Columns.{column_count}
use Rattle.monomial_weights.proofs.PartLaws.{nodes_covered, raised}

-- ---- how many
same_numbers : (d : ℕ) (is : List ℕ) → map (λ i. d) is ≡ replicate (length is) d
same_numbers d [] = refl
same_numbers d (i ∷ is) = ap (λ r. d ∷ r) (same_numbers d is)

directions_counted : (l : Layout) (xs : List Atom) → length (digit_lists (map (λ i. l.d) (flat_map directions xs))) ≡ l.d ^ derivatives xs
directions_counted l xs =
    digit_count (map (λ i. l.d) (flat_map directions xs))
    ∙ ap product (same_numbers l.d (flat_map directions xs))
    ∙ power_of l.d (length (flat_map directions xs)) ∙ ap (λ k. l.d ^ k) (directions_long xs)

pub columns_are : (l : Layout) (xs : List Atom) → product (node_counts l xs) * l.d ^ derivatives xs ≡ column_count l xs
columns_are l [] = ap (λ p. 1 * p) (N.pow-zero l.d)
columns_are l (x ∷ xs) =
    ap (λ p. product (node_counts l (x ∷ xs)) * p) (pow-add l.d (derivative_count x) (derivatives xs))
    ∙ at (is_argument x.f.role) (nodes_in (part_of l x.f.role x.component)) (l.d ^ derivative_count x)
    ∙ ap (λ r. (if is_argument x.f.role then 1 else nodes_in (part_of l x.f.role x.component)) * l.d ^ derivative_count x * r) (columns_are l xs)
  where
    at : (b : Bool) (n p : ℕ) → product (if b then node_counts l xs else n ∷ node_counts l xs) * (p * l.d ^ derivatives xs)
        ≡ (if b then 1 else n) * p * (product (node_counts l xs) * l.d ^ derivatives xs)
    at true n p = plain (product (node_counts l xs)) p (l.d ^ derivatives xs)
      where
        plain : (c p r : ℕ) → c * (p * r) ≡ 1 * p * (c * r)
        plain c p r = omega arith
    at false n p = summed n (product (node_counts l xs)) p (l.d ^ derivatives xs)
      where
        summed : (n c p r : ℕ) → n * c * (p * r) ≡ n * p * (c * r)
        summed n c p r = omega arith

pub items_counted : (l : Layout) (m : Monomial) (a b : ℕ) → length (items l m a b) ≡ column_count l m.atoms
unfolding items
items_counted l m a b =
    each_flat (λ ns. map (item l m a b ns) (digit_lists (map (λ i. l.d) (flat_map directions m.atoms)))) (l.d ^ derivatives m.atoms) (digit_lists (node_counts l m.atoms))
    (each_all (λ ns. length (map (item l m a b ns) (digit_lists (map (λ i. l.d) (flat_map directions m.atoms)))) ≡ l.d ^ derivatives m.atoms)
    (λ ns. map_length (item l m a b ns) (digit_lists (map (λ i. l.d) (flat_map directions m.atoms))) ∙ directions_counted l m.atoms) (digit_lists (node_counts l m.atoms)))
    ∙ ap (λ k. k * l.d ^ derivatives m.atoms) (digit_count (node_counts l m.atoms))
    ∙ columns_are l m.atoms

-- ---- at most the weight's
nodes_at : (l : Layout) (r : Role) (i : ℕ) → (if is_argument r then 1 else nodes_in (part_of l r i)) ≤ max 1 (nodes_in (slice_get (role_parts l r) i))
nodes_at l Test i = omega arith
nodes_at l Trial i = omega arith
nodes_at l Position i = at l.position
  where
    at : (p : Option Parts) → nodes_in (position_part p i) ≤ max 1 (nodes_in (slice_get (parts_or_none p) i))
    at None = omega arith
    at (Some p) = omega arith
nodes_at l (Coefficient n) i = at (place_of l.coefs n)
  where
    at : (c : Option CoefPlace) → nodes_in (part_in c i) ≤ max 1 (nodes_in (slice_get (place_parts c) i))
    at None = omega arith
    at (Some c) = omega arith

pub few_columns : (l : Layout) (xs : List Atom) → column_count l xs ≤ costs (cost_at l) xs * l.d ^ derivatives xs
few_columns l [] = N.le_of_eq (sym (ap (λ p. 1 * p) (N.pow-zero l.d)))
few_columns l (x ∷ xs) =
    raised l.d (derivative_count x) (derivatives xs) (column_count l (x ∷ xs)) (cost_at l x.f) (costs (cost_at l) xs)
    (N.mul-le-mul
    (N.mul-le-mul_right (l.d ^ derivative_count x) (N.le_trans (nodes_at l x.f.role x.component) (nodes_covered (role_parts l x.f.role) x.component)))
    (few_columns l xs))
