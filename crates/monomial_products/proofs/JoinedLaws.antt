-- Products with one atom more in front: a row of the atom's functions with each block of the products behind it
use Rattle.std.proofs.Common.{◌≡◌, ℕ, zero, suc, ◌+◌, ◌*◌, ◌^◌, ◌<◌, Bool, true, false, ◌==◌, ◌||◌, if◌then◌else◌, List, [], ◌∷◌, length, map, take, drop, replicate, refl, sym, ap, ap₂, ◌∙◌, subst, arith}
use Rattle.std.specs.List.{flat_map}
use Rattle.std.proofs.lemmas.Bool.Decides.{nat_tests}
use Rattle.std.proofs.lemmas.Nat.{mul-add-lt}
use Rattle.std.proofs.Math.Nat.{pow-zero, pow-suc}
use native.Mathlib.Nat as N
use Rattle.calculus.specs.Polynomial.{Polynomial, times}
use Rattle.calculus.specs.Simplex.{reference}
use Rattle.ufl_tree.specs.declared.function.Role.{Role}
use Rattle.ufl_tree.specs.declared.function.Role.TheVariants.{Test, Trial, Position, Coefficient}
use Rattle.monos.specs.declared.layout.Layout.{Layout}
use Rattle.monos.specs.declared.mono.Atom.{Atom}
use Rattle.monos.specs.Monomial.{directions, derivative_count, derivatives}
use Rattle.monos.proofs.LayoutLaws.{directions_count}
use Rattle.refint.specs.Local.{numbers_below, argument_value}
use Rattle.refint.specs.Reference.{digit_lists, node_counts, product_at, atom_function, along_all}
use Rattle.refint.proofs.Lists.{map_append, map_map, flat_same, flat_of_map, both_mapped}
use Rattle.refint.proofs.Combined.{map_length, append_length}
use Rattle.basis_products.specs.Functions.{all_along}
use Rattle.basis_products.specs.Order.{own_node, piece}
use Rattle.basis_products.proofs.Lists.{flat_length}
use Rattle.basis_products.proofs.OrderLaws.{each_flat, each_all}
use Rattle.monomial_products.specs.declared.support.Support.{Support}
use Rattle.monomial_products.specs.Supports.{places_at, node_at, is_role}
use Rattle.monomial_products.specs.Products.{products_at, has_role, own_places, products_of, product}
use Rattle.monomial_products.proofs.Pieces.{piece_at}

-- ---- how many choices
pub digit_count : (ns : List ℕ) → length (digit_lists ns) ≡ product ns
digit_count [] = refl
digit_count (n ∷ ns) =
    flat_length (λ j. map (λ ds. j ∷ ds) (digit_lists ns)) (product ns) (λ j. map_length (λ ds. j ∷ ds) (digit_lists ns) ∙ digit_count ns) n

same_numbers : (d : ℕ) (is : List ℕ) → map (λ i. d) is ≡ replicate (length is) d
same_numbers d [] = refl
same_numbers d (i ∷ is) = ap (λ r. d ∷ r) (same_numbers d is)

pub power_of : (d k : ℕ) → product (replicate k d) ≡ d ^ k
power_of d zero = sym (pow-zero d)
power_of d (suc k) = ap (λ r. d * r) (power_of d k) ∙ N.mul_comm d (d ^ k) ∙ sym (pow-suc d k)

all_directions : (xs : List Atom) → length (flat_map directions xs) ≡ derivatives xs
all_directions [] = refl
all_directions (x ∷ xs) = append_length (directions x) (flat_map directions xs) ∙ ap₂ ◌+◌ (directions_count x) (all_directions xs)

abbrev pub digits : Layout → List Atom → List (List ℕ)
digits l xs = digit_lists (map (λ i. l.d) (flat_map directions xs))

digits_length : (l : Layout) (xs : List Atom) → length (digits l xs) ≡ l.d ^ derivatives xs
digits_length l xs =
    digit_count (map (λ i. l.d) (flat_map directions xs))
    ∙ ap product (same_numbers l.d (flat_map directions xs))
    ∙ power_of l.d (length (flat_map directions xs)) ∙ ap (λ k. l.d ^ k) (all_directions xs)

-- ---- one choice of nodes
abbrev pub inner : Layout → ℕ → ℕ → List Atom → List ℕ → List Polynomial
inner l a b xs ns = map (λ ds. product_at l a b xs ns ds) (digits l xs)

pub inner_length : (l : Layout) (a b : ℕ) (xs : List Atom) (ns : List ℕ) → length (inner l a b xs ns) ≡ l.d ^ derivatives xs
inner_length l a b xs ns = map_length (λ ds. product_at l a b xs ns ds) (digits l xs) ∙ digits_length l xs

at_length : (l : Layout) (a b : ℕ) (xs : List Atom) → length (products_at l a b xs) ≡ product (node_counts l xs) * l.d ^ derivatives xs
at_length l a b xs =
    each_flat (inner l a b xs) (l.d ^ derivatives xs) (digit_lists (node_counts l xs))
    (each_all (λ ns. length (inner l a b xs ns) ≡ l.d ^ derivatives xs) (inner_length l a b xs) (digit_lists (node_counts l xs)))
    ∙ ap (λ k. k * l.d ^ derivatives xs) (digit_count (node_counts l xs))

-- the blocks at test place t and trial place u
pub block_is : (l : Layout) (tests trials : Support) (xs : List Atom) (t u k : ℕ) → t < own_places tests Test xs → u < own_places trials Trial xs → k < product (node_counts l xs)
    → piece (l.d ^ derivatives xs) ((t * own_places trials Trial xs + u) * product (node_counts l xs) + k) (products_of l tests trials xs)
    ≡ piece (l.d ^ derivatives xs) k (products_at l (node_at tests t) (node_at trials u) xs)
block_is l tests trials xs t u k h g m =
    ap (λ i. piece D i (products_of l tests trials xs)) (place t u (own_places trials Trial xs) (product (node_counts l xs)) k)
    ∙ piece_at D (U * C) (own_places tests Test xs) t (u * C + k) (λ t. flat_map (λ u. products_at l (node_at tests t) (node_at trials u) xs) (numbers_below U))
    (λ t. flat_length (λ u. products_at l (node_at tests t) (node_at trials u) xs) (C * D) (λ u. at_length l (node_at tests t) (node_at trials u) xs) U ∙ sym (N.mul_assoc U C D))
    h (within u k U C g m)
    ∙ piece_at D C U u k (λ u. products_at l (node_at tests t) (node_at trials u) xs) (λ u. at_length l (node_at tests t) (node_at trials u) xs) g m
  where
    D : ℕ
    D = l.d ^ derivatives xs

    C : ℕ
    C = product (node_counts l xs)

    U : ℕ
    U = own_places trials Trial xs

    place : (t u c n k : ℕ) → (t * c + u) * n + k ≡ t * (c * n) + (u * n + k)
    place t u c n k = omega arith

    within : (u k c n : ℕ) → u < c → k < n → u * n + k < c * n
    within u k c n h g = omega (arith, mul-add-lt u n k c h g)

-- ---- nodes that a product doesn't depend on
tests_apart : (l : Layout) (a c b : ℕ) (xs : List Atom) → (has_role Test xs ≡ true → a ≡ c) → (ns ds : List ℕ) → product_at l a b xs ns ds ≡ product_at l c b xs ns ds
tests_apart l a c b [] h ns ds = refl
tests_apart l a c b (x ∷ xs) h ns ds = ap₂ (λ f p. times (along_all (take (length (directions x)) ds) f) p) (go x.f.role h) (tests_apart l a c b xs (rest x.f.role h) _ _)
  where
    go : (r : Role) → ((is_role r Test || has_role Test xs) ≡ true → a ≡ c) → atom_function l (reference l.d) a b r x.component ns ≡ atom_function l (reference l.d) c b r x.component ns
    go Test h = ap (λ n. argument_value l.d (reference l.d) l.rows n x.component) (h refl)
    go Trial h = refl
    go Position h = refl
    go (Coefficient n) h = refl

    rest : (r : Role) → ((is_role r Test || has_role Test xs) ≡ true → a ≡ c) → has_role Test xs ≡ true → a ≡ c
    rest Test h e = h refl
    rest Trial h e = h e
    rest Position h e = h e
    rest (Coefficient n) h e = h e

trials_apart : (l : Layout) (a b c : ℕ) (xs : List Atom) → (has_role Trial xs ≡ true → b ≡ c) → (ns ds : List ℕ) → product_at l a b xs ns ds ≡ product_at l a c xs ns ds
trials_apart l a b c [] h ns ds = refl
trials_apart l a b c (x ∷ xs) h ns ds = ap₂ (λ f p. times (along_all (take (length (directions x)) ds) f) p) (go x.f.role h) (trials_apart l a b c xs (rest x.f.role h) _ _)
  where
    go : (r : Role) → ((is_role r Trial || has_role Trial xs) ≡ true → b ≡ c) → atom_function l (reference l.d) a b r x.component ns ≡ atom_function l (reference l.d) a c r x.component ns
    go Test h = refl
    go Trial h = ap (λ n. argument_value l.d (reference l.d) l.cols n x.component) (h refl)
    go Position h = refl
    go (Coefficient n) h = refl

    rest : (r : Role) → ((is_role r Trial || has_role Trial xs) ≡ true → b ≡ c) → has_role Trial xs ≡ true → b ≡ c
    rest Test h e = h e
    rest Trial h e = h refl
    rest Position h e = h e
    rest (Coefficient n) h e = h e

-- the place behind: where the argument occurs there, the same
own_same : (m t : ℕ) → t < m → own_node m t ≡ t
own_same m t h = go (m == 1) refl where
  go : (b : Bool) → (m == 1) ≡ b → (if b then 0 else t) ≡ t
  go true e = grind (arith, nat_tests)
  go false e = refl

pub place_behind : (s : Support) (r : Role) (x : Atom) (xs : List Atom) (t : ℕ) → t < own_places s r (x ∷ xs)
    → (own_node (own_places s r xs) t < own_places s r xs) × (has_role r xs ≡ true → own_node (own_places s r xs) t ≡ t)
place_behind s r x xs t h = go (has_role r xs) (is_role x.f.role r) h
  where
    go : (b c : Bool) → t < (if c || b then places_at s else 1)
        → (own_node (if b then places_at s else 1) t < (if b then places_at s else 1)) × (b ≡ true → own_node (if b then places_at s else 1) t ≡ t)
    go true true h = (subst (λ n. n < places_at s) (sym (own_same (places_at s) t h)) h, λ e. own_same (places_at s) t h)
    go true false h = (subst (λ n. n < places_at s) (sym (own_same (places_at s) t h)) h, λ e. own_same (places_at s) t h)
    go false c h = (omega arith, λ e. absurd (apart e))
      where
        apart : false ≡ true → ⊥
        apart e = cc

pub inner_same : (l : Layout) (a b c e : ℕ) (xs : List Atom) → (has_role Test xs ≡ true → a ≡ c) → (has_role Trial xs ≡ true → b ≡ e) → (ns : List ℕ) → inner l a b xs ns ≡ inner l c e xs ns
inner_same l a b c e xs h g ns =
    map_same_at (digits l xs)
  where
    map_same_at : (dss : List (List ℕ)) → map (λ ds. product_at l a b xs ns ds) dss ≡ map (λ ds. product_at l c e xs ns ds) dss
    map_same_at [] = refl
    map_same_at (ds ∷ dss) = ap₂ ◌∷◌ (tests_apart l a c b xs h ns ds ∙ trials_apart l c b e xs g ns ds) (map_same_at dss)

-- ---- each function of a row with each product of a block
abbrev pub crossed : List Polynomial → List Polynomial → List Polynomial
crossed fs ps = flat_map (λ f. map (times f) ps) fs

-- the derivatives of one function with one choice of nodes
pub crossed_directions : (l : Layout) (x : Atom) (xs : List Atom) (f : Polynomial) (P : List ℕ → Polynomial)
    → crossed (all_along l.d (derivative_count x) f) (map P (digits l xs))
    ≡ map (λ ds. times (along_all (take (length (directions x)) ds) f) (P (drop (length (directions x)) ds))) (digits l (x ∷ xs))
crossed_directions l x xs f P =
    flat_of_map (λ g. map (times g) (map P (digits l xs))) (λ ds. along_all ds f) (digit_lists (replicate (derivative_count x) l.d))
    ∙ flat_same _ _ (λ ds. map_map (times (along_all ds f)) P (digits l xs)) (digit_lists (replicate (derivative_count x) l.d))
    ∙ ap (λ ns. flat_map (λ ds. map (λ es. times (along_all ds f) (P es)) (digits l xs)) (digit_lists ns))
    (sym (same_numbers l.d (directions x) ∙ ap (λ k. replicate k l.d) (directions_count x)))
    ∙ sym (both_mapped (map (λ i. l.d) (directions x)) (map (λ i. l.d) (flat_map directions xs)) (λ ds es. times (along_all ds f) (P es)))
    ∙ ap₂ (λ n ns. map (λ ds. times (along_all (take n ds) f) (P (drop n ds))) (digit_lists ns))
    (map_length (λ i. l.d) (directions x)) (sym (map_append (λ i. l.d) (directions x) (flat_map directions xs)))
