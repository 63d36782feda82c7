-- The products of atoms, with one atom more in front, are those that `Products::with` forms
use Rattle.std.proofs.Common.{◌≡◌, ℕ, ◌+◌, ◌-◌, ◌*◌, ◌^◌, ◌<◌, true, ◌&&◌, ◌||◌, nat_le, nat_lt, if◌then◌else◌, List, [], ◌∷◌, Option, None, Some, length, map, take, drop, replicate, refl, sym, ap, ap₂, ◌∙◌, subst, arith}
use Rattle.std.specs.Prelude.{slice_get, slice_index}
use Rattle.std.specs.List.{flat_map}
use Rattle.std.proofs.lemmas.List.{take_all}
use Rattle.std.proofs.lemmas.Bool.Decides.{nat_tests}
use Rattle.std.proofs.lemmas.Nat.{pow-add}
use native.Mathlib.Nat as N
use Rattle.calculus.specs.Polynomial.{Polynomial, nil, times}
use Rattle.calculus.specs.Simplex.{reference}
use Rattle.spaces.specs.declared.parts.Part.{Part}
use Rattle.ufl_tree.specs.declared.function.Role.{Role}
use Rattle.ufl_tree.specs.declared.function.Role.TheVariants.{Test, Trial, Position, Coefficient}
use Rattle.monos.specs.declared.layout.CoefPlace.{CoefPlace}
use Rattle.monos.specs.declared.layout.Layout.{Layout}
use Rattle.monos.specs.declared.mono.Atom.{Atom}
use Rattle.monos.specs.Layout.{role_parts, place_of, place_parts, parts_or_none}
use Rattle.monos.specs.Monomial.{directions, derivative_count, derivatives}
use Rattle.refint.specs.Local.{numbers_below, node_function, in_part, position_part}
use Rattle.refint.specs.Reference.{digit_lists, node_counts, nodes_in, part_of, part_in, product_at, atom_function, without_own, along_all, at_node, is_argument}
use Rattle.refint.proofs.Lists.{append_nothing, flat_same, flat_flat, flat_of_map, first_digit}
use Rattle.refint.proofs.Combined.{map_length}
use Rattle.spaces.specs.declared.parts.Parts.{Parts}
use Rattle.basis_products.specs.declared.factor.Source.{Source}
use Rattle.basis_products.specs.declared.products.Pair.{Pair}
use Rattle.basis_products.specs.declared.products.Sizes.{Sizes}
use Rattle.basis_products.specs.Functions.{all_along, derived_functions}
use Rattle.basis_products.specs.Order.{own_node, start_at, first_row, row_count, pairs_at, with_factor, pairs_of, piece, joined}
use Rattle.monomial_products.specs.declared.support.Support.{Support}
use Rattle.monomial_products.specs.declared.support.Support.TheVariants.{OnPart}
use Rattle.monomial_products.specs.Supports.{places_at, node_at, is_role, AreOn}
use Rattle.monomial_products.specs.Products.{products_at, has_role, own_places, products_of, product, sizes_of, source_of}
use Rattle.monomial_products.proofs.Pieces.{flat_below, piece_at, blocks_each}
use Rattle.monomial_products.proofs.JoinedLaws.{digits, inner, inner_length, digit_count, power_of, block_is, place_behind, inner_same, crossed, crossed_directions}

-- ---- rows
along_length : (d k : ℕ) (f : Polynomial) → length (all_along d k f) ≡ d ^ k
along_length d k f = map_length (λ ds. along_all ds f) (digit_lists (replicate k d)) ∙ digit_count (replicate k d) ∙ power_of d k

row_is : (d k : ℕ) (p : Part) (i : ℕ) → i < p.nodes → piece (d ^ k) i (derived_functions d p k) ≡ all_along d k (node_function d (reference d) p i)
row_is d k p i h =
    ap (λ j. piece (d ^ k) j (derived_functions d p k)) (alone i)
    ∙ piece_at (d ^ k) 1 p.nodes i 0 (λ j. all_along d k (node_function d (reference d) p j)) (λ j. along_length d k (node_function d (reference d) p j) ∙ once (d ^ k)) h (omega arith)
    ∙ ap (take (d ^ k)) (ap (λ m. drop m (all_along d k (node_function d (reference d) p i))) (N.zero-mul (d ^ k)) ∙ whole (all_along d k (node_function d (reference d) p i)))
    ∙ take_all (d ^ k) (all_along d k (node_function d (reference d) p i)) (omega (arith, along_length d k (node_function d (reference d) p i)))
  where
    alone : (i : ℕ) → i ≡ i * 1 + 0
    alone i = omega arith

    once : (n : ℕ) → n ≡ 1 * n
    once n = omega arith

    whole : {A : Type 0} (xs : List A) → drop 0 xs ≡ xs
    whole [] = refl
    whole (x ∷ xs) = refl

-- ---- the products at a test and a trial node
abbrev pub RowsAt : Layout → Part → Atom → List Atom → ℕ → ℕ → Source → ℕ → ℕ → List Polynomial
RowsAt l p x xs a b src t u =
    flat_map (λ i. flat_map (λ ns. crossed (all_along l.d (derivative_count x) (node_function l.d (reference l.d) p (first_row src t u + i))) (inner l a b xs ns)) (digit_lists (node_counts l xs)))
    (numbers_below (row_count src p.nodes))

module _ (l : Layout) (tests trials : Support) (x : Atom) (xs : List Atom) (p : Part) (src : Source) where
  K : ℕ
  K = l.d ^ derivative_count x

  abbrev pair_product : Pair → List Polynomial
  pair_product q =
      crossed (piece (l.d ^ derivative_count x) q.row (derived_functions l.d p (derivative_count x))) (piece (l.d ^ derivatives xs) q.block (products_of l tests trials xs))

  pub pairs_product : (t u : ℕ) → t < own_places tests Test (x ∷ xs) → u < own_places trials Trial (x ∷ xs) → ((i : ℕ) → i < row_count src p.nodes → first_row src t u + i < p.nodes)
      → flat_map pair_product (pairs_at (sizes_of l tests trials xs) src p.nodes t u) ≡ RowsAt l p x xs (node_at tests t) (node_at trials u) src t u
  pairs_product t u h g r =
      flat_flat pair_product (λ i. map (λ k. record { row = first_row src t u + i; block = start_at (sizes_of l tests trials xs) t u + k }) (numbers_below (product (node_counts l xs)))) (numbers_below (row_count src p.nodes))
      ∙ flat_below _ _ (row_count src p.nodes) (λ i m.
      flat_of_map pair_product (λ k. record { row = first_row src t u + i; block = start_at (sizes_of l tests trials xs) t u + k }) (numbers_below (product (node_counts l xs)))
      ∙ flat_below _ (λ k. crossed (along i) (piece (l.d ^ derivatives xs) k (products_at l a b xs))) (product (node_counts l xs)) (λ k n.
      ap₂ crossed (row_is l.d (derivative_count x) p (first_row src t u + i) (r i m)) (block_is l tests trials xs t0 u0 k (place_behind tests Test x xs t h).0 (place_behind trials Trial x xs u g).0 n))
      ∙ ap (λ c. flat_map (λ k. crossed (along i) (piece (l.d ^ derivatives xs) k (products_at l a b xs))) (numbers_below c)) (sym (digit_count (node_counts l xs)))
      ∙ blocks_each (l.d ^ derivatives xs) (inner l a b xs) (crossed (along i)) (inner_length l a b xs) (digit_lists (node_counts l xs))
      ∙ flat_same _ _ (λ ns. ap (crossed (along i)) (inner_same l a b (node_at tests t) (node_at trials u) xs
      (λ e. ap (node_at tests) ((place_behind tests Test x xs t h).1 e)) (λ e. ap (node_at trials) ((place_behind trials Trial x xs u g).1 e)) ns)) (digit_lists (node_counts l xs)))
    where
      t0 : ℕ
      t0 = own_node (own_places tests Test xs) t

      u0 : ℕ
      u0 = own_node (own_places trials Trial xs) u

      a : ℕ
      a = node_at tests t0

      b : ℕ
      b = node_at trials u0

      along : ℕ → List Polynomial
      along i = all_along l.d (derivative_count x) (node_function l.d (reference l.d) p (first_row src t u + i))

-- ---- the function of an atom
some_same : {A : Type 0} (x y : A) → Some x ≡ Some y → x ≡ y
some_same x y e = cc

at_least : (a t : ℕ) → nat_le a (a + t) ≡ true
at_least a t = grind (arith, nat_tests)

below_all : (a t n : ℕ) → t < n → nat_lt (a + t) (a + n) ≡ true
below_all a t n h = grind (arith, nat_tests)

own_part : (d : ℕ) (p : Part) (t : ℕ) → t < p.nodes → in_part d (reference d) (Some p) (p.offset + t) ≡ node_function d (reference d) p t
own_part d p t h =
    ap₂ (λ m n. if m && n then node_function d (reference d) p (p.offset + t - p.offset) else nil) (at_least p.offset t) (below_all p.offset t p.nodes h)
    ∙ ap (node_function d (reference d) p) (back p.offset t)
  where
    back : (a t : ℕ) → a + t - a ≡ t
    back a t = omega arith

pub coefficient_part : (o : Option CoefPlace) (i : ℕ) → slice_get (place_parts o) i ≡ part_in o i
coefficient_part None i = refl
coefficient_part (Some c) i = refl

pub position_is : (o : Option Parts) (i : ℕ) → slice_get (parts_or_none o) i ≡ position_part o i
position_is None i = refl
position_is (Some ps) i = refl

-- what is known of the support of an argument
abbrev pub IsOn : Layout → Role → Support → Role → ℕ → Type 0
IsOn l r s own i = is_role own r ≡ true → (q : Part) × (s ≡ OnPart q) × (slice_get (role_parts l r) i ≡ Some q)

abbrev pub TargetAt : Layout → Atom → List Atom → ℕ → ℕ → Role → List Polynomial
TargetAt l x xs a b r =
    flat_map (λ ns. map (λ ds. times (along_all (take (length (directions x)) ds) (atom_function l (reference l.d) a b r x.component ns)) (product_at l a b xs (without_own r ns) (drop (length (directions x)) ds))) (digits l (x ∷ xs)))
    (digit_lists (if is_argument r then node_counts l xs else (nodes_in (part_of l r x.component) ∷ node_counts l xs)))

module _ (l : Layout) (tests trials : Support) (x : Atom) (xs : List Atom) (p : Part) (t u : ℕ) where
  nf : ℕ → Polynomial
  nf j = node_function l.d (reference l.d) p j

  -- one function at all choices of the nodes behind
  one_row : (a b : ℕ) (f g : Polynomial) → f ≡ g
      → flat_map (λ ns. crossed (all_along l.d (derivative_count x) f) (inner l a b xs ns)) (digit_lists (node_counts l xs))
      ≡ flat_map (λ ns. map (λ ds. times (along_all (take (length (directions x)) ds) g) (product_at l a b xs ns (drop (length (directions x)) ds))) (digits l (x ∷ xs))) (digit_lists (node_counts l xs))
  one_row a b f g e =
      flat_same _ _ (λ ns. crossed_directions l x xs f (λ ds. product_at l a b xs ns ds)
      ∙ ap (λ h. map (λ ds. times (along_all (take (length (directions x)) ds) h) (product_at l a b xs ns (drop (length (directions x)) ds))) (digits l (x ∷ xs))) e) (digit_lists (node_counts l xs))

  -- of a function that is summed
  summed_rows : (a b : ℕ) (r : Role) (o : Option Part) → o ≡ Some p
      → flat_map (λ i. flat_map (λ ns. crossed (all_along l.d (derivative_count x) (node_function l.d (reference l.d) p (0 + i))) (inner l a b xs ns)) (digit_lists (node_counts l xs))) (numbers_below p.nodes)
      ≡ flat_map (λ ns. map (λ ds. times (along_all (take (length (directions x)) ds) (at_node l.d (reference l.d) o (slice_index ns 0))) (product_at l a b xs (drop 1 ns) (drop (length (directions x)) ds))) (digits l (x ∷ xs)))
      (digit_lists (nodes_in o ∷ node_counts l xs))
  summed_rows a b r o e =
      flat_same _ _ (λ i. one_row a b (node_function l.d (reference l.d) p (0 + i)) (at_node l.d (reference l.d) o i)
      (ap (node_function l.d (reference l.d) p) (none i) ∙ ap (λ q. at_node l.d (reference l.d) q i) (sym e))) (numbers_below p.nodes)
      ∙ ap (λ n. flat_map (λ i. flat_map (λ ns. map (λ ds. times (along_all (take (length (directions x)) ds) (at_node l.d (reference l.d) o i)) (product_at l a b xs ns (drop (length (directions x)) ds))) (digits l (x ∷ xs))) (digit_lists (node_counts l xs))) (numbers_below n)) (sym (ap nodes_in e))
      ∙ sym (first_digit (λ ns. map (λ ds. times (along_all (take (length (directions x)) ds) (at_node l.d (reference l.d) o (slice_index ns 0))) (product_at l a b xs (drop 1 ns) (drop (length (directions x)) ds))) (digits l (x ∷ xs)))
      (nodes_in o) (node_counts l xs))
    where
      none : (i : ℕ) → 0 + i ≡ i
      none i = omega arith

  pub rows_are : (r : Role) → slice_get (role_parts l r) x.component ≡ Some p → IsOn l Test tests r x.component → IsOn l Trial trials r x.component
      → t < (if is_role r Test || has_role Test xs then places_at tests else 1) → u < (if is_role r Trial || has_role Trial xs then places_at trials else 1)
      → RowsAt l p x xs (node_at tests t) (node_at trials u) (source_of r) t u ≡ TargetAt l x xs (node_at tests t) (node_at trials u) r
  rows_are Test e h g m n =
      let w = h refl in
      let q : w.0 ≡ p = some_same w.0 p (sym w.2 ∙ e) in
      let s : tests ≡ OnPart p = w.1 ∙ ap OnPart q in
      let k : t < p.nodes = subst (λ z. t < places_at z) s m in
      append_nothing _
      ∙ one_row (node_at tests t) (node_at trials u) (node_function l.d (reference l.d) p (t + 0)) _
      (ap (node_function l.d (reference l.d) p) (all t) ∙ sym (ap₂ (in_part l.d (reference l.d)) e (ap (λ z. node_at z t) s) ∙ own_part l.d p t k))
    where
      all : (t : ℕ) → t + 0 ≡ t
      all t = omega arith
  rows_are Trial e h g m n =
      let w = g refl in
      let q : w.0 ≡ p = some_same w.0 p (sym w.2 ∙ e) in
      let s : trials ≡ OnPart p = w.1 ∙ ap OnPart q in
      let k : u < p.nodes = subst (λ z. u < places_at z) s n in
      append_nothing _
      ∙ one_row (node_at tests t) (node_at trials u) (node_function l.d (reference l.d) p (u + 0)) _
      (ap (node_function l.d (reference l.d) p) (all u) ∙ sym (ap₂ (in_part l.d (reference l.d)) e (ap (λ z. node_at z u) s) ∙ own_part l.d p u k))
    where
      all : (t : ℕ) → t + 0 ≡ t
      all t = omega arith
  rows_are Position e h g m n = summed_rows (node_at tests t) (node_at trials u) Position (position_part l.position x.component) (sym (position_is l.position x.component) ∙ e)
  rows_are (Coefficient c) e h g m n =
      summed_rows (node_at tests t) (node_at trials u) (Coefficient c) (part_in (place_of l.coefs c) x.component) (sym (coefficient_part (place_of l.coefs c) x.component) ∙ e)

-- ---- sizes
pub sized : (l : Layout) (tests trials : Support) (i k : ℕ) (xs : List Atom) (p : Part) (r : Role) → slice_get (role_parts l r) i ≡ Some p → IsOn l Test tests r i → IsOn l Trial trials r i
    → with_factor (sizes_of l tests trials xs) (source_of r) p.nodes (l.d ^ k)
    ≡ record {
      tests = if is_role r Test || has_role Test xs then places_at tests else 1;
      trials = if is_role r Trial || has_role Trial xs then places_at trials else 1;
      nodes = product (if is_argument r then node_counts l xs else (nodes_in (part_of l r i) ∷ node_counts l xs));
      directions = l.d ^ (k + derivatives xs);
    }
sized l tests trials i k xs p Test e h g =
    let w = h refl in
    let s : tests ≡ OnPart p = w.1 ∙ ap OnPart (some_same w.0 p (sym w.2 ∙ e)) in
    ap₂ (λ n d. record { tests = n; trials = own_places trials Trial xs; nodes = product (node_counts l xs); directions = d }) (sym (ap places_at s)) (sym (pow-add l.d k (derivatives xs)))
sized l tests trials i k xs p Trial e h g =
    let w = g refl in
    let s : trials ≡ OnPart p = w.1 ∙ ap OnPart (some_same w.0 p (sym w.2 ∙ e)) in
    ap₂ (λ n d. record { tests = own_places tests Test xs; trials = n; nodes = product (node_counts l xs); directions = d }) (sym (ap places_at s)) (sym (pow-add l.d k (derivatives xs)))
sized l tests trials i k xs p Position e h g =
    ap₂ (λ n d. record { tests = own_places tests Test xs; trials = own_places trials Trial xs; nodes = n * product (node_counts l xs); directions = d })
    (sym (ap nodes_in (sym (position_is l.position i) ∙ e))) (sym (pow-add l.d k (derivatives xs)))
sized l tests trials i k xs p (Coefficient c) e h g =
    ap₂ (λ n d. record { tests = own_places tests Test xs; trials = own_places trials Trial xs; nodes = n * product (node_counts l xs); directions = d })
    (sym (ap nodes_in (sym (coefficient_part (place_of l.coefs c) i) ∙ e))) (sym (pow-add l.d k (derivatives xs)))

pub next_sizes : (l : Layout) (tests trials : Support) (x : Atom) (xs : List Atom) (p : Part) → slice_get (role_parts l x.f.role) x.component ≡ Some p → AreOn l Test tests (x ∷ xs) → AreOn l Trial trials (x ∷ xs)
    → with_factor (sizes_of l tests trials xs) (source_of x.f.role) p.nodes (l.d ^ derivative_count x) ≡ sizes_of l tests trials (x ∷ xs)
next_sizes l tests trials x xs p e h g = sized l tests trials x.component (derivative_count x) xs p x.f.role e h.0 g.0

-- ---- rows that are there
pub row_within : (l : Layout) (tests trials : Support) (i t u : ℕ) (xs : List Atom) (p : Part) (r : Role) → slice_get (role_parts l r) i ≡ Some p → IsOn l Test tests r i → IsOn l Trial trials r i
    → t < (if is_role r Test || has_role Test xs then places_at tests else 1) → u < (if is_role r Trial || has_role Trial xs then places_at trials else 1)
    → (k : ℕ) → k < row_count (source_of r) p.nodes → first_row (source_of r) t u + k < p.nodes
row_within l tests trials i t u xs p Test e h g m n k j =
    let w = h refl in
    let s : tests ≡ OnPart p = w.1 ∙ ap OnPart (some_same w.0 p (sym w.2 ∙ e)) in
    let b : t < p.nodes = subst (λ z. t < places_at z) s m in
    omega arith
row_within l tests trials i t u xs p Trial e h g m n k j =
    let w = g refl in
    let s : trials ≡ OnPart p = w.1 ∙ ap OnPart (some_same w.0 p (sym w.2 ∙ e)) in
    let b : u < p.nodes = subst (λ z. u < places_at z) s n in
    omega arith
row_within l tests trials i t u xs p Position e h g m n k j = omega arith
row_within l tests trials i t u xs p (Coefficient c) e h g m n k j = omega arith

-- ---- all of them
pub next_products : (l : Layout) (tests trials : Support) (x : Atom) (xs : List Atom) (p : Part) → slice_get (role_parts l x.f.role) x.component ≡ Some p → AreOn l Test tests (x ∷ xs) → AreOn l Trial trials (x ∷ xs)
    → joined times (l.d ^ derivative_count x) (derived_functions l.d p (derivative_count x)) (l.d ^ derivatives xs) (products_of l tests trials xs)
    (pairs_of (sizes_of l tests trials xs) (source_of x.f.role) p.nodes (l.d ^ derivative_count x))
    ≡ products_of l tests trials (x ∷ xs)
next_products l tests trials x xs p e h g =
    ap (λ (z : Sizes). flat_map (pair_product l tests trials x xs p (source_of x.f.role)) (flat_map (λ t. flat_map (λ u. pairs_at (sizes_of l tests trials xs) (source_of x.f.role) p.nodes t u) (numbers_below z.trials)) (numbers_below z.tests)))
    (next_sizes l tests trials x xs p e h g)
    ∙ flat_flat (pair_product l tests trials x xs p (source_of x.f.role)) (λ t. flat_map (λ u. pairs_at (sizes_of l tests trials xs) (source_of x.f.role) p.nodes t u) (numbers_below (own_places trials Trial (x ∷ xs)))) (numbers_below (own_places tests Test (x ∷ xs)))
    ∙ flat_below _ _ (own_places tests Test (x ∷ xs)) (λ t m.
    flat_flat (pair_product l tests trials x xs p (source_of x.f.role)) (λ u. pairs_at (sizes_of l tests trials xs) (source_of x.f.role) p.nodes t u) (numbers_below (own_places trials Trial (x ∷ xs)))
    ∙ flat_below _ _ (own_places trials Trial (x ∷ xs)) (λ u n.
    pairs_product l tests trials x xs p (source_of x.f.role) t u m n (row_within l tests trials x.component t u xs p x.f.role e h.0 g.0 m n)
    ∙ rows_are l tests trials x xs p t u x.f.role e h.0 g.0 m n))
