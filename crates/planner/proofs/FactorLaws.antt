-- How many columns the factors of a monomial have
use Rattle.std.proofs.Common.{◌≡◌, ℕ, zero, suc, ◌*◌, ◌<◌, ◌≤◌, ◌^◌, List, [], ◌∷◌, ◌++◌, length, map, replicate, Option, Some, None, refl, sym, ap, ap₂, ◌∙◌, subst, if◌then◌else◌, arith}
use Rattle.std.specs.Prelude.{slice_get, slice_index}
use Rattle.std.specs.List.{AllByRecursion, flat_map}
use native.Mathlib.Nat as N
use Rattle.spaces.specs.declared.parts.Part.{Part}
use Rattle.spaces.specs.declared.parts.Parts.{Parts}
use Rattle.ufl_tree.specs.declared.function.Role.{Role}
use Rattle.ufl_tree.specs.declared.function.Role.TheVariants.{Test, Trial, Position, Coefficient}
use Rattle.monos.specs.declared.layout.CoefPlace.{CoefPlace}
use Rattle.monos.specs.declared.layout.Layout.{Layout}
use Rattle.monos.specs.declared.mono.Atom.{Atom}
use Rattle.monos.specs.Layout.{parts_or_none, place_of, place_parts}
use Rattle.monos.specs.Monomial.{derivatives, directions}
use Rattle.refint.specs.Local.{position_part}
use Rattle.refint.specs.Reference.{is_argument, node_counts, nodes_in, part_in, part_of}
use Rattle.refint.proofs.Lists.{map_append}
use Rattle.room.proofs.PartLaws.{directions_long}
use Rattle.basis_products.proofs.Lists.{all_append}
use Rattle.monomial_products.specs.Products.{product}
use Rattle.monomial_weights.specs.Columns.{column_count}
use Rattle.monomial_weights.proofs.ColumnLaws.{columns_are}
use Rattle.kernel_runs.specs.Strips.{Factor, Fastest, Slowest, factors_in, from_last, in_turn, map_factor}
use Rattle.kernel_runs.specs.Planned.{CountsWithin, count_after, counts_after}
use Rattle.kernel_runs.specs.Body.{AllDirected, IsDirected, strip_of}
use Rattle.kernel_runs.specs.declared.digit.Digit.{Digit}
use Rattle.kernel_runs.specs.declared.digit.Digit.TheVariants.{Growth}
use Rattle.kernel_runs.specs.declared.strip.Strip.{Strip}
use Rattle.kernel_statements.specs.Digits.{coefficient_digits, corner_digit, digit_of, offset_in, part_digit, with_digit}
use Rattle.kernel_statements.proofs.ColumnLaws.{turn_mapped}

-- ---- products of counts
abbrev pub count_of : Factor Strip → ℕ
count_of (Fastest g) = g.count
count_of (Slowest g) = g.count

abbrev pub counts_product : List (Factor Strip) → ℕ
counts_product [] = 1
counts_product (f ∷ fs) = count_of f * counts_product fs

after_is : (n : ℕ) (f : Factor Strip) → count_after n f ≡ n * count_of f
after_is n (Fastest g) = refl
after_is n (Slowest g) = N.mul_comm g.count n

pub counts_are : (n : ℕ) (fs : List (Factor Strip)) → counts_after n fs ≡ n * counts_product fs
counts_are n [] = omega arith
counts_are n (f ∷ fs) =
    counts_are (count_after n f) fs ∙ ap (λ k. k * counts_product fs) (after_is n f) ∙ N.mul_assoc n (count_of f) (counts_product fs)

pub some_right : (a b : ℕ) → 0 < a * b → 0 < b
some_right a zero h = absurd (omega (arith, h))
some_right a (suc b) h = omega arith

pub at_most : (a b most : ℕ) → 0 < b → a * b ≤ most → a ≤ most
at_most a zero most p h = absurd (omega (arith, p))
at_most a (suc b) most p h = omega arith

-- where the last count is few, each one before it is
pub within_all : (most n : ℕ) (fs : List (Factor Strip)) → 0 < counts_product fs → counts_after n fs ≤ most → CountsWithin most n fs
within_all most n [] p h = tt
within_all most n (f ∷ fs) p h =
    let q = some_right (count_of f) (counts_product fs) p in (
      at_most (count_after n f) (counts_product fs) most q (subst (λ k. k ≤ most) (counts_are (count_after n f) fs) h),
      within_all most (count_after n f) fs q h,
    )

product_append : (fs gs : List (Factor Strip)) → counts_product (fs ++ gs) ≡ counts_product fs * counts_product gs
product_append [] gs = omega arith
product_append (f ∷ fs) gs = ap (λ k. count_of f * k) (product_append fs gs) ∙ sym (N.mul_assoc (count_of f) (counts_product fs) (counts_product gs))

growth_product : (d : ℕ) (is : List ℕ) → counts_product (in_turn (map (λ i. strip_of d (Growth i)) is) []) ≡ d ^ length is
growth_product d [] = sym (N.pow-zero d)
growth_product d (i ∷ is) = ap (λ k. d * k) (growth_product d is) ∙ sym (N.pow-succ' d (length is))

abbrev pub value_counts : ℕ → List Digit → List ℕ
value_counts d gs = map (λ g. (strip_of d g).count) gs

value_product : (d : ℕ) (gs : List Digit) (fs : List (Factor Strip)) → counts_product (from_last (map (strip_of d) gs) fs) ≡ product (value_counts d gs) * counts_product fs
value_product d [] fs = omega arith
value_product d (g ∷ gs) fs =
    value_product d gs (Slowest (strip_of d g) ∷ fs)
    ∙ swapped (product (value_counts d gs)) (strip_of d g).count (counts_product fs)
  where
    swapped : (p n q : ℕ) → p * (n * q) ≡ n * p * q
    swapped p n q = omega arith

-- ---- the digits of a monomial
part_count : (d o : ℕ) (p : Option Part) → (strip_of d (part_digit o p)).count ≡ nodes_in p
part_count d o None = refl
part_count d o (Some p) = refl

corner_count : (d i : ℕ) (p : Option Part) → (strip_of d (corner_digit i p)).count ≡ nodes_in p
corner_count d i None = refl
corner_count d i (Some p) = refl

position_same : (o : Option Parts) (i : ℕ) → slice_get (parts_or_none o) i ≡ position_part o i
position_same None i = refl
position_same (Some ps) i = refl

part_same : (o : Option CoefPlace) (i : ℕ) → slice_get (place_parts o) i ≡ part_in o i
part_same None i = refl
part_same (Some c) i = refl

-- as many values as nodes
pub digits_counted : (l : Layout) (xs : List Atom) → value_counts l.d (coefficient_digits l xs) ≡ node_counts l xs
digits_counted l [] = refl
digits_counted l (x ∷ xs) = go x.f.role (digits_counted l xs)
  where
    go : (r : Role) → value_counts l.d (coefficient_digits l xs) ≡ node_counts l xs
        → value_counts l.d (with_digit (digit_of l r x.component) (coefficient_digits l xs))
        ≡ (if is_argument r then node_counts l xs else nodes_in (part_of l r x.component) ∷ node_counts l xs)
    go Test h = h
    go Trial h = h
    go Position h =
        ap₂ (λ n ns. n ∷ ns) (corner_count l.d x.component (slice_get (parts_or_none l.position) x.component) ∙ ap nodes_in (position_same l.position x.component)) h
    go (Coefficient n) h =
        ap₂ (λ k ns. k ∷ ns)
        (part_count l.d (offset_in (place_of l.coefs n)) (slice_get (place_parts (place_of l.coefs n)) x.component) ∙ ap nodes_in (part_same (place_of l.coefs n) x.component)) h

pub digits_directed : (l : Layout) (xs : List Atom) → AllByRecursion IsDirected (coefficient_digits l xs)
digits_directed l [] = tt
digits_directed l (x ∷ xs) = go x.f.role (digits_directed l xs)
  where
    part : (o : ℕ) (p : Option Part) → IsDirected (part_digit o p)
    part o None = tt
    part o (Some p) = tt

    corner : (i : ℕ) (p : Option Part) → IsDirected (corner_digit i p)
    corner i None = tt
    corner i (Some p) = tt

    go : (r : Role) → AllByRecursion IsDirected (coefficient_digits l xs) → AllByRecursion IsDirected (with_digit (digit_of l r x.component) (coefficient_digits l xs))
    go Test h = h
    go Trial h = h
    go Position h = (corner x.component (slice_get (parts_or_none l.position) x.component), h)
    go (Coefficient n) h = (part (offset_in (place_of l.coefs n)) (slice_get (place_parts (place_of l.coefs n)) x.component), h)

repeated_below : (n i : ℕ) → i < 3 → AllByRecursion (λ k. k < 3) (replicate n i)
repeated_below zero i h = tt
repeated_below (suc n) i h = (h, repeated_below n i h)

pub directions_below : (xs : List Atom) → AllByRecursion (λ k. k < 3) (flat_map directions xs)
directions_below [] = tt
directions_below (x ∷ xs) =
    all_append (λ k. k < 3) (directions x) (flat_map directions xs)
    (all_append (λ k. k < 3) (replicate (slice_index x.dirs 0) 0) (replicate (slice_index x.dirs 1) 1 ++ replicate (slice_index x.dirs 2) 2)
    (repeated_below (slice_index x.dirs 0) 0 (omega arith))
    (all_append (λ k. k < 3) (replicate (slice_index x.dirs 1) 1) (replicate (slice_index x.dirs 2) 2)
    (repeated_below (slice_index x.dirs 1) 1 (omega arith)) (repeated_below (slice_index x.dirs 2) 2 (omega arith))))
    (directions_below xs)

-- ---- all columns
pub columns_product : (l : Layout) (xs : List Atom)
    → counts_product (factors_in (map (strip_of l.d) (coefficient_digits l xs)) (map (λ i. strip_of l.d (Growth i)) (flat_map directions xs))) ≡ column_count l xs
columns_product l xs =
    product_append (in_turn (map (λ i. strip_of l.d (Growth i)) (flat_map directions xs)) []) (from_last (map (strip_of l.d) (coefficient_digits l xs)) [])
    ∙ ap₂ ◌*◌ (growth_product l.d (flat_map directions xs) ∙ ap (λ n. l.d ^ n) (directions_long xs))
    (value_product l.d (coefficient_digits l xs) [] ∙ ap (λ ns. product ns * 1) (digits_counted l xs))
    ∙ exchanged (l.d ^ derivatives xs) (product (node_counts l xs))
    ∙ columns_are l xs
  where
    exchanged : (p n : ℕ) → p * (n * 1) ≡ n * p
    exchanged p n = omega arith

last_pushed : {U V : Type 0} (h : U → V) (xs : List U) (fs : List (Factor U)) → map (map_factor h) (from_last xs fs) ≡ from_last (map h xs) (map (map_factor h) fs)
last_pushed h [] fs = refl
last_pushed h (x ∷ xs) fs = last_pushed h xs (Slowest x ∷ fs)

-- over other factors
pub factors_mapped : {U V : Type 0} (h : U → V) (xs ys : List U) → map (map_factor h) (factors_in xs ys) ≡ factors_in (map h xs) (map h ys)
factors_mapped h xs ys =
    map_append (map_factor h) (in_turn ys []) (from_last xs []) ∙ ap₂ (λ r s. r ++ s) (turn_mapped h ys []) (last_pushed h xs [])

-- ---- directions below three
turn_directed : (gs : List Digit) (fs : List (Factor Digit)) → AllByRecursion IsDirected gs → AllDirected fs → AllDirected (in_turn gs [] ++ fs)
turn_directed [] fs h k = k
turn_directed (g ∷ gs) fs h k = (h.0, turn_directed gs fs h.1 k)

last_directed : (gs : List Digit) (fs : List (Factor Digit)) → AllByRecursion IsDirected gs → AllDirected fs → AllDirected (from_last gs fs)
last_directed [] fs h k = k
last_directed (g ∷ gs) fs h k = last_directed gs (Slowest g ∷ fs) h.1 (h.0, k)

pub factors_directed : (xs ys : List Digit) → AllByRecursion IsDirected xs → AllByRecursion IsDirected ys → AllDirected (factors_in xs ys)
factors_directed xs ys h k = turn_directed ys (from_last xs []) k (last_directed xs [] h tt)

pub growths_directed : (is : List ℕ) → AllByRecursion (λ i. i < 3) is → AllByRecursion IsDirected (map (λ i. Growth i) is)
growths_directed [] h = tt
growths_directed (i ∷ is) h = (h.0, growths_directed is h.1)
