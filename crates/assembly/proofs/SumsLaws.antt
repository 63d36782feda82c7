-- From the sums that are kept to the entries of the matrix
use Rattle.std.proofs.Common.{◌≡◌, ◌≢◌, ℕ, ◌<◌, ◌==◌, ◌&&◌, ◌⊎◌, Bool, true, false, List, [], ◌∷◌, Option, Some, None, option_map, if◌then◌else◌, refl, sym, ◌∙◌, ap, ap₂, arith, inl, inr, ⊎_elim, subst}
use Rattle.std.specs.Prelude.{IsSome}
use Rattle.std.specs.List.{AllByRecursion}
use Rattle.std.specs.List.Sorted.{IsStrictlySortedBy}
use Rattle.std.specs.Map.{lookup, keys_of}
use Rattle.std.specs.Ordering.{nat_cmp, ordering_then}
use Rattle.std.specs.declared.cmp.Ordering.{Ordering}
use Rattle.std.specs.declared.cmp.Ordering.TheVariants.{Less, Equal, Greater}
use Rattle.std.specs.BTreeMap.{is_at}
use Rattle.std.proofs.lemmas.Bool.Decides.{nat_tests}
use mathlib.Core.Quot.{ind, sound, Quot-set}
use mathlib.Core.HLevel.{Π_prop}
use lib.IntN.{zero-*ℤ}
use Rattle.std.specs.Prelude.{pos}
use Rattle.algebra.specs.Fraction.{Pair, Same, Fraction, zero_fraction, is_zero_fraction, whole, nought}
use Rattle.ratio.specs.Value.{fraction_of, valued}
use Rattle.ratio.specs.declared.reduced.Ratio.{Ratio}
use Rattle.assembly.specs.Sums.{Entry, values_at, added, entry_at, IsBefore, AreOrdered, AreSums, PassesFirst}
use Rattle.assembly.specs.Kept.{Place, place, place_cmp, resumed, nonzeros, with_entry, first_passed}
use Rattle.assembly.proofs.Places.{place_is_at}

abbrev pub Kept : Type 0
Kept = List (Place × Option Ratio)

-- the keys come in order
abbrev pub Ordered : Kept → Type 0
Ordered es = IsStrictlySortedBy place_cmp (keys_of es)

abbrev found : Kept → ℕ → ℕ → Option (Option Ratio)
found es row col = lookup (is_at (place_cmp (place row col))) es

less_then : (a b : Ordering) → ordering_then a b ≡ Less → (a ≡ Less) ⊎ ((a ≡ Equal) × (b ≡ Less))
less_then Less b e = inl refl
less_then Equal b e = inr (refl, e)
less_then Greater b e = absurd (cc)

nat_less : (x y : ℕ) → nat_cmp x y ≡ Less → x < y
nat_less x y e = grind (arith, nat_tests)

nat_equal : (x y : ℕ) → nat_cmp x y ≡ Equal → x ≡ y
nat_equal x y e = grind (arith, nat_tests)

before : (p q : Place) → place_cmp p q ≡ Less → IsBefore p.row p.col q.row q.col
before p q e = ⊎_elim
    (λ a. inl (nat_less p.row q.row a))
    (λ b. inr (nat_equal p.row q.row b.0, nat_less p.col q.col b.1))
    (less_then (nat_cmp p.row q.row) (nat_cmp p.col q.col) e)

-- ---- in order

pub with_all : (P : Entry → Type 0) (q : Place) (r : Option Ratio) (rest : List Entry) → ((x : Fraction) → P (record { row = q.row; col = q.col; value = x })) → AllByRecursion P rest → AllByRecursion P (with_entry q r rest)
with_all P q None rest here h = h
with_all P q (Some r) rest here h = elim (is_zero_fraction (fraction_of r)) as (λ b. AllByRecursion P (if b then rest else record { row = q.row; col = q.col; value = fraction_of r } ∷ rest)) [ true ↦ h | false ↦ (here (fraction_of r), h) ]

ordered_entries : (p : Place) (es : Kept) → AllByRecursion (λ q. place_cmp p q ≡ Less) (keys_of es) → AllByRecursion (λ (f : Entry). IsBefore p.row p.col f.row f.col) (nonzeros es)
ordered_entries p [] h = tt
ordered_entries p (e ∷ es) h = with_all (λ f. IsBefore p.row p.col f.row f.col) e.0 e.1 (nonzeros es) (λ x. before p e.0 h.0) (ordered_entries p es h.1)

with_ordered : (q : Place) (r : Option Ratio) (rest : List Entry) → AllByRecursion (λ (f : Entry). IsBefore q.row q.col f.row f.col) rest → AreOrdered rest → AreOrdered (with_entry q r rest)
with_ordered q None rest all h = h
with_ordered q (Some r) rest all h = elim (is_zero_fraction (fraction_of r)) as (λ b. AreOrdered (if b then rest else record { row = q.row; col = q.col; value = fraction_of r } ∷ rest)) [ true ↦ h | false ↦ (all, h) ]

ordered : (es : Kept) → Ordered es → AreOrdered (nonzeros es)
unfolding IsStrictlySortedBy
ordered [] h = tt
ordered (e ∷ es) h = with_ordered e.0 e.1 (nonzeros es) (ordered_entries e.0 es h.0) (ordered es h.1)

-- ---- without zeros

zero_is_zero : is_zero_fraction zero_fraction ≡ true
unfolding is_zero_fraction zero_fraction
zero_is_zero = refl

not_zero : (x : Fraction) → is_zero_fraction x ≡ false → x ≢ zero_fraction
not_zero x e = λ z. let f : is_zero_fraction zero_fraction ≡ false = ap is_zero_fraction (sym z) ∙ e in let g = zero_is_zero in cc

with_nonzero : (q : Place) (r : Ratio) (rest : List Entry) (b : Bool) → is_zero_fraction (fraction_of r) ≡ b → AllByRecursion (λ (f : Entry). f.value ≢ zero_fraction) rest
    → AllByRecursion (λ (f : Entry). f.value ≢ zero_fraction) (if b then rest else record { row = q.row; col = q.col; value = fraction_of r } ∷ rest)
with_nonzero q r rest true e h = h
with_nonzero q r rest false e h = (not_zero (fraction_of r) e, h)

nonzero : (es : Kept) → AllByRecursion (λ (f : Entry). f.value ≢ zero_fraction) (nonzeros es)
nonzero [] = tt
nonzero ((q, None) ∷ es) = nonzero es
nonzero ((q, Some r) ∷ es) = with_nonzero q r (nonzeros es) (is_zero_fraction (fraction_of r)) refl (nonzero es)

-- ---- the values

pub flipped : (x y : ℕ) → (x == y) ≡ (y == x)
flipped x y = grind (arith, nat_tests)

test_flipped : (a b c d : ℕ) → ((a == c) && (b == d)) ≡ ((c == a) && (d == b))
test_flipped a b c d = ap₂ ◌&&◌ (flipped a c) (flipped b d)

-- the test at an entry
found_test : (row col : ℕ) (q : Place) → is_at (place_cmp (place row col)) q ≡ ((q.row == row) && (q.col == col))
found_test row col q = place_is_at row col q.row q.col ∙ test_flipped row col q.row q.col

and_false : (a : Bool) → (a && false) ≡ false
and_false true = refl
and_false false = refl

apart : (r c : ℕ) (q : Place) → IsBefore r c q.row q.col → ((q.row == r) && (q.col == c)) ≡ false
apart r c q h = ⊎_elim
    (λ (a : r < q.row). let t : (q.row == r) ≡ false = grind (arith, nat_tests) in rw t refl)
    (λ (b : (r ≡ q.row) × (c < q.col)). let t : (q.col == c) ≡ false = grind (arith, nat_tests) in rw t (and_false (q.row == r)))
    h

skipped : (r c : ℕ) (q : Place) (x : Ratio) (rest : List Entry) (b : Bool) → ((q.row == r) && (q.col == c)) ≡ false
    → entry_at (if b then rest else record { row = q.row; col = q.col; value = fraction_of x } ∷ rest) r c ≡ entry_at rest r c
skipped r c q x rest true t = refl
skipped r c q x rest false t = rw t refl

-- no entry is at a place before all of them
absent : (r c : ℕ) (es : Kept) → AllByRecursion (λ (q : Place). IsBefore r c q.row q.col) (keys_of es) → entry_at (nonzeros es) r c ≡ zero_fraction
absent r c [] h = refl
absent r c ((q, None) ∷ es) h = absent r c es h.1
absent r c ((q, Some x) ∷ es) h = skipped r c q x (nonzeros es) (is_zero_fraction (fraction_of x)) (apart r c q h.0) ∙ absent r c es h.1

not_found : (r c : ℕ) (es : Kept) → AllByRecursion (λ (q : Place). IsBefore r c q.row q.col) (keys_of es) → found es r c ≡ None
not_found r c [] h = refl
not_found r c (e ∷ es) h = rw (found_test r c e.0, apart r c e.0 h.0) (not_found r c es h.1)

zero_pair : (p : Pair) → p.num ≡ pos 0 → Same p (whole (pos 0))
zero_pair p e = rw (e, zero-*ℤ (pos 1), zero-*ℤ (pos p.den)) refl

is_zero : (x : Fraction) → is_zero_fraction x ≡ true → x ≡ zero_fraction
unfolding is_zero_fraction zero_fraction
is_zero x e = ind {r = Same} {β = λ a. is_zero_fraction a ≡ true → a ≡ zero_fraction} (λ a. Π_prop (λ _. Quot-set a zero_fraction)) (λ p h. sound (zero_pair p (nought p.num h))) x e

-- the entry at its own place
here : (r c : ℕ) (q : Place) (x : Ratio) (rest : List Entry) (b : Bool) → ((q.row == r) && (q.col == c)) ≡ true → is_zero_fraction (fraction_of x) ≡ b → entry_at rest r c ≡ zero_fraction
    → fraction_of x ≡ entry_at (if b then rest else record { row = q.row; col = q.col; value = fraction_of x } ∷ rest) r c
here r c q x rest true t z e = is_zero (fraction_of x) z ∙ sym e
here r c q x rest false t z e = rw t refl

same_place : (r c : ℕ) (q : Place) → ((q.row == r) && (q.col == c)) ≡ true → (q.row ≡ r) × (q.col ≡ c)
same_place r c q h = grind (arith, nat_tests)

all_before : (q : Place) (es : Kept) → AllByRecursion (λ p. place_cmp q p ≡ Less) (keys_of es) → AllByRecursion (λ (p : Place). IsBefore q.row q.col p.row p.col) (keys_of es)
all_before q [] h = tt
all_before q (e ∷ es) h = (before q e.0 h.0, all_before q es h.1)

absent_at : (r c : ℕ) (q : Place) (es : Kept) → (q.row ≡ r) × (q.col ≡ c) → AllByRecursion (λ p. place_cmp q p ≡ Less) (keys_of es) → entry_at (nonzeros es) r c ≡ zero_fraction
absent_at r c q es e h = ap₂ (λ i j. entry_at (nonzeros es) i j) (sym e.0) (sym e.1) ∙ absent q.row q.col es (all_before q es h)

one_total : (r c : ℕ) (q : Place) (x : Ratio) (es : Kept) (t : Bool) → ((q.row == r) && (q.col == c)) ≡ t
    → AllByRecursion (λ p. place_cmp q p ≡ Less) (keys_of es) → resumed (option_map valued (found es r c)) [] ≡ Some (entry_at (nonzeros es) r c)
    → resumed (option_map valued (if t then Some (Some x) else found es r c)) [] ≡ Some (entry_at (with_entry q (Some x) (nonzeros es)) r c)
one_total r c q x es true t h e = ap Some (here r c q x (nonzeros es) (is_zero_fraction (fraction_of x)) t refl (absent_at r c q es (same_place r c q t) h))
one_total r c q x es false t h e = e ∙ ap Some (sym (skipped r c q x (nonzeros es) (is_zero_fraction (fraction_of x)) t))

exact : (es : Kept) (r c : ℕ) → Ordered es → first_passed es ≡ None → resumed (option_map valued (found es r c)) [] ≡ Some (entry_at (nonzeros es) r c)
unfolding IsStrictlySortedBy
exact [] r c h n = refl
exact ((q, None) ∷ es) r c h n = absurd (cc)
exact ((q, Some x) ∷ es) r c h n =
    rw (found_test r c q) (one_total r c q x es ((q.row == r) && (q.col == c)) refl h.0 (exact es r c h.1 n))

-- the kept sums without zeros are those of the values, where none passed
pub sums_are : (values : List Entry) (es : Kept) → Ordered es → first_passed es ≡ None
    → ((r c : ℕ) → resumed (option_map valued (found es r c)) [] ≡ added (values_at values r c)) → AreSums values (nonzeros es)
sums_are values es h n e = record {
  ordered = ordered es h;
  nonzero = nonzero es;
  exact = λ r c. sym (e r c) ∙ exact es r c h n;
}

-- ---- the first that passed

passed_key : (P : Place → Type 0) (es : Kept) (p : Place) → AllByRecursion P (keys_of es) → first_passed es ≡ Some p → P p
passed_key P [] p h e = absurd (cc)
passed_key P ((q, None) ∷ es) p h e = let f : q ≡ p = cc in subst P f h.0
passed_key P ((q, Some x) ∷ es) p h e = passed_key P es p h.1 e

own_test : (p : Place) → ((p.row == p.row) && (p.col == p.col)) ≡ true
own_test p = grind (arith, nat_tests)

behind : (r c : ℕ) (q : Place) → IsBefore q.row q.col r c → ((q.row == r) && (q.col == c)) ≡ false
behind r c q h = ⊎_elim
    (λ (a : q.row < r). let t : (q.row == r) ≡ false = grind (arith, nat_tests) in rw t refl)
    (λ (b : (q.row ≡ r) × (q.col < c)). let t : (q.col == c) ≡ false = grind (arith, nat_tests) in rw t (and_false (q.row == r)))
    h

passes : (es : Kept) (p : Place) → Ordered es → first_passed es ≡ Some p → found es p.row p.col ≡ Some None
unfolding IsStrictlySortedBy
passes [] p h e = absurd (cc)
passes ((q, None) ∷ es) p h e =
    let f : q ≡ p = cc in rw (found_test p.row p.col q, f, own_test p) refl
passes ((q, Some x) ∷ es) p h e =
    let b : IsBefore q.row q.col p.row p.col = before q p (passed_key (λ k. place_cmp q k ≡ Less) es p h.0 e) in
    rw (found_test p.row p.col q, behind p.row p.col q b) (passes es p h.1 e)

then_before : (r c : ℕ) (p q : Place) → IsBefore r c p.row p.col → IsBefore p.row p.col q.row q.col → IsBefore r c q.row q.col
then_before r c p q h k = grind arith

all_after : (r c : ℕ) (p : Place) (es : Kept) → IsBefore r c p.row p.col → AllByRecursion (λ q. place_cmp p q ≡ Less) (keys_of es) → AllByRecursion (λ (q : Place). IsBefore r c q.row q.col) (keys_of es)
all_after r c p [] b h = tt
all_after r c p (e ∷ es) b h = (then_before r c p e.0 b (before p e.0 h.0), all_after r c p es b h.1)

one_some : (t : Bool) (x : Ratio) (o : Option (Option Ratio)) → IsSome (resumed (option_map valued o) []) → IsSome (resumed (option_map valued (if t then Some (Some x) else o)) [])
one_some true x o h = refl
one_some false x o h = h

none_some : (o : Option (Option Ratio)) → o ≡ None → IsSome (resumed (option_map valued o) [])
none_some o e = rw e refl

earlier : (es : Kept) (p : Place) (r c : ℕ) → Ordered es → first_passed es ≡ Some p → IsBefore r c p.row p.col → IsSome (resumed (option_map valued (found es r c)) [])
unfolding IsStrictlySortedBy
earlier [] p r c h e b = absurd (cc)
earlier ((q, None) ∷ es) p r c h e b =
    let f : p ≡ q = cc in
    let d : IsBefore r c q.row q.col = subst (λ (k : Place). IsBefore r c k.row k.col) f b in
    none_some _ (rw (found_test r c q, apart r c q d) (not_found r c es (all_after r c q es d h.0)))
earlier ((q, Some x) ∷ es) p r c h e b =
    rw (found_test r c q) (one_some ((q.row == r) && (q.col == c)) x (found es r c) (earlier es p r c h.1 e b))

pub passes_first : (values : List Entry) (es : Kept) (p : Place) → Ordered es → first_passed es ≡ Some p
    → ((r c : ℕ) → resumed (option_map valued (found es r c)) [] ≡ added (values_at values r c)) → PassesFirst values p.row p.col
passes_first values es p h e sums = record {
  passes = sym (sums p.row p.col) ∙ ap (λ o. resumed (option_map valued o) []) (passes es p h e);
  earlier = λ r c b. subst IsSome (sums r c) (earlier es p r c h e b);
}
