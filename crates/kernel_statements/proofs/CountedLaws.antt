-- The counted rows of a list of rows
use Rattle.std.proofs.Common.{◌≡◌, ℕ, zero, suc, ◌<◌, ◌+◌, ◌⊎◌, inl, inr, List, [], ◌∷◌, ◌++◌, length, get_or, Bool, true, false, if◌then◌else◌, Option, Some, None, refl, sym, ap, ◌∙◌, subst, append_assoc, append-nil, arith}
use Rattle.std.specs.Prelude.{Contains}
use Rattle.std.specs.List.{AllByRecursion}
use Rattle.std.proofs.lemmas.List.Elements.{Contains-append_left, Contains-push, Contains-append_cases}
use Rattle.algebra.specs.Fraction.{Fraction}
use Rattle.kernel_statements.specs.Counted.{counted_from, counted_rows, counted_with, first_multiple, is_multiple, is_zero_row, with_row}
use Rattle.kernel_statements.proofs.MultipleLaws.{multiple_itself}

-- ---- elements
pub first_contained : {A : Type 0} (x : A) (xs : List A) → Contains (x ∷ xs) x
first_contained x xs = (0, omega arith, refl)

pub later_contained : {A : Type 0} (x y : A) (xs : List A) → Contains xs y → Contains (x ∷ xs) y
later_contained x y xs h = let l = h.1 in (suc h.0, omega arith, h.2)

pub contained_cases : {A : Type 0} (x y : A) (xs : List A) → Contains (x ∷ xs) y → (x ≡ y) ⊎ Contains xs y
contained_cases x y xs h = go h.0 h.1 h.2
  where
    go : (k : ℕ) → k < length (x ∷ xs) → get_or (x ∷ xs) k y ≡ y → (x ≡ y) ⊎ Contains xs y
    go zero l e = inl e
    go (suc k) l e = inr (k, omega arith, e)

pub all_contained : {A : Type 0} (P : A → Type 0) (xs : List A) (x : A) → AllByRecursion P xs → Contains xs x → P x
all_contained P [] x h c = let l = c.1 in absurd (omega arith)
all_contained P (y ∷ ys) x h c = elim (contained_cases y x ys c) [
  | inl e ↦ subst P e h.0
  | inr t ↦ all_contained P ys x h.1 t
]

pub all_with : {A : Type 0} (P : A → Type 0) (xs : List A) (x : A) → AllByRecursion P xs → P x → AllByRecursion P (xs ++ x ∷ [])
all_with P [] x h p = (p, tt)
all_with P (y ∷ ys) x h p = (h.0, all_with P ys x h.1 p)

-- ---- what one more row does
none_some : {A : Type 0} (x : A) → None ≡ Some x → ⊥
none_some x e = cc

-- no row found is one of which the row is a multiple
pub none_multiple : (b : ℕ) (found : List (List Fraction)) (row : List Fraction) → first_multiple b found row ≡ None → AllByRecursion (λ other. is_multiple other row ≡ false) found
none_multiple b [] row e = tt
none_multiple b (xs ∷ found) row e = go (is_multiple xs row) refl e (none_multiple (suc b) found row)
  where
    go : (t : Bool) → is_multiple xs row ≡ t → (if t then Some b else first_multiple (suc b) found row) ≡ None
        → (first_multiple (suc b) found row ≡ None → AllByRecursion (λ other. is_multiple other row ≡ false) found)
        → AllByRecursion (λ other. is_multiple other row ≡ false) (xs ∷ found)
    go true m e rest = absurd (none_some b (sym e))
    go false m e rest = (m, rest e)

-- what the found row at a number is
pub record IsBaseOf (found : List (List Fraction)) (row : List Fraction) (k : ℕ) : Type 0 where
  pub below : k < length found
  pub multiple : is_multiple (get_or found k []) row ≡ true

pub found_multiple : (b : ℕ) (found : List (List Fraction)) (row : List Fraction) (k : ℕ) → first_multiple b found row ≡ Some k → (j : ℕ) × (k ≡ b + j) × IsBaseOf found row j
found_multiple b [] row k e = absurd (none_some k e)
found_multiple b (xs ∷ found) row k e = go (is_multiple xs row) refl e (found_multiple (suc b) found row k)
  where
    same_some : (x y : ℕ) → Some x ≡ Some y → x ≡ y
    same_some x y e = cc

    more : (b j k : ℕ) → k ≡ suc b + j → k ≡ b + suc j
    more b j k e = omega arith

    go : (t : Bool) → is_multiple xs row ≡ t → (if t then Some b else first_multiple (suc b) found row) ≡ Some k
        → (first_multiple (suc b) found row ≡ Some k → (j : ℕ) × (k ≡ suc b + j) × IsBaseOf found row j)
        → (j : ℕ) × (k ≡ b + j) × IsBaseOf (xs ∷ found) row j
    go true m e rest = let f = same_some b k e in (0, omega arith, record { below = omega arith; multiple = m })
    go false m e rest =
        let r = rest e in
        let l = r.2.below in
        (suc r.0, more b r.0 k r.1, record { below = omega arith; multiple = r.2.multiple })

-- ---- no counted row is zero
with_nonzero : (found : List (List Fraction)) (row : List Fraction) → AllByRecursion (λ r. is_zero_row r ≡ false) found → AllByRecursion (λ r. is_zero_row r ≡ false) (counted_with found row)
with_nonzero found row h = go (is_zero_row row) refl (first_multiple 0 found row)
  where
    go : (t : Bool) → is_zero_row row ≡ t → (o : Option ℕ) → AllByRecursion (λ r. is_zero_row r ≡ false) (if t then found else with_row o found row)
    go true z o = h
    go false z None = all_with (λ r. is_zero_row r ≡ false) found row h z
    go false z (Some b) = h

from_nonzero : (found rows : List (List Fraction)) → AllByRecursion (λ r. is_zero_row r ≡ false) found → AllByRecursion (λ r. is_zero_row r ≡ false) (counted_from found rows)
from_nonzero found [] h = h
from_nonzero found (row ∷ rows) h = from_nonzero (counted_with found row) rows (with_nonzero found row h)

pub counted_nonzero : (rows : List (List Fraction)) → AllByRecursion (λ r. is_zero_row r ≡ false) (counted_rows rows)
counted_nonzero rows = from_nonzero [] rows tt

-- ---- none is a multiple of one before it
abbrev pub IsFirst : List (List Fraction) → List (List Fraction) → Type 0
IsFirst before [] = Unit {0}
IsFirst before (row ∷ rows) = AllByRecursion (λ other. is_multiple other row ≡ false) before × IsFirst (before ++ row ∷ []) rows

first_with : (before found : List (List Fraction)) (row : List Fraction) → IsFirst before found → AllByRecursion (λ other. is_multiple other row ≡ false) (before ++ found) → IsFirst before (found ++ row ∷ [])
first_with before [] row h g = (subst (AllByRecursion (λ other. is_multiple other row ≡ false)) (append-nil before) g, tt)
first_with before (x ∷ found) row h g =
    (h.0, first_with (before ++ x ∷ []) found row h.1 (subst (AllByRecursion (λ other. is_multiple other row ≡ false)) (sym (append_assoc before (x ∷ []) found)) g))

with_first : (found : List (List Fraction)) (row : List Fraction) → IsFirst [] found → IsFirst [] (counted_with found row)
with_first found row h = go (is_zero_row row) (first_multiple 0 found row) refl
  where
    go : (t : Bool) (o : Option ℕ) → first_multiple 0 found row ≡ o → IsFirst [] (if t then found else with_row o found row)
    go true o e = h
    go false None e = first_with [] found row h (none_multiple 0 found row e)
    go false (Some b) e = h

from_first : (found rows : List (List Fraction)) → IsFirst [] found → IsFirst [] (counted_from found rows)
from_first found [] h = h
from_first found (row ∷ rows) h = from_first (counted_with found row) rows (with_first found row h)

at_row : (front before behind : List (List Fraction)) (row : List Fraction) → IsFirst front (before ++ row ∷ behind) → AllByRecursion (λ other. is_multiple other row ≡ false) (front ++ before)
at_row front [] behind row h = subst (AllByRecursion (λ other. is_multiple other row ≡ false)) (sym (append-nil front)) h.0
at_row front (x ∷ before) behind row h =
    subst (AllByRecursion (λ other. is_multiple other row ≡ false)) (append_assoc front (x ∷ []) before) (at_row (front ++ x ∷ []) before behind row h.1)

pub counted_apart : (rows before behind : List (List Fraction)) (row : List Fraction) → counted_rows rows ≡ before ++ row ∷ behind → AllByRecursion (λ other. is_multiple other row ≡ false) before
counted_apart rows before behind row e = at_row [] before behind row (subst (IsFirst []) e (from_first [] rows tt))

-- ---- each row that isn't zero is a multiple of a counted one
with_more : (found : List (List Fraction)) (row other : List Fraction) → Contains found other → Contains (counted_with found row) other
with_more found row other h = go (is_zero_row row) (first_multiple 0 found row)
  where
    go : (t : Bool) (o : Option ℕ) → Contains (if t then found else with_row o found row) other
    go true o = h
    go false None = Contains-append_left found (row ∷ []) other h
    go false (Some b) = h

pub from_more : (found rows : List (List Fraction)) (other : List Fraction) → Contains found other → Contains (counted_from found rows) other
from_more found [] other h = h
from_more found (row ∷ rows) other h = from_more (counted_with found row) rows other (with_more found row other h)

pub at_number : (found : List (List Fraction)) (k : ℕ) → k < length found → Contains found (get_or found k [])
at_number [] k l = absurd (omega arith)
at_number (x ∷ xs) zero l = first_contained x xs
at_number (x ∷ xs) (suc k) l = later_contained x (get_or xs k []) xs (at_number xs k (omega arith))

with_own : (found : List (List Fraction)) (row : List Fraction) → is_zero_row row ≡ false → (other : List Fraction) × Contains (counted_with found row) other × (is_multiple other row ≡ true)
with_own found row z = go (is_zero_row row) z (first_multiple 0 found row) refl
  where
    go : (t : Bool) → t ≡ false → (o : Option ℕ) → first_multiple 0 found row ≡ o → (other : List Fraction) × Contains (if t then found else with_row o found row) other × (is_multiple other row ≡ true)
    go true e o f = absurd (apart e)
      where
        apart : true ≡ false → ⊥
        apart e = cc
    go false e None f = (row, Contains-push found row, multiple_itself row z)
    go false e (Some k) f =
        let m = found_multiple 0 found row k f in
        (get_or found m.0 [], at_number found m.0 m.2.below, m.2.multiple)

from_own : (found rows : List (List Fraction)) (row : List Fraction) → Contains rows row → is_zero_row row ≡ false → (other : List Fraction) × Contains (counted_from found rows) other × (is_multiple other row ≡ true)
from_own found [] row c z = let l = c.1 in absurd (omega arith)
from_own found (x ∷ rows) row c z = elim (contained_cases x row rows c) [
  | inl e ↦ let w = with_own found x (ap is_zero_row e ∙ z) in (w.0, from_more (counted_with found x) rows w.0 w.1, ap (is_multiple w.0) (sym e) ∙ w.2)
  | inr t ↦ from_own (counted_with found x) rows row t z
]

pub counted_all : (rows : List (List Fraction)) (row : List Fraction) → Contains rows row → is_zero_row row ≡ false → (other : List Fraction) × Contains (counted_rows rows) other × (is_multiple other row ≡ true)
counted_all rows row c z = from_own [] rows row c z
