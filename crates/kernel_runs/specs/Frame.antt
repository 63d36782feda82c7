-- What a run leaves as it was
use Rattle.std.specs.Prelude.{◌≡◌, ℕ, ◌+◌, ◌*◌, ◌<◌, ◌≤◌, ◌⊎◌, length, List, [], ◌∷◌, false, slice_index_or, slice_set}
use Rattle.algebra.specs.Fraction.{Fraction, is_zero_fraction}
use Rattle.c_unit.specs.Meaning.{Slots}
use Rattle.kernel_runs.specs.Strips.{item, strip}

-- slot k of T
abbrev pub slot : Slots → ℕ → Fraction
slot s k = item s.t k

abbrev pub write : ℕ → Fraction → Slots → Slots
write k v s = record s { t = slice_set s.t k v }

abbrev pub write_out : List Fraction → Slots → Slots
write_out a s = record s { a = a }

-- X, W and A, and the slots of T that are `fixed`, are as in s₀
pub record Keeps (fixed : ℕ → Type 0) (s₀ s : Slots) : Type 0 where
  pub x : s.x ≡ s₀.x
  pub w : s.w ≡ s₀.w
  pub a : s.a ≡ s₀.a
  pub size : length s.t ≡ length s₀.t
  pub slots : (k : ℕ) → fixed k → slot s k ≡ slot s₀ k

-- outside new .. end
abbrev pub IsOutside : ℕ → ℕ → ℕ → Type 0
IsOutside new end k = (k < new) ⊎ (end ≤ k)

-- the list stands in T from `at` on
abbrev pub Holds : ℕ → List Fraction → Slots → Type 0
Holds at xs s = strip s.t at 1 (length xs) ≡ xs

-- table t of the tables has these rows of `width` items each, one after the other
abbrev pub IsTable : List (List Fraction) → ℕ → ℕ → List (List Fraction) → Type 0
IsTable ks t width rows =
    (a b : ℕ) → a < length rows → b < width
    → (length (slice_index_or rows a []) ≡ width)
    × (item (slice_index_or ks t []) (width * a + b) ≡ item (slice_index_or rows a []) b)

-- some item isn't 0
abbrev pub HasNonzero : List Fraction → Type 0
HasNonzero [] = ⊥
HasNonzero (x ∷ xs) = (is_zero_fraction x ≡ false) ⊎ HasNonzero xs

abbrev pub AllNonzero : List (List Fraction) → Type 0
AllNonzero [] = Unit {0}
AllNonzero (line ∷ rows) = HasNonzero line × AllNonzero rows

abbrev pub AllOfWidth : ℕ → List (List Fraction) → Type 0
AllOfWidth width [] = Unit {0}
AllOfWidth width (line ∷ rows) = (length line ≡ width) × AllOfWidth width rows
