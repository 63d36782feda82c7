-- Values that are added one after the other, and their lists from a place on
use Rattle.std.proofs.Common.{◌≡◌, ℕ, Bool, true, false, List, ◌∷◌, ◌++◌, Option, Some, None, if◌then◌else◌, refl, ◌∙◌, ap, arith, map, take, drop, length, get_or, ◌<◌, ◌≤◌, ◌+◌, ◌*◌, ◌-◌, add-one, drop-cons}
use Rattle.std.proofs.lemmas.List.{take-map, drop-map}
use Rattle.algebra.specs.Fraction.{Fraction}
use Rattle.ratio.specs.Value.{fraction_of}
use Rattle.ratio.specs.declared.reduced.Ratio.{Ratio}
use Rattle.assembly.specs.Kept.{plus, resumed}
use Rattle.assembly.specs.Local.{row_entries, local_entries}

resumed_plus : (s : Option (Option Fraction)) (x : Fraction) (xs : List Fraction) → resumed (Some (plus s x)) xs ≡ resumed s (x ∷ xs)
resumed_plus None x xs = refl
resumed_plus (Some s) x xs = refl

pub one_step : (here : Bool) (s s' : Option (Option Fraction)) (x : Fraction) (xs : List Fraction) → s' ≡ (if here then Some (plus s x) else s) → resumed s' xs ≡ resumed s (if here then x ∷ xs else xs)
one_step true s s' x xs e = ap (λ t. resumed t xs) e ∙ resumed_plus s x xs
one_step false s s' x xs e = ap (λ t. resumed t xs) e

pub entries_here : (row : ℕ) (cols : List ℕ) (values : List Ratio) (i : ℕ) (v : Ratio) → i < length cols → i < length values → v ≡ get_or values i v
    → row_entries row (drop i cols) (map fraction_of (drop i values))
    ≡ record { row = row; col = get_or cols i 0; value = fraction_of v } ∷ row_entries row (drop (i + 1) cols) (map fraction_of (drop (i + 1) values))
entries_here row cols values i v p q e =
    rw (add-one, drop-cons cols i 0, drop-cons values i v, ← e) refl

room : (j m n : ℕ) → (j + 1) * m ≡ n → (m ≤ n) × (j * m + m ≡ n)
room j m n e = (omega (arith, e), omega (arith, e))

one_less : (rows : List ℕ) (i m n : ℕ) → i < length rows → (length rows - i) * m ≡ n → (length rows - (i + 1) + 1) * m ≡ n
one_less rows i m n p e =
    let q : length rows - (i + 1) + 1 ≡ length rows - i = omega arith in
    ap (λ k. k * m) q ∙ e

-- the values behind a row have room for the rows behind it
pub rows_fit : (rows : List ℕ) (i m n k : ℕ) → i < length rows → (length rows - i) * m ≡ n → k + m ≡ n → (length rows - (i + 1)) * m ≡ k
rows_fit rows i m n k p e f = omega (arith, (room (length rows - (i + 1)) m n (one_less rows i m n p e)).1, f)

pub rows_here : (rows cols : List ℕ) (values : List Ratio) (i : ℕ) → i < length rows
    → local_entries (drop i rows) cols (map fraction_of values)
    ≡ row_entries (get_or rows i 0) cols (map fraction_of (take (length cols) values)) ++ local_entries (drop (i + 1) rows) cols (map fraction_of (drop (length cols) values))
rows_here rows cols values i p = rw (add-one, drop-cons rows i 0, ← take-map, ← drop-map) refl
