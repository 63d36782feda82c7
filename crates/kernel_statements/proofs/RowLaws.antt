-- Rows without loops, by what is left of them
use Rattle.std.proofs.Common.{◌≡◌, ℕ, zero, suc, ◌+◌, ◌-◌, ◌*◌, ◌<◌, ◌≤◌, Bool, true, false, if◌then◌else◌, List, [], ◌∷◌, ◌++◌, length, map, take, drop, refl, sym, ap, ap₂, ◌∙◌, arith}
use Rattle.std.proofs.lemmas.List.{take-map, drop-map, drop-drop}
use Rattle.algebra.specs.Fraction.{Fraction, is_zero_fraction}
use Rattle.ratio.specs.declared.reduced.Ratio.{Ratio}
use Rattle.ratio.specs.Value.{fraction_of}
use Rattle.c_unit.specs.declared.unit.CStmt.{CStmt}
use Rattle.c_unit.specs.Meaning.{fractions_of, written_list}
use Rattle.kernel_runs.specs.Planned.{first_product, next_product, stepped, straight_rest, straight_row, straight_rows}
use Rattle.kernel_statements.specs.Emitted.{cut}
use Rattle.kernel_statements.proofs.LoopLaws.{written_append}

-- what is left of a row where a product is already formed, or none yet
abbrev pub row_left : Bool → (scratch out cur t at : ℕ) → List Fraction → List CStmt
row_left true scratch out cur t at rs = straight_row scratch out cur t at rs
row_left false scratch out cur t at rs = straight_rest scratch out cur t at rs

abbrev pub one_product : Bool → (scratch out cur t at : ℕ) → List CStmt
one_product first scratch out cur t at =
    (if first then first_product else next_product) (stepped scratch 0 0) (stepped out 0 0) (stepped cur 0 0) t (stepped at 0 0)

pub skipped : (first : Bool) (scratch out cur t at : ℕ) (r : Fraction) (rs : List Fraction) → is_zero_fraction r ≡ true
    → row_left first scratch out cur t at (r ∷ rs) ≡ row_left first scratch out (cur + 1) t (at + 1) rs
skipped true scratch out cur t at r rs h =
    ap (λ (b : Bool).
    if b then straight_row scratch out (cur + 1) t (at + 1) rs
    else first_product (stepped scratch 0 0) (stepped out 0 0) (stepped cur 0 0) t (stepped at 0 0) ++ straight_rest scratch out (cur + 1) t (at + 1) rs) h
skipped false scratch out cur t at r rs h =
    ap (λ (b : Bool).
    if b then straight_rest scratch out (cur + 1) t (at + 1) rs
    else next_product (stepped scratch 0 0) (stepped out 0 0) (stepped cur 0 0) t (stepped at 0 0) ++ straight_rest scratch out (cur + 1) t (at + 1) rs) h

pub formed : (first : Bool) (scratch out cur t at : ℕ) (r : Fraction) (rs : List Fraction) → is_zero_fraction r ≡ false
    → row_left first scratch out cur t at (r ∷ rs) ≡ one_product first scratch out cur t at ++ row_left false scratch out (cur + 1) t (at + 1) rs
formed true scratch out cur t at r rs h =
    ap (λ (b : Bool).
    if b then straight_row scratch out (cur + 1) t (at + 1) rs
    else first_product (stepped scratch 0 0) (stepped out 0 0) (stepped cur 0 0) t (stepped at 0 0) ++ straight_rest scratch out (cur + 1) t (at + 1) rs) h
formed false scratch out cur t at r rs h =
    ap (λ (b : Bool).
    if b then straight_rest scratch out (cur + 1) t (at + 1) rs
    else next_product (stepped scratch 0 0) (stepped out 0 0) (stepped cur 0 0) t (stepped at 0 0) ++ straight_rest scratch out (cur + 1) t (at + 1) rs) h

-- the same at places that are counted from the first column
pub left_at : (first : Bool) (scratch out t c d a b : ℕ) (rs : List Fraction) → c ≡ d → a ≡ b → row_left first scratch out c t a rs ≡ row_left first scratch out d t b rs
left_at first scratch out t c d a b rs e f = ap₂ (λ m n. row_left first scratch out m t n rs) e f

-- ---- how many statements
abbrev pub nonzeros : List Fraction → ℕ
nonzeros [] = 0
nonzeros (r ∷ rs) = if is_zero_fraction r then nonzeros rs else suc (nonzeros rs)

pub rest_written : (scratch out cur t at : ℕ) (rs : List Fraction) → written_list (straight_rest scratch out cur t at rs) ≡ 3 * nonzeros rs
rest_written scratch out cur t at [] = refl
rest_written scratch out cur t at (r ∷ rs) = go (is_zero_fraction r) (rest_written scratch out (cur + 1) t (at + 1) rs)
  where
    go : (b : Bool) → written_list (straight_rest scratch out (cur + 1) t (at + 1) rs) ≡ 3 * nonzeros rs
        → written_list (if b then straight_rest scratch out (cur + 1) t (at + 1) rs
        else next_product (stepped scratch 0 0) (stepped out 0 0) (stepped cur 0 0) t (stepped at 0 0) ++ straight_rest scratch out (cur + 1) t (at + 1) rs)
        ≡ 3 * (if b then nonzeros rs else suc (nonzeros rs))
    go true h = h
    go false h =
        let w = written_append (next_product (stepped scratch 0 0) (stepped out 0 0) (stepped cur 0 0) t (stepped at 0 0)) (straight_rest scratch out (cur + 1) t (at + 1) rs) in
        omega (arith, w, h)

pub row_written : (scratch out cur t at : ℕ) (rs : List Fraction) → written_list (straight_row scratch out cur t at rs) ≡ 3 * nonzeros rs - 1
row_written scratch out cur t at [] = omega arith
row_written scratch out cur t at (r ∷ rs) = go (is_zero_fraction r) (row_written scratch out (cur + 1) t (at + 1) rs) (rest_written scratch out (cur + 1) t (at + 1) rs)
  where
    go : (b : Bool) → written_list (straight_row scratch out (cur + 1) t (at + 1) rs) ≡ 3 * nonzeros rs - 1
        → written_list (straight_rest scratch out (cur + 1) t (at + 1) rs) ≡ 3 * nonzeros rs
        → written_list (if b then straight_row scratch out (cur + 1) t (at + 1) rs
        else first_product (stepped scratch 0 0) (stepped out 0 0) (stepped cur 0 0) t (stepped at 0 0) ++ straight_rest scratch out (cur + 1) t (at + 1) rs)
        ≡ 3 * (if b then nonzeros rs else suc (nonzeros rs)) - 1
    go true h k = h
    go false h k =
        let w = written_append (first_product (stepped scratch 0 0) (stepped out 0 0) (stepped cur 0 0) t (stepped at 0 0)) (straight_rest scratch out (cur + 1) t (at + 1) rs) in
        omega (arith, w, k)

abbrev pub rows_count : List (List Fraction) → ℕ
rows_count [] = 0
rows_count (line ∷ rows) = (3 * nonzeros line - 1) + rows_count rows

pub rows_written : (scratch row cur t width a : ℕ) (rows : List (List Fraction)) → written_list (straight_rows scratch row cur t width a rows) ≡ rows_count rows
rows_written scratch row cur t width a [] = refl
rows_written scratch row cur t width a (line ∷ rows) =
    written_append (straight_row scratch (row + a) cur t (width * a) line) (straight_rows scratch row cur t width (a + 1) rows)
    ∙ ap₂ ◌+◌ (row_written scratch (row + a) cur t (width * a) line) (rows_written scratch row cur t width (a + 1) rows)

-- ---- rows that are kept one after the other
one_less : (n k : ℕ) → k < n → n - k ≡ suc (n - (k + 1))
one_less n k h = omega arith

pub cut_here : (width n k : ℕ) (xs : List Ratio) → k < n
    → cut width (n - k) (fractions_of (drop (k * width) xs)) ≡ fractions_of (take width (drop (k * width) xs)) ∷ cut width (n - (k + 1)) (fractions_of (drop ((k + 1) * width) xs))
cut_here width n k xs h =
    ap (λ m. cut width m (fractions_of (drop (k * width) xs))) (one_less n k h)
    ∙ ap₂ (λ r s. r ∷ cut width (n - (k + 1)) s) (take-map fraction_of width (drop (k * width) xs))
    (drop-map fraction_of width (drop (k * width) xs) ∙ ap fractions_of (drop-drop width (k * width) xs ∙ ap (λ m. drop m xs) (more k width)))
  where
    more : (k width : ℕ) → k * width + width ≡ (k + 1) * width
    more k width = omega arith

pub cut_first : (width n : ℕ) (xs : List Ratio) → cut width (n - 0) (fractions_of (drop (0 * width) xs)) ≡ cut width n (fractions_of xs)
cut_first width n xs = ap₂ (λ m k. cut width m (fractions_of (drop k xs))) (same n) (none width) ∙ ap (λ ys. cut width n (fractions_of ys)) (whole xs)
  where
    same : (n : ℕ) → n - 0 ≡ n
    same n = omega arith

    none : (n : ℕ) → 0 * n ≡ 0
    none n = omega arith

    whole : (ys : List Ratio) → drop 0 ys ≡ ys
    whole [] = refl
    whole (y ∷ ys) = refl

pub cut_last : (width n k : ℕ) (ys : List Fraction) → n ≤ k → cut width (n - k) ys ≡ []
cut_last width n k ys h = ap (λ m. cut width m ys) (none n k h)
  where
    none : (n k : ℕ) → n ≤ k → n - k ≡ 0
    none n k h = omega arith

pub take_few : {A : Type 0} (n : ℕ) (xs : List A) → length (take n xs) ≤ n
take_few zero [] = omega arith
take_few zero (x ∷ xs) = omega arith
take_few (suc n) [] = omega arith
take_few (suc n) (x ∷ xs) = let h = take_few n xs in omega arith
