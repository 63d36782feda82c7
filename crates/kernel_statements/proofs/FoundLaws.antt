-- The rows that are kept as counted
use Rattle.std.proofs.Common.{◌≡◌, ℕ, zero, suc, ◌+◌, ◌*◌, ◌<◌, List, [], ◌∷◌, ◌++◌, length, map, take, drop, get_or, drop-cons, add-one, ◌≤◌, Bool, true, false, if◌then◌else◌, ◌&&◌, Option, Some, None, refl, sym, ap, ap₂, ◌∙◌, subst, arith, eq-eqb}
use Rattle.std.specs.List.{AllByRecursion, flat_map}
use Rattle.std.proofs.lemmas.List.{take-map, drop-map, length-append, length-map, drop_all}
use Rattle.std.proofs.Math.Seq.{take-append_seam}
use Rattle.std.specs.Prelude.{nat_eq}
use Rattle.std.specs.Ordering.{int_eq}
use Rattle.std.specs.Cmp.Lexicographic.{pointwise, pointwise_decides}
use Rattle.std.proofs.lemmas.Bool.{eqb-true}
use Rattle.std.proofs.lemmas.Bool.Decides.{Decides-int_eq}
use Rattle.algebra.specs.Fraction.{Fraction, inverse, is_zero_fraction, mul, one_fraction}
use Rattle.algebra.specs.Steps.{product}
use Rattle.ratio.specs.declared.reduced.Ratio.{Ratio}
use Rattle.ratio.specs.Value.{fraction_of}
use Rattle.ratio.proofs.Equality.{same_parts, same_ratio}
use Rattle.c_unit.specs.Meaning.{fractions_of}
use Rattle.refint.proofs.Lists.{append_nothing, flat_append, map_append}
use Rattle.basis_products.proofs.Lists.{all_append}
use Rattle.kernel_statements.specs.Counted.{counted_with, first_multiple, is_multiple, is_same, is_zero_row, leading, multiplier, scaled_standing, shape, standing, standing_at, Standing, Own, Times, Nothing, with_row}
use Rattle.kernel_statements.specs.Found.{DivideBy, HaveQuotients, IsFound}
use Rattle.kernel_statements.specs.declared.counted.CountedRows.{CountedRows}
use Rattle.kernel_statements.proofs.CountedLaws.{IsBaseOf, found_multiple}
use Rattle.kernel_statements.proofs.MultipleLaws.{leading_nonzero, multiplier_is, same_from_test, same_shape, same_test, shape_same}

apart : {A : Type 0} → true ≡ false → A
apart e = absurd (cc)

-- ---- rows of numbers and of their values
pub same_rows : (xs ys : List Ratio) → fractions_of xs ≡ fractions_of ys → xs ≡ ys
same_rows [] [] e = refl
same_rows [] (y ∷ ys) e = absurd (cc)
same_rows (x ∷ xs) [] e = absurd (cc)
same_rows (x ∷ xs) (y ∷ ys) e = ap₂ ◌∷◌ (same_ratio x y (heads (fraction_of x) (fraction_of y) _ _ e)) (same_rows xs ys (tails (fraction_of x) (fraction_of y) _ _ e))
  where
    heads : (a b : Fraction) (us vs : List Fraction) → a ∷ us ≡ b ∷ vs → a ≡ b
    heads a b us vs e = cc

    tails : (a b : Fraction) (us vs : List Fraction) → a ∷ us ≡ b ∷ vs → us ≡ vs
    tails a b us vs e = cc

-- what holds of the values of all items holds of the first one that isn't 0
pub leading_has : (P : Fraction → Type 0) (row : List Ratio) → AllByRecursion (λ y. P (fraction_of y)) row → is_zero_row (fractions_of row) ≡ false → P (leading (fractions_of row))
leading_has P [] h z = apart z
leading_has P (x ∷ xs) h z = go (is_zero_fraction (fraction_of x)) z (leading_has P xs h.1)
  where
    go : (b : Bool) → b && is_zero_row (fractions_of xs) ≡ false → (is_zero_row (fractions_of xs) ≡ false → P (leading (fractions_of xs)))
        → P (if b then leading (fractions_of xs) else fraction_of x)
    go true z rest = rest z
    go false z rest = h.0

pub all_of : {A : Type 0} (P : A → Type 0) (xs : List A) (k : ℕ) (d : A) → AllByRecursion P xs → k < length xs → P (get_or xs k d)
all_of P [] k d h l = absurd (omega arith)
all_of P (x ∷ xs) zero d h l = h.0
all_of P (x ∷ xs) (suc k) d h l = all_of P xs k d h.1 (omega arith)

pub get_map : {A B : Type 0} (f : A → B) (xs : List A) (k : ℕ) (d : A) (e : B) → k < length xs → get_or (map f xs) k e ≡ f (get_or xs k d)
get_map f [] k d e l = absurd (omega arith)
get_map f (x ∷ xs) zero d e l = refl
get_map f (x ∷ xs) (suc k) d e l = get_map f xs k d e (omega arith)

-- ---- pieces
past : {A : Type 0} (xs ys : List A) (m : ℕ) → drop (length xs + m) (xs ++ ys) ≡ drop m ys
past [] ys m = ap (λ k. drop k ys) (none m)
  where
    none : (m : ℕ) → 0 + m ≡ m
    none m = omega arith
past (x ∷ xs) ys m = ap (λ k. drop k (x ∷ xs ++ ys)) (one (length xs) m) ∙ past xs ys m
  where
    one : (m n : ℕ) → suc m + n ≡ suc (m + n)
    one m n = omega arith

whole : {A : Type 0} (xs : List A) → drop 0 xs ≡ xs
whole [] = refl
whole (x ∷ xs) = refl

pub piece_of : {A B : Type 0} (f : A → List B) (width : ℕ) (xs : List A) (k : ℕ) (d : A) → AllByRecursion (λ x. length (f x) ≡ width) xs → k < length xs
    → take width (drop (k * width) (flat_map f xs)) ≡ f (get_or xs k d)
piece_of f width [] k d h l = absurd (omega arith)
piece_of f width (x ∷ xs) zero d h l =
    ap (λ n. take width (drop n (f x ++ flat_map f xs))) (none width) ∙ ap (take width) (whole (f x ++ flat_map f xs))
    ∙ ap (λ n. take n (f x ++ flat_map f xs)) (sym h.0) ∙ take-append_seam (f x) (flat_map f xs)
  where
    none : (w : ℕ) → 0 * w ≡ 0
    none w = omega arith
piece_of f width (x ∷ xs) (suc k) d h l =
    ap (λ n. take width (drop n (f x ++ flat_map f xs))) (more width k (length (f x)) h.0) ∙ ap (take width) (past (f x) (flat_map f xs) (k * width))
    ∙ piece_of f width xs k d h.1 (omega arith)
  where
    more : (w k n : ℕ) → n ≡ w → suc k * w ≡ n + k * w
    more w k n e = omega arith

pub flat_width : {A B : Type 0} (f : A → List B) (width : ℕ) (xs : List A) → AllByRecursion (λ x. length (f x) ≡ width) xs → length (flat_map f xs) ≡ length xs * width
flat_width f width [] h = omega arith
flat_width f width (x ∷ xs) h = length-append (f x) (flat_map f xs) ∙ ap₂ ◌+◌ h.0 (flat_width f width xs h.1) ∙ more (length xs) width
  where
    more : (n w : ℕ) → w + n * w ≡ suc n * w
    more n w = omega arith

-- ---- what is kept
shape_widths : (width : ℕ) (found : List (List Fraction)) → AllByRecursion (λ row. length row ≡ width) found → AllByRecursion (λ row. length (shape row) ≡ width) found
shape_widths width [] h = tt
shape_widths width (row ∷ found) h = (length-map row _ ∙ h.0, shape_widths width found h.1)

pub found_count : (found : List (List Fraction)) (c : CountedRows) → IsFound found c → length found ≡ length c.leading.items
found_count found c h = sym (length-map found leading) ∙ ap length (sym h.leading) ∙ length-map c.leading.items fraction_of

pub found_shapes : (found : List (List Fraction)) (c : CountedRows) → IsFound found c → length c.shapes.items ≡ length c.leading.items * c.width
found_shapes found c h =
    sym (length-map c.shapes.items fraction_of) ∙ ap length h.shapes ∙ flat_width shape c.width found (shape_widths c.width found h.widths)
    ∙ ap (λ n. n * c.width) (found_count found c h)

pub found_items : (found : List (List Fraction)) (c : CountedRows) → IsFound found c → length c.items.items ≡ length c.leading.items * c.width
found_items found c h =
    sym (length-map c.items.items fraction_of) ∙ ap length h.items ∙ flat_width (λ row. row) c.width found h.widths
    ∙ ap (λ n. n * c.width) (found_count found c h)

pub kept_shape : (found : List (List Fraction)) (c : CountedRows) (k : ℕ) → IsFound found c → k < length found
    → fractions_of (take c.width (drop (k * c.width) c.shapes.items)) ≡ shape (get_or found k [])
kept_shape found c k h l =
    sym (take-map fraction_of c.width (drop (k * c.width) c.shapes.items)) ∙ ap (take c.width) (sym (drop-map fraction_of (k * c.width) c.shapes.items) ∙ ap (drop (k * c.width)) h.shapes)
    ∙ piece_of shape c.width found k [] (shape_widths c.width found h.widths) l

pub kept_leading : (found : List (List Fraction)) (c : CountedRows) (k : ℕ) (x : Ratio) → IsFound found c → k < length found → fraction_of (get_or c.leading.items k x) ≡ leading (get_or found k [])
kept_leading found c k x h l =
    let count : length found ≡ length c.leading.items = found_count found c h in
    let m : k < length c.leading.items = omega arith in
    sym (get_map fraction_of c.leading.items k x (fraction_of x) m) ∙ ap (λ xs. get_or xs k (fraction_of x)) h.leading ∙ get_map leading found k [] (fraction_of x) l

-- ---- the first row of a shape
multiple_at : (found : List (List Fraction)) (c : CountedRows) (k : ℕ) (piece xs : List Ratio) (row : List Fraction) → IsFound found c → k < length found
    → piece ≡ take c.width (drop (k * c.width) c.shapes.items) → is_zero_row row ≡ false → fractions_of xs ≡ shape row
    → (piece ≡ xs → is_multiple (get_or found k []) row ≡ true) × (is_multiple (get_or found k []) row ≡ true → piece ≡ xs)
multiple_at found c k piece xs row h l p z e =
    let s : fractions_of piece ≡ shape (get_or found k []) = ap fractions_of p ∙ kept_shape found c k h l in
    (λ q. same_shape (get_or found k []) row z (sym s ∙ ap fractions_of q ∙ e), λ m. same_rows piece xs (s ∙ shape_same (get_or found k []) row z m ∙ sym e))

first_at : (found : List (List Fraction)) (k : ℕ) (row : List Fraction) → k < length found
    → first_multiple k (drop k found) row ≡ (if is_multiple (get_or found k []) row then Some k else first_multiple (k + 1) (drop (k + 1) found) row)
first_at found k row l =
    ap (λ rows. first_multiple k rows row) (first_row found k l)
    ∙ ap (λ n. if is_multiple (get_or found k []) row then Some k else first_multiple n (drop (k + 1) found) row) (sym (add-one k))
  where
    first_row : (found : List (List Fraction)) (k : ℕ) → k < length found → drop k found ≡ get_or found k [] ∷ drop (k + 1) found
    first_row found k l = rw (add-one, drop-cons found k []) refl

-- ---- equal numbers
pub equal_tests : (x y : Ratio) → (int_eq x.n y.n && nat_eq x.d y.d ≡ true → x ≡ y) × (x ≡ y → int_eq x.n y.n && nat_eq x.d y.d ≡ true)
equal_tests x y = (λ e. same_parts x y ((Decides-int_eq x.n y.n).0 (first (int_eq x.n y.n) (nat_eq x.d y.d) e)) (eqb-true x.d y.d (second (int_eq x.n y.n) (nat_eq x.d y.d) e)), λ e. ap (λ z. int_eq x.n z.n && nat_eq x.d z.d) (sym e) ∙ itself x)
  where
    first : (s t : Bool) → s && t ≡ true → s ≡ true
    first true t h = refl
    first false t h = h

    second : (s t : Bool) → s && t ≡ true → t ≡ true
    second true t h = h
    second false t h = apart (sym h)

    itself : (x : Ratio) → int_eq x.n x.n && nat_eq x.d x.d ≡ true
    itself x = ap₂ ◌&&◌ ((Decides-int_eq x.n x.n).1 refl) (eq-eqb x.d x.d refl)

pub equal_rows : (xs ys : List Ratio) → (pointwise (λ (x y : Ratio). int_eq x.n y.n && nat_eq x.d y.d) xs ys ≡ true → xs ≡ ys)
    × (xs ≡ ys → pointwise (λ (x y : Ratio). int_eq x.n y.n && nat_eq x.d y.d) xs ys ≡ true)
equal_rows xs ys = pointwise_decides equal_tests xs ys

pub place_here : (found : List (List Fraction)) (c : CountedRows) (k : ℕ) (piece xs : List Ratio) (row : List Fraction) → IsFound found c → k < length c.leading.items
    → piece ≡ take c.width (drop (k * c.width) c.shapes.items) → is_zero_row row ≡ false → fractions_of xs ≡ shape row → piece ≡ xs
    → Some k ≡ first_multiple k (drop k found) row
place_here found c k piece xs row h l p z e q =
    let n : length found ≡ length c.leading.items = found_count found c h in
    let m : k < length found = omega arith in
    sym (first_at found k row m ∙ ap (λ b. if b then Some k else first_multiple (k + 1) (drop (k + 1) found) row) ((multiple_at found c k piece xs row h m p z e).0 q))

pub place_later : (found : List (List Fraction)) (c : CountedRows) (k : ℕ) (piece xs : List Ratio) (row : List Fraction) → IsFound found c → k < length c.leading.items
    → piece ≡ take c.width (drop (k * c.width) c.shapes.items) → is_zero_row row ≡ false → fractions_of xs ≡ shape row → (piece ≡ xs → ⊥)
    → first_multiple k (drop k found) row ≡ first_multiple (k + 1) (drop (k + 1) found) row
place_later found c k piece xs row h l p z e q =
    let n : length found ≡ length c.leading.items = found_count found c h in
    let m : k < length found = omega arith in
    first_at found k row m ∙ ap (λ b. if b then Some k else first_multiple (k + 1) (drop (k + 1) found) row) (other (is_multiple (get_or found k []) row) (λ t. q ((multiple_at found c k piece xs row h m p z e).1 t)))
  where
    other : (b : Bool) → (b ≡ true → ⊥) → b ≡ false
    other true h = absurd (h refl)
    other false h = refl

pub place_none : (found : List (List Fraction)) (c : CountedRows) (k : ℕ) (row : List Fraction) → IsFound found c → length c.leading.items ≤ k → first_multiple k (drop k found) row ≡ None
place_none found c k row h l =
    let n : length found ≡ length c.leading.items = found_count found c h in
    ap (λ rows. first_multiple k rows row) (drop_all k found (omega arith))

-- ---- how a row stands
-- the found row of which it is a multiple
pub base_of : (found : List (List Fraction)) (row : List Fraction) (k : ℕ) → first_multiple 0 found row ≡ Some k → IsBaseOf found row k
base_of found row k e = let f = found_multiple 0 found row k e in subst (IsBaseOf found row) (none f.0 k f.1) f.2
  where
    none : (j k : ℕ) → k ≡ 0 + j → j ≡ k
    none j k e = omega arith

pub standing_zero : (found : List (List Fraction)) (row : List Fraction) → is_zero_row row ≡ true → standing found row ≡ Nothing
standing_zero found row z = ap (λ b. if b then Nothing else standing_at (first_multiple 0 found row) found row) z

pub standing_new : (found : List (List Fraction)) (row : List Fraction) → is_zero_row row ≡ false → first_multiple 0 found row ≡ None → standing found row ≡ Own (length found)
standing_new found row z e = ap (λ b. if b then Nothing else standing_at (first_multiple 0 found row) found row) z ∙ ap (λ o. standing_at o found row) e

pub standing_old : (found : List (List Fraction)) (row : List Fraction) (k : ℕ) → is_zero_row row ≡ false → first_multiple 0 found row ≡ Some k
    → standing found row ≡ scaled_standing (multiplier (get_or found k []) row) k
standing_old found row k z e = ap (λ b. if b then Nothing else standing_at (first_multiple 0 found row) found row) z ∙ ap (λ o. standing_at o found row) e

pub counted_zero : (found : List (List Fraction)) (row : List Fraction) → is_zero_row row ≡ true → counted_with found row ≡ found
counted_zero found row z = ap (λ b. if b then found else with_row (first_multiple 0 found row) found row) z

pub counted_new : (found : List (List Fraction)) (row : List Fraction) → is_zero_row row ≡ false → first_multiple 0 found row ≡ None → counted_with found row ≡ found ++ row ∷ []
counted_new found row z e = ap (λ b. if b then found else with_row (first_multiple 0 found row) found row) z ∙ ap (λ o. with_row o found row) e

pub counted_old : (found : List (List Fraction)) (row : List Fraction) (k : ℕ) → is_zero_row row ≡ false → first_multiple 0 found row ≡ Some k → counted_with found row ≡ found
counted_old found row k z e = ap (λ b. if b then found else with_row (first_multiple 0 found row) found row) z ∙ ap (λ o. with_row o found row) e

-- the multiplier from what is kept
pub kept_multiplier : (found : List (List Fraction)) (c : CountedRows) (row : List Fraction) (k : ℕ) (x : Ratio) → IsFound found c → is_zero_row row ≡ false → first_multiple 0 found row ≡ Some k
    → x ≡ get_or c.leading.items k x → multiplier (get_or found k []) row ≡ mul (leading row) (inverse (fraction_of x))
kept_multiplier found c row k x h z e g =
    let b = base_of found row k e in
    multiplier_is (get_or found k []) row z b.multiple ∙ ap (λ y. mul (leading row) (inverse y)) (sym (ap fraction_of g ∙ kept_leading found c k x h b.below))

pub kept_nonzero : (found : List (List Fraction)) (c : CountedRows) (row : List Fraction) (k : ℕ) (x : Ratio) → IsFound found c → is_zero_row row ≡ false → first_multiple 0 found row ≡ Some k
    → x ≡ get_or c.leading.items k x → is_zero_fraction (fraction_of x) ≡ false
kept_nonzero found c row k x h z e g =
    let b = base_of found row k e in
    ap is_zero_fraction (ap fraction_of g ∙ kept_leading found c k x h b.below) ∙ leading_nonzero (get_or found k []) row z b.multiple

pub kept_below : (found : List (List Fraction)) (c : CountedRows) (row : List Fraction) (k : ℕ) → IsFound found c → first_multiple 0 found row ≡ Some k → k < length c.leading.items
kept_below found c row k h e = subst (λ n. k < n) (found_count found c h) (base_of found row k e).below

-- the quotients that are formed
pub by_leading : (x : Ratio) (row : List Ratio) → HaveQuotients row row → is_zero_row (fractions_of row) ≡ false → fraction_of x ≡ leading (fractions_of row) → AllByRecursion (DivideBy x) row
by_leading x row h z e =
    subst (λ f. AllByRecursion (λ r. is_zero_fraction f ≡ false → product (fraction_of r) (inverse f) ≡ Some (mul (fraction_of r) (inverse f))) row) (sym e)
    (leading_has (λ f. AllByRecursion (λ r. is_zero_fraction f ≡ false → product (fraction_of r) (inverse f) ≡ Some (mul (fraction_of r) (inverse f))) row) row h z)

pub of_leading : (x y : Ratio) (k : ℕ) (row ys : List Ratio) → HaveQuotients row ys → k < length ys → y ≡ get_or ys k y → is_zero_row (fractions_of row) ≡ false → fraction_of x ≡ leading (fractions_of row) → DivideBy y x
of_leading x y k row ys h l g z e =
    let all : AllByRecursion (DivideBy y) row = subst (λ q. AllByRecursion (DivideBy q) row) (sym g) (all_of (λ q. AllByRecursion (DivideBy q) row) ys k y h l) in
    subst (λ f. is_zero_fraction (fraction_of y) ≡ false → product f (inverse (fraction_of y)) ≡ Some (mul f (inverse (fraction_of y)))) (sym e)
    (leading_has (λ f. is_zero_fraction (fraction_of y) ≡ false → product f (inverse (fraction_of y)) ≡ Some (mul f (inverse (fraction_of y)))) row all z)

-- the multiplier is 1, or another number
pub scaled_one : (k : Fraction) (b : ℕ) → k ≡ one_fraction → scaled_standing k b ≡ Own b
scaled_one k b e = ap (λ t. if t then Own b else Times k b) (same_test k one_fraction e)

pub scaled_other : (k : Fraction) (b : ℕ) → (k ≡ one_fraction → ⊥) → scaled_standing k b ≡ Times k b
scaled_other k b h = ap (λ t. if t then Own b else Times k b) (other (is_same k one_fraction) (λ t. h (same_from_test k one_fraction t)))
  where
    other : (t : Bool) → (t ≡ true → ⊥) → t ≡ false
    other true h = absurd (h refl)
    other false h = refl
