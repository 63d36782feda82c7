-- The rows of the local tensors of all cells
use Rattle.std.proofs.Common.{◌≡◌, ◌≢◌, ℕ, zero, suc, ◌+◌, ◌-◌, ◌*◌, ◌<◌, ◌≤◌, ◌==◌, Bool, true, false, List, [], ◌∷◌, ◌++◌, Option, Some, None, if◌then◌else◌, refl, sym, ◌∙◌, ap, ap₂, arith, subst, length, get_or, take, drop, add-one, drop-cons, option_map, is_some}
use Rattle.std.proofs.lemmas.Bool.Decides.{nat_tests}
use Rattle.std.proofs.lemmas.List.{drop-drop, take-take, drop-take, take-map, drop-map, drop_all}
use Rattle.std.proofs.lemmas.List.Elements.{filter-append}
use Rattle.std.proofs.lemmas.Grind.{flat_map-append}
use Rattle.ratio.specs.Value.{valued}
use Rattle.std.specs.List.{flat_map, AllByRecursion, IsDistinct}
use Rattle.algebra.specs.Fraction.{Fraction}
use Rattle.ratio.specs.Value.{fraction_of}
use Rattle.ratio.specs.declared.reduced.Ratio.{Ratio}
use Rattle.c_unit.specs.Meaning.{fractions_of}
use Rattle.dofs.specs.Rows.{Numbering}
use Rattle.dofs.specs.Places.{places_on, places_from, row_places}
use Rattle.dofs.specs.declared.places.RowPlace.{RowPlace}
use Rattle.assembly.specs.Sums.{Entry, values_at, added}
use Rattle.assembly.specs.Kept.{resumed}
use Rattle.assembly.specs.Local.{row_entries, local_entries}
use Rattle.assembly.specs.Assembly.{argument_rows, row_count, entries_from, cell_entries, IsMapOf}
use Rattle.assembly.specs.RowSums.{Kept, AddsInRow, AreListed}
use Rattle.assembly.specs.Stored.{AreAllRows, of_row, cell_places, places_in, place_entries, AreSummed}
use Rattle.assembly.proofs.RowSumsLaws.{then_in_row, nothing_in_row}

pub adds_as : (row : ℕ) (cs ds : List ℕ) (xs ys : List Fraction) (old new : Kept) → cs ≡ ds → ys ≡ xs → AddsInRow row (row_entries row ds ys) old new → AddsInRow row (row_entries row cs xs) old new
adds_as row cs ds xs ys old new e f a =
    subst (λ (zs : List Fraction). AddsInRow row (row_entries row cs zs) old new) f (subst (λ (es : List ℕ). AddsInRow row (row_entries row es ys) old new) (sym e) a)

-- ---- the entries of one row

own_test : (n : ℕ) → (n == n) ≡ true
own_test n = grind (arith, nat_tests)

own_kept : (row : ℕ) (cs : List ℕ) (xs : List Fraction) → of_row row (row_entries row cs xs) ≡ row_entries row cs xs
own_kept row [] xs = refl
own_kept row (c ∷ cs) [] = refl
own_kept row (c ∷ cs) (x ∷ xs) = rw (own_test row) (ap (λ (es : List Entry). record { row = row; col = c; value = x } ∷ es) (own_kept row cs xs))

others_out : (row r : ℕ) (cs : List ℕ) (xs : List Fraction) → (r == row) ≡ false → of_row row (row_entries r cs xs) ≡ []
others_out row r [] xs e = refl
others_out row r (c ∷ cs) [] e = refl
others_out row r (c ∷ cs) (x ∷ xs) e = rw e (others_out row r cs xs e)

one_local : (row r : ℕ) (cs : List ℕ) (xs : List Fraction) (f : RowPlace → List Entry) (p : RowPlace) (ps : List RowPlace) (b : Bool) → (r == row) ≡ b → f p ≡ row_entries row cs xs
    → of_row row (row_entries r cs xs) ++ flat_map f ps ≡ flat_map f (if b then p ∷ ps else ps)
one_local row r cs xs f p ps true t e =
    let k : r ≡ row = grind (arith, nat_tests) in
    ap (λ (es : List Entry). es ++ flat_map f ps) (ap (λ m. of_row row (row_entries m cs xs)) k ∙ own_kept row cs xs ∙ sym e)
one_local row r cs xs f p ps false t e = ap (λ (es : List Entry). es ++ flat_map f ps) (others_out row r cs xs t)

later_rows : (a n : ℕ) (ys : List Fraction) → drop n (drop (a * n) ys) ≡ drop (suc a * n) ys
later_rows a n ys = let e : a * n + n ≡ suc a * n = omega arith in drop-drop n (a * n) ys ∙ ap (λ m. drop m ys) e

local_in_row : (cols : Option Numbering) (tensor : ℕ → List Fraction) (row k a : ℕ) (rs : List ℕ)
    → of_row row (local_entries rs (argument_rows cols k) (drop (a * length (argument_rows cols k)) (tensor k)))
    ≡ flat_map (place_entries cols tensor (length (argument_rows cols k)) row) (places_on row k a rs)
local_in_row cols tensor row k a [] = refl
local_in_row cols tensor row k a (r ∷ rs) =
    let n = length (argument_rows cols k) in
    let xs = take n (drop (a * n) (tensor k)) in
    let f = place_entries cols tensor n row in
    filter-append (λ (e : Entry). e.row == row) (row_entries r (argument_rows cols k) xs) (local_entries rs (argument_rows cols k) (drop n (drop (a * n) (tensor k))))
    ∙ ap (λ (es : List Entry). of_row row (row_entries r (argument_rows cols k) xs) ++ es)
    (ap (λ ys. of_row row (local_entries rs (argument_rows cols k) ys)) (later_rows a n (tensor k)) ∙ local_in_row cols tensor row k (suc a) rs)
    ∙ one_local row r (argument_rows cols k) xs f (record { cell = k; local = a }) (places_on row k (suc a) rs) (r == row) refl refl

zero_left : (k : ℕ) → k - k ≡ 0
zero_left k = omega arith

less_zero : (j : ℕ) → j - 0 ≡ j
less_zero j = omega arith

one_right : (j k : ℕ) → suc k ≤ j → j - k ≡ suc (j - suc k)
one_right j k h = omega arith

one_less : (cells k : ℕ) → k < cells → cells - k ≡ suc (cells - (k + 1))
one_less cells k h = omega arith

add-one-is : (k : ℕ) → k + 1 ≡ suc k
add-one-is k = omega arith

all_values : (n : ℕ) (ys : List Fraction) → ys ≡ drop (zero * n) ys
all_values n ys = let e : zero * n ≡ 0 = omega arith in ap (λ m. drop m ys) (sym e)

other_test : (m row r : ℕ) → (m == row) ≡ true → r ≢ row → (m == r) ≡ false
other_test m row r t n = grind (arith, nat_tests)

cells_in_row : (rows cols : Option Numbering) (tensor : ℕ → List Fraction) (width row k n : ℕ) (lists : List (List ℕ)) → length lists ≡ n
    → ((j : ℕ) → k ≤ j → j < k + n → argument_rows rows j ≡ get_or lists (j - k) [])
    → ((j : ℕ) → k ≤ j → j < k + n → length (argument_rows cols j) ≡ width)
    → of_row row (entries_from rows cols tensor k n) ≡ flat_map (place_entries cols tensor width row) (places_from row k lists)
cells_in_row rows cols tensor width row k zero [] e f g = refl
cells_in_row rows cols tensor width row k zero (l ∷ ls) e f g = absurd (omega (arith, e))
cells_in_row rows cols tensor width row k (suc n) [] e f g = absurd (omega (arith, e))
cells_in_row rows cols tensor width row k (suc n) (l ∷ ls) e f g =
    let F = place_entries cols tensor width row in
    let own : argument_rows rows k ≡ l = f k (omega arith) (omega arith) ∙ ap (λ i. get_or (l ∷ ls) i []) (zero_left k) in
    let first : of_row row (cell_entries rows cols tensor k) ≡ flat_map F (places_on row k zero l)
    = ap (λ rs. of_row row (local_entries rs (argument_rows cols k) (tensor k))) own
    ∙ ap (λ ys. of_row row (local_entries l (argument_rows cols k) ys)) (all_values (length (argument_rows cols k)) (tensor k))
    ∙ local_in_row cols tensor row k zero l
    ∙ ap (λ w. flat_map (place_entries cols tensor w row) (places_on row k zero l)) (g k (omega arith) (omega arith)) in
    let rest : of_row row (entries_from rows cols tensor (suc k) n) ≡ flat_map F (places_from row (suc k) ls)
    = cells_in_row rows cols tensor width row (suc k) n ls (omega (arith, e))
    (λ j a b. f j (omega arith) (omega arith) ∙ ap (λ i. get_or (l ∷ ls) i []) (one_right j k a))
    (λ j a b. g j (omega arith) (omega arith)) in
    filter-append (λ (e : Entry). e.row == row) (cell_entries rows cols tensor k) (entries_from rows cols tensor (suc k) n)
    ∙ ap₂ ◌++◌ first rest
    ∙ sym (flat_map-append F (places_on row k zero l) (places_from row (suc k) ls))

at_index : {X : Type 0} (P : X → Type 0) (xs : List X) (i : ℕ) (d : X) → AllByRecursion P xs → i < length xs → P (get_or xs i d)
at_index P [] i d a h = absurd (omega arith)
at_index P (x ∷ xs) zero d a h = a.0
at_index P (x ∷ xs) (suc i) d a h = at_index P xs i d a.1 (omega arith)

pub width_at : (cells width : ℕ) (cols : Option Numbering) (j : ℕ) → IsMapOf cells width cols → j < cells → length (argument_rows cols j) ≡ width
width_at cells width None j m h = sym m
width_at cells width (Some n) j m h = at_index (λ (rows : List ℕ). length rows ≡ width) n.cells j [] m.1 (omega (arith, m.0))

abbrev one_each : ℕ → List (List ℕ)
one_each zero = []
one_each (suc n) = (0 ∷ []) ∷ one_each n

length-one_each : (n : ℕ) → length (one_each n) ≡ n
length-one_each zero = refl
length-one_each (suc n) = ap suc (length-one_each n)

one_each_at : (n j : ℕ) → j < n → 0 ∷ [] ≡ get_or (one_each n) j []
one_each_at zero j h = absurd (omega arith)
one_each_at (suc n) zero h = refl
one_each_at (suc n) (suc j) h = one_each_at n j (omega arith)

first_places : (k n : ℕ) → places_from 0 k (one_each n) ≡ cell_places k n
first_places k zero = refl
first_places k (suc n) = ap (λ (ps : List RowPlace). record { cell = k; local = 0 } ∷ ps) (first_places (suc k) n)

-- the values of a row, place after place
pub in_row_is : (rows cols : Option Numbering) (tensor : ℕ → List Fraction) (cells height width row : ℕ) → IsMapOf cells height rows → IsMapOf cells width cols → row < row_count rows
    → of_row row (entries_from rows cols tensor 0 cells) ≡ flat_map (place_entries cols tensor width row) (places_in rows cells row)
in_row_is None cols tensor cells height width row m w h =
    let z : row ≡ 0 = omega arith in
    cells_in_row None cols tensor width row 0 cells (one_each cells) (length-one_each cells) (λ j a b. one_each_at cells j (omega arith) ∙ ap (λ i. get_or (one_each cells) i []) (sym (less_zero j)))
    (λ j a b. width_at cells width cols j w (omega arith))
    ∙ ap (flat_map (place_entries cols tensor width row)) (ap (λ r. places_from r 0 (one_each cells)) z ∙ first_places 0 cells)
in_row_is (Some n) cols tensor cells height width row m w h =
    cells_in_row (Some n) cols tensor width row 0 cells n.cells m.0 (λ j a b. ap (λ i. get_or n.cells i []) (sym (less_zero j)))
    (λ j a b. width_at cells width cols j w (omega arith))

-- ---- rows that are none

no_first : (row k n : ℕ) → 1 ≤ row → places_from row k (one_each n) ≡ []
no_first row k zero h = refl
no_first row k (suc n) h = let t : (0 == row) ≡ false = grind (arith, nat_tests) in rw t (no_first row (suc k) n h)

pub none_of_row : (rows cols : Option Numbering) (tensor : ℕ → List Fraction) (cells height width row : ℕ) → IsMapOf cells height rows → IsMapOf cells width cols → AreAllRows rows → row_count rows ≤ row
    → of_row row (entries_from rows cols tensor 0 cells) ≡ []
none_of_row None cols tensor cells height width row m w all h =
    cells_in_row None cols tensor width row 0 cells (one_each cells) (length-one_each cells) (λ j a b. one_each_at cells j (omega arith) ∙ ap (λ i. get_or (one_each cells) i []) (sym (less_zero j)))
    (λ j a b. width_at cells width cols j w (omega arith))
    ∙ ap (flat_map (place_entries cols tensor width row)) (no_first row 0 cells h)
none_of_row (Some n) cols tensor cells height width row m w all h =
    cells_in_row (Some n) cols tensor width row 0 cells n.cells m.0 (λ j a b. ap (λ i. get_or n.cells i []) (sym (less_zero j)))
    (λ j a b. width_at cells width cols j w (omega arith))
    ∙ ap (flat_map (place_entries cols tensor width row)) (all row h)

-- ---- where the places of a row are

abbrev pub IsWithin : ℕ → ℕ → RowPlace → Type 0
IsWithin cells height p = (p.cell < cells) × (p.local < height)

pub all_both : {X : Type 0} (P : X → Type 0) (xs ys : List X) → AllByRecursion P xs → AllByRecursion P ys → AllByRecursion P (xs ++ ys)
all_both P [] ys a b = b
all_both P (x ∷ xs) ys a b = (a.0, all_both P xs ys a.1 b)

all_if : (P : RowPlace → Type 0) (b : Bool) (p : RowPlace) (ps : List RowPlace) → P p → AllByRecursion P ps → AllByRecursion P (if b then p ∷ ps else ps)
all_if P true p ps h a = (h, a)
all_if P false p ps h a = a

within_cell : (cells height row k a : ℕ) (rs : List ℕ) → k < cells → a + length rs ≤ height → AllByRecursion (IsWithin cells height) (places_on row k a rs)
within_cell cells height row k a [] h e = tt
within_cell cells height row k a (r ∷ rs) h e =
    all_if (IsWithin cells height) (r == row) (record { cell = k; local = a }) (places_on row k (suc a) rs) (h, omega arith) (within_cell cells height row k (suc a) rs h (omega arith))

within_cells : (cells height row k : ℕ) (lists : List (List ℕ)) → AllByRecursion (λ (l : List ℕ). length l ≡ height) lists → k + length lists ≤ cells → AllByRecursion (IsWithin cells height) (places_from row k lists)
within_cells cells height row k [] a e = tt
within_cells cells height row k (l ∷ ls) a e =
    all_both (IsWithin cells height) (places_on row k zero l) (places_from row (suc k) ls)
    (within_cell cells height row k zero l (omega arith) (omega (arith, a.0)))
    (within_cells cells height row (suc k) ls a.1 (omega arith))

pub place_within : (cells height row : ℕ) (n : Numbering) (ps : List RowPlace) (i : ℕ) (d : RowPlace) → IsMapOf cells height (Some n) → ps ≡ row_places row n.cells → i < length ps → IsWithin cells height (get_or ps i d)
place_within cells height row n ps i d m e h =
    at_index (IsWithin cells height) ps i d (subst (AllByRecursion (IsWithin cells height)) (sym e) (within_cells cells height row 0 n.cells m.1 (omega (arith, m.0)))) h

-- ---- one place after the other

pub place_more : (row : ℕ) (f : RowPlace → List Entry) (ps : List RowPlace) (i : ℕ) (d : RowPlace) (a b new : Kept) → i < length ps
    → AddsInRow row (f (get_or ps i d)) a b → AddsInRow row (flat_map f (drop (i + 1) ps)) b new → AddsInRow row (flat_map f (drop i ps)) a new
place_more row f ps i d a b new h first later =
    let P : List Entry → Type 0 = λ es. AddsInRow row es a new in
    let e : flat_map f (drop i ps) ≡ f (get_or ps i d) ++ flat_map f (drop (i + 1) ps) = rw (add-one, drop-cons ps i d) refl in
    subst P (sym e) (then_in_row row (f (get_or ps i d)) (flat_map f (drop (i + 1) ps)) a b new first later)

pub place_end : (row : ℕ) (f : RowPlace → List Entry) (ps : List RowPlace) (i : ℕ) (a : Kept) → length ps ≤ i → AddsInRow row (flat_map f (drop i ps)) a a
place_end row f ps i a h =
    let P : List RowPlace → Type 0 = λ qs. AddsInRow row (flat_map f qs) a a in
    subst P (sym (drop_all i ps h)) (nothing_in_row row a)

pub cell_more : (row : ℕ) (f : RowPlace → List Entry) (k cells : ℕ) (a b new : Kept) → k < cells
    → AddsInRow row (f (record { cell = k; local = 0 })) a b → AddsInRow row (flat_map f (cell_places (k + 1) (cells - (k + 1)))) b new → AddsInRow row (flat_map f (cell_places k (cells - k))) a new
cell_more row f k cells a b new h first later =
    let P : List RowPlace → Type 0 = λ ps. AddsInRow row (flat_map f ps) a new in
    let e : cell_places k (cells - k) ≡ record { cell = k; local = 0 } ∷ cell_places (k + 1) (cells - (k + 1))
    = ap (cell_places k) (one_less cells k h) ∙ ap (λ j. record { cell = k; local = 0 } ∷ cell_places j (cells - (k + 1))) (sym (add-one-is k)) in
    subst P (sym e) (then_in_row row (f (record { cell = k; local = 0 })) _ a b new first later)

pub cell_end : (row : ℕ) (f : RowPlace → List Entry) (k cells : ℕ) (a : Kept) → cells ≤ k → AddsInRow row (flat_map f (cell_places k (cells - k))) a a
cell_end row f k cells a h =
    let P : ℕ → Type 0 = λ n. AddsInRow row (flat_map f (cell_places k n)) a a in
    let e : cells - k ≡ 0 = omega arith in
    subst P (sym e) (nothing_in_row row a)

-- ---- the sums are those of the row's values

other_row : (row r c : ℕ) (values : List Entry) → r ≢ row → values_at (of_row row values) r c ≡ []
other_row row r c [] n = refl
other_row row r c (e ∷ es) n = one_other row r c e (of_row row es) (e.row == row) refl n (other_row row r c es n)
  where
    one_other : (row r c : ℕ) (e : Entry) (es : List Entry) (b : Bool) → (e.row == row) ≡ b → r ≢ row → values_at es r c ≡ [] → values_at (if b then e ∷ es else es) r c ≡ []
    one_other row r c e es true t n h = let f : (e.row == r) ≡ false = other_test e.row row r t n in rw f h
    one_other row r c e es false t n h = h

append_none : (es : List Entry) → es ++ [] ≡ es
append_none [] = refl
append_none (e ∷ es) = ap (λ xs. e ∷ xs) (append_none es)

pub summed : (row : ℕ) (values : List Entry) (old new : Kept) → ((c : ℕ) → get_or old c None ≡ None) → AddsInRow row (of_row row values) old new → AreSummed row (of_row row values) new
summed row values old new none a = record {
  own = λ r c n. other_row row r c values n;
  totals = λ c. a c [] ∙ ap (λ (o : Option (Option Ratio)). resumed (option_map valued o) (values_at (of_row row values ++ []) row c)) (none c)
      ∙ ap (λ es. added (values_at es row c)) (append_none (of_row row values));
}

-- ---- one local row

fits_row : (local height width : ℕ) → local < height → (m : ℕ) × ((local * width + m ≡ height * width) × (width ≤ m))
fits_row local height width h =
    let r = height - (local + 1) in
    let e : height ≡ local + 1 + r = omega arith in
    let f : local * width + (width + r * width) ≡ (local + 1 + r) * width = omega arith in
    (width + r * width, (f ∙ ap (λ k. k * width) (sym e), omega arith))

pub local_is : (values rest row : List Ratio) (cell size local width height : ℕ) → rest ≡ drop (cell * size + local * width) values → row ≡ take width rest → size ≡ height * width → local < height
    → fractions_of row ≡ take width (drop (local * width) (take size (drop (cell * size) (fractions_of values))))
local_is values rest row cell size local width height e f g h =
    let m = fits_row local height width h in
    let xs = fractions_of values in
    let whole : take width (drop (local * width) (take size (drop (cell * size) xs))) ≡ take width (drop (cell * size + local * width) xs)
    = ap (λ n. take width (drop (local * width) (take n (drop (cell * size) xs)))) (g ∙ sym m.1.0)
    ∙ ap (take width) (drop-take (local * width) m.0 (drop (cell * size) xs))
    ∙ take-take width m.0 (drop (local * width) (drop (cell * size) xs)) m.1.1
    ∙ ap (take width) (drop-drop (local * width) (cell * size) xs) in
    ap fractions_of (f ∙ ap (take width) e) ∙ sym (take-map fraction_of width (drop (cell * size + local * width) values)) ∙ ap (take width) (sym (drop-map fraction_of (cell * size + local * width) values)) ∙ sym whole

pub adds_same : (row : ℕ) (es fs : List Entry) (old new : Kept) → es ≡ fs → AddsInRow row fs old new → AddsInRow row es old new
adds_same row es fs old new e a = subst (λ (gs : List Entry). AddsInRow row gs old new) (sym e) a

pub clear_listed : (sums : Kept) (ts : List ℕ) → ts ≡ [] → ((c : ℕ) → get_or sums c None ≡ None) → AreListed sums ts
unfolding IsDistinct
clear_listed sums ts e none = subst (AreListed sums) (sym e) (record { distinct = tt; listed = λ c. ap is_some (sym (none c)) })

pub all_cells : (row : ℕ) (f : RowPlace → List Entry) (cells : ℕ) (a new : Kept) → AddsInRow row (flat_map f (cell_places 0 (cells - 0))) a new → AddsInRow row (flat_map f (cell_places 0 cells)) a new
all_cells row f cells a new h = subst (λ (n : ℕ). AddsInRow row (flat_map f (cell_places 0 n)) a new) (less_zero cells) h

-- tensors that are equal on these cells give the same entries
pub entries_same : (rows cols : Option Numbering) (f g : ℕ → List Fraction) (k n : ℕ) → ((j : ℕ) → k ≤ j → j < k + n → f j ≡ g j) → entries_from rows cols f k n ≡ entries_from rows cols g k n
entries_same rows cols f g k zero h = refl
entries_same rows cols f g k (suc n) h =
    ap₂ ◌++◌ (ap (local_entries (argument_rows rows k) (argument_rows cols k)) (h k (omega arith) (omega arith))) (entries_same rows cols f g (suc k) n (λ j a b. h j (omega arith) (omega arith)))
