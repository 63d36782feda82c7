-- How rows stand to the counted ones, as plans of kernels say it
use Rattle.std.proofs.Common.{◌≡◌, ℕ, zero, suc, ◌<◌, List, [], ◌∷◌, ◌++◌, length, map, get_or, Bool, true, false, ◌&&◌, if◌then◌else◌, Option, Some, None, refl, sym, ap, ap₂, ◌∙◌, subst, append_assoc, append-nil, arith}
use Rattle.std.proofs.lemmas.List.{length-append}
use Rattle.algebra.specs.Fraction.{Fraction, is_zero_fraction, mul, mul_comm, mul_one, one_fraction}
use Rattle.algebra.proofs.OrderLaws.{zero_from_test}
use Rattle.kernel_runs.specs.Strips.{AllZero, HasRow, HaveRows}
use Rattle.kernel_runs.specs.declared.entry.Entry.{Entry}
use Rattle.kernel_runs.specs.declared.entry.Entry.TheVariants.{Counted, Multiple, NoRow}
use Rattle.kernel_statements.specs.Counted.{counted_from, counted_rows, counted_with, first_multiple, is_same, is_zero_row, multiplier, scaled_standing, standing, standing_at, standing_of, standings, standings_from, with_row, Standing, Nothing, Own, Times}
use Rattle.kernel_statements.proofs.FoundLaws.{base_of}
use Rattle.kernel_statements.proofs.MultipleLaws.{multiple_is, same_from_test}

pub zero_items : (row : List Fraction) → is_zero_row row ≡ true → AllZero row
zero_items [] e = tt
zero_items (x ∷ xs) e =
    (zero_from_test x (first (is_zero_fraction x) (is_zero_row xs) e), zero_items xs (second (is_zero_fraction x) (is_zero_row xs) e))
  where
    first : (s t : Bool) → s && t ≡ true → s ≡ true
    first true t h = refl
    first false t h = h

    second : (s t : Bool) → s && t ≡ true → t ≡ true
    second true t h = h
    second false t h = absurd (cc)

-- what a row's standing to these rows says of it
abbrev pub Stands : List (List Fraction) → List Fraction → Standing → Type 0
Stands found row Nothing = AllZero row
Stands found row (Own b) = (b < length found) × (get_or found b [] ≡ row)
Stands found row (Times k b) = (b < length found) × (map (mul k) (get_or found b []) ≡ row)

last_of : {A : Type 0} (xs : List A) (x d : A) → get_or (xs ++ x ∷ []) (length xs) d ≡ x
last_of [] x d = refl
last_of (y ∷ ys) x d = last_of ys x d

in_front : {A : Type 0} (xs ys : List A) (k : ℕ) (d : A) → k < length xs → get_or (xs ++ ys) k d ≡ get_or xs k d
in_front [] ys k d l = absurd (omega arith)
in_front (x ∷ xs) ys zero d l = refl
in_front (x ∷ xs) ys (suc k) d l = in_front xs ys k d (omega arith)

one_times : (xs : List Fraction) (k : Fraction) → k ≡ one_fraction → map (mul k) xs ≡ xs
one_times [] k e = refl
one_times (x ∷ xs) k e = ap₂ ◌∷◌ (ap (λ z. mul z x) e ∙ mul_comm one_fraction x ∙ mul_one x) (one_times xs k e)

scaled_stands : (found : List (List Fraction)) (row : List Fraction) (k : Fraction) (b : ℕ) → b < length found → map (mul k) (get_or found b []) ≡ row → Stands found row (scaled_standing k b)
scaled_stands found row k b l e = go (is_same k one_fraction) refl
  where
    go : (t : Bool) → is_same k one_fraction ≡ t → Stands found row (if t then Own b else Times k b)
    go true h = (l, sym (one_times (get_or found b []) k (same_from_test k one_fraction h)) ∙ e)
    go false h = (l, e)

pub stands : (found : List (List Fraction)) (row : List Fraction) → Stands (counted_with found row) row (standing found row)
stands found row = go (is_zero_row row) refl (first_multiple 0 found row) refl
  where
    go : (t : Bool) → is_zero_row row ≡ t → (o : Option ℕ) → first_multiple 0 found row ≡ o
        → Stands (if t then found else with_row o found row) row (if t then Nothing else standing_at o found row)
    go true z o e = zero_items row z
    go false z None e = (subst (λ n. length found < n) (sym (length-append found (row ∷ []))) (omega arith), last_of found row [])
    go false z (Some b) e =
        let base = base_of found row b e in
        scaled_stands found row (multiplier (get_or found b []) row) b base.below (multiple_is (get_or found b []) row base.multiple)

-- of more rows
stands_longer : (found more : List (List Fraction)) (row : List Fraction) (s : Standing) → Stands found row s → Stands (found ++ more) row s
stands_longer found more row Nothing h = h
stands_longer found more row (Own b) h =
    let l = h.0 in (subst (λ n. b < n) (sym (length-append found more)) (omega arith), in_front found more b [] l ∙ h.1)
stands_longer found more row (Times k b) h =
    let l = h.0 in (subst (λ n. b < n) (sym (length-append found more)) (omega arith), ap (map (mul k)) (in_front found more b [] l) ∙ h.1)

with_longer : (found : List (List Fraction)) (row : List Fraction) → (more : List (List Fraction)) × (counted_with found row ≡ found ++ more)
with_longer found row = go (is_zero_row row) (first_multiple 0 found row)
  where
    go : (t : Bool) (o : Option ℕ) → (more : List (List Fraction)) × ((if t then found else with_row o found row) ≡ found ++ more)
    go true o = ([], sym (append-nil found))
    go false None = (row ∷ [], refl)
    go false (Some b) = ([], sym (append-nil found))

from_longer : (found rows : List (List Fraction)) → (more : List (List Fraction)) × (counted_from found rows ≡ found ++ more)
from_longer found [] = ([], sym (append-nil found))
from_longer found (row ∷ rows) =
    let w = with_longer found row in
    let f = from_longer (counted_with found row) rows in
    (w.0 ++ f.0, f.1 ∙ ap (λ xs. xs ++ f.0) w.1 ∙ append_assoc found w.0 f.0)

-- an entry that stands so
row_of : (found : List (List Fraction)) (row : List Fraction) (e : Entry) → Stands found row (standing_of e) → HasRow found e row
row_of found row NoRow h = h
row_of found row (Counted b) h = h.1
row_of found row (Multiple l b) h = h.1

heads : (s t : Standing) (us vs : List Standing) → s ∷ us ≡ t ∷ vs → s ≡ t
heads s t us vs e = cc

tails : (s t : Standing) (us vs : List Standing) → s ∷ us ≡ t ∷ vs → us ≡ vs
tails s t us vs e = cc

here : (found rows : List (List Fraction)) (row : List Fraction) (e : Entry) → standing_of e ≡ standing found row → Stands (counted_from (counted_with found row) rows) row (standing_of e)
here found rows row e h =
    let f = from_longer (counted_with found row) rows in
    subst (λ s. Stands (counted_from (counted_with found row) rows) row s) (sym h)
    (subst (λ fs. Stands fs row (standing found row)) (sym f.1) (stands_longer (counted_with found row) f.0 row (standing found row) (stands found row)))

from_rows : (found rows : List (List Fraction)) (es : List Entry) → map standing_of es ≡ standings_from found rows → HaveRows (counted_from found rows) es rows
from_rows found [] [] h = tt
from_rows found [] (e ∷ es) h = absurd (cc)
from_rows found (row ∷ rows) [] h = absurd (cc)
from_rows found (row ∷ rows) (e ∷ es) h =
    (row_of (counted_from (counted_with found row) rows) row e (here found rows row e (heads _ _ _ _ h)), from_rows (counted_with found row) rows es (tails _ _ _ _ h))

pub standings_rows : (rows : List (List Fraction)) (es : List Entry) → map standing_of es ≡ standings rows → HaveRows (counted_rows rows) es rows
standings_rows rows es h = from_rows [] rows es h

pub standings_count : (rows : List (List Fraction)) (es : List Entry) → map standing_of es ≡ standings rows → length es ≡ length rows
standings_count rows es h = many [] rows es h
  where
    many : (found rows : List (List Fraction)) (es : List Entry) → map standing_of es ≡ standings_from found rows → length es ≡ length rows
    many found [] [] h = refl
    many found [] (e ∷ es) h = absurd (cc)
    many found (row ∷ rows) [] h = absurd (cc)
    many found (row ∷ rows) (e ∷ es) h = ap suc (many (counted_with found row) rows es (tails _ _ _ _ h))
