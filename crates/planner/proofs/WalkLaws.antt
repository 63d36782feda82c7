-- A walk over the rows of a tensor that skips rows that are zero
use Rattle.std.proofs.Common.{◌≡◌, ℕ, zero, suc, ◌+◌, ◌-◌, ◌*◌, ◌<◌, ◌≤◌, ◌⊎◌, inl, inr, Bool, true, false, if◌then◌else◌, Option, Some, None, List, [], ◌∷◌, ◌++◌, length, map, drop, get_or, drop-cons, add-one, refl, sym, ap, ap₂, ◌∙◌, subst, append_assoc, append-nil, arith}
use Rattle.std.specs.List.{AllByRecursion}
use Rattle.std.proofs.lemmas.List.{length-append, length-map, drop_all}
use native.Mathlib.Nat as N
use Rattle.algebra.specs.Fraction.{Fraction, inverse, is_zero_fraction, mul, zero_fraction}
use Rattle.algebra.specs.Steps.{product}
use Rattle.algebra.proofs.InverseLaws.{zero_is_zero}
use Rattle.ratio.specs.declared.reduced.Ratio.{Ratio}
use Rattle.ratio.specs.Value.{fraction_of}
use Rattle.refint.proofs.Lists.{map_append}
use Rattle.tensors.specs.Rows.{fractions_of as row_fractions}
use Rattle.kernel_runs.specs.declared.entry.Entry.{Entry}
use Rattle.kernel_runs.specs.declared.entry.Entry.TheVariants.{Counted, Multiple, NoRow}
use Rattle.kernel_statements.specs.Counted.{Nothing, Standing, counted_from, counted_rows, counted_with, first_multiple, is_zero_row, leading, standing, standing_at, standing_of, standings, standings_from, with_row}
use Rattle.kernel_statements.specs.Found.{HaveQuotients, IsFound}
use Rattle.kernel_statements.specs.Placed.{placed_from, placed_one}
use Rattle.kernel_statements.specs.declared.counted.CountedRows.{CountedRows}
use Rattle.kernel_statements.specs.declared.digits.Nodes.{Nodes}
use Rattle.kernel_statements.specs.declared.entries.PlacedEntry.{PlacedEntry}
use Rattle.kernel_statements.proofs.CountedLaws.{all_with}
use Rattle.kernel_statements.proofs.FoundLaws.{all_of, found_count, get_map}
use Rattle.planner.specs.Contractions.{AreStandings, IsInside, IsOnNodes}

-- ---- the items of all rows can be divided by the first ones of the counted rows
-- by a number, where it isn't 0
abbrev pub Divides : Fraction → Ratio → Type 0
Divides f x = is_zero_fraction f ≡ false → product (fraction_of x) (inverse f) ≡ Some (mul (fraction_of x) (inverse f))

abbrev pub DividesAll : List (List Ratio) → Fraction → Type 0
DividesAll rows f = AllByRecursion (λ xs. AllByRecursion (Divides f) xs) rows

-- each of these numbers is not 0 or divides nothing
divides_none : (rows : List (List Ratio)) → DividesAll rows zero_fraction
divides_none [] = tt
divides_none (xs ∷ rows) = (one xs, divides_none rows)
  where
    clash : true ≡ false → ⊥
    clash e = cc

    apart : {A : Type 0} → is_zero_fraction zero_fraction ≡ false → A
    apart e = absurd (clash (sym zero_is_zero ∙ e))

    one : (xs : List Ratio) → AllByRecursion (Divides zero_fraction) xs
    one [] = tt
    one (x ∷ xs) = (λ e. apart e, one xs)

first_divides : (rows : List (List Ratio)) (xs : List Ratio) → AllByRecursion (λ y. DividesAll rows (fraction_of y)) xs → DividesAll rows (leading (map fraction_of xs))
first_divides rows [] h = divides_none rows
first_divides rows (x ∷ xs) h = go (is_zero_fraction (fraction_of x)) (first_divides rows xs h.1)
  where
    go : (t : Bool) → DividesAll rows (leading (map fraction_of xs)) → DividesAll rows (if t then leading (map fraction_of xs) else fraction_of x)
    go true rest = rest
    go false rest = h.0

-- what one row is divided by divides all rows, read by its items
by_items : (rows : List (List Ratio)) (ys : List Ratio) → AllByRecursion (λ xs. HaveQuotients xs ys) rows → AllByRecursion (λ y. DividesAll rows (fraction_of y)) ys
by_items rows [] h = tt
by_items rows (y ∷ ys) h = (heads rows h, by_items rows ys (tails rows h))
  where
    heads : (rs : List (List Ratio)) → AllByRecursion (λ xs. HaveQuotients xs (y ∷ ys)) rs → DividesAll rs (fraction_of y)
    heads [] h = tt
    heads (r ∷ rs) h = (h.0.0, heads rs h.1)

    tails : (rs : List (List Ratio)) → AllByRecursion (λ xs. HaveQuotients xs (y ∷ ys)) rs → AllByRecursion (λ xs. HaveQuotients xs ys) rs
    tails [] h = tt
    tails (r ∷ rs) h = (h.0.1, tails rs h.1)

-- the items of a row, by the first ones of the counted rows
of_leading : (rows : List (List Ratio)) (k : ℕ) (ys : List Ratio) (fs : List Fraction) → k < length rows → map fraction_of ys ≡ fs → AllByRecursion (DividesAll rows) fs
    → HaveQuotients (get_or rows k []) ys
of_leading rows k [] fs l e h = tt
of_leading rows k (y ∷ ys) [] l e h = absurd (cc)
of_leading rows k (y ∷ ys) (f ∷ fs) l e h = (
  subst (λ g. AllByRecursion (Divides g) (get_or rows k [])) (sym (heads (fraction_of y) f (map fraction_of ys) fs e))
      (all_of (λ xs. AllByRecursion (Divides f) xs) rows k [] h.0 l),
  of_leading rows k ys fs l (tails (fraction_of y) f (map fraction_of ys) fs e) h.1,
)
  where
    heads : (a b : Fraction) (us vs : List Fraction) → a ∷ us ≡ b ∷ vs → a ≡ b
    heads a b us vs e = cc

    tails : (a b : Fraction) (us vs : List Fraction) → a ∷ us ≡ b ∷ vs → us ≡ vs
    tails a b us vs e = cc

-- ---- entries that are placed
pub placed_more : (e : ℕ) (xs : List Entry) (y : Entry) → placed_from e (xs ++ y ∷ []) ≡ placed_from e xs ++ placed_one (e + length xs) y
placed_more e [] y = append-nil (placed_one e y) ∙ ap (λ n. placed_one n y) (none e)
  where
    none : (n : ℕ) → n ≡ n + 0
    none n = omega arith
placed_more e (x ∷ xs) y =
    ap (λ r. placed_one e x ++ r) (placed_more (suc e) xs y ∙ ap (λ n. placed_from (suc e) xs ++ placed_one n y) (next e (length xs)))
    ∙ sym (append_assoc (placed_one e x) (placed_from (suc e) xs) (placed_one (e + suc (length xs)) y))
  where
    next : (e n : ℕ) → suc e + n ≡ e + suc n
    next e n = omega arith

-- ---- the walk: rows of a width, of which k are behind it, with at most t of them counted or placed
pub record Walked (rows : List (List Ratio)) (es : List PlacedEntry) (c : CountedRows) (width k t : ℕ) : Type 0 where
  pub all : List Entry
  pub found : List (List Fraction)
  pub stood : map standing_of all ++ standings_from found (drop k (row_fractions rows)) ≡ standings (row_fractions rows)
  pub left : counted_from found (drop k (row_fractions rows)) ≡ counted_rows (row_fractions rows)
  pub placed : es ≡ placed_from 0 all
  pub size : length all ≡ k
  pub kept : IsFound found c
  pub wide : c.width ≡ width
  pub few : length found ≤ t
  pub entries : length es ≤ t
  pub divided : AllByRecursion (DividesAll rows) (map leading found)

whole : (rows : List (List Ratio)) → drop 0 (row_fractions rows) ≡ row_fractions rows
whole [] = refl
whole (x ∷ rows) = refl

pub walk_begins : (rows : List (List Ratio)) (c : CountedRows) (width t : ℕ) → IsFound [] c → c.width ≡ width → Walked rows [] c width 0 t
walk_begins rows c width t h e = record {
  all = [];
  found = [];
  stood = ap (standings_from []) (whole rows);
  left = ap (counted_from []) (whole rows);
  placed = refl;
  size = refl;
  kept = h;
  wide = e;
  few = omega arith;
  entries = omega arith;
  divided = tt;
}

next_row : (rows : List (List Ratio)) (k : ℕ) → k < length rows
    → drop k (row_fractions rows) ≡ map fraction_of (get_or rows k []) ∷ drop (k + 1) (row_fractions rows)
next_row rows k l =
    let long : k < length (row_fractions rows) = subst (λ n. k < n) (sym (length-map rows (map fraction_of))) l in
    drop-cons (row_fractions rows) k [] long
    ∙ ap₂ (λ r s. r ∷ s) (get_map (map fraction_of) rows k [] [] l) (ap (λ n. drop n (row_fractions rows)) (sym (add-one k)))

stood_more : (all : List Entry) (e : Entry) (s : Standing) (rest : List Standing) → standing_of e ≡ s
    → map standing_of (all ++ e ∷ []) ++ rest ≡ map standing_of all ++ s ∷ rest
stood_more all e s rest h =
    ap (λ r. r ++ rest) (map_append standing_of all (e ∷ [])) ∙ append_assoc (map standing_of all) (standing_of e ∷ []) rest
    ∙ ap (λ x. map standing_of all ++ x ∷ rest) h

module _ (rows : List (List Ratio)) (es : List PlacedEntry) (c : CountedRows) (width k t : ℕ) (w : Walked rows es c width k t) (l : k < length rows) where
  -- a row that is zero
  pub walk_skips : is_zero_row (map fraction_of (get_or rows k [])) ≡ true → Walked rows es c width (k + 1) t
  walk_skips z =
      let row = map fraction_of (get_or rows k []) in
      let rest = drop (k + 1) (row_fractions rows) in
      let nothing : standing w.found row ≡ Nothing = ap (λ b. if b then Nothing else standing_at (first_multiple 0 w.found row) w.found row) z in
      let same : counted_with w.found row ≡ w.found = ap (λ b. if b then w.found else with_row (first_multiple 0 w.found row) w.found row) z in
      record {
        all = w.all ++ NoRow ∷ [];
        found = w.found;
        stood =
            stood_more w.all NoRow Nothing (standings_from w.found rest) refl
            ∙ ap₂ (λ s f. map standing_of w.all ++ s ∷ standings_from f rest) (sym nothing) (sym same)
            ∙ ap (λ r. map standing_of w.all ++ standings_from w.found r) (sym (next_row rows k l)) ∙ w.stood;
        left = ap (λ f. counted_from f rest) (sym same) ∙ ap (counted_from w.found) (sym (next_row rows k l)) ∙ w.left;
        placed = w.placed ∙ sym (append-nil (placed_from 0 w.all)) ∙ sym (placed_more 0 w.all NoRow);
        size = length-append w.all (NoRow ∷ []) ∙ ap (λ n. n + 1) w.size;
        kept = w.kept;
        wide = w.wide;
        few = w.few;
        entries = w.entries;
        divided = w.divided;
      }

  -- what is asked of the next row
  pub walk_own : HaveQuotients (get_or rows k []) c.leading.items
  walk_own = of_leading rows k c.leading.items (map leading w.found) l w.kept.leading w.divided

  pub walk_few : (n : ℕ) → t < n → length c.leading.items < n
  walk_few n h =
      let same = found_count w.found c w.kept in
      let few = w.few in
      omega arith

  -- a row that stands so
  pub walk_steps : (e : Entry) (new : CountedRows) → AllByRecursion (λ ys. AllByRecursion (λ xs. HaveQuotients xs ys) rows) rows
      → standing_of e ≡ standing w.found (map fraction_of (get_or rows k []))
      → IsFound (counted_with w.found (map fraction_of (get_or rows k []))) new → new.width ≡ width
      → Walked rows (es ++ placed_one k e) new width (k + 1) (t + 1)
  walk_steps e new all_divide h found wide =
      let row = map fraction_of (get_or rows k []) in
      let rest = drop (k + 1) (row_fractions rows) in
      let two = length-append es (placed_one k e) in
      let one = placed_few k e in
      let few = counted_few (is_zero_row row) (first_multiple 0 w.found row) w.found row t w.few in
      let before = w.entries in
      record {
        all = w.all ++ e ∷ [];
        found = counted_with w.found row;
        stood =
            stood_more w.all e (standing w.found row) (standings_from (counted_with w.found row) rest) h
            ∙ ap (λ r. map standing_of w.all ++ standings_from w.found r) (sym (next_row rows k l)) ∙ w.stood;
        left = ap (counted_from w.found) (sym (next_row rows k l)) ∙ w.left;
        placed = ap₂ (λ xs n. xs ++ placed_one n e) w.placed (sym w.size ∙ from_zero (length w.all)) ∙ sym (placed_more 0 w.all e);
        size = length-append w.all (e ∷ []) ∙ ap (λ n. n + 1) w.size;
        kept = found;
        wide = wide;
        few = few;
        entries = omega (arith, two, one);
        divided =
            divided_with (is_zero_row row) (first_multiple 0 w.found row) w.found row w.divided
            (first_divides rows (get_or rows k []) (by_items rows (get_or rows k []) (all_of (λ ys. AllByRecursion (λ xs. HaveQuotients xs ys) rows) rows k [] all_divide l)));
      }
    where
      from_zero : (n : ℕ) → n ≡ 0 + n
      from_zero n = omega arith

      placed_few : (k : ℕ) (e : Entry) → length (placed_one k e) ≤ 1
      placed_few k NoRow = omega arith
      placed_few k (Counted b) = omega arith
      placed_few k (Multiple x b) = omega arith

      counted_few : (z : Bool) (o : Option ℕ) (found : List (List Fraction)) (row : List Fraction) (t : ℕ) → length found ≤ t
          → length (if z then found else with_row o found row) ≤ t + 1
      counted_few true o found row t h = omega arith
      counted_few false None found row t h = omega (arith, length-append found (row ∷ []))
      counted_few false (Some b) found row t h = omega arith

      divided_with : (z : Bool) (o : Option ℕ) (found : List (List Fraction)) (row : List Fraction) → AllByRecursion (DividesAll rows) (map leading found)
          → DividesAll rows (leading row) → AllByRecursion (DividesAll rows) (map leading (if z then found else with_row o found row))
      divided_with true o found row h d = h
      divided_with false None found row h d = subst (AllByRecursion (DividesAll rows)) (sym (map_append leading found (row ∷ []))) (all_with (DividesAll rows) (map leading found) (leading row) h d)
      divided_with false (Some b) found row h d = h

-- ---- rows at the nodes, and those between them
abbrev pub IsZeroAt : List (List Ratio) → ℕ → Type 0
IsZeroAt rows k = is_zero_row (map fraction_of (get_or rows k [])) ≡ true

pub walk_over : (rows : List (List Ratio)) (es : List PlacedEntry) (c : CountedRows) (width k n t : ℕ) → k + n ≤ length rows → ((j : ℕ) → j < n → IsZeroAt rows (k + j))
    → Walked rows es c width k t → Walked rows es c width (k + n) t
walk_over rows es c width k zero t l z w = subst (λ i. Walked rows es c width i t) (none k) w
  where
    none : (k : ℕ) → k ≡ k + 0
    none k = omega arith
walk_over rows es c width k (suc n) t l z w =
    subst (λ i. Walked rows es c width i t) (next k n)
    (walk_over rows es c width (k + 1) n t (omega arith) (λ j h. subst (IsZeroAt rows) (sym (next k j)) (z (suc j) (omega arith)))
    (walk_skips rows es c width k t w (omega arith) (subst (IsZeroAt rows) (zero_more k) (z 0 (omega arith)))))
  where
    next : (k n : ℕ) → k + 1 + n ≡ k + suc n
    next k n = omega arith

    zero_more : (k : ℕ) → k + 0 ≡ k
    zero_more k = omega arith

-- in one line of `cols` rows, from b on
module _ (rows : List (List Ratio)) (cols : ℕ) (tests trials : Nodes) (h : IsOnNodes rows cols tests trials) where
  outside_trial : (a b : ℕ) → a * cols + b < length rows → b < cols → (IsInside trials b → ⊥) → IsZeroAt rows (a * cols + b)
  outside_trial a b l m n = elim (h.zeros a b l m) [
    | inl i ↦ absurd (n i.1)
    | inr z ↦ z
  ]

  outside_test : (a b : ℕ) → a * cols + b < length rows → b < cols → (IsInside tests a → ⊥) → IsZeroAt rows (a * cols + b)
  outside_test a b l m n = elim (h.zeros a b l m) [
    | inl i ↦ absurd (n i.0)
    | inr z ↦ z
  ]

  -- before the nodes of the trial function
  pub walk_to : (es : List PlacedEntry) (c : CountedRows) (width a t : ℕ) → a < tests.to → Walked rows es c width (a * cols) t
      → Walked rows es c width (a * cols + trials.from) t
  walk_to es c width a t l w =
      let below : suc a * cols ≤ tests.to * cols = N.mul-le-mul_right cols l in
      let line : suc a * cols ≡ a * cols + cols = omega arith in
      let test = h.test in
      let trial = h.trial in
      let order = h.trial_order in
      walk_over rows es c width (a * cols) trials.from t (omega arith)
      (λ j m. outside_trial a j (omega arith) (omega arith) (λ i. let from = i.0 in absurd (omega arith))) w

  -- and behind them
  pub walk_past : (es : List PlacedEntry) (c : CountedRows) (width a t : ℕ) → a < tests.to → Walked rows es c width (a * cols + trials.to) t
      → Walked rows es c width (suc a * cols) t
  walk_past es c width a t l w =
      let below : suc a * cols ≤ tests.to * cols = N.mul-le-mul_right cols l in
      let line : suc a * cols ≡ a * cols + cols = omega arith in
      let test = h.test in
      let trial = h.trial in
      let end : a * cols + trials.to + (cols - trials.to) ≡ suc a * cols = omega arith in
      let same : (j : ℕ) → a * cols + trials.to + j ≡ a * cols + (trials.to + j) = λ j. omega arith in
      subst (λ i. Walked rows es c width i t) end
      (walk_over rows es c width (a * cols + trials.to) (cols - trials.to) t (omega arith)
      (λ j m. subst (IsZeroAt rows) (sym (same j)) (outside_trial a (trials.to + j) (omega arith) (omega arith) (λ i. let to = i.1 in absurd (omega arith)))) w)

  -- whole lines
  lines : (es : List PlacedEntry) (c : CountedRows) (width a n t : ℕ) → (a + n) * cols ≤ length rows → ((j : ℕ) → j < n → IsInside tests (a + j) → ⊥)
      → Walked rows es c width (a * cols) t → Walked rows es c width ((a + n) * cols) t
  lines es c width a zero t l z w = subst (λ i. Walked rows es c width (i * cols) t) (none a) w
    where
      none : (a : ℕ) → a ≡ a + 0
      none a = omega arith
  lines es c width a (suc n) t l z w =
      let first : a * cols + cols ≡ suc a * cols = omega arith in
      let more : suc a * cols ≤ (a + suc n) * cols = N.mul-le-mul_right cols (small a n) in
      let next : suc a + n ≡ a + suc n = moved a n in
      subst (λ i. Walked rows es c width (i * cols) t) next
      (lines es c width (suc a) n t (subst (λ i. i * cols ≤ length rows) (sym next) l) (λ j m i. z (suc j) (omega arith) (subst (IsInside tests) (moved a j) i))
      (subst (λ i. Walked rows es c width i t) first
      (walk_over rows es c width (a * cols) cols t (omega arith)
      (λ j m. outside_test a j (omega arith) m (λ i. z 0 (omega arith) (subst (IsInside tests) (none a) i))) w)))
    where
      small : (a n : ℕ) → suc a ≤ a + suc n
      small a n = omega arith

      moved : (a n : ℕ) → suc a + n ≡ a + suc n
      moved a n = omega arith

      none : (a : ℕ) → a ≡ a + 0
      none a = omega arith

  -- before the nodes of the test function
  pub walk_from : (c : CountedRows) (width t : ℕ) → IsFound [] c → c.width ≡ width → Walked rows [] c width (tests.from * cols) t
  walk_from c width t found wide =
      let order = h.test_order in
      let below : tests.from * cols ≤ tests.to * cols = N.mul-le-mul_right cols order in
      let test = h.test in
      let start : 0 * cols ≡ 0 = omega arith in
      let whole : 0 + tests.from ≡ tests.from = omega arith in
      subst (λ i. Walked rows [] c width (i * cols) t) whole
      (lines [] c width 0 tests.from t (subst (λ i. i * cols ≤ length rows) (sym whole) (omega arith)) (λ j m i. let from = i.0 in absurd (omega arith))
      (subst (λ i. Walked rows [] c width i t) (sym start) (walk_begins rows c width t found wide)))

  -- behind them no row is left that isn't zero
  pub walk_ends : (es : List PlacedEntry) (c : CountedRows) (width lines_in t : ℕ) → length rows ≡ lines_in * cols → Walked rows es c width (tests.to * cols) t
      → Walked rows es c width (length rows) t
  walk_ends es c width n t e w = elim (enough tests.to n) [
    | inl l ↦ subst (λ i. Walked rows es c width i t) (ap (λ i. i * cols) (reached tests.to n l) ∙ sym e)
        (lines es c width tests.to (n - tests.to) t (subst (λ i. i * cols ≤ length rows) (sym (reached tests.to n l)) (N.le_of_eq (sym e)))
        (λ j m i. let to = i.1 in absurd (omega arith)) w)
    | inr l ↦
        let low : n * cols ≤ tests.to * cols = N.mul-le-mul_right cols l in
        let test = h.test in
        let same : tests.to * cols ≡ length rows = omega arith in
        subst (λ i. Walked rows es c width i t) same w
  ]
    where
      enough : (a b : ℕ) → (a ≤ b) ⊎ (b ≤ a)
      enough a b = grind arith

      reached : (a b : ℕ) → a ≤ b → a + (b - a) ≡ b
      reached a b l = omega arith

-- ---- at the end
pub walk_done : (rows : List (List Ratio)) (es : List PlacedEntry) (c : CountedRows) (width t : ℕ) → Walked rows es c width (length rows) t
    → AreStandings (row_fractions rows) es
walk_done rows es c width t w = (w.all, append_nothing_left ∙ w.stood, w.placed)
  where
    none_left : drop (length rows) (row_fractions rows) ≡ []
    none_left = drop_all (length rows) (row_fractions rows) (N.le_of_eq (length-map rows (map fraction_of)))

    append_nothing_left : map standing_of w.all ≡ map standing_of w.all ++ standings_from w.found (drop (length rows) (row_fractions rows))
    append_nothing_left = sym (append-nil (map standing_of w.all)) ∙ ap (λ r. map standing_of w.all ++ standings_from w.found r) (sym none_left)

pub walk_counted : (rows : List (List Ratio)) (es : List PlacedEntry) (c : CountedRows) (width t : ℕ) → Walked rows es c width (length rows) t
    → IsFound (counted_rows (row_fractions rows)) c
walk_counted rows es c width t w = subst (λ found. IsFound found c) (ap (counted_from w.found) (sym none_left) ∙ w.left) w.kept
  where
    none_left : drop (length rows) (row_fractions rows) ≡ []
    none_left = drop_all (length rows) (row_fractions rows) (N.le_of_eq (length-map rows (map fraction_of)))

-- ---- one turn of the walk
pub place_below : (rows : List (List Ratio)) (cols : ℕ) (tests trials : Nodes) → IsOnNodes rows cols tests trials → (a b : ℕ) → a < tests.to → b < trials.to → a * cols + b < length rows
place_below rows cols tests trials h a b p q =
    let below : suc a * cols ≤ tests.to * cols = N.mul-le-mul_right cols p in
    let line : suc a * cols ≡ a * cols + cols = omega arith in
    let test = h.test in
    let trial = h.trial in
    omega arith

-- fewer turns than nodes
pub turns_below : (a b x y n : ℕ) → a < x → b < y → x * y ≤ n → a * y + b < n
turns_below a b x y n p q h =
    let most : suc a * y ≤ x * y = N.mul-le-mul_right y p in
    let line : suc a * y ≡ a * y + y = omega arith in
    omega arith

pub walk_weakens : (rows : List (List Ratio)) (es : List PlacedEntry) (c : CountedRows) (width k t u : ℕ) → t ≤ u → Walked rows es c width k t → Walked rows es c width k u
walk_weakens rows es c width k t u h w = record {
  all = w.all;
  found = w.found;
  stood = w.stood;
  left = w.left;
  placed = w.placed;
  size = w.size;
  kept = w.kept;
  wide = w.wide;
  few = N.le_trans w.few h;
  entries = N.le_trans w.entries h;
  divided = w.divided;
}

pub next_walked : (rows : List (List Ratio)) (es : List PlacedEntry) (c : CountedRows) (width a cols b t x y : ℕ) → y ≤ x
    → Walked rows es c width (a * cols + b + 1) (t + (x - y) + 1) → Walked rows es c width (a * cols + (b + 1)) (t + (x + 1 - y))
next_walked rows es c width a cols b t x y l w =
    subst (λ n. Walked rows es c width n (t + (x + 1 - y))) (place (a * cols) b)
    (walk_weakens rows es c width (a * cols + b + 1) (t + (x - y) + 1) (t + (x + 1 - y)) (turn t x y l) w)
  where
    place : (n b : ℕ) → n + b + 1 ≡ n + (b + 1)
    place n b = omega arith

    turn : (t x y : ℕ) → y ≤ x → t + (x - y) + 1 ≤ t + (x + 1 - y)
    turn t x y l = omega arith

pub line_turns : (x y w b c : ℕ) → y ≤ x → b ≤ c → (x - y) * (c - w) + (b - w) ≤ (x + 1 - y) * (c - w)
line_turns x y w b c h g =
    let one : x + 1 - y ≡ suc (x - y) = omega arith in
    let more : suc (x - y) * (c - w) ≡ (x - y) * (c - w) + (c - w) = omega arith in
    subst (λ n. (x - y) * (c - w) + (b - w) ≤ n * (c - w)) (sym one) (omega arith)

-- what is placed of an entry
pub placed_row : (k : ℕ) (e : Entry) → (e ≡ NoRow → ⊥) → placed_one k e ≡ record { entry = k; stands = e } ∷ []
placed_row k NoRow h = absurd (h refl)
placed_row k (Counted b) h = refl
placed_row k (Multiple l b) h = refl

pub placed_nothing : (k : ℕ) (e : Entry) → e ≡ NoRow → placed_one k e ≡ []
placed_nothing k e h = ap (placed_one k) h
