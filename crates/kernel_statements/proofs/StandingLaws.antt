-- The entries of a tensor name its counted rows, and those that are placed are all that add something
use Rattle.std.proofs.Common.{◌≡◌, ℕ, zero, suc, ◌+◌, ◌*◌, ◌<◌, ◌≤◌, ◌^◌, Bool, true, false, if◌then◌else◌, Option, Some, None, List, [], ◌∷◌, ◌++◌, length, map, take, drop, get_or, refl, sym, ap, ap₂, ◌∙◌, subst, add-one, arith}
use Rattle.std.specs.List.{AllByRecursion, flat_map}
use Rattle.std.proofs.Math.Seq.{take-append_seam}
use Rattle.std.proofs.lemmas.List.{length-append}
use Rattle.algebra.specs.Fraction.{Fraction, one_fraction}
use Rattle.c_unit.specs.declared.unit.CStmt.{CStmt}
use Rattle.kernel_runs.specs.Strips.{EntriesWithin}
use Rattle.kernel_runs.specs.Counts.{entries_count}
use Rattle.kernel_runs.specs.Planned.{entries_code, entry_code}
use Rattle.kernel_runs.specs.declared.entry.Entry.{Entry}
use Rattle.kernel_runs.specs.declared.entry.Entry.TheVariants.{NoRow, Counted, Multiple}
use Rattle.kernel_statements.specs.Counted.{Nothing, Own, Standing, Times, counted_from, counted_rows, counted_with, first_multiple, is_same, is_zero_row, multiplier, scaled_standing, standing, standing_at, standing_of, standings, standings_from, with_row}
use Rattle.kernel_statements.specs.Emitted.{cut}
use Rattle.kernel_statements.specs.Placed.{HasSlot, placed_code, placed_from}
use Rattle.kernel_statements.specs.declared.entries.PlacedEntry.{PlacedEntry}
use Rattle.kernel_statements.proofs.CountedLaws.{all_with, found_multiple}

-- ---- standings name rows that are counted
abbrev pub StandsWithin : ℕ → Standing → Type 0
StandsWithin n Nothing = Unit {0}
StandsWithin n (Own b) = b < n
StandsWithin n (Times k b) = b < n

counted_more : (z : Bool) (o : Option ℕ) (found : List (List Fraction)) (row : List Fraction) → length found ≤ length (if z then found else with_row o found row)
counted_more true o found row = omega arith
counted_more false None found row = omega (arith, length-append found (row ∷ []))
counted_more false (Some b) found row = omega arith

from_more : (found rows : List (List Fraction)) → length found ≤ length (counted_from found rows)
from_more found [] = omega arith
from_more found (row ∷ rows) =
    let one = counted_more (is_zero_row row) (first_multiple 0 found row) found row in
    let all = from_more (counted_with found row) rows in
    omega arith

scaled_within : (same : Bool) (n b : ℕ) (k : Fraction) → b < n → StandsWithin n (if same then Own b else Times k b)
scaled_within true n b k h = h
scaled_within false n b k h = h

one_within : (z : Bool) (o : Option ℕ) (found : List (List Fraction)) (row : List Fraction) (n : ℕ) → ((k : ℕ) → o ≡ Some k → k < length found)
    → length (if z then found else with_row o found row) ≤ n → StandsWithin n (if z then Nothing else standing_at o found row)
one_within true o found row n h l = tt
one_within false None found row n h l = omega (arith, length-append found (row ∷ []))
one_within false (Some b) found row n h l =
    let below = h b refl in
    scaled_within (is_same (multiplier (get_or found b []) row) one_fraction) n b (multiplier (get_or found b []) row) (omega arith)

named_below : (found : List (List Fraction)) (row : List Fraction) (k : ℕ) → first_multiple 0 found row ≡ Some k → k < length found
named_below found row k e = let r = found_multiple 0 found row k e in omega (arith, r.1, r.2.below)

standings_within : (found rows : List (List Fraction)) → AllByRecursion (StandsWithin (length (counted_from found rows))) (standings_from found rows)
standings_within found [] = tt
standings_within found (row ∷ rows) = (
  one_within (is_zero_row row) (first_multiple 0 found row) found row _ (named_below found row) (from_more (counted_with found row) rows),
  standings_within (counted_with found row) rows,
)

each_within : (n : ℕ) (all : List Entry) → AllByRecursion (StandsWithin n) (map standing_of all) → EntriesWithin n all
each_within n [] h = tt
each_within n (NoRow ∷ all) h = (tt, each_within n all h.1)
each_within n (Counted b ∷ all) h = (h.0, each_within n all h.1)
each_within n (Multiple l b ∷ all) h = (h.0, each_within n all h.1)

pub entries_within : (rows : List (List Fraction)) (all : List Entry) → map standing_of all ≡ standings rows → EntriesWithin (length (counted_rows rows)) all
entries_within rows all e = each_within (length (counted_rows rows)) all (subst (AllByRecursion (StandsWithin (length (counted_rows rows)))) (sym e) (standings_within [] rows))

standings_length : (found rows : List (List Fraction)) → length (standings_from found rows) ≡ length rows
standings_length found [] = refl
standings_length found (row ∷ rows) = ap suc (standings_length (counted_with found row) rows)

map_length : {A B : Type 0} (f : A → B) (xs : List A) → length (map f xs) ≡ length xs
map_length f [] = refl
map_length f (x ∷ xs) = ap suc (map_length f xs)

-- one for each row
pub entries_length : (rows : List (List Fraction)) (all : List Entry) → map standing_of all ≡ standings rows → length all ≡ length rows
entries_length rows all e = sym (map_length standing_of all) ∙ ap length e ∙ standings_length [] rows

-- ---- entries that are placed
pub placed_slots : (values n e : ℕ) (all : List Entry) → values + n ≤ 2 ^ 32 → EntriesWithin n all → AllByRecursion (λ p. HasSlot values p.stands) (placed_from e all)
placed_slots values n e [] h w = tt
placed_slots values n e (NoRow ∷ all) h w = placed_slots values n (suc e) all h w.1
placed_slots values n e (Counted b ∷ all) h w = (omega (arith, w.0), placed_slots values n (suc e) all h w.1)
placed_slots values n e (Multiple l b ∷ all) h w = (omega (arith, w.0), placed_slots values n (suc e) all h w.1)

pub placed_length : (e : ℕ) (all : List Entry) → length (placed_from e all) ≤ length all
placed_length e [] = omega arith
placed_length e (NoRow ∷ all) = let h = placed_length (suc e) all in omega arith
placed_length e (Counted b ∷ all) = let h = placed_length (suc e) all in omega arith
placed_length e (Multiple l b ∷ all) = let h = placed_length (suc e) all in omega arith

-- their statements are those of all entries
pub placed_is : (scratch values e : ℕ) (all : List Entry) → placed_code scratch values (placed_from e all) ≡ entries_code scratch values e all
placed_is scratch values e [] = refl
placed_is scratch values e (NoRow ∷ all) = placed_is scratch values (suc e) all ∙ ap (λ n. entries_code scratch values n all) (sym (add-one e))
placed_is scratch values e (Counted b ∷ all) =
    ap (λ r. entry_code scratch values e (Counted b) ++ r) (placed_is scratch values (suc e) all ∙ ap (λ n. entries_code scratch values n all) (sym (add-one e)))
placed_is scratch values e (Multiple l b ∷ all) =
    ap (λ r. entry_code scratch values e (Multiple l b) ++ r) (placed_is scratch values (suc e) all ∙ ap (λ n. entries_code scratch values n all) (sym (add-one e)))

-- ---- what holds of each row holds of the counted ones
with_all : (P : List Fraction → Type 0) (z : Bool) (o : Option ℕ) (found : List (List Fraction)) (row : List Fraction) → AllByRecursion P found → P row
    → AllByRecursion P (if z then found else with_row o found row)
with_all P true o found row h p = h
with_all P false None found row h p = all_with P found row h p
with_all P false (Some b) found row h p = h

from_all : (P : List Fraction → Type 0) (found rows : List (List Fraction)) → AllByRecursion P found → AllByRecursion P rows → AllByRecursion P (counted_from found rows)
from_all P found [] h k = h
from_all P found (row ∷ rows) h k = from_all P (counted_with found row) rows (with_all P (is_zero_row row) (first_multiple 0 found row) found row h k.0) k.1

pub counted_each : (P : List Fraction → Type 0) (rows : List (List Fraction)) → AllByRecursion P rows → AllByRecursion P (counted_rows rows)
counted_each P rows h = from_all P [] rows tt h

-- ---- rows of one width, one after the other
taken : (width : ℕ) (row rest : List Fraction) → length row ≡ width → take width (row ++ rest) ≡ row
taken width row rest e = ap (λ n. take n (row ++ rest)) (sym e) ∙ take-append_seam row rest

left : (row rest : List Fraction) → drop (length row) (row ++ rest) ≡ rest
left [] [] = refl
left [] (x ∷ rest) = refl
left (x ∷ row) rest = left row rest

pub cut_joined : (width : ℕ) (rows : List (List Fraction)) → AllByRecursion (λ row. length row ≡ width) rows → cut width (length rows) (flat_map (λ row. row) rows) ≡ rows
cut_joined width [] h = refl
cut_joined width (row ∷ rows) h =
    ap₂ (λ r s. r ∷ cut width (length rows) s) (taken width row (flat_map (λ r. r) rows) h.0)
    (ap (λ n. drop n (row ++ flat_map (λ r. r) rows)) (sym h.0) ∙ left row (flat_map (λ r. r) rows))
    ∙ ap (λ r. row ∷ r) (cut_joined width rows h.1)

pub joined_length : (width : ℕ) (rows : List (List Fraction)) → AllByRecursion (λ row. length row ≡ width) rows → length (flat_map (λ row. row) rows) ≡ length rows * width
joined_length width [] h = omega arith
joined_length width (row ∷ rows) h =
    let r = joined_length width rows h.1 in
    omega (arith, length-append row (flat_map (λ r. r) rows), h.0)

-- ---- how many statements entries take: one for each counted row, at most three for each other
standing_count : Standing → ℕ
standing_count Nothing = 0
standing_count (Own b) = 1
standing_count (Times k b) = 3

standing_one : Standing → ℕ
standing_one Nothing = 0
standing_one (Own b) = 1
standing_one (Times k b) = 1

total_count : List Standing → ℕ
total_count [] = 0
total_count (s ∷ ss) = standing_count s + total_count ss

total_one : List Standing → ℕ
total_one [] = 0
total_one (s ∷ ss) = standing_one s + total_one ss

scaled_count : (same : Bool) (k : Fraction) (b : ℕ) → standing_count (if same then Own b else Times k b) ≤ 3
unfolding standing_count
scaled_count true k b = omega arith
scaled_count false k b = omega arith

scaled_one : (same : Bool) (k : Fraction) (b : ℕ) → standing_one (if same then Own b else Times k b) ≡ 1
unfolding standing_one
scaled_one true k b = refl
scaled_one false k b = refl

one_more : (z : Bool) (o : Option ℕ) (found : List (List Fraction)) (row : List Fraction) (counts ones n : ℕ)
    → counts + 2 * n ≤ 3 * ones + 2 * length (if z then found else with_row o found row)
    → standing_count (if z then Nothing else standing_at o found row) + counts + 2 * n
    ≤ 3 * (standing_one (if z then Nothing else standing_at o found row) + ones) + 2 * length found
unfolding standing_count standing_one
one_more true o found row counts ones n h = omega arith
one_more false None found row counts ones n h = omega (arith, length-append found (row ∷ []))
one_more false (Some b) found row counts ones n h =
    let few = scaled_count (is_same (multiplier (get_or found b []) row) one_fraction) (multiplier (get_or found b []) row) b in
    let one = scaled_one (is_same (multiplier (get_or found b []) row) one_fraction) (multiplier (get_or found b []) row) b in
    omega arith

counts_from : (found rows : List (List Fraction)) → total_count (standings_from found rows) + 2 * length (counted_from found rows) ≤ 3 * total_one (standings_from found rows) + 2 * length found
unfolding total_count total_one
counts_from found [] = omega arith
counts_from found (row ∷ rows) =
    let h = one_more (is_zero_row row) (first_multiple 0 found row) found row (total_count (standings_from (counted_with found row) rows))
    (total_one (standings_from (counted_with found row) rows)) (length (counted_from (counted_with found row) rows)) (counts_from (counted_with found row) rows) in
    h

entries_total : (all : List Entry) → entries_count all ≡ total_count (map standing_of all)
unfolding total_count standing_count
entries_total [] = refl
entries_total (NoRow ∷ all) = let h = entries_total all in omega arith
entries_total (Counted b ∷ all) = ap (λ n. 1 + n) (entries_total all)
entries_total (Multiple l b ∷ all) = ap (λ n. 3 + n) (entries_total all)

placed_total : (e : ℕ) (all : List Entry) → length (placed_from e all) ≡ total_one (map standing_of all)
unfolding total_one standing_one
placed_total e [] = refl
placed_total e (NoRow ∷ all) = let h = placed_total (suc e) all in omega arith
placed_total e (Counted b ∷ all) = let h = placed_total (suc e) all in omega arith
placed_total e (Multiple l b ∷ all) = let h = placed_total (suc e) all in omega arith

pub entries_few : (rows : List (List Fraction)) (all : List Entry) → map standing_of all ≡ standings rows
    → entries_count all + 2 * length (counted_rows rows) ≤ 3 * length (placed_from 0 all)
entries_few rows all e =
    let h = counts_from [] rows in
    omega (arith, entries_total all, placed_total 0 all, ap total_count e, ap total_one e)

some_each : (all : List Entry) (e : ℕ) → length (placed_from e all) ≤ entries_count all
some_each [] e = omega arith
some_each (NoRow ∷ all) e = let h = some_each all (suc e) in omega arith
some_each (Counted b ∷ all) e = let h = some_each all (suc e) in omega arith
some_each (Multiple l b ∷ all) e = let h = some_each all (suc e) in omega arith

-- no more counted rows than entries
pub rows_few : (rows : List (List Fraction)) (all : List Entry) → map standing_of all ≡ standings rows → length (counted_rows rows) ≤ length (placed_from 0 all)
rows_few rows all e = let h = entries_few rows all e in let k = some_each all 0 in omega arith
