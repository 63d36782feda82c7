-- What a list of planned monomials adds up to
use Rattle.std.proofs.Common.{◌≡◌, ℕ, zero, suc, ◌<◌, refl, sym, ◌∙◌, ap, ap₂, subst, arith, length, map, slice_index_or, List, [], ◌∷◌, ◌++◌}
use Rattle.algebra.specs.Fraction.{Fraction, add, add_assoc, add_zero, fractions, mul, mul_add, mul_assoc, mul_comm, zero_fraction}
use Rattle.algebra.specs.RingLaws as L
use Rattle.algebra.specs.Sums.{total}
use Rattle.ratio.specs.Value.{fraction_of}
use Rattle.kernel_runs.specs.Strips.{AllZero, EntriesWithin, EntryWithin, Factor, Fastest, HasRow, HaveRows, MonoPlan, Slowest, entry_value, factors_in, from_last, in_turn, item, list_sum, map_factor, mono_columns, mono_rows, mono_values, monos_onto, with_factors}
use Rattle.refint.specs.Digits.{columns, dot}
use Rattle.kernel_runs.specs.declared.entry.Entry.{Entry}
use Rattle.kernel_runs.specs.declared.entry.Entry.TheVariants.{Counted, Multiple, NoRow}
use Rattle.kernel_runs.proofs.ColumnsAre.{columns_are}
use Rattle.kernel_runs.proofs.RowsRun.{dots_at}

-- ---- factors
pub factors_mapped : {U V : Type 0} (f : U → V) (cs ds : List U) → map (map_factor f) (factors_in cs ds) ≡ factors_in (map f cs) (map f ds)
factors_mapped f cs ds = first f ds cs
  where
    last : {U V : Type 0} (f : U → V) (cs : List U) (fs : List (Factor U)) → map (map_factor f) (from_last cs fs) ≡ from_last (map f cs) (map (map_factor f) fs)
    last f [] fs = refl
    last f (c ∷ cs) fs = last f cs (Slowest c ∷ fs)

    first : {U V : Type 0} (f : U → V) (ds cs : List U) → map (map_factor f) (in_turn ds [] ++ from_last cs []) ≡ in_turn (map f ds) [] ++ from_last (map f cs) []
    first f [] cs = last f cs []
    first f (d ∷ ds) cs = ap (λ l. Fastest (f d) ∷ l) (first f ds cs)

-- ---- products of rows
pub dot_scaled : (a : Fraction) (xs ys : List Fraction) → dot (map (mul a) xs) ys ≡ mul a (dot xs ys)
dot_scaled a [] ys = sym (L.mul-zero fractions a)
dot_scaled a (x ∷ xs) [] = sym (L.mul-zero fractions a)
dot_scaled a (x ∷ xs) (y ∷ ys) = ap₂ add (mul_assoc a x y) (dot_scaled a xs ys) ∙ sym (mul_add a (mul x y) (dot xs ys))

pub scaled_dot : (a : Fraction) (xs ys : List Fraction) → dot xs (map (mul a) ys) ≡ mul a (dot xs ys)
scaled_dot a [] ys = sym (L.mul-zero fractions a)
scaled_dot a (x ∷ xs) [] = sym (L.mul-zero fractions a)
scaled_dot a (x ∷ xs) (y ∷ ys) = ap₂ add (turned a x y) (scaled_dot a xs ys) ∙ sym (mul_add a (mul x y) (dot xs ys))
  where
    turned : (a x y : Fraction) → mul x (mul a y) ≡ mul a (mul x y)
    turned a x y = sym (mul_assoc x a y) ∙ ap (λ z. mul z y) (mul_comm x a) ∙ mul_assoc a x y

pub no_dot : (xs ys : List Fraction) → AllZero ys → dot xs ys ≡ zero_fraction
no_dot [] ys h = refl
no_dot (x ∷ xs) [] h = refl
no_dot (x ∷ xs) (y ∷ ys) h = ap₂ add (ap (mul x) h.0 ∙ L.mul-zero fractions x) (no_dot xs ys h.1) ∙ add_zero zero_fraction

-- an entry is the product of its own row and the columns
entry_is : (cs : List Fraction) (rows : List (List Fraction)) (e : Entry) (items : List Fraction) → EntryWithin (length rows) e → HasRow rows e items → entry_value (map (dot cs) rows) e ≡ dot cs items
entry_is cs rows NoRow items within h = sym (no_dot cs items h)
entry_is cs rows (Counted b) items within h = dots_at cs rows b within ∙ ap (dot cs) h
entry_is cs rows (Multiple l b) items within h = ap (mul (fraction_of l)) (dots_at cs rows b within) ∙ sym (scaled_dot (fraction_of l) cs (slice_index_or rows b [])) ∙ ap (dot cs) h

entries_are : (cs : List Fraction) (rows : List (List Fraction)) (es : List Entry) (items : List (List Fraction)) → EntriesWithin (length rows) es → HaveRows rows es items
    → map (entry_value (map (dot cs) rows)) es ≡ map (dot cs) items
entries_are cs rows [] [] within h = refl
entries_are cs rows [] (i ∷ is) within h = absurd h
entries_are cs rows (e ∷ es) [] within h = absurd h
entries_are cs rows (e ∷ es) (i ∷ is) within h = ap₂ ◌∷◌ (entry_is cs rows e i within.0 h.0) (entries_are cs rows es is within.1 h.1)

-- a monomial adds the absolute volume times the product of each entry's items and the columns
pub mono_values_are : (a : Fraction) (m : MonoPlan (List Fraction)) (cs ds : List (List Fraction)) (items : List (List Fraction)) → m.factors ≡ factors_in cs ds → EntriesWithin (length m.rows) m.entries → HaveRows m.rows m.entries items
    → mono_values a m ≡ map (λ row. mul a (dot (columns (cs ++ ds)) row)) items
mono_values_are a m cs ds items f within h =
    entries_are (mono_columns a m) m.rows m.entries items within h ∙ ap (λ xs. map (dot xs) items) (ap (with_factors (a ∷ [])) f ∙ columns_are a cs ds) ∙ all a (columns (cs ++ ds)) items
  where
    all : (a : Fraction) (xs : List Fraction) (items : List (List Fraction)) → map (dot (map (mul a) xs)) items ≡ map (λ row. mul a (dot xs row)) items
    all a xs [] = refl
    all a xs (i ∷ is) = ap₂ ◌∷◌ (dot_scaled a xs i) (all a xs is)

pub entry_share : (a : Fraction) (m : MonoPlan (List Fraction)) (cs ds : List (List Fraction)) (items : List (List Fraction)) → m.factors ≡ factors_in cs ds → EntriesWithin (length m.rows) m.entries → HaveRows m.rows m.entries items
    → (e : ℕ) → e < length items → item (mono_values a m) e ≡ mul a (dot (columns (cs ++ ds)) (slice_index_or items e []))
entry_share a m cs ds items f within h e l = ap (λ xs. item xs e) (mono_values_are a m cs ds items f within h) ∙ at (λ row. mul a (dot (columns (cs ++ ds)) row)) items e l
  where
    at : (f : List Fraction → Fraction) (items : List (List Fraction)) (e : ℕ) → e < length items → item (map f items) e ≡ f (slice_index_or items e [])
    at f [] e l = absurd (omega arith)
    at f (i ∷ is) zero l = refl
    at f (i ∷ is) (suc e) l = at f is e (omega arith)

-- ---- sums
sum_at_entry : (xs ys : List Fraction) (e : ℕ) → length ys ≡ length xs → e < length xs → item (list_sum xs ys) e ≡ add (item xs e) (item ys e)
sum_at_entry [] ys e h l = absurd (omega arith)
sum_at_entry (x ∷ xs) [] e h l = absurd (omega arith)
sum_at_entry (x ∷ xs) (y ∷ ys) zero h l = refl
sum_at_entry (x ∷ xs) (y ∷ ys) (suc e) h l = sum_at_entry xs ys e (omega arith) (omega arith)

sum_size : (xs ys : List Fraction) → length (list_sum xs ys) ≡ length xs
sum_size [] ys = refl
sum_size (x ∷ xs) [] = refl
sum_size (x ∷ xs) (y ∷ ys) = ap suc (sum_size xs ys)

abbrev pub AllEntries : ℕ → List (MonoPlan (List Fraction)) → Type 0
AllEntries n [] = Unit {0}
AllEntries n (m ∷ ms) = (length m.entries ≡ n) × AllEntries n ms

-- an entry of A is the sum over the monomials
pub monos_are : (a : Fraction) (acc : List Fraction) (ms : List (MonoPlan (List Fraction))) (e : ℕ) → AllEntries (length acc) ms → e < length acc
    → item (monos_onto a acc ms) e ≡ add (item acc e) (total (map (λ m. item (mono_values a m) e) ms))
monos_are a acc [] e h l = sym (add_zero (item acc e))
monos_are a acc (m ∷ ms) e h l =
    let vs : List Fraction = mono_values a m in
    let size : length (list_sum acc vs) ≡ length acc = sum_size acc vs in
    monos_are a (list_sum acc vs) ms e (subst (λ n. AllEntries n ms) (sym size) h.1) (subst (λ n. e < n) (sym size) l)
    ∙ ap (λ x. add x (total (map (λ m. item (mono_values a m) e) ms))) (sum_at_entry acc vs e (many (entry_value (mono_rows a m)) m.entries ∙ h.0) l)
    ∙ add_assoc (item acc e) (item vs e) (total (map (λ m. item (mono_values a m) e) ms))
  where
    many : (f : Entry → Fraction) (es : List Entry) → length (map f es) ≡ length es
    many f [] = refl
    many f (e ∷ es) = ap suc (many f es)
