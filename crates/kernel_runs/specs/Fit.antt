-- The steps of a planned kernel, as conditions on lists: where one passes, Q
use Rattle.std.specs.Prelude.{◌≡◌, ℕ, ◌<◌, ◌≤◌, length, List, [], ◌∷◌, false, None}
use Rattle.algebra.specs.Fraction.{Fraction, add, mul}
use Rattle.algebra.specs.Steps.{fits, sum}
use Rattle.kernel_runs.specs.Strips.{item, Factor, with_factor, MonoPlan, list_sum, mono_columns, mono_rows, mono_values}
use Rattle.kernel_runs.specs.declared.entry.Entry.{Entry}
use Rattle.kernel_runs.specs.declared.entry.Entry.TheVariants.{NoRow, Counted, Multiple}
use Rattle.ratio.specs.Value.{fraction_of}

-- these products fit
abbrev pub AllFit : Type 0 → List Fraction → Type 0
AllFit Q xs = (k : ℕ) → k < length xs → fits (item xs k) ≡ false → Q

-- the columns of every prefix
abbrev pub FactorsFit : Type 0 → List Fraction → List (Factor (List Fraction)) → Type 0
FactorsFit Q xs [] = Unit {0}
FactorsFit Q xs (f ∷ fs) = AllFit Q (with_factor xs f) × FactorsFit Q (with_factor xs f) fs

-- no prefix has more than `cap` columns
abbrev pub FactorsWithin : ℕ → List Fraction → List (Factor (List Fraction)) → Type 0
FactorsWithin cap xs [] = Unit {0}
FactorsWithin cap xs (f ∷ fs) = (length (with_factor xs f) ≤ cap) × FactorsWithin cap (with_factor xs f) fs

-- products of columns and items of a row, and their sums from `acc` on
abbrev pub SumsFit : Type 0 → Fraction → List Fraction → List Fraction → Type 0
SumsFit Q acc [] rs = Unit {0}
SumsFit Q acc (c ∷ cs) [] = Unit {0}
SumsFit Q acc (c ∷ cs) (r ∷ rs) =
    (fits (mul c r) ≡ false → Q) × ((sum acc (mul c r) ≡ None → Q) × SumsFit Q (add acc (mul c r)) cs rs)

abbrev pub RowFits : Type 0 → List Fraction → List Fraction → Type 0
RowFits Q [] rs = Unit {0}
RowFits Q (c ∷ cs) [] = Unit {0}
RowFits Q (c ∷ cs) (r ∷ rs) = (fits (mul c r) ≡ false → Q) × SumsFit Q (mul c r) cs rs

abbrev pub RowsFit : Type 0 → List Fraction → List (List Fraction) → Type 0
RowsFit Q cs [] = Unit {0}
RowsFit Q cs (r ∷ rows) = RowFits Q cs r × RowsFit Q cs rows

-- an entry added onto x, where rs are the values of the counted rows
abbrev pub EntryFits : Type 0 → List Fraction → Fraction → Entry → Type 0
EntryFits Q rs x NoRow = Unit {0}
EntryFits Q rs x (Counted b) = sum x (item rs b) ≡ None → Q
EntryFits Q rs x (Multiple l b) =
    (fits (mul (fraction_of l) (item rs b)) ≡ false → Q) × (sum x (mul (fraction_of l) (item rs b)) ≡ None → Q)

abbrev pub EntriesFit : Type 0 → List Fraction → List Fraction → List Entry → Type 0
EntriesFit Q rs [] es = Unit {0}
EntriesFit Q rs (x ∷ xs) [] = Unit {0}
EntriesFit Q rs (x ∷ xs) (e ∷ es) = EntryFits Q rs x e × EntriesFit Q rs xs es

-- all steps of a monomial, added onto `acc`, where a is the absolute volume
pub record MonoFits (Q : Type 0) (a : Fraction) (acc : List Fraction) (m : MonoPlan (List Fraction)) : Type 0 where
  pub factors : FactorsFit Q (a ∷ []) m.factors
  pub rows : RowsFit Q (mono_columns a m) m.rows
  pub entries : EntriesFit Q (mono_rows a m) acc m.entries

-- and of a list of them
abbrev pub StepsFit : Type 0 → Fraction → List Fraction → List (MonoPlan (List Fraction)) → Type 0
StepsFit Q a acc [] = Unit {0}
StepsFit Q a acc (m ∷ ms) = MonoFits Q a acc m × StepsFit Q a (list_sum acc (mono_values a m)) ms
