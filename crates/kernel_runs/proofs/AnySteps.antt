-- Where nothing is said of runs in which a step passes, each step is as wanted
use Rattle.std.proofs.Common.{List, [], ◌∷◌, replicate}
use Rattle.algebra.specs.Fraction.{Fraction, absolute, zero_fraction}
use Rattle.calculus.specs.Simplex.{Simplex, volume}
use Rattle.kernel_runs.specs.Strips.{Factor, MonoPlan, list_sum, mono_columns, mono_rows, mono_values, with_factor}
use Rattle.kernel_runs.specs.declared.entry.Entry.{Entry}
use Rattle.kernel_runs.specs.declared.entry.Entry.TheVariants.{Counted, Multiple, NoRow}
use Rattle.kernel_runs.specs.Fit.{EntriesFit, EntryFits, FactorsFit, RowFits, RowsFit, StepsFit, SumsFit}
use Rattle.kernel_runs.specs.Body.{PlannedShare, PreambleFits, plans_on}
use Rattle.kernel_runs.proofs.BodyRun.{planned_shares}
use Rattle.algebra.specs.Fraction.{add, mul}

abbrev Any : Type 0
Any = Unit {0}

any_factors : (xs : List Fraction) (fs : List (Factor (List Fraction))) → FactorsFit Any xs fs
any_factors xs [] = tt
any_factors xs (f ∷ fs) = (λ k l e. tt, any_factors (with_factor xs f) fs)

any_sums : (acc : Fraction) (cs rs : List Fraction) → SumsFit Any acc cs rs
any_sums acc [] rs = tt
any_sums acc (c ∷ cs) [] = tt
any_sums acc (c ∷ cs) (r ∷ rs) = (λ e. tt, (λ e. tt, any_sums (add acc (mul c r)) cs rs))

any_row : (cs rs : List Fraction) → RowFits Any cs rs
any_row [] rs = tt
any_row (c ∷ cs) [] = tt
any_row (c ∷ cs) (r ∷ rs) = (λ e. tt, any_sums (mul c r) cs rs)

any_rows : (cs : List Fraction) (rows : List (List Fraction)) → RowsFit Any cs rows
any_rows cs [] = tt
any_rows cs (r ∷ rows) = (any_row cs r, any_rows cs rows)

any_entry : (rs : List Fraction) (x : Fraction) (e : Entry) → EntryFits Any rs x e
any_entry rs x NoRow = tt
any_entry rs x (Counted b) = λ e. tt
any_entry rs x (Multiple l b) = (λ e. tt, λ e. tt)

any_entries : (rs xs : List Fraction) (es : List Entry) → EntriesFit Any rs xs es
any_entries rs [] es = tt
any_entries rs (x ∷ xs) [] = tt
any_entries rs (x ∷ xs) (e ∷ es) = (any_entry rs x e, any_entries rs xs es)

any_steps : (a : Fraction) (acc : List Fraction) (ms : List (MonoPlan (List Fraction))) → StepsFit Any a acc ms
any_steps a acc [] = tt
any_steps a acc (m ∷ ms) = (
  record { factors = any_factors (a ∷ []) m.factors; rows = any_rows (mono_columns a m) m.rows; entries = any_entries (mono_rows a m) acc m.entries },
  any_steps a (list_sum acc (mono_values a m)) ms,
)

any_preamble : (v : Simplex) → PreambleFits Any v
any_preamble [] = tt
any_preamble (a ∷ []) = tt
any_preamble (a ∷ b ∷ []) = λ i a h g e. tt
any_preamble (a ∷ b ∷ c ∷ []) = record { differences = λ i a h g e. tt; main = λ e. tt; other = λ e. tt; volume_factor = λ e. tt; turned = λ n i a h g o e. tt; growth = λ n i a h g e. tt }
any_preamble (a ∷ b ∷ c ∷ e ∷ []) = record {
  differences = λ i a h g e. tt;
  main = λ i a h g e. tt;
  other = λ i a h g e. tt;
  cofactors = λ i a h g e. tt;
  parts = λ a h e. tt;
  two = λ e. tt;
  three = λ e. tt;
  growth = λ n i a h g e. tt;
}
any_preamble (a ∷ b ∷ c ∷ e ∷ f ∷ v) = tt

pub planned_share : PlannedShare
planned_share f v w cap most ms cell is = planned_shares Any f v w cap most ms cell is (any_preamble v) (λ n. any_steps (absolute (volume v)) (replicate f.a zero_fraction) (plans_on v w ms))
