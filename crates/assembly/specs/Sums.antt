-- Sums of values by row and column
use Rattle.std.specs.Prelude.{◌≡◌, ◌≢◌, ℕ, ◌<◌, ◌==◌, ◌&&◌, Bool, List, [], ◌∷◌, Option, None, Some, IsSome, ◌⊎◌, if◌then◌else◌}
use Rattle.std.specs.Option.{option_and_then}
use Rattle.std.specs.List.{AllByRecursion}
use Rattle.algebra.specs.Fraction.{Fraction, zero_fraction}
use Rattle.algebra.specs.Steps.{sum}

-- a value at a row and a column
pub record Entry : Type 0 where
  pub row : ℕ
  pub col : ℕ
  pub value : Fraction

abbrev pub is_at : ℕ → ℕ → Entry → Bool
is_at row col e = (e.row == row) && (e.col == col)

-- the values at a row and a column, in their order
abbrev pub values_at : List Entry → ℕ → ℕ → List Fraction
values_at [] row col = []
values_at (e ∷ es) row col = if is_at row col e then e.value ∷ values_at es row col else values_at es row col

-- more values added to a sum, in their order; nothing from the step on that passes
abbrev pub added_onto : Option Fraction → List Fraction → Option Fraction
added_onto s [] = s
added_onto s (x ∷ xs) = added_onto (option_and_then (λ t. sum t x) s) xs

-- the sum of the values, added up in their order; nothing where a step passes
abbrev pub added : List Fraction → Option Fraction
added [] = Some zero_fraction
added (x ∷ xs) = added_onto (Some x) xs

-- the value that the entries have at a row and a column, 0 where they have none
abbrev pub entry_at : List Entry → ℕ → ℕ → Fraction
entry_at [] row col = zero_fraction
entry_at (e ∷ es) row col = if is_at row col e then e.value else entry_at es row col

-- by row, and then by column
abbrev pub IsBefore : ℕ → ℕ → ℕ → ℕ → Type 0
IsBefore row col later_row later_col = (row < later_row) ⊎ ((row ≡ later_row) × (col < later_col))

-- each entry is before those that follow
abbrev pub AreOrdered : List Entry → Type 0
AreOrdered [] = Unit {0}
AreOrdered (e ∷ es) = AllByRecursion (λ f. IsBefore e.row e.col f.row f.col) es × AreOrdered es

-- the sums of the values by row and column, without zeros and in order
pub record AreSums (values sums : List Entry) : Type 0 where
  pub ordered : AreOrdered sums
  pub nonzero : AllByRecursion (λ e. e.value ≢ zero_fraction) sums
  pub exact : (row col : ℕ) → added (values_at values row col) ≡ Some (entry_at sums row col)

-- the first row and column at which adding up the values passes
pub record PassesFirst (values : List Entry) (row col : ℕ) : Type 0 where
  pub passes : added (values_at values row col) ≡ None
  pub earlier : (r c : ℕ) → IsBefore r c row col → IsSome (added (values_at values r c))
