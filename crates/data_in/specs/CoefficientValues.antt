-- The values of coefficients, as blocks: one value for each row of the coefficient
use Rattle.std.specs.Prelude.{ℕ, ◌+◌, ◌≤◌, ◌==◌, List, [], ◌∷◌, map, Option, None, Some, if◌then◌else◌}
use Rattle.algebra.specs.Fraction.{Fraction}
use Rattle.ratio.specs.declared.reduced.Ratio.{Ratio}
use Rattle.ratio.specs.Value.{fraction_of}
use Rattle.data_in.specs.declared.values.Block.{Block}

-- with values in A
pub record CoefficientValues (A : Type 0) : Type 0 where
  -- of the coefficient
  pub number : ℕ
  -- of the text, in which the block begins
  pub line : ℕ
  pub values : List A

-- the code's block, read as data
abbrev pub values_in : Block → CoefficientValues Ratio
values_in b = record { number = b.number; line = b.line; values = b.values.items }

-- the same block in the values of its numbers
abbrev pub fractions_in : CoefficientValues Ratio → CoefficientValues Fraction
fractions_in b = record { number = b.number; line = b.line; values = map fraction_of b.values }

abbrev pub fractions : List (CoefficientValues Ratio) → List (CoefficientValues Fraction)
fractions = map fractions_in

-- the numbers of the coefficients rise, each at least `low`
abbrev pub AreRising : {A : Type 0} → ℕ → List (CoefficientValues A) → Type 0
AreRising low [] = Unit {0}
AreRising low (b ∷ bs) = (low ≤ b.number) × AreRising (b.number + 1) bs

-- the block of a coefficient
abbrev pub block_of : {A : Type 0} → List (CoefficientValues A) → ℕ → Option (CoefficientValues A)
block_of [] n = None
block_of (b ∷ bs) n = if b.number == n then Some b else block_of bs n
