-- The reference tensors that a list of plans stands for, and the entries that they give
use Rattle.std.specs.Prelude.{◌≡◌, ℕ, ◌<◌, List, [], ◌∷◌, ◌++◌, length, map, slice_index_or, false, true}
use Rattle.algebra.specs.Fraction.{Fraction, absolute, is_zero_fraction, mul}
use Rattle.algebra.specs.Sums.{total}
use Rattle.calculus.specs.Simplex.{IsCell, Simplex, dimension, volume}
use Rattle.c_unit.specs.declared.unit.CFun.{CFun}
use Rattle.c_unit.specs.Meaning.{ran}
use Rattle.kernel.specs.Ends.{Ends}
use Rattle.kernel_runs.specs.Strips.{EntriesWithin, HaveRows, MonoPlan, factors_in, item}
use Rattle.refint.specs.Digits.{columns, dot}
use Rattle.kernel_runs.specs.Preamble.{coordinates}
use Rattle.kernel_runs.specs.Body.{IsBody, digit_values}
use Rattle.kernel_runs.specs.declared.digit.Digit.{Digit}

-- the items of each entry, by columns: the coefficients' digits run slower than those of the derivatives
pub record Tensor : Type 0 where
  pub coefficients : List Digit
  pub directions : List Digit
  pub items : List (List Fraction)

-- entry e of a monomial on a cell: the absolute volume times the product of its items and the columns
abbrev pub tensor_share : Simplex → List Fraction → ℕ → Tensor → Fraction
tensor_share v w e t =
    mul (absolute (volume v))
    (dot
    (columns (map (digit_values (dimension v) v w) t.coefficients ++ map (digit_values (dimension v) v w) t.directions))
    (slice_index_or t.items e []))

-- a plan for the tensor: its counted rows, and how each entry stands to them
pub record PlansTensor (entries : ℕ) (m : MonoPlan Digit) (t : Tensor) : Type 0 where
  pub factors : m.factors ≡ factors_in t.coefficients t.directions
  pub known : EntriesWithin (length m.rows) m.entries
  pub rows : HaveRows m.rows m.entries t.items
  pub size : length m.entries ≡ entries
  pub full : length t.items ≡ entries

abbrev pub PlanTensors : ℕ → List (MonoPlan Digit) → List Tensor → Type 0
PlanTensors n [] [] = Unit {0}
PlanTensors n [] (t ∷ ts) = ⊥
PlanTensors n (m ∷ ms) [] = ⊥
PlanTensors n (m ∷ ms) (t ∷ ts) = PlansTensor n m t × PlanTensors n ms ts

-- each entry of A is the sum over the tensors, or a step passes, or the cell is flat
abbrev pub TensorShares : Type 0
TensorShares =
    (f : CFun) (v : Simplex) (w : List Fraction) (cap most : ℕ) (ms : List (MonoPlan Digit)) (ts : List Tensor)
    → IsCell v → IsBody f v cap most ms → PlanTensors f.a ms ts
    → Ends (Unit {0}) (is_zero_fraction (volume v) ≡ true)
    (λ s. (is_zero_fraction (volume v) ≡ false)
    × ((e : ℕ) → e < f.a → item s.a e ≡ total (map (tensor_share v w e) ts)))
    (ran f (coordinates (dimension v) v) w)
