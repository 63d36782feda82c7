-- Fractions over a denominator, with bounds on their numerators there
use Rattle.std.specs.Prelude.{◌≡◌, ℕ, ℤ, ◌+◌, ◌<◌, ◌≤◌, unsigned_abs, List, [], ◌∷◌}
use mathlib.Core.Quot.{mk}
use Rattle.algebra.specs.Fraction.{Fraction}

-- l times x is a whole number of absolute value at most b
pub record Over (l b : ℕ) (x : Fraction) : Type 0 where
  pub positive : 0 < l
  pub num : ℤ
  pub is : x ≡ mk (record { num = num; den = l; positive = positive })
  pub bound : unsigned_abs num ≤ b

-- l times each is a whole number, and the absolute values of these numbers add up to at most b
abbrev pub AreOver : ℕ → ℕ → List Fraction → Type 0
AreOver l b [] = Unit {0}
AreOver l b (x ∷ xs) = (n : ℕ) × (m : ℕ) × (n + m ≤ b) × Over l n x × AreOver l m xs
