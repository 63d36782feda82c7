-- A ring with a test for zero, and reciprocals of what is not zero
use Rattle.std.specs.Prelude.{◌≡◌, ℕ, suc, Bool, true, false}
use Rattle.algebra.specs.Ring.{Ring, natural}

-- 1/(n+1) for each n
pub record Division {R : Type 0} (K : Ring R) : Type 0 where
  pub over : ℕ → R
  pub over-mul : (n : ℕ) → K.mul (natural K (suc n)) (over n) ≡ K.one

pub record Field {R : Type 0} (K : Ring R) : Type 0 where
  pub is_nought : R → Bool
  pub nought : (a : R) → is_nought a ≡ true → a ≡ K.zero
  pub inverse : R → R
  pub inverse-mul : (a : R) → is_nought a ≡ false → K.mul a (inverse a) ≡ K.one
  pub division : Division K
