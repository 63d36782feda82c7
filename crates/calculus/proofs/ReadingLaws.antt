-- How the code's lists of terms are read, and what equality of polynomials says
use Rattle.std.proofs.Common.{◌≡◌, ℕ, zero, suc, ◌↔◌, refl, ◌∙◌, ap, List, [], ◌∷◌, get_or}
use Rattle.algebra.specs.Ring.{Ring, additive}
use Rattle.calculus.specs.Free.{Same, coefficient}
use Rattle.calculus.specs.Powers as W
use Rattle.calculus.specs.Powers.{Powers, powers, power_of, powers_of}
use Rattle.calculus.specs.OverRing.{Polynomial}
use mathlib.Core.Quot.{mk, lift, sound}

pub power_of-powers_of : (ns : List ℕ) (i : ℕ) → power_of (powers_of ns) i ≡ get_or ns i 0
power_of-powers_of [] i = refl
power_of-powers_of (n ∷ ns) zero = W.power_of-onto_zero n (powers_of ns)
power_of-powers_of (n ∷ ns) (suc i) = W.power_of-onto_suc n (powers_of ns) i ∙ power_of-powers_of ns i

module _ {R : Type 0} (K : Ring R) where
  -- the summed coefficient of one exponent
  pub coefficient_at : Powers → Polynomial K → R
  coefficient_at e = lift K.is_set (λ p. coefficient (additive K) powers.exponents p e) (λ p q h. h e)

  -- lists of terms are one polynomial exactly where the summed coefficients of all exponents are equal
  pub same_polynomial : (p q : List (R × Powers)) → ◌≡◌ {A = Polynomial K} (mk p) (mk q) ↔ Same (additive K) powers.exponents p q
  unfolding coefficient_at
  same_polynomial p q = (λ h e. ap (coefficient_at e) h, λ h. sound h)
