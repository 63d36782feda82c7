-- The derivatives in the directions of space
use Rattle.std.proofs.Common.{◌≡◌, ℕ, zero, suc, refl, sym}
use Rattle.calculus.specs.Polynomial.{Polynomial, nil, plus, plus-nil}
use Rattle.calculus.proofs.PolynomialLaws.{derivative-plus}
use Rattle.ufl_meaning.specs.Operators.{along}

pub along-plus : (i : ℕ) (p q : Polynomial) → along i (plus p q) ≡ plus (along i p) (along i q)
along-plus zero p q = derivative-plus 0 p q
along-plus (suc zero) p q = derivative-plus 1 p q
along-plus (suc (suc zero)) p q = derivative-plus 2 p q
along-plus (suc (suc (suc i))) p q = sym (plus-nil nil)

pub no_direction : (i : ℕ) (p : Polynomial) → ((i ≡ 0) → ⊥) → ((i ≡ 1) → ⊥) → ((i ≡ 2) → ⊥) → along i p ≡ nil
no_direction zero p h₀ h₁ h₂ = absurd (h₀ refl)
no_direction (suc zero) p h₀ h₁ h₂ = absurd (h₁ refl)
no_direction (suc (suc zero)) p h₀ h₁ h₂ = absurd (h₂ refl)
no_direction (suc (suc (suc i))) p h₀ h₁ h₂ = refl
