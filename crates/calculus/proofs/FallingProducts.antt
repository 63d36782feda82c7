-- The products x (x - 1) .. (x - n + 1) at whole numbers, and lists of weights with equal sums
use Rattle.std.proofs.Common.{◌≡◌, ℕ, zero, suc, ◌+◌, ◌<◌, ◌≤◌, ◌⊎◌, inl, inr, refl, sym, ◌∙◌, ap, ap₂, List, [], ◌∷◌, pos, arith, length}
use Rattle.algebra.specs.Ring.{Ring, natural}
use Rattle.algebra.specs.RingLaws as L
use Rattle.algebra.specs.IntegerMap as N
use Rattle.algebra.specs.Solver.{at, num, ◌⊕◌, ◌⊗◌, ◌⊖◌, unity}
use Rattle.algebra.specs.Sound as Solve
use Rattle.calculus.specs.LocalFunction.{factorial, degree_of}
use native.Mathlib.Nat.{eq-or-lt_of_le, le_of_suc-le-suc}

-- some b is below the a at its place
abbrev pub SomeBelow : List ℕ → List ℕ → Type 0
SomeBelow [] qs = ⊥
SomeBelow (a ∷ ps) [] = ⊥
SomeBelow (a ∷ ps) (b ∷ qs) = (b < a) ⊎ SomeBelow ps qs

three : (a b : ℕ) → ((a ≡ b) ⊎ (a < b)) ⊎ (b < a)
three a b = grind arith

below_step : (a b : ℕ) (ps qs : List ℕ) → degree_of (b ∷ qs) ≤ degree_of (a ∷ ps) → ((a ≡ b) ⊎ (a < b)) ⊎ (b < a)
    → (degree_of qs ≤ degree_of ps → ((ps ≡ qs) × (degree_of ps ≡ degree_of qs)) ⊎ SomeBelow ps qs)
    → ((a ∷ ps ≡ b ∷ qs) × (degree_of (a ∷ ps) ≡ degree_of (b ∷ qs))) ⊎ ((b < a) ⊎ SomeBelow ps qs)
below_step a b ps qs h (inr k) ih = inr (inl k)
below_step a b ps qs h (inl (inl e)) ih =
    elim (ih (omega arith)) [ inl p ↦ inl (ap₂ ◌∷◌ e p.0, ap₂ ◌+◌ e p.1) | inr k ↦ inr (inr k) ]
below_step a b ps qs h (inl (inr k)) ih =
    elim (ih (omega arith)) [ inl p ↦ absurd (contrary p.1) | inr k ↦ inr (inr k) ]
  where
    contrary : degree_of ps ≡ degree_of qs → ⊥
    contrary e = omega arith

-- weights that add up to ps much are the same, or one is below
pub same_or_below : (ps qs : List ℕ) → length ps ≡ length qs → degree_of qs ≤ degree_of ps → ((ps ≡ qs) × (degree_of ps ≡ degree_of qs)) ⊎ SomeBelow ps qs
same_or_below [] [] l h = inl (refl, refl)
same_or_below [] (b ∷ qs) l h = absurd (omega arith)
same_or_below (a ∷ ps) [] l h = absurd (omega arith)
same_or_below (a ∷ ps) (b ∷ qs) l h = below_step a b ps qs h (three a b) (λ k. same_or_below ps qs (omega arith) k)

module _ {R : Type 0} (K : Ring R) where
  abbrev pub minus : R → R → R
  minus a b = K.add a (K.neg b)

  abbrev pub falling : R → ℕ → R
  falling x zero = K.one
  falling x (suc n) = K.mul (falling x n) (minus x (natural K n))

  -- the first factor in front
  falling_shift : (x : R) (n : ℕ) → falling (K.add K.one x) (suc n) ≡ K.mul (K.add K.one x) (falling x n)
  falling_shift x zero = Solve.ring K (x ∷ []) (unity ⊗ ((unity ⊕ at 0) ⊖ num (pos 0))) ((unity ⊕ at 0) ⊗ unity) refl
  falling_shift x (suc n) =
      ap (λ y. K.mul y (minus (K.add K.one x) (natural K (suc n)))) (falling_shift x n)
      ∙ Solve.ring K (x ∷ falling x n ∷ natural K n ∷ []) (((unity ⊕ at 0) ⊗ at 1) ⊗ ((unity ⊕ at 0) ⊖ (unity ⊕ at 2))) ((unity ⊕ at 0) ⊗ (at 1 ⊗ (at 0 ⊖ at 2))) refl

  pub falling_own : (n : ℕ) → falling (natural K n) n ≡ natural K (factorial n)
  falling_own zero = sym (K.add_zero K.one)
  falling_own (suc n) = falling_shift (natural K n) n ∙ ap (K.mul (natural K (suc n))) (falling_own n) ∙ sym (N.natural-mul K (suc n) (factorial n))

  pub falling_below : (b n : ℕ) → b < n → falling (natural K b) n ≡ K.zero
  falling_below b zero h = absurd (omega arith)
  falling_below b (suc n) h = go (eq-or-lt_of_le (le_of_suc-le-suc h)) (λ k. falling_below b n k)
    where
      go : (b ≡ n) ⊎ (b < n) → (b < n → falling (natural K b) n ≡ K.zero) → K.mul (falling (natural K b) n) (minus (natural K b) (natural K n)) ≡ K.zero
      go (inl e) ih = ap (λ m. K.mul (falling (natural K b) n) (minus (natural K b) (natural K m))) (sym e) ∙ ap (K.mul (falling (natural K b) n)) (K.add_neg (natural K b)) ∙ L.mul-zero K _
      go (inr k) ih = ap (λ x. K.mul x (minus (natural K b) (natural K n))) (ih k) ∙ L.zero-mul K _
