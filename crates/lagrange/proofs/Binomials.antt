-- Products x (x - 1) .. (x - a + 1) / a! of polynomials: the identity of Vandermonde
use Rattle.std.proofs.Common.{◌≡◌, ℕ, zero, suc, ◌<◌, false, [], ◌∷◌, refl, sym, ap, ap₂, ◌∙◌, pos, arith}
use Rattle.algebra.specs.Ring.{natural}
use Rattle.algebra.specs.RingLaws as L
use Rattle.algebra.specs.IntegerMap.{natural-mul}
use Rattle.algebra.specs.Solver.{at, num, ◌⊕◌, ◌⊗◌, ◌⊖◌, unity}
use Rattle.algebra.specs.Sound as Solve
use Rattle.algebra.specs.Fraction.{Fraction, fractions, one_fraction, mul, mul_one, mul_comm, inverse, mul_inverse, is_zero_fraction}
use Rattle.calculus.specs.Rational.{natural_apart}
use Rattle.calculus.specs.Polynomial.{Polynomial, nil, one, plus, times, minus, constant, whole, polynomials, times-one, plus-nil}
use Rattle.calculus.specs.LocalFunction.{factorial, falling}
use Rattle.calculus.proofs.PolynomialLaws.{constant-one, constant-zero, constant-add, constant-mul}
use Rattle.calculus.proofs.LocalFunctions.{vertex_factor_zero}
use Rattle.calculus.proofs.FallingProducts as N
use Rattle.calculus.proofs.Nodes.{factorial_positive}

-- x (x - 1) .. (x - a + 1) / a!
abbrev pub binomial : Polynomial → ℕ → Polynomial
binomial x a = times (constant (inverse (natural fractions (factorial a)))) (falling x a)

pub binomial_zero : (x : Polynomial) → binomial x 0 ≡ one
binomial_zero x = vertex_factor_zero 0 x

-- ---- whole numbers
abbrev W : ℕ → Fraction
W n = natural fractions n

not_nought : (n : ℕ) → 0 < n → is_zero_fraction (W n) ≡ false
not_nought zero h = absurd (omega arith)
not_nought (suc n) h = natural_apart n

whole_next : (n : ℕ) → whole (suc n) ≡ plus one (whole n)
whole_next n = constant-add one_fraction (W n) ∙ ap (λ o. plus o (whole n)) constant-one

whole_moved : (a b : ℕ) → plus (whole a) (whole (suc b)) ≡ plus (whole (suc a)) (whole b)
whole_moved a b =
    ap (plus (whole a)) (whole_next b)
    ∙ Solve.ring polynomials (whole a ∷ whole b ∷ []) (at 0 ⊕ (unity ⊕ at 1)) ((unity ⊕ at 0) ⊕ at 1) refl
    ∙ ap (λ w. plus w (whole b)) (sym (whole_next a))

-- equal multiples are multiples of equals
cancelled : (n : ℕ) (p q : Polynomial) → times (whole (suc n)) p ≡ times (whole (suc n)) q → p ≡ q
cancelled n p q e = back p ∙ ap (times (constant (inverse (W (suc n))))) e ∙ sym (back q)
  where
    back : (p : Polynomial) → p ≡ times (constant (inverse (W (suc n)))) (times (whole (suc n)) p)
    back p =
        sym (times-one p)
        ∙ ap (times p) (sym constant-one ∙ ap constant (sym (mul_inverse (W (suc n)) (natural_apart n))) ∙ constant-mul (W (suc n)) (inverse (W (suc n))))
        ∙ Solve.ring polynomials (p ∷ whole (suc n) ∷ constant (inverse (W (suc n))) ∷ []) (at 0 ⊗ (at 1 ⊗ at 2)) (at 2 ⊗ (at 1 ⊗ at 0)) refl

-- ---- the next one
factorial_next : (a : ℕ) → mul (W (suc a)) (inverse (W (factorial (suc a)))) ≡ inverse (W (factorial a))
factorial_next a =
    let f = W (factorial a) in
    let i = inverse (W (factorial (suc a))) in
    sym (mul_one (mul (W (suc a)) i))
    ∙ ap (mul (mul (W (suc a)) i)) (sym (mul_inverse f (not_nought (factorial a) (factorial_positive a))))
    ∙ Solve.ring fractions (W (suc a) ∷ i ∷ f ∷ inverse f ∷ []) ((at 0 ⊗ at 1) ⊗ (at 2 ⊗ at 3)) (((at 0 ⊗ at 2) ⊗ at 1) ⊗ at 3) refl
    ∙ ap (λ x. mul (mul x i) (inverse f)) (sym (natural-mul fractions (suc a) (factorial a)))
    ∙ ap (λ x. mul x (inverse f)) (mul_inverse (W (factorial (suc a))) (not_nought (factorial (suc a)) (factorial_positive (suc a))))
    ∙ mul_comm one_fraction (inverse f) ∙ mul_one (inverse f)

binomial_next : (x : Polynomial) (a : ℕ) → times (plus one (whole a)) (binomial x (suc a)) ≡ times (binomial x a) (minus x (whole a))
binomial_next x a =
    ap (λ w. times w (binomial x (suc a))) (sym (whole_next a))
    ∙ Solve.ring polynomials (whole (suc a) ∷ constant (inverse (W (factorial (suc a)))) ∷ falling x a ∷ minus x (whole a) ∷ [])
    (at 0 ⊗ (at 1 ⊗ (at 2 ⊗ at 3))) (((at 0 ⊗ at 1) ⊗ at 2) ⊗ at 3) refl
    ∙ ap (λ c. times (times c (falling x a)) (minus x (whole a))) (sym (constant-mul (W (suc a)) (inverse (W (factorial (suc a))))) ∙ ap constant (factorial_next a))

-- ---- the products of two, for all parts of a sum
abbrev pub convolution : Polynomial → Polynomial → ℕ → ℕ → Polynomial
convolution x y zero b = times (binomial x 0) (binomial y b)
convolution x y (suc a) b = plus (times (binomial x (suc a)) (binomial y b)) (convolution x y a (suc b))

step_rule : (x y u v f g h i r s : Polynomial) → times (plus one u) g ≡ times f (minus x u) → times (plus one v) i ≡ times h (minus y v)
    → times (plus one (plus u v)) r ≡ plus (times (minus (plus x y) (plus u v)) s) (times (plus one v) (times f i))
    → times (plus one (plus u v)) (plus (times g h) r) ≡ plus (times (minus (plus x y) (plus u v)) (plus (times f h) s)) (times v (times g h))
step_rule x y u v f g h i r s eg ei er =
    Solve.ring polynomials (u ∷ v ∷ g ∷ h ∷ r ∷ []) ((unity ⊕ (at 0 ⊕ at 1)) ⊗ ((at 2 ⊗ at 3) ⊕ at 4))
    (((((unity ⊕ at 0) ⊗ at 2) ⊗ at 3) ⊕ (at 1 ⊗ (at 2 ⊗ at 3))) ⊕ ((unity ⊕ (at 0 ⊕ at 1)) ⊗ at 4)) refl
    ∙ ap₂ (λ p q. plus (plus (times p h) (times v (times g h))) q) eg er
    ∙ Solve.ring polynomials (x ∷ y ∷ u ∷ v ∷ f ∷ g ∷ h ∷ i ∷ s ∷ [])
    ((((at 4 ⊗ (at 0 ⊖ at 2)) ⊗ at 6) ⊕ (at 3 ⊗ (at 5 ⊗ at 6))) ⊕ ((((at 0 ⊕ at 1) ⊖ (at 2 ⊕ at 3)) ⊗ at 8) ⊕ ((unity ⊕ at 3) ⊗ (at 4 ⊗ at 7))))
    ((((at 4 ⊗ (at 0 ⊖ at 2)) ⊗ at 6) ⊕ ((at 3 ⊗ (at 5 ⊗ at 6)) ⊕ (((at 0 ⊕ at 1) ⊖ (at 2 ⊕ at 3)) ⊗ at 8))) ⊕ (at 4 ⊗ ((unity ⊕ at 3) ⊗ at 7))) refl
    ∙ ap (λ p. plus (plus (times (times f (minus x u)) h) (plus (times v (times g h)) (times (minus (plus x y) (plus u v)) s))) (times f p)) ei
    ∙ Solve.ring polynomials (x ∷ y ∷ u ∷ v ∷ f ∷ g ∷ h ∷ s ∷ [])
    ((((at 4 ⊗ (at 0 ⊖ at 2)) ⊗ at 6) ⊕ ((at 3 ⊗ (at 5 ⊗ at 6)) ⊕ (((at 0 ⊕ at 1) ⊖ (at 2 ⊕ at 3)) ⊗ at 7))) ⊕ (at 4 ⊗ (at 6 ⊗ (at 1 ⊖ at 3))))
    ((((at 0 ⊕ at 1) ⊖ (at 2 ⊕ at 3)) ⊗ ((at 4 ⊗ at 6) ⊕ at 7)) ⊕ (at 3 ⊗ (at 5 ⊗ at 6))) refl

-- one more in the first part
convolution_next : (x y : Polynomial) (a b : ℕ)
    → times (plus one (plus (whole a) (whole b))) (convolution x y (suc a) b)
    ≡ plus (times (minus (plus x y) (plus (whole a) (whole b))) (convolution x y a b)) (times (whole b) (times (binomial x (suc a)) (binomial y b)))
convolution_next x y zero b =
    step_rule x y (whole 0) (whole b) (binomial x 0) (binomial x 1) (binomial y b) (binomial y (suc b)) (times (binomial x 0) (binomial y (suc b))) nil
    (binomial_next x 0) (binomial_next y b) first
    ∙ ap (λ p. plus (times (minus (plus x y) (plus (whole 0) (whole b))) p) (times (whole b) (times (binomial x 1) (binomial y b)))) (plus-nil (times (binomial x 0) (binomial y b)))
  where
    first : times (plus one (plus (whole 0) (whole b))) (times (binomial x 0) (binomial y (suc b)))
        ≡ plus (times (minus (plus x y) (plus (whole 0) (whole b))) nil) (times (plus one (whole b)) (times (binomial x 0) (binomial y (suc b))))
    first =
        ap (λ o. times (plus one (plus o (whole b))) (times (binomial x 0) (binomial y (suc b)))) constant-zero
        ∙ Solve.ring polynomials (x ∷ y ∷ whole 0 ∷ whole b ∷ times (binomial x 0) (binomial y (suc b)) ∷ [])
        ((unity ⊕ (num (pos 0) ⊕ at 3)) ⊗ at 4) ((((at 0 ⊕ at 1) ⊖ (at 2 ⊕ at 3)) ⊗ num (pos 0)) ⊕ ((unity ⊕ at 3) ⊗ at 4)) refl
convolution_next x y (suc a) b =
    step_rule x y (whole (suc a)) (whole b) (binomial x (suc a)) (binomial x (suc (suc a))) (binomial y b) (binomial y (suc b)) (convolution x y (suc a) (suc b)) (convolution x y a (suc b))
    (binomial_next x (suc a)) (binomial_next y b)
    (ap (λ w. times (plus one w) (convolution x y (suc a) (suc b))) (sym (whole_moved a b))
    ∙ convolution_next x y a (suc b)
    ∙ ap₂ (λ w z. plus (times (minus (plus x y) w) (convolution x y a (suc b))) (times z (times (binomial x (suc a)) (binomial y (suc b))))) (whole_moved a b) (whole_next b))

-- all parts of n
pub vandermonde : (x y : Polynomial) (n : ℕ) → convolution x y n 0 ≡ binomial (plus x y) n
vandermonde x y zero = ap₂ times (binomial_zero x) (binomial_zero y) ∙ times-one one ∙ sym (binomial_zero (plus x y))
vandermonde x y (suc n) =
    cancelled n (convolution x y (suc n) 0) (binomial (plus x y) (suc n))
    (ap (λ w. times w (convolution x y (suc n) 0)) (whole_next n ∙ ap (plus one) (sym (plus-nil (whole n)) ∙ ap (plus (whole n)) (sym constant-zero)))
    ∙ convolution_next x y n 0
    ∙ ap (λ o. plus (times (minus (plus x y) (plus (whole n) o)) (convolution x y n 0)) (times o (times (binomial x (suc n)) (binomial y 0)))) constant-zero
    ∙ Solve.ring polynomials (x ∷ y ∷ whole n ∷ convolution x y n 0 ∷ times (binomial x (suc n)) (binomial y 0) ∷ [])
    ((((at 0 ⊕ at 1) ⊖ (at 2 ⊕ num (pos 0))) ⊗ at 3) ⊕ (num (pos 0) ⊗ at 4)) (at 3 ⊗ ((at 0 ⊕ at 1) ⊖ at 2)) refl
    ∙ ap (λ p. times p (minus (plus x y) (whole n))) (vandermonde x y n)
    ∙ sym (binomial_next (plus x y) n)
    ∙ ap (λ w. times w (binomial (plus x y) (suc n))) (sym (whole_next n)))

-- ---- at 0, and at a itself
falling_nil : (k : ℕ) → falling nil (suc k) ≡ nil
falling_nil zero = ap (λ o. times one (minus nil o)) constant-zero ∙ Solve.ring polynomials [] (unity ⊗ (num (pos 0) ⊖ num (pos 0))) (num (pos 0)) refl
falling_nil (suc k) = ap (λ p. times p (minus nil (whole (suc k)))) (falling_nil k) ∙ L.zero-mul polynomials _

pub binomial_nil : (x : Polynomial) → x ≡ nil → (k : ℕ) → binomial x (suc k) ≡ nil
binomial_nil x h k = ap (λ y. binomial y (suc k)) h ∙ ap (times (constant (inverse (W (factorial (suc k)))))) (falling_nil k) ∙ L.mul-zero polynomials _

whole_natural : (n : ℕ) → whole n ≡ natural polynomials n
whole_natural zero = constant-zero
whole_natural (suc n) = whole_next n ∙ ap (plus one) (whole_natural n)

falling_natural : (x : Polynomial) (a : ℕ) → falling x a ≡ N.falling polynomials x a
falling_natural x zero = refl
falling_natural x (suc a) = ap₂ (λ p w. times p (minus x w)) (falling_natural x a) (whole_natural a)

pub binomial_own : (n : ℕ) → binomial (whole n) n ≡ one
binomial_own n =
    ap (times (constant (inverse (W (factorial n)))))
    (falling_natural (whole n) n ∙ ap (λ x. N.falling polynomials x n) (whole_natural n) ∙ N.falling_own polynomials n ∙ sym (whole_natural (factorial n)))
    ∙ sym (constant-mul (inverse (W (factorial n))) (W (factorial n)))
    ∙ ap constant (mul_comm _ _ ∙ mul_inverse (W (factorial n)) (not_nought (factorial n) (factorial_positive n)))
    ∙ constant-one
