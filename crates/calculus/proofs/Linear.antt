-- The integral is linear in the polynomial
use Rattle.std.proofs.Common.{◌≡◌, ℕ, zero, suc, ◌+◌, Bool, true, false, refl, sym, ◌∙◌, ap, ap₂, [], ◌∷◌}
use Rattle.algebra.specs.RingLaws as L
use Rattle.algebra.specs.Solver.{at, ◌⊕◌, minus as opposite}
use Rattle.algebra.specs.Sound as Solve
use Rattle.algebra.specs.Fraction.{Fraction, fractions, is_zero_fraction, is_below_zero}
use Rattle.calculus.specs.Rational.{rationals}
use Rattle.calculus.specs.Polynomial.{Polynomial, nil, plus, times, negative, constant, antiderivative, composed, polynomials, plus-nil, times-plus}
use Rattle.calculus.specs.Simplex.{Simplex, dimension, volume}
use Rattle.calculus.specs.Integral.{signed, sum_below, facet_of, shadow, height, lowered, over_shadow, facet_term, shadow_integral, oriented, cell_integral}
use Rattle.calculus.proofs.Antiderivative as J
use Rattle.calculus.proofs.PolynomialLaws.{composed-plus, composed-times, composed-constant}

pub antiderivative-plus : (i : ℕ) (p q : Polynomial) → antiderivative i (plus p q) ≡ plus (antiderivative i p) (antiderivative i q)
unfolding antiderivative plus
antiderivative-plus i p q = J.anti-add fractions rationals.division i p q

pub antiderivative-scaled : (i : ℕ) (c : Fraction) (p : Polynomial) → antiderivative i (times (constant c) p) ≡ times (constant c) (antiderivative i p)
unfolding antiderivative times constant
antiderivative-scaled i c p = J.anti-scaled fractions rationals.division i c p

pub composed-scaled : (s : ℕ → Polynomial) (c : Fraction) (p : Polynomial) → composed s (times (constant c) p) ≡ times (constant c) (composed s p)
composed-scaled s c p = composed-times s (constant c) p ∙ ap (λ x. times x (composed s p)) (composed-constant s c)

pub negative-plus : (p q : Polynomial) → negative (plus p q) ≡ plus (negative p) (negative q)
negative-plus p q = Solve.ring polynomials (p ∷ q ∷ []) (opposite (at 0 ⊕ at 1)) (opposite (at 0) ⊕ opposite (at 1)) refl

signed-plus : (n : ℕ) (p q : Polynomial) → signed n (plus p q) ≡ plus (signed n p) (signed n q)
signed-plus zero p q = refl
signed-plus (suc zero) p q = negative-plus p q
signed-plus (suc (suc n)) p q = signed-plus n p q

signed-scaled : (n : ℕ) (c p : Polynomial) → signed n (times c p) ≡ times c (signed n p)
signed-scaled zero c p = refl
signed-scaled (suc zero) c p = sym (L.mul-neg polynomials c p)
signed-scaled (suc (suc n)) c p = signed-scaled n c p

pub sum_below-same : (n : ℕ) (f g : ℕ → Polynomial) → ((k : ℕ) → f k ≡ g k) → sum_below n f ≡ sum_below n g
sum_below-same zero f g h = refl
sum_below-same (suc n) f g h = ap₂ plus (sum_below-same n f g h) (h n)

pub sum_below-plus : (n : ℕ) (f g : ℕ → Polynomial) → sum_below n (λ k. plus (f k) (g k)) ≡ plus (sum_below n f) (sum_below n g)
sum_below-plus zero f g = sym (plus-nil nil)
sum_below-plus (suc n) f g = ap (λ x. plus x (plus (f n) (g n))) (sum_below-plus n f g) ∙ L.add_medial polynomials _ _ _ _

pub sum_below-scaled : (n : ℕ) (c : Polynomial) (f : ℕ → Polynomial) → sum_below n (λ k. times c (f k)) ≡ times c (sum_below n f)
sum_below-scaled zero c f = sym (L.mul-zero polynomials c)
sum_below-scaled (suc n) c f = ap (λ x. plus x (times c (f n))) (sum_below-scaled n c f) ∙ sym (times-plus c _ _)

-- nothing where b, else p
abbrev chosen : Bool → Polynomial → Polynomial
chosen b p = elim b [ true ↦ nil | false ↦ p ]

-- ---- the part of one facet, over an integral that is linear
module _ (I : Simplex → Polynomial → Polynomial) (e i : ℕ) where
  over_shadow-plus : ((w : Simplex) (p q : Polynomial) → I w (plus p q) ≡ plus (I w p) (I w q)) → (w : Simplex) (p q : Polynomial)
      → over_shadow I e i w (plus p q) ≡ plus (over_shadow I e i w p) (over_shadow I e i w q)
  over_shadow-plus h w p q = go (is_zero_fraction (volume (shadow i w)))
    where
      below : Polynomial → Polynomial
      below r = I (shadow i w) (composed (lowered e i (height i w)) r)

      inner : I (shadow i w) (composed (lowered e i (height i w)) (plus p q)) ≡ plus (below p) (below q)
      inner = ap (I (shadow i w)) (composed-plus _ p q) ∙ h (shadow i w) _ _

      go : (b : Bool) → chosen b (I (shadow i w) (composed (lowered e i (height i w)) (plus p q)))
          ≡ plus (chosen b (I (shadow i w) (composed (lowered e i (height i w)) p))) (chosen b (I (shadow i w) (composed (lowered e i (height i w)) q)))
      go true = sym (plus-nil nil)
      go false = inner

  over_shadow-scaled : (c : Fraction) → ((w : Simplex) (p : Polynomial) → I w (times (constant c) p) ≡ times (constant c) (I w p)) → (w : Simplex) (p : Polynomial)
      → over_shadow I e i w (times (constant c) p) ≡ times (constant c) (over_shadow I e i w p)
  over_shadow-scaled c h w p = go (is_zero_fraction (volume (shadow i w)))
    where
      inner : I (shadow i w) (composed (lowered e i (height i w)) (times (constant c) p)) ≡ times (constant c) (I (shadow i w) (composed (lowered e i (height i w)) p))
      inner = ap (I (shadow i w)) (composed-scaled _ c p) ∙ h (shadow i w) _

      go : (b : Bool) → chosen b (I (shadow i w) (composed (lowered e i (height i w)) (times (constant c) p))) ≡ times (constant c) (chosen b (I (shadow i w) (composed (lowered e i (height i w)) p)))
      go true = sym (L.mul-zero polynomials (constant c))
      go false = inner

pub shadow_integral-plus : (d : ℕ) (v : Simplex) (p q : Polynomial) → shadow_integral d v (plus p q) ≡ plus (shadow_integral d v p) (shadow_integral d v q)
unfolding shadow_integral
shadow_integral-plus zero v p q = refl
shadow_integral-plus (suc e) v p q =
    sum_below-same (suc (suc e)) _ _ (each (λ w p q. shadow_integral-plus e w p q)) ∙ sum_below-plus (suc (suc e)) (term (antiderivative e p)) (term (antiderivative e q))
  where
    term : Polynomial → ℕ → Polynomial
    term r k = facet_term (λ w q. shadow_integral e w q) e v k e r

    each : ((w : Simplex) (p q : Polynomial) → shadow_integral e w (plus p q) ≡ plus (shadow_integral e w p) (shadow_integral e w q)) → (k : ℕ)
        → facet_term (λ w q. shadow_integral e w q) e v k e (antiderivative e (plus p q))
        ≡ plus (facet_term (λ w q. shadow_integral e w q) e v k e (antiderivative e p)) (facet_term (λ w q. shadow_integral e w q) e v k e (antiderivative e q))
    each ih k =
        ap (signed (k + e))
        (ap (over_shadow (λ w q. shadow_integral e w q) e e (facet_of k v)) (antiderivative-plus e p q)
        ∙ over_shadow-plus (λ w q. shadow_integral e w q) e e ih (facet_of k v) (antiderivative e p) (antiderivative e q))
        ∙ signed-plus (k + e) _ _

pub shadow_integral-scaled : (d : ℕ) (c : Fraction) (v : Simplex) (p : Polynomial) → shadow_integral d v (times (constant c) p) ≡ times (constant c) (shadow_integral d v p)
unfolding shadow_integral
shadow_integral-scaled zero c v p = refl
shadow_integral-scaled (suc e) c v p =
    sum_below-same (suc (suc e)) _ _ (each (λ w p. shadow_integral-scaled e c w p)) ∙ sum_below-scaled (suc (suc e)) (constant c) (term (antiderivative e p))
  where
    term : Polynomial → ℕ → Polynomial
    term r k = facet_term (λ w q. shadow_integral e w q) e v k e r

    each : ((w : Simplex) (p : Polynomial) → shadow_integral e w (times (constant c) p) ≡ times (constant c) (shadow_integral e w p)) → (k : ℕ)
        → facet_term (λ w q. shadow_integral e w q) e v k e (antiderivative e (times (constant c) p)) ≡ times (constant c) (facet_term (λ w q. shadow_integral e w q) e v k e (antiderivative e p))
    each ih k =
        ap (signed (k + e))
        (ap (over_shadow (λ w q. shadow_integral e w q) e e (facet_of k v)) (antiderivative-scaled e c p)
        ∙ over_shadow-scaled (λ w q. shadow_integral e w q) e e c ih (facet_of k v) (antiderivative e p))
        ∙ signed-scaled (k + e) (constant c) _

-- ---- cells
-- p, or its negative where b
abbrev turned : Bool → Polynomial → Polynomial
turned b p = elim b [ true ↦ negative p | false ↦ p ]

pub cell_integral-plus : (v : Simplex) (p q : Polynomial) → cell_integral v (plus p q) ≡ plus (cell_integral v p) (cell_integral v q)
unfolding cell_integral
cell_integral-plus v p q = ap (oriented v) (shadow_integral-plus (dimension v) v p q) ∙ go (is_below_zero (volume v)) (shadow_integral (dimension v) v p) (shadow_integral (dimension v) v q)
  where
    go : (b : Bool) (p q : Polynomial) → turned b (plus p q) ≡ plus (turned b p) (turned b q)
    go true p q = negative-plus p q
    go false p q = refl

pub cell_integral-scaled : (v : Simplex) (c : Fraction) (p : Polynomial) → cell_integral v (times (constant c) p) ≡ times (constant c) (cell_integral v p)
unfolding cell_integral
cell_integral-scaled v c p = ap (oriented v) (shadow_integral-scaled (dimension v) c v p) ∙ go (is_below_zero (volume v)) (shadow_integral (dimension v) v p)
  where
    go : (b : Bool) (p : Polynomial) → turned b (times (constant c) p) ≡ times (constant c) (turned b p)
    go true p = sym (L.mul-neg polynomials (constant c) p)
    go false p = refl
