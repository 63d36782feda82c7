-- The integrals of products of powers over the reference cells, by factorials
use Rattle.std.proofs.Common.{◌≡◌, ℕ, zero, suc, ◌+◌, ◌*◌, refl, sym, ◌∙◌, ap, ap₂}
use Rattle.algebra.specs.Ring.{natural}
use Rattle.algebra.specs.Fraction.{fractions, zero_fraction, one_fraction}
use Rattle.calculus.specs.OverRing as G
use Rattle.calculus.specs.Rational.{rationals}
use Rattle.calculus.specs.Polynomial.{Polynomial, one, plus, times, negative, minus, constant, coordinate, power, whole}
use Rattle.calculus.specs.Simplex.{reference, origin, first_unit, second_unit, third_unit}
use Rattle.calculus.specs.Integral.{shadow_integral}
use Rattle.calculus.specs.LocalFunction.{factorial}
use Rattle.calculus.proofs.OverRingLaws as O
use Rattle.calculus.proofs.WrittenOut as W
use Rattle.calculus.proofs.ByDimension.{shadow_integral_one, shadow_integral_two, shadow_integral_three}
use Rattle.calculus.proofs.Factorials as F

-- powers and whole numbers, as the laws over any ring have them
power_raised : (p : Polynomial) (n : ℕ) → power p n ≡ G.raised fractions (G.ring fractions) p n
power_raised p zero = unfold one in refl
power_raised p (suc n) = ap (times p) (power_raised p n) ∙ (unfold times in refl)

abbrev ring_whole : ℕ → Polynomial
ring_whole n = natural (G.ring fractions) n

whole_natural : (n : ℕ) → whole n ≡ ring_whole n
unfolding constant
whole_natural n = O.constant-natural fractions n

abbrev X : Polynomial
X = coordinate 0

abbrev Y : Polynomial
Y = coordinate 1

abbrev Z : Polynomial
Z = coordinate 2

-- n times an integral, as the laws over any ring have it
scaled_integral : (n m : ℕ) (p q : Polynomial) → p ≡ q → (G.ring fractions).mul (ring_whole n) q ≡ ring_whole m → times (whole n) p ≡ whole m
scaled_integral n m p q e h = ap₂ times (whole_natural n) e ∙ opened ∙ h ∙ sym (whole_natural m)
  where
    opened : times (natural (G.ring fractions) n) q ≡ (G.ring fractions).mul (natural (G.ring fractions) n) q
    opened = unfold times in refl

-- (a + b + 1)! times the integral of (1 - x)^a x^b over the unit interval
pub interval_powers : (a b : ℕ) → times (whole (factorial (a + suc b))) (shadow_integral 1 (reference 1) (times (power (minus one X) a) (power X b))) ≡ whole (factorial a * factorial b)
interval_powers a b =
    scaled_integral (factorial (a + suc b)) (factorial a * factorial b) _ (F.beta fractions rationals a b)
    (shadow_integral_one origin first_unit _ ∙ ap (λ p. W.interval fractions rationals zero_fraction one_fraction p) (ap₂ times (power_raised (minus one X) a) (power_raised X b) ∙ opened))
    (F.beta_is fractions rationals a b)
  where
    opened : times (G.raised fractions (G.ring fractions) (minus one X) a) (G.raised fractions (G.ring fractions) X b)
        ≡ (G.ring fractions).mul (F.power fractions rationals (F.U fractions rationals) a) (F.power fractions rationals (F.X fractions rationals) b)
    opened = unfold times one plus negative coordinate in refl

-- (a + b + 2)! times the integral of x^a y^b over the reference triangle
pub triangle_powers : (a b : ℕ) → times (whole (factorial (a + suc (suc b)))) (shadow_integral 2 (reference 2) (times (power X a) (power Y b))) ≡ whole (factorial a * factorial b)
triangle_powers a b =
    scaled_integral (factorial (a + suc (suc b))) (factorial a * factorial b) _ _
    (shadow_integral_two origin first_unit second_unit _ ∙ ap (λ p. W.triangle fractions rationals origin first_unit second_unit p) (ap₂ times (power_raised X a) (power_raised Y b) ∙ opened))
    (F.triangle_factorials fractions rationals a b)
  where
    opened : times (G.raised fractions (G.ring fractions) X a) (G.raised fractions (G.ring fractions) Y b)
        ≡ (G.ring fractions).mul (F.power fractions rationals (F.X fractions rationals) a) (F.power fractions rationals (F.Y fractions rationals) b)
    opened = unfold times coordinate in refl

-- (a + b + c + 3)! times the integral of x^a y^b z^c over the reference tetrahedron
pub tetrahedron_powers : (a b c : ℕ)
    → times (whole (factorial (a + (b + suc (suc (suc c)))))) (shadow_integral 3 (reference 3) (times (power X a) (times (power Y b) (power Z c)))) ≡ whole (factorial a * (factorial b * factorial c))
tetrahedron_powers a b c =
    scaled_integral (factorial (a + (b + suc (suc (suc c))))) (factorial a * (factorial b * factorial c)) _ _
    (shadow_integral_three origin first_unit second_unit third_unit _
    ∙ ap (λ p. W.tetrahedron fractions rationals origin first_unit second_unit third_unit p) (ap₂ times (power_raised X a) (ap₂ times (power_raised Y b) (power_raised Z c)) ∙ opened))
    (F.tetrahedron_factorials fractions rationals a b c)
  where
    opened : times (G.raised fractions (G.ring fractions) X a) (times (G.raised fractions (G.ring fractions) Y b) (G.raised fractions (G.ring fractions) Z c))
        ≡ (G.ring fractions).mul (F.power fractions rationals (F.X fractions rationals) a)
        ((G.ring fractions).mul (F.power fractions rationals (F.Y fractions rationals) b) (F.power fractions rationals (F.Z fractions rationals) c))
    opened = unfold times coordinate in refl
