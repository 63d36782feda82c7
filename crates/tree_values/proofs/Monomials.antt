-- Terms with written-out powers of the three coordinates and the first three parameters
use Rattle.std.proofs.Common.{◌≡◌, ℕ, zero, suc, ◌+◌, ◌-◌, ◌*◌, refl, sym, ◌∙◌, ap, ap₂, List, [], ◌∷◌, get_or, arith}
use Rattle.algebra.specs.Ring.{natural}
use Rattle.algebra.specs.RingLaws as L
use Rattle.algebra.specs.Fraction.{Fraction, fractions, one_fraction, zero_fraction, mul}
use Rattle.calculus.specs.Powers.{delta}
use Rattle.calculus.specs.Polynomial.{polynomials, nil, one, plus, times, constant, coordinate, derivative, monomial, power, coefficient_of, plus-nil, times-one, times_comm}
use Rattle.calculus.proofs.Monomials.{monomial-constant, monomial-coordinate, monomial-times, monomial-split, monomial-derivative, monomial-zero}
use Rattle.calculus.proofs.PolynomialLaws.{IsFree, derivative-constant, constant-zero, coefficient_one-times, coefficient_zero-times, coefficient_zero_line, coefficient_one_line}

abbrev pub powers : ℕ → ℕ → ℕ → ℕ → ℕ → ℕ → List ℕ
powers x y z r s t = x ∷ y ∷ z ∷ r ∷ s ∷ t ∷ []

-- a fact at each variable
at_each : (P : ℕ → Type 0) → P 0 → P 1 → P 2 → P 3 → P 4 → P 5 → ((i : ℕ) → P (suc (suc (suc (suc (suc (suc i))))))) → (i : ℕ) → P i
at_each P a b c d e f g zero = a
at_each P a b c d e f g (suc zero) = b
at_each P a b c d e f g (suc (suc zero)) = c
at_each P a b c d e f g (suc (suc (suc zero))) = d
at_each P a b c d e f g (suc (suc (suc (suc zero)))) = e
at_each P a b c d e f g (suc (suc (suc (suc (suc zero))))) = f
at_each P a b c d e f g (suc (suc (suc (suc (suc (suc i)))))) = g i

pub constant_term : (c : Fraction) → monomial c (powers 0 0 0 0 0 0) ≡ constant c
constant_term c = monomial-constant c (powers 0 0 0 0 0 0) (at_each (λ i. get_or (powers 0 0 0 0 0 0) i 0 ≡ 0) refl refl refl refl refl refl (λ i. refl))

pub first_coordinate : monomial one_fraction (powers 1 0 0 0 0 0) ≡ coordinate 0
first_coordinate = monomial-coordinate 0 (powers 1 0 0 0 0 0) (at_each (λ i. get_or (powers 1 0 0 0 0 0) i 0 ≡ delta 0 i) refl refl refl refl refl refl (λ i. refl))

pub second_coordinate : monomial one_fraction (powers 0 1 0 0 0 0) ≡ coordinate 1
second_coordinate = monomial-coordinate 1 (powers 0 1 0 0 0 0) (at_each (λ i. get_or (powers 0 1 0 0 0 0) i 0 ≡ delta 1 i) refl refl refl refl refl refl (λ i. refl))

pub third_coordinate : monomial one_fraction (powers 0 0 1 0 0 0) ≡ coordinate 2
third_coordinate = monomial-coordinate 2 (powers 0 0 1 0 0 0) (at_each (λ i. get_or (powers 0 0 1 0 0 0) i 0 ≡ delta 2 i) refl refl refl refl refl refl (λ i. refl))

pub first_parameter : monomial one_fraction (powers 0 0 0 1 0 0) ≡ coordinate 3
first_parameter = monomial-coordinate 3 (powers 0 0 0 1 0 0) (at_each (λ i. get_or (powers 0 0 0 1 0 0) i 0 ≡ delta 3 i) refl refl refl refl refl refl (λ i. refl))

pub second_parameter : monomial one_fraction (powers 0 0 0 0 1 0) ≡ coordinate 4
second_parameter = monomial-coordinate 4 (powers 0 0 0 0 1 0) (at_each (λ i. get_or (powers 0 0 0 0 1 0) i 0 ≡ delta 4 i) refl refl refl refl refl refl (λ i. refl))

pub third_parameter : monomial one_fraction (powers 0 0 0 0 0 1) ≡ coordinate 5
third_parameter = monomial-coordinate 5 (powers 0 0 0 0 0 1) (at_each (λ i. get_or (powers 0 0 0 0 0 1) i 0 ≡ delta 5 i) refl refl refl refl refl refl (λ i. refl))

pub product_term : (c d : Fraction) (x y z r s t x' y' z' r' s' t' : ℕ)
    → monomial (mul c d) (powers (x + x') (y + y') (z + z') (r + r') (s + s') (t + t')) ≡ times (monomial c (powers x y z r s t)) (monomial d (powers x' y' z' r' s' t'))
product_term c d x y z r s t x' y' z' r' s' t' =
    sym (monomial-times c d (powers x y z r s t) (powers x' y' z' r' s' t') (powers (x + x') (y + y') (z + z') (r + r') (s + s') (t + t'))
    (at_each (λ i. get_or (powers (x + x') (y + y') (z + z') (r + r') (s + s') (t + t')) i 0 ≡ get_or (powers x y z r s t) i 0 + get_or (powers x' y' z' r' s' t') i 0) refl refl refl refl refl refl (λ i. refl)))

-- ---- derivatives in space
abbrev by_power : ℕ → Fraction → Fraction
by_power n c = mul (natural fractions n) c

pub x_derivative : (c : Fraction) (x y z r s t : ℕ) → derivative 0 (monomial c (powers x y z r s t)) ≡ monomial (by_power x c) (powers (x - 1) y z r s t)
x_derivative c x y z r s t =
    monomial-derivative 0 c (powers x y z r s t) (powers (x - 1) y z r s t)
    (at_each (λ i. get_or (powers (x - 1) y z r s t) i 0 ≡ get_or (powers x y z r s t) i 0 - delta 0 i) refl (omega arith) (omega arith) (omega arith) (omega arith) (omega arith) (λ i. refl))

pub y_derivative : (c : Fraction) (x y z r s t : ℕ) → derivative 1 (monomial c (powers x y z r s t)) ≡ monomial (by_power y c) (powers x (y - 1) z r s t)
y_derivative c x y z r s t =
    monomial-derivative 1 c (powers x y z r s t) (powers x (y - 1) z r s t)
    (at_each (λ i. get_or (powers x (y - 1) z r s t) i 0 ≡ get_or (powers x y z r s t) i 0 - delta 1 i) (omega arith) refl (omega arith) (omega arith) (omega arith) (omega arith) (λ i. refl))

pub z_derivative : (c : Fraction) (x y z r s t : ℕ) → derivative 2 (monomial c (powers x y z r s t)) ≡ monomial (by_power z c) (powers x y (z - 1) r s t)
z_derivative c x y z r s t =
    monomial-derivative 2 c (powers x y z r s t) (powers x y (z - 1) r s t)
    (at_each (λ i. get_or (powers x y (z - 1) r s t) i 0 ≡ get_or (powers x y z r s t) i 0 - delta 2 i) (omega arith) (omega arith) refl (omega arith) (omega arith) (omega arith) (λ i. refl))

-- ---- the coefficient of power 1 of a variable
absent_power : (n j : ℕ) (f : ℕ → ℕ) → f n ≡ 0 → f j ≡ f j - delta n j
absent_power zero zero f h = omega arith
absent_power zero (suc j) f h = omega arith
absent_power (suc n) zero f h = omega arith
absent_power (suc n) (suc j) f h = absent_power n j (λ k. f (suc k)) h

free_term : (n : ℕ) (c : Fraction) (es : List ℕ) → get_or es n 0 ≡ 0 → IsFree n (monomial c es)
free_term n c es h =
    monomial-derivative n c es es (λ j. absent_power n j (λ k. get_or es k 0) h)
    ∙ ap (λ m. monomial (by_power m c) es) h ∙ ap (λ x. monomial x es) (L.zero-mul fractions c) ∙ monomial-zero es

free_nil : (n : ℕ) → IsFree n nil
free_nil n = ap (derivative n) (sym constant-zero) ∙ derivative-constant n zero_fraction

pub absent_part : (n : ℕ) (c : Fraction) (es : List ℕ) → get_or es n 0 ≡ 0 → coefficient_of n 1 (monomial c es) ≡ nil
absent_part n c es h =
    sym (ap (coefficient_of n 1) (ap (plus (monomial c es)) (L.mul-zero polynomials (coordinate n)) ∙ plus-nil _))
    ∙ coefficient_one_line n (monomial c es) nil (free_term n c es h) (free_nil n)

pub single_part : (n : ℕ) (c : Fraction) (es gs : List ℕ) → get_or gs n 0 ≡ 0 → ((j : ℕ) → get_or es j 0 ≡ get_or gs j 0 + 1 * delta n j) → coefficient_of n 1 (monomial c es) ≡ monomial c gs
single_part n c es gs h split =
    ap (coefficient_of n 1) (monomial-split n 1 c es gs split ∙ ap (times (monomial c gs)) (times-one (coordinate n)) ∙ times_comm _ _ ∙ sym (L.zero-add polynomials _))
    ∙ coefficient_one_line n nil (monomial c gs) (free_nil n) (free_term n c gs h)

no_zero_part : (n : ℕ) → coefficient_of n 0 (coordinate n) ≡ nil
no_zero_part n =
    ap (coefficient_of n 0) (sym (L.zero-add polynomials _ ∙ times-one (coordinate n)))
    ∙ coefficient_zero_line n nil one (free_nil n)

zero_of_power : (n m : ℕ) → coefficient_of n 0 (power (coordinate n) (suc m)) ≡ nil
zero_of_power n m = coefficient_zero-times n _ _ ∙ ap (λ p. times p (coefficient_of n 0 (power (coordinate n) m))) (no_zero_part n) ∙ L.zero-mul polynomials _

one_of_power : (n m : ℕ) → coefficient_of n 1 (power (coordinate n) (suc (suc m))) ≡ nil
one_of_power n m =
    coefficient_one-times n _ _
    ∙ ap₂ plus
    (ap (times (coefficient_of n 1 (coordinate n))) (zero_of_power n m) ∙ L.mul-zero polynomials _)
    (ap (λ p. times p (coefficient_of n 1 (power (coordinate n) (suc m)))) (no_zero_part n) ∙ L.zero-mul polynomials _)
    ∙ plus-nil nil

pub higher_part : (n m : ℕ) (c : Fraction) (es gs : List ℕ) → ((j : ℕ) → get_or es j 0 ≡ get_or gs j 0 + suc (suc m) * delta n j) → coefficient_of n 1 (monomial c es) ≡ nil
higher_part n m c es gs split =
    ap (coefficient_of n 1) (monomial-split n (suc (suc m)) c es gs split)
    ∙ coefficient_one-times n _ _
    ∙ ap₂ plus
    (ap (times (coefficient_of n 1 (monomial c gs))) (zero_of_power n (suc m)) ∙ L.mul-zero polynomials _)
    (ap (times (coefficient_of n 0 (monomial c gs))) (one_of_power n m) ∙ L.mul-zero polynomials _)
    ∙ plus-nil nil

-- of each of the three parameters: once, or another number of times
pub first_once : (c : Fraction) (x y z s t : ℕ) → coefficient_of 3 1 (monomial c (powers x y z 1 s t)) ≡ monomial c (powers x y z 0 s t)
first_once c x y z s t =
    single_part 3 c (powers x y z 1 s t) (powers x y z 0 s t) refl
    (at_each (λ j. get_or (powers x y z 1 s t) j 0 ≡ get_or (powers x y z 0 s t) j 0 + 1 * delta 3 j) (omega arith) (omega arith) (omega arith) refl (omega arith) (omega arith) (λ i. refl))

pub second_once : (c : Fraction) (x y z r t : ℕ) → coefficient_of 4 1 (monomial c (powers x y z r 1 t)) ≡ monomial c (powers x y z r 0 t)
second_once c x y z r t =
    single_part 4 c (powers x y z r 1 t) (powers x y z r 0 t) refl
    (at_each (λ j. get_or (powers x y z r 1 t) j 0 ≡ get_or (powers x y z r 0 t) j 0 + 1 * delta 4 j) (omega arith) (omega arith) (omega arith) (omega arith) refl (omega arith) (λ i. refl))

pub third_once : (c : Fraction) (x y z r s : ℕ) → coefficient_of 5 1 (monomial c (powers x y z r s 1)) ≡ monomial c (powers x y z r s 0)
third_once c x y z r s =
    single_part 5 c (powers x y z r s 1) (powers x y z r s 0) refl
    (at_each (λ j. get_or (powers x y z r s 1) j 0 ≡ get_or (powers x y z r s 0) j 0 + 1 * delta 5 j) (omega arith) (omega arith) (omega arith) (omega arith) (omega arith) refl (λ i. refl))

pub first_otherwise : (c : Fraction) (x y z r s t : ℕ) → ((r ≡ 1) → ⊥) → coefficient_of 3 1 (monomial c (powers x y z r s t)) ≡ nil
first_otherwise c x y z zero s t h = absent_part 3 c (powers x y z 0 s t) refl
first_otherwise c x y z (suc zero) s t h = absurd (h refl)
first_otherwise c x y z (suc (suc m)) s t h =
    higher_part 3 m c (powers x y z (suc (suc m)) s t) (powers x y z 0 s t)
    (at_each (λ j. get_or (powers x y z (suc (suc m)) s t) j 0 ≡ get_or (powers x y z 0 s t) j 0 + suc (suc m) * delta 3 j) (omega arith) (omega arith) (omega arith) (omega arith) (omega arith) (omega arith) (λ i. omega arith))

pub second_otherwise : (c : Fraction) (x y z r s t : ℕ) → ((s ≡ 1) → ⊥) → coefficient_of 4 1 (monomial c (powers x y z r s t)) ≡ nil
second_otherwise c x y z r zero t h = absent_part 4 c (powers x y z r 0 t) refl
second_otherwise c x y z r (suc zero) t h = absurd (h refl)
second_otherwise c x y z r (suc (suc m)) t h =
    higher_part 4 m c (powers x y z r (suc (suc m)) t) (powers x y z r 0 t)
    (at_each (λ j. get_or (powers x y z r (suc (suc m)) t) j 0 ≡ get_or (powers x y z r 0 t) j 0 + suc (suc m) * delta 4 j) (omega arith) (omega arith) (omega arith) (omega arith) (omega arith) (omega arith) (λ i. omega arith))

pub third_otherwise : (c : Fraction) (x y z r s t : ℕ) → ((t ≡ 1) → ⊥) → coefficient_of 5 1 (monomial c (powers x y z r s t)) ≡ nil
third_otherwise c x y z r s zero h = absent_part 5 c (powers x y z r s 0) refl
third_otherwise c x y z r s (suc zero) h = absurd (h refl)
third_otherwise c x y z r s (suc (suc m)) h =
    higher_part 5 m c (powers x y z r s (suc (suc m))) (powers x y z r s 0)
    (at_each (λ j. get_or (powers x y z r s (suc (suc m))) j 0 ≡ get_or (powers x y z r s 0) j 0 + suc (suc m) * delta 5 j) (omega arith) (omega arith) (omega arith) (omega arith) (omega arith) (omega arith) (λ i. omega arith))

-- of a parameter that a term can't have
pub no_parameter : (k : ℕ) (c : Fraction) (x y z r s t : ℕ) → ((k ≡ 0) → ⊥) → ((k ≡ 1) → ⊥) → ((k ≡ 2) → ⊥) → coefficient_of (3 + k) 1 (monomial c (powers x y z r s t)) ≡ nil
no_parameter zero c x y z r s t h₀ h₁ h₂ = absurd (h₀ refl)
no_parameter (suc zero) c x y z r s t h₀ h₁ h₂ = absurd (h₁ refl)
no_parameter (suc (suc zero)) c x y z r s t h₀ h₁ h₂ = absurd (h₂ refl)
no_parameter (suc (suc (suc k))) c x y z r s t h₀ h₁ h₂ =
    let six : 3 + suc (suc (suc k)) ≡ suc (suc (suc (suc (suc (suc k))))) = omega arith in
    absent_part (3 + suc (suc (suc k))) c (powers x y z r s t) (ap (λ n. get_or (powers x y z r s t) n 0) six)

-- ---- the coefficient of power 0 of a variable
pub constant_part : (n : ℕ) (c : Fraction) (es : List ℕ) → get_or es n 0 ≡ 0 → coefficient_of n 0 (monomial c es) ≡ monomial c es
constant_part n c es h =
    sym (ap (coefficient_of n 0) (ap (plus (monomial c es)) (L.mul-zero polynomials (coordinate n)) ∙ plus-nil _))
    ∙ coefficient_zero_line n (monomial c es) nil (free_term n c es h)

abbrev cleared : ℕ → List ℕ → List ℕ
cleared n [] = []
cleared zero (e ∷ es) = 0 ∷ es
cleared (suc n) (e ∷ es) = e ∷ cleared n es

split_off : (n m : ℕ) (es : List ℕ) → get_or es n 0 ≡ m → (j : ℕ) → get_or es j 0 ≡ get_or (cleared n es) j 0 + m * delta n j
split_off zero m [] h zero = omega (arith, h)
split_off zero m [] h (suc j) = omega arith
split_off (suc n) m [] h zero = omega arith
split_off (suc n) m [] h (suc j) = split_off n m [] h j
split_off zero m (e ∷ es) h zero = omega (arith, h)
split_off zero m (e ∷ es) h (suc j) = omega arith
split_off (suc n) m (e ∷ es) h zero = omega arith
split_off (suc n) m (e ∷ es) h (suc j) = split_off n m es h j

pub no_constant_part : (n m : ℕ) (c : Fraction) (es : List ℕ) → get_or es n 0 ≡ m → ((m ≡ 0) → ⊥) → coefficient_of n 0 (monomial c es) ≡ nil
no_constant_part n zero c es h positive = absurd (positive refl)
no_constant_part n (suc m) c es h positive =
    ap (coefficient_of n 0) (monomial-split n (suc m) c es (cleared n es) (split_off n (suc m) es h))
    ∙ coefficient_zero-times n _ _
    ∙ ap (times (coefficient_of n 0 (monomial c (cleared n es)))) (zero_of_power n m) ∙ L.mul-zero polynomials _

pub no_power : (k : ℕ) (x y z r s t : ℕ) → ((k ≡ 0) → ⊥) → ((k ≡ 1) → ⊥) → ((k ≡ 2) → ⊥) → 0 ≡ get_or (powers x y z r s t) (3 + k) 0
no_power zero x y z r s t h₀ h₁ h₂ = absurd (h₀ refl)
no_power (suc zero) x y z r s t h₀ h₁ h₂ = absurd (h₁ refl)
no_power (suc (suc zero)) x y z r s t h₀ h₁ h₂ = absurd (h₂ refl)
no_power (suc (suc (suc k))) x y z r s t h₀ h₁ h₂ =
    let six : 3 + suc (suc (suc k)) ≡ suc (suc (suc (suc (suc (suc k))))) = omega arith in
    sym (ap (λ n. get_or (powers x y z r s t) n 0) six)
