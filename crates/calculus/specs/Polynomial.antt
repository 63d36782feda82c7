-- Polynomials with fractions as coefficients, in the variables 0, 1, 2 of space and the parameters 3, 4, ..
-- Two lists of terms are one polynomial where the summed coefficients of all exponents are equal, so `≡` is the equality of polynomials.
use Rattle.std.specs.Prelude.{◌≡◌, ℕ, zero, suc, List, [], ◌∷◌}
use Rattle.algebra.specs.Ring.{Ring, natural}
use Rattle.algebra.specs.Fraction.{Fraction, fractions, zero_fraction}
use Rattle.calculus.specs.OverRing as O
use Rattle.calculus.specs.Powers.{powers_of}
use Rattle.calculus.specs.Rational.{rationals, same_map}

abbrev pub Polynomial : Type 0
Polynomial = O.Polynomial fractions

unfoldable pub nil : Polynomial
nil = (O.ring fractions).zero

unfoldable pub one : Polynomial
one = (O.ring fractions).one

unfoldable pub plus : Polynomial → Polynomial → Polynomial
plus = (O.ring fractions).add

unfoldable pub times : Polynomial → Polynomial → Polynomial
times = (O.ring fractions).mul

unfoldable pub negative : Polynomial → Polynomial
negative = (O.ring fractions).neg

abbrev pub minus : Polynomial → Polynomial → Polynomial
minus p q = plus p (negative q)

-- the polynomial without a variable
unfoldable pub constant : Fraction → Polynomial
constant a = O.constant fractions a

-- the polynomial that is variable i
unfoldable pub coordinate : ℕ → Polynomial
coordinate i = O.coordinate fractions i

-- the partial derivative in variable i
unfoldable pub derivative : ℕ → Polynomial → Polynomial
derivative i p = O.derivative fractions i p

-- the antiderivative in variable i that has no term of exponent 0 in it
unfoldable pub antiderivative : ℕ → Polynomial → Polynomial
antiderivative i p = O.antiderivative fractions rationals.division i p

-- p with each variable i replaced by s i, all at once
unfoldable pub composed : (ℕ → Polynomial) → Polynomial → Polynomial
composed s p = O.replaced fractions s p

-- q for variable i, and each other variable for itself
unfoldable pub instead : ℕ → Polynomial → ℕ → Polynomial
instead i q = O.instead fractions i q

-- p with variable i replaced by q
abbrev pub replaced : ℕ → Polynomial → Polynomial → Polynomial
replaced i q p = composed (instead i q) p

-- the terms of p with exponent n in variable t, without that factor: for n of 0 or 1
unfoldable pub coefficient_of : ℕ → ℕ → Polynomial → Polynomial
coefficient_of t n p = O.coefficient_of fractions t n p

-- the value of p where each variable i is s i
unfoldable pub value : (ℕ → Fraction) → Polynomial → Fraction
value s p = O.value fractions fractions (λ a. a) same_map s p

-- the value of p where all variables are 0; where p has no variable, p is the constant of it
abbrev pub constant_term : Polynomial → Fraction
constant_term p = value (λ i. zero_fraction) p

-- p times itself, n times
abbrev pub power : Polynomial → ℕ → Polynomial
power p zero = one
power p (suc n) = times p (power p n)

-- n copies of 1
abbrev pub whole : ℕ → Polynomial
whole n = constant (natural fractions n)

-- c times the product of the variables, each to its exponent; the exponents are written out from variable 0 on
unfoldable pub monomial : Fraction → List ℕ → Polynomial
monomial c e = O.monomial fractions c (powers_of e)

-- the sum of written-out terms
abbrev pub polynomial_of : List (Fraction × List ℕ) → Polynomial
polynomial_of [] = nil
polynomial_of (t ∷ ts) = plus (monomial t.0 t.1) (polynomial_of ts)

-- ---- the ring of polynomials
pub plus_assoc : (p q r : Polynomial) → plus (plus p q) r ≡ plus p (plus q r)
unfolding plus
plus_assoc = (O.ring fractions).add_assoc

pub plus_comm : (p q : Polynomial) → plus p q ≡ plus q p
unfolding plus
plus_comm = (O.ring fractions).add_comm

pub plus-nil : (p : Polynomial) → plus p nil ≡ p
unfolding plus nil
plus-nil = (O.ring fractions).add_zero

pub plus-negative : (p : Polynomial) → plus p (negative p) ≡ nil
unfolding plus negative nil
plus-negative = (O.ring fractions).add_neg

pub times_assoc : (p q r : Polynomial) → times (times p q) r ≡ times p (times q r)
unfolding times
times_assoc = (O.ring fractions).mul_assoc

pub times_comm : (p q : Polynomial) → times p q ≡ times q p
unfolding times
times_comm = (O.ring fractions).mul_comm

pub times-one : (p : Polynomial) → times p one ≡ p
unfolding times one
times-one = (O.ring fractions).mul_one

pub times-plus : (p q r : Polynomial) → times p (plus q r) ≡ plus (times p q) (times p r)
unfolding times plus
times-plus = (O.ring fractions).mul_add

abbrev pub polynomials : Ring Polynomial
polynomials = record {
  is_set = (O.ring fractions).is_set;
  zero = nil;
  one = one;
  add = plus;
  mul = times;
  neg = negative;
  add_assoc = plus_assoc;
  add_comm = plus_comm;
  add_zero = plus-nil;
  add_neg = plus-negative;
  mul_assoc = times_assoc;
  mul_comm = times_comm;
  mul_one = times-one;
  mul_add = times-plus;
}
