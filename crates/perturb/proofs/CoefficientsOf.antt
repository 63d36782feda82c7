-- The coefficients of a parameter through the operations of trees
use Rattle.std.proofs.Common.{◌≡◌, ℕ, zero, suc, ◌+◌, ◌<◌, arith}
use Rattle.algebra.specs.Fraction.{fractions}
use Rattle.calculus.specs.Powers.{delta}
use Rattle.calculus.specs.Rational.{rationals}
use Rattle.calculus.specs.Polynomial.{Polynomial, nil, one, times, negative, coordinate, derivative, coefficient_of, times-one}
use Rattle.calculus.proofs.Coefficients as C
use Rattle.calculus.proofs.PolynomialLaws.{coefficient_of-plus, coefficient_zero-times, coefficient_one-times, coefficient_zero_line, coefficient_one_line}
use Rattle.ufl_meaning.specs.Environment.{parameter_number}
use Rattle.ufl_meaning.specs.Operators.{along}
use Rattle.ufl_meaning.proofs.EnvironmentLaws.{apart}
use Rattle.ufl_meaning.proofs.FreeLaws.{free_constant, free_one, free_nil}
use Rattle.perturb.proofs.MeaningKept.{CoefficientLaws}

of_negative : (t n : ℕ) (p : Polynomial) → coefficient_of t n (negative p) ≡ negative (coefficient_of t n p)
unfolding coefficient_of negative
of_negative t n p = C.coefficient-neg fractions rationals.division t n p

zero_of_free : (t : ℕ) (p : Polynomial) → derivative t p ≡ nil → coefficient_of t 0 p ≡ p
unfolding coefficient_of derivative nil
zero_of_free t p h = C.coefficient_zero_free fractions rationals.division t p h

one_of_free : (t : ℕ) (p : Polynomial) → derivative t p ≡ nil → coefficient_of t 1 p ≡ nil
unfolding coefficient_of derivative nil
one_of_free t p h = C.coefficient_one_free fractions rationals.division t p h

zero_of_derivative : (t i : ℕ) → delta i t ≡ 0 → (p : Polynomial) → coefficient_of t 0 (derivative i p) ≡ derivative i (coefficient_of t 0 p)
unfolding coefficient_of derivative
zero_of_derivative t i h p = C.coefficient_zero-derivative fractions rationals.division t i h p

one_of_derivative : (t i : ℕ) → delta i t ≡ 0 → (p : Polynomial) → coefficient_of t 1 (derivative i p) ≡ derivative i (coefficient_of t 1 p)
unfolding coefficient_of derivative
one_of_derivative t i h p = C.coefficient_one-derivative fractions rationals.division t i h p

below_parameter : (i k : ℕ) → i < 3 → delta i (parameter_number k) ≡ 0
below_parameter i k h = apart i (3 + k) (omega (arith, h))

zero_of_along : (k i : ℕ) (p : Polynomial) → coefficient_of (parameter_number k) 0 (along i p) ≡ along i (coefficient_of (parameter_number k) 0 p)
zero_of_along k zero p = zero_of_derivative _ 0 (below_parameter 0 k (omega arith)) p
zero_of_along k (suc zero) p = zero_of_derivative _ 1 (below_parameter 1 k (omega arith)) p
zero_of_along k (suc (suc zero)) p = zero_of_derivative _ 2 (below_parameter 2 k (omega arith)) p
zero_of_along k (suc (suc (suc i))) p = zero_of_free _ nil (free_nil _)

one_of_along : (k i : ℕ) (p : Polynomial) → coefficient_of (parameter_number k) 1 (along i p) ≡ along i (coefficient_of (parameter_number k) 1 p)
one_of_along k zero p = one_of_derivative _ 0 (below_parameter 0 k (omega arith)) p
one_of_along k (suc zero) p = one_of_derivative _ 1 (below_parameter 1 k (omega arith)) p
one_of_along k (suc (suc zero)) p = one_of_derivative _ 2 (below_parameter 2 k (omega arith)) p
one_of_along k (suc (suc (suc i))) p = one_of_free _ nil (free_nil _)

pub coefficient_laws : CoefficientLaws
coefficient_laws = record {
  adds = coefficient_of-plus;
  zero_negates = λ t p. of_negative t 0 p;
  one_negates = λ t p. of_negative t 1 p;
  zero_times = coefficient_zero-times;
  one_times = coefficient_one-times;
  zero_free = zero_of_free;
  one_free = one_of_free;
  zero_line = coefficient_zero_line;
  one_line = coefficient_one_line;
  zero_along = zero_of_along;
  one_along = one_of_along;
  of_constant = free_constant;
  of_one = free_one;
  of_nil = free_nil;
}

pub parameter_times_one : (t : ℕ) → times (coordinate t) one ≡ coordinate t
parameter_times_one t = times-one (coordinate t)
