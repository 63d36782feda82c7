-- The laws of the operations on polynomials over the fractions, under their short names
use Rattle.std.proofs.Common.{◌≡◌, ℕ, suc, refl, sym, ◌∙◌, ap}
use Rattle.algebra.specs.RingLaws as L
use Rattle.algebra.specs.Fraction.{Fraction, fractions, zero_fraction, one_fraction, add, mul, negative as minus_fraction}
use Rattle.calculus.specs.Polynomial.{Polynomial, nil, one, plus, times, negative, constant, coordinate, derivative, antiderivative, composed, coefficient_of, value, whole, polynomials}
use Rattle.calculus.specs.Powers.{delta}
use Rattle.calculus.specs.OverRing as G
use Rattle.calculus.specs.Rational.{rationals, same_map}
use Rattle.calculus.proofs.OverRingLaws as O
use Rattle.calculus.proofs.Antiderivative as J
use Rattle.calculus.proofs.IntervalLaw as I
use Rattle.calculus.proofs.Coefficients as C

-- ---- constants
pub constant-add : (a b : Fraction) → constant (add a b) ≡ plus (constant a) (constant b)
unfolding constant plus
constant-add a b = (G.constant-IsRingMap fractions).adds a b

pub constant-mul : (a b : Fraction) → constant (mul a b) ≡ times (constant a) (constant b)
unfolding constant times
constant-mul a b = (G.constant-IsRingMap fractions).multiplies a b

pub constant-one : constant one_fraction ≡ one
unfolding constant one
constant-one = refl

pub constant-zero : constant zero_fraction ≡ nil
unfolding constant nil
constant-zero = I.constant-zero fractions rationals

pub constant-negative : (a : Fraction) → constant (minus_fraction a) ≡ negative (constant a)
unfolding constant negative
constant-negative a = I.constant-neg fractions rationals a

-- ---- replacing variables is a map of rings
pub composed-plus : (s : ℕ → Polynomial) (p q : Polynomial) → composed s (plus p q) ≡ plus (composed s p) (composed s q)
unfolding composed plus
composed-plus s p q = O.replaced-add fractions s p q

pub composed-times : (s : ℕ → Polynomial) (p q : Polynomial) → composed s (times p q) ≡ times (composed s p) (composed s q)
unfolding composed times
composed-times s p q = O.replaced-mul fractions s p q

pub composed-constant : (s : ℕ → Polynomial) (c : Fraction) → composed s (constant c) ≡ constant c
unfolding composed constant
composed-constant s c = O.replaced-constant fractions s c

pub composed-coordinate : (s : ℕ → Polynomial) (i : ℕ) → composed s (coordinate i) ≡ s i
unfolding composed coordinate
composed-coordinate s i = O.replaced-coordinate fractions s i

pub composed-one : (s : ℕ → Polynomial) → composed s one ≡ one
composed-one s = ap (composed s) (sym constant-one) ∙ composed-constant s one_fraction ∙ constant-one

pub composed-nil : (s : ℕ → Polynomial) → composed s nil ≡ nil
unfolding composed nil
composed-nil s = I.replaced-zero fractions rationals s

pub composed-negative : (s : ℕ → Polynomial) (p : Polynomial) → composed s (negative p) ≡ negative (composed s p)
unfolding composed negative
composed-negative s p = I.replaced-neg fractions rationals s p

-- twice in turn
pub composed-composed : (s t : ℕ → Polynomial) (p : Polynomial) → composed s (composed t p) ≡ composed (λ i. composed s (t i)) p
unfolding composed
composed-composed s t p = O.replaced-replaced fractions s t p

-- by the same polynomials at each variable
pub composed-same : (s t : ℕ → Polynomial) → ((i : ℕ) → s i ≡ t i) → (p : Polynomial) → composed s p ≡ composed t p
unfolding composed
composed-same s t h p = O.replaced-same fractions s t h p

-- ---- derivatives
pub derivative-plus : (i : ℕ) (p q : Polynomial) → derivative i (plus p q) ≡ plus (derivative i p) (derivative i q)
unfolding derivative plus
derivative-plus i p q = O.derivative-add fractions i p q

-- the product rule
pub derivative-times : (i : ℕ) (p q : Polynomial) → derivative i (times p q) ≡ plus (times (derivative i p) q) (times p (derivative i q))
unfolding derivative times plus
derivative-times i p q = O.derivative-mul fractions i p q

pub derivative-negative : (i : ℕ) (p : Polynomial) → derivative i (negative p) ≡ negative (derivative i p)
unfolding derivative negative
derivative-negative i p = I.derivative-neg fractions rationals i p

pub derivative-constant : (i : ℕ) (c : Fraction) → derivative i (constant c) ≡ nil
unfolding derivative constant nil
derivative-constant i c = O.derivative-constant fractions i c

-- 1 for the variable itself, else 0
pub derivative-coordinate : (i j : ℕ) → derivative i (coordinate j) ≡ whole (delta j i)
unfolding derivative coordinate constant
derivative-coordinate i j = O.derivative-coordinate fractions i j

pub derivative_comm : (i j : ℕ) (p : Polynomial) → derivative i (derivative j p) ≡ derivative j (derivative i p)
unfolding derivative
derivative_comm i j p = C.derivative_comm fractions rationals.division i j p

pub derivative-antiderivative : (i : ℕ) (p : Polynomial) → derivative i (antiderivative i p) ≡ p
unfolding derivative antiderivative
derivative-antiderivative i p = J.derivative-anti fractions rationals.division i p

-- ---- what holds of constants and variables, and of sums and products, holds of each polynomial
pub polynomial_ind : (Q : Polynomial → Type 0) → ((p : Polynomial) → IsProp (Q p)) → ((c : Fraction) → Q (constant c)) → ((i : ℕ) → Q (coordinate i))
    → ((p q : Polynomial) → Q p → Q q → Q (plus p q)) → ((p q : Polynomial) → Q p → Q q → Q (times p q)) → (p : Polynomial) → Q p
unfolding constant coordinate plus times
polynomial_ind Q prop hc hv ha hm p = O.polynomial_ind fractions Q prop hc hv ha hm p

-- the chain rule: where variables 3, 4, .. don't move in direction j
pub chain : (s : ℕ → Polynomial) (j : ℕ) → ((i : ℕ) → derivative j (s (suc (suc (suc i)))) ≡ nil) → (p : Polynomial)
    → derivative j (composed s p)
    ≡ plus (times (composed s (derivative 0 p)) (derivative j (s 0))) (plus (times (composed s (derivative 1 p)) (derivative j (s 1))) (times (composed s (derivative 2 p)) (derivative j (s 2))))
unfolding composed derivative plus times nil
chain s j still p = O.chain fractions s j still p ∙ O.combined_same fractions _ _ _ refl refl refl

-- ---- the value at a point is a map of rings
pub value-plus : (s : ℕ → Fraction) (p q : Polynomial) → value s (plus p q) ≡ add (value s p) (value s q)
unfolding value plus
value-plus s p q = O.value-add fractions fractions (λ a. a) same_map s p q

pub value-times : (s : ℕ → Fraction) (p q : Polynomial) → value s (times p q) ≡ mul (value s p) (value s q)
unfolding value times
value-times s p q = O.value-mul fractions fractions (λ a. a) same_map s p q

pub value-constant : (s : ℕ → Fraction) (c : Fraction) → value s (constant c) ≡ c
unfolding value constant
value-constant s c = O.value-constant fractions fractions (λ a. a) same_map s c

pub value-coordinate : (s : ℕ → Fraction) (i : ℕ) → value s (coordinate i) ≡ s i
unfolding value coordinate
value-coordinate s i = O.value-coordinate fractions fractions (λ a. a) same_map s i

pub value-negative : (s : ℕ → Fraction) (p : Polynomial) → value s (negative p) ≡ minus_fraction (value s p)
value-negative s p =
    L.neg-unique fractions (value s p) (value s (negative p))
    (sym (value-plus s (negative p) p) ∙ ap (value s) (L.neg-add polynomials p ∙ sym constant-zero) ∙ value-constant s zero_fraction)

-- ---- the coefficients of the powers 0 and 1 of a variable
pub coefficient_of-plus : (t n : ℕ) (p q : Polynomial) → coefficient_of t n (plus p q) ≡ plus (coefficient_of t n p) (coefficient_of t n q)
unfolding coefficient_of plus
coefficient_of-plus t n p q = C.coefficient-add fractions rationals.division t n p q

pub coefficient_zero-times : (t : ℕ) (p q : Polynomial) → coefficient_of t 0 (times p q) ≡ times (coefficient_of t 0 p) (coefficient_of t 0 q)
unfolding coefficient_of times
coefficient_zero-times t p q = C.coefficient_zero-mul fractions rationals.division t p q

pub coefficient_one-times : (t : ℕ) (p q : Polynomial)
    → coefficient_of t 1 (times p q) ≡ plus (times (coefficient_of t 1 p) (coefficient_of t 0 q)) (times (coefficient_of t 0 p) (coefficient_of t 1 q))
unfolding coefficient_of times plus
coefficient_one-times t p q = C.coefficient_of_product fractions rationals.division t p q

-- variable t doesn't occur in p
abbrev pub IsFree : ℕ → Polynomial → Type 0
IsFree t p = derivative t p ≡ nil

-- p + t q, with t in neither
pub coefficient_zero_line : (t : ℕ) (p q : Polynomial) → IsFree t p → coefficient_of t 0 (plus p (times (coordinate t) q)) ≡ p
unfolding coefficient_of plus times coordinate derivative nil
coefficient_zero_line t p q h = C.coefficient_zero_line fractions rationals.division t p q h

pub coefficient_one_line : (t : ℕ) (p q : Polynomial) → IsFree t p → IsFree t q → coefficient_of t 1 (plus p (times (coordinate t) q)) ≡ q
unfolding coefficient_of plus times coordinate derivative nil
coefficient_one_line t p q h k = C.coefficient_one_line fractions rationals.division t p q h k
