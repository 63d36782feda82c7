-- What numbers come to is exact
use Rattle.std.proofs.Common.{◌≡◌, refl, sym, ap, ◌∙◌, Bool, true, false, Option, None, Some, Result, Ok, Err, if◌then◌else◌}
use Rattle.algebra.specs.Fraction.{Fraction, add, mul, negative, inverse, is_zero_fraction, mul_assoc, mul_comm, mul_one, mul_inverse}
use Rattle.algebra.specs.Steps.{product, sum, difference, reciprocal, fits, below_limit}
use Rattle.algebra.proofs.StepLaws.{product_value, sum_value, difference_value, reciprocal_value}
use Rattle.ratio.specs.declared.reduced.Ratio.{Ratio}
use Rattle.ratio.specs.NumberText.{Decimal, significand, decimal_fraction, decimal_value}
use Rattle.ratio.specs.Value.{fraction_of}
use Rattle.ufl_values.specs.declared.refusal.Reason.{Reason}
use Rattle.ufl_values.specs.declared.refusal.Reason.TheVariants as r
use Rattle.ufl_values.specs.declared.value.Value.TheVariants as v
use Rattle.ufl_values.specs.Answer.{and_then}
use Rattle.ufl_values.specs.Exact.{exact}
use Rattle.ufl_values.specs.Numbers.{or_refusal, stepped, numbered}
use Rattle.ufl_values.specs.Operators.{sum_of, difference_of, product_of, quotient_of}
use Rattle.ufl_values.proofs.ExactLaws.{exact_value}

or_refusal_gives : {A : Type 0} (e : Reason) (o : Option A) (x : A) → or_refusal e o ≡ Ok x → o ≡ Some x
or_refusal_gives e None x h = cc
or_refusal_gives e (Some y) x h = cc

-- a step that comes to a number comes to its value
pub stepped_value : (q : Option Fraction) (c : Ratio) → stepped q ≡ Ok c → q ≡ Some (fraction_of c)
stepped_value None c e = cc
stepped_value (Some x) c e = ap Some (sym (exact_value x c (or_refusal_gives r.NumberRange (exact x) c e)))

numbered_value : (a : Result Ratio Reason) (c : Ratio) → numbered a ≡ Ok (v.Number c) → a ≡ Ok c
numbered_value (Ok d) c e = cc
numbered_value (Err e) c h = cc

step_value : (q : Option Fraction) (c : Ratio) → numbered (stepped q) ≡ Ok (v.Number c) → q ≡ Some (fraction_of c)
step_value q c e = stepped_value q c (numbered_value (stepped q) c e)

pub sum_exact : (c d r : Ratio) → sum_of (v.Number c) (v.Number d) ≡ Ok (v.Number r) → fraction_of r ≡ add (fraction_of c) (fraction_of d)
sum_exact c d r e = sum_value (fraction_of c) (fraction_of d) (fraction_of r) (step_value (sum (fraction_of c) (fraction_of d)) r e)

pub difference_exact : (c d r : Ratio) → difference_of (v.Number c) (v.Number d) ≡ Ok (v.Number r) → fraction_of r ≡ add (fraction_of c) (negative (fraction_of d))
difference_exact c d r e = difference_value (fraction_of c) (fraction_of d) (fraction_of r) (step_value (difference (fraction_of c) (fraction_of d)) r e)

pub product_exact : (c d r : Ratio) → product_of (v.Number c) (v.Number d) ≡ Ok (v.Number r) → fraction_of r ≡ mul (fraction_of c) (fraction_of d)
product_exact c d r e = product_value (fraction_of c) (fraction_of d) (fraction_of r) (step_value (product (fraction_of c) (fraction_of d)) r e)

divisor : (t : Bool) (x y : Fraction) → (if t then None else Some x) ≡ Some y → t ≡ false
divisor true x y e = cc
divisor false x y e = refl

not_zero : (x y : Fraction) → reciprocal x ≡ Some y → is_zero_fraction x ≡ false
unfolding reciprocal
not_zero x y e = divisor (is_zero_fraction x) (inverse x) y e

times_back : (x y z w : Fraction) → reciprocal y ≡ Some z → product x z ≡ Some w → mul w y ≡ x
times_back x y z w e g =
    ap (λ k. mul k y) (product_value x z w g ∙ ap (mul x) (reciprocal_value y z e))
    ∙ mul_assoc x (inverse y) y
    ∙ ap (mul x) (mul_comm (inverse y) y ∙ mul_inverse y (not_zero y z e))
    ∙ mul_one x

quotient_by : (i : Result Ratio Reason) (c d r : Ratio) → stepped (reciprocal (fraction_of d)) ≡ i
    → and_then i (λ k. numbered (stepped (product (fraction_of c) (fraction_of k)))) ≡ Ok (v.Number r) → mul (fraction_of r) (fraction_of d) ≡ fraction_of c
quotient_by (Err e) c d r g h = cc
quotient_by (Ok k) c d r g h =
    times_back (fraction_of c) (fraction_of d) (fraction_of k) (fraction_of r) (stepped_value (reciprocal (fraction_of d)) k g) (step_value (product (fraction_of c) (fraction_of k)) r h)

pub quotient_exact : (c d r : Ratio) → quotient_of (v.Number c) (v.Number d) ≡ Ok (v.Number r) → mul (fraction_of r) (fraction_of d) ≡ fraction_of c
quotient_exact c d r e = quotient_by (stepped (reciprocal (fraction_of d))) c d r refl e

chosen : (s t : Bool) (x y : Fraction) → (if s then (if t then Some x else None) else None) ≡ Some y → y ≡ x
chosen true true x y e = cc
chosen true false x y e = cc
chosen false t x y e = cc

pub decimal_exact : (d : Decimal) (c : Ratio) → stepped (decimal_value d) ≡ Ok c → fraction_of c ≡ decimal_fraction d
unfolding decimal_value
decimal_exact d c e = chosen (below_limit (significand d)) (fits (decimal_fraction d)) (decimal_fraction d) (fraction_of c) (stepped_value (decimal_value d) c e)
