-- What a step's answer says of the value
use Rattle.std.proofs.Common.{◌≡◌, refl, ap, Bool, true, false, None, Some, if◌then◌else◌}
use Rattle.algebra.specs.Fraction.{Fraction, add, mul, negative, inverse, is_zero_fraction}
use Rattle.algebra.specs.Steps.{fits, sum_fits, product, sum, difference, reciprocal}

-- an answer by a test
chosen : (t : Bool) (v u : Fraction) → (if t then Some v else None) ≡ Some u → u ≡ v
chosen true v u e = cc
chosen false v u e = cc

refused : (t : Bool) (v : Fraction) → (if t then Some v else None) ≡ None → t ≡ false
refused true v e = cc
refused false v e = refl

pub product_value : (x y u : Fraction) → product x y ≡ Some u → u ≡ mul x y
unfolding product
product_value x y u e = chosen (fits (mul x y)) (mul x y) u e

pub product_refused : (x y : Fraction) → product x y ≡ None → fits (mul x y) ≡ false
unfolding product
product_refused x y e = refused (fits (mul x y)) (mul x y) e

pub product_fits : (x y : Fraction) → fits (mul x y) ≡ true → product x y ≡ Some (mul x y)
unfolding product
product_fits x y h = ap (λ t. if t then Some (mul x y) else None) h

pub sum_value : (x y u : Fraction) → sum x y ≡ Some u → u ≡ add x y
unfolding sum
sum_value x y u e = chosen (sum_fits x y) (add x y) u e

pub sum_refused : (x y : Fraction) → sum x y ≡ None → sum_fits x y ≡ false
unfolding sum
sum_refused x y e = refused (sum_fits x y) (add x y) e

pub difference_value : (x y u : Fraction) → difference x y ≡ Some u → u ≡ add x (negative y)
unfolding difference
difference_value x y u e = sum_value x (negative y) u e

pub reciprocal_value : (x u : Fraction) → reciprocal x ≡ Some u → u ≡ inverse x
unfolding reciprocal
reciprocal_value x u e = turned (is_zero_fraction x) (inverse x) u e
  where
    turned : (t : Bool) (v u : Fraction) → (if t then None else Some v) ≡ Some u → u ≡ v
    turned true v u e = cc
    turned false v u e = cc

pub reciprocal_refused : (x : Fraction) → reciprocal x ≡ None → is_zero_fraction x ≡ true
unfolding reciprocal
reciprocal_refused x e = turned (is_zero_fraction x) (inverse x) e
  where
    turned : (t : Bool) (v : Fraction) → (if t then None else Some v) ≡ None → t ≡ true
    turned true v e = refl
    turned false v e = cc
