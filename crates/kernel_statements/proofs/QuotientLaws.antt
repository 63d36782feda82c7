-- Quotients that fit
use Rattle.std.proofs.Common.{◌≡◌, Option, Some, None, sym, ap, ◌∙◌, Bool, true, false, if◌then◌else◌}
use Rattle.algebra.specs.Fraction.{Fraction, mul, inverse, is_zero_fraction}
use Rattle.algebra.specs.Steps.{product, reciprocal}
use Rattle.kernel.proofs.Over.{no_none, some_value}

inverted : (y : Fraction) → is_zero_fraction y ≡ false → reciprocal y ≡ Some (inverse y)
unfolding reciprocal
inverted y h = ap (λ (b : Bool). if b then None else Some (inverse y)) h

pub has_reciprocal : (y : Fraction) → is_zero_fraction y ≡ false → None ≡ reciprocal y → ⊥
has_reciprocal y h e = no_none (inverse y) (e ∙ inverted y h)

pub reciprocal_is : (y r : Fraction) → is_zero_fraction y ≡ false → Some r ≡ reciprocal y → r ≡ inverse y
reciprocal_is y r h e = some_value r (inverse y) (e ∙ inverted y h)

pub has_quotient : (x y r : Fraction) → r ≡ inverse y → product x (inverse y) ≡ Some (mul x (inverse y)) → None ≡ product x r → ⊥
has_quotient x y r e fits h = no_none (mul x (inverse y)) (h ∙ ap (product x) e ∙ fits)

pub quotient_is : (x y r q : Fraction) → r ≡ inverse y → product x (inverse y) ≡ Some (mul x (inverse y)) → Some q ≡ product x r → q ≡ mul x (inverse y)
quotient_is x y r q e fits h = some_value q (mul x (inverse y)) (h ∙ ap (product x) e ∙ fits)
