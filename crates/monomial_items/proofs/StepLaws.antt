-- One integral, and the steps that it takes
use Rattle.std.proofs.Common.{◌≡◌, ℕ, ◌+◌, ◌*◌, ◌<◌, false, is_none, Option, Some, None, List, refl, sym, ap, ◌∙◌, subst, arith, IfSome}
use Rattle.algebra.specs.Fraction.{Fraction, mul, zero_fraction}
use Rattle.algebra.specs.Over.{Over}
use Rattle.algebra.specs.Steps.{product}
use Rattle.algebra.proofs.OverLaws.{over_at, over_product}
use Rattle.algebra.proofs.OverSteps.{product_fits}
use Rattle.ratio.specs.declared.reduced.Ratio.{Ratio}
use Rattle.ratio.specs.Value.{fraction_of, valued}
use Rattle.calculus.specs.Integral.{shadow_integral}
use Rattle.calculus.specs.LocalFunction.{factorial}
use Rattle.calculus.specs.Polynomial.{constant, constant_term}
use Rattle.calculus.specs.Simplex.{reference}
use Rattle.calculus.proofs.PolynomialLaws.{value-constant}
use Rattle.polyalg.specs.Terms.{value_of}
use Rattle.polyalg.specs.ReferenceIntegral.{integral_steps}
use Rattle.polyalg.specs.declared.term.Term.{Term}
use Rattle.polyalg.proofs.IntegralBounds.{integrals}
use Rattle.polyalg.proofs.StepLaws.{answer_of, product_is}
use Rattle.basis_products.specs.Functions.{IsBounded}
use Rattle.monomial_items.specs.Integrals.{integral_on, AreFitting}

some_valued : (o : Option Ratio) (x : Fraction) → valued o ≡ Some x → is_none o ≡ false
some_valued None x e = absurd (apart e)
  where
    apart : None ≡ Some x → ⊥
    apart e = cc
some_valued (Some r) x e = refl

same_some : (x y : Fraction) → Some x ≡ Some y → x ≡ y
same_some x y e = cc

-- the value of an integral
pub integral_value : (o : Option Ratio) (r : Ratio) (d : ℕ) (ts : List Term) → o ≡ Some r → IfSome o (λ q. constant (fraction_of q) ≡ shadow_integral d (reference d) (value_of ts))
    → fraction_of r ≡ integral_on d (value_of ts)
integral_value o r d ts e h =
    sym (value-constant (λ i. zero_fraction) (fraction_of r)) ∙ ap constant_term (subst (λ q. IfSome q (λ q. constant (fraction_of q) ≡ shadow_integral d (reference d) (value_of ts))) e h)

-- its steps, and how large it is
pub integral_fits : (d n l b : ℕ) (c : Fraction) (o : Option Ratio) (ts : List Term) → 0 < l → IsBounded d n l b ts → AreFitting d n l b c → valued o ≡ integral_steps d ts → is_none o ≡ false
integral_fits d n l b c o ts h s f e =
    let w = integrals l b (n + d) d ts h f.integral f.sum (omega (arith, s.degree)) s.over in
    some_valued o w.0 (e ∙ w.1)

pub integral_over : (d n l b : ℕ) (c : Fraction) (o : Option Ratio) (r : Ratio) (ts : List Term) → 0 < l → IsBounded d n l b ts → AreFitting d n l b c → valued o ≡ integral_steps d ts → o ≡ Some r
    → Over (l * factorial (n + d)) (b * factorial (n + d)) (fraction_of r)
integral_over d n l b c o r ts h s f e g =
    let w = integrals l b (n + d) d ts h f.integral f.sum (omega (arith, s.degree)) s.over in
    over_at (l * factorial (n + d)) (b * factorial (n + d)) w.0 (fraction_of r) (same_some w.0 (fraction_of r) (sym w.1 ∙ answer_of o r (integral_steps d ts) g e)) w.2

-- times the number
pub item_value : (o : Option Ratio) (x c r : Ratio) → o ≡ Some x → valued o ≡ product (fraction_of c) (fraction_of r) → fraction_of x ≡ mul (fraction_of c) (fraction_of r)
item_value o x c r e h = product_is (fraction_of c) (fraction_of r) (fraction_of x) (answer_of o x _ e h)

pub item_fits : (d n l b : ℕ) (c r : Fraction) (o : Option Ratio) → AreFitting d n l b c → Over (l * factorial (n + d)) (b * factorial (n + d)) r → valued o ≡ product c r → is_none o ≡ false
item_fits d n l b c r o f w e =
    some_valued o (mul c r)
    (e ∙ product_fits (f.j * (l * factorial (n + d))) (f.i * (b * factorial (n + d))) c r f.denominator f.size (over_product f.j (l * factorial (n + d)) f.i (b * factorial (n + d)) c r f.number w))

pub item_over : (d n l b j i : ℕ) (c r x : Fraction) → x ≡ mul c r → Over j i c → Over (l * factorial (n + d)) (b * factorial (n + d)) r → Over (j * (l * factorial (n + d))) (i * (b * factorial (n + d))) x
item_over d n l b j i c r x e o w = over_at _ _ (mul c r) x (sym e) (over_product j (l * factorial (n + d)) i (b * factorial (n + d)) c r o w)
