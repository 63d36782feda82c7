-- The steps of the integral over a reference cell
use Rattle.std.specs.Prelude.{◌≡◌, ℕ, zero, suc, ◌+◌, ◌*◌, ◌≤◌, Option, Some, option_and_then, List, [], ◌∷◌}
use Rattle.algebra.specs.Fraction.{Fraction, zero_fraction, add, mul}
use Rattle.algebra.specs.Steps.{product, sum}
use Rattle.calculus.specs.LocalFunction.{factorial}
use Rattle.ratio.specs.Value.{fraction_of}
use Rattle.polyalg.specs.Exponents.{exponent}
use Rattle.polyalg.specs.Small.{over}
use Rattle.polyalg.specs.declared.term.Term.{Term}

-- f times i/(below + i), for i from 1 to n
abbrev pub raised : ℕ → ℕ → Fraction → Option Fraction
raised below zero f = Some f
raised below (suc n) f = option_and_then (λ g. product g (over (suc n) (below + suc n))) (raised below n f)

-- from 1/d!, for each variable in order: the multiplications are counted from d on
abbrev pub factor_of : ℕ → List ℕ → Option Fraction
factor_of d e =
    option_and_then (raised (d + exponent e 0 + exponent e 1) (exponent e 2))
    (option_and_then (raised (d + exponent e 0) (exponent e 1)) (raised d (exponent e 0) (over 1 (factorial d))))

-- to the sum so far, the product of a coefficient with its term's factor is added, terms in order
abbrev pub integral_from : ℕ → Fraction → List Term → Option Fraction
integral_from d total [] = Some total
integral_from d total (t ∷ ts) =
    option_and_then (λ f. option_and_then (λ x. option_and_then (λ s. integral_from d s ts) (sum total x)) (product (fraction_of t.c) f)) (factor_of d t.e)

abbrev pub integral_steps : ℕ → List Term → Option Fraction
integral_steps d ts = integral_from d zero_fraction ts

-- a! b! c! / (d + a + b + c)!
abbrev pub factorials_of : ℕ → List ℕ → Fraction
factorials_of d e =
    over (factorial (exponent e 0) * (factorial (exponent e 1) * factorial (exponent e 2))) (factorial (d + exponent e 0 + exponent e 1 + exponent e 2))

-- the sum over the terms of their coefficients times that
abbrev pub by_factorials : ℕ → List Term → Fraction
by_factorials d [] = zero_fraction
by_factorials d (t ∷ ts) = add (mul (fraction_of t.c) (factorials_of d t.e)) (by_factorials d ts)

-- no variable at or above d occurs
abbrev pub VariablesBelow : ℕ → List Term → Type 0
VariablesBelow d [] = Unit {0}
VariablesBelow d (t ∷ ts) = ((i : ℕ) → d ≤ i → exponent t.e i ≡ 0) × VariablesBelow d ts
