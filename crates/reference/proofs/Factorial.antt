-- The next factorial as a fraction
use Rattle.std.proofs.Common.{◌≡◌, ℕ, suc, ◌+◌, sym, ◌∙◌, ap, arith, add-one}
use Rattle.algebra.specs.Ring.{natural}
use Rattle.algebra.specs.IntegerMap.{natural-mul}
use Rattle.algebra.specs.Fraction.{fractions, mul}
use Rattle.calculus.specs.LocalFunction.{factorial}

pub factorial_next : (i : ℕ) → mul (natural fractions (1 + i)) (natural fractions (factorial i)) ≡ natural fractions (factorial (i + 1))
factorial_next i =
    ap (λ n. mul (natural fractions n) (natural fractions (factorial i))) (one_more i)
    ∙ sym (natural-mul fractions (suc i) (factorial i))
    ∙ ap (λ n. natural fractions (factorial n)) (sym (add-one i))
  where
    one_more : (i : ℕ) → 1 + i ≡ suc i
    one_more i = omega arith
