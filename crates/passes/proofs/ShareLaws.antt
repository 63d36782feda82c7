-- One part in n is a quotient that fits
use Rattle.std.proofs.Common.{◌≡◌, ℕ, zero, suc, pos, ◌+◌, ◌<◌, ◌≤◌, ◌^◌, Option, Some, None, sym, ◌∙◌, ap, ap₂, arith}
use Rattle.algebra.specs.Ring.{natural}
use Rattle.algebra.specs.RingLaws as L
use Rattle.algebra.specs.Fraction.{fractions, add, mul, inverse, of_integer}
use Rattle.algebra.specs.Steps.{quotient}
use Rattle.algebra.proofs.WholeLaws.{of_integer-zero, of_integer-one, of_integer-add}
use Rattle.ratio.specs.declared.reduced.Ratio.{Ratio}
use Rattle.ratio.specs.Value.{fraction_of, valued}
use Rattle.ratio.proofs.Equality.{same_ratio}
use Rattle.ratio.proofs.FitLaws.{fitting_of}
use Rattle.lower.specs.Shares.{share_of}
use Rattle.lower.proofs.ShareLaws.{share_is}

natural_whole : (n : ℕ) → natural fractions n ≡ of_integer (pos n)
natural_whole zero = sym of_integer-zero
natural_whole (suc n) =
    ap₂ add (sym of_integer-one) (natural_whole n) ∙ sym (of_integer-add (pos 1) (pos n)) ∙ ap (λ k. of_integer (pos k)) (next n)
  where
    next : (n : ℕ) → 1 + n ≡ suc n
    next n = omega arith

share_quotient : (n : ℕ) → 1 ≤ n → n < 2 ^ 127 → quotient (pos 1) (pos n) ≡ Some (fraction_of (share_of n))
unfolding quotient
share_quotient zero p h = absurd (omega arith)
share_quotient (suc m) p h =
    sym (fitting_of (share_of (suc m)) _
    (share_is (suc m) p h ∙ ap inverse (natural_whole (suc m)) ∙ sym (ap (λ x. mul x (inverse (of_integer (pos (suc m))))) of_integer-one ∙ L.one-mul fractions _)))

pub some_share : (o : Option Ratio) (part : Ratio) (n : ℕ) → 1 ≤ n → n < 2 ^ 127 → valued o ≡ quotient (pos 1) (pos n) → o ≡ Some part → part ≡ share_of n
some_share o part n p h is e = same_ratio part (share_of n) (injected (sym (ap valued e) ∙ is ∙ share_quotient n p h))
  where
    injected : Some (fraction_of part) ≡ Some (fraction_of (share_of n)) → fraction_of part ≡ fraction_of (share_of n)
    injected e = cc

pub no_share : (o : Option Ratio) (n : ℕ) → 1 ≤ n → n < 2 ^ 127 → valued o ≡ quotient (pos 1) (pos n) → o ≡ None → ⊥
no_share o n p h is e =
    let k : None ≡ Some (fraction_of (share_of n)) = sym (ap valued e) ∙ is ∙ share_quotient n p h in
    cc
