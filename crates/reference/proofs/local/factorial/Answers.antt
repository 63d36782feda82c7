use Rattle.std.proofs.Common.{◌∙◌, sym, ap, ap₂}
use Rattle.algebra.specs.Ring.{natural}
use Rattle.algebra.specs.Fraction.{fractions, mul, one_fraction, add_zero}
use Rattle.reference.proofs.Factorial.{factorial_next}
use Rattle.reference.proofs.local.factorial.Goals as goal

pub loop-i-init : goal.loop-i-init
loop-i-init c = c.one-out.ensures ∙ sym (add_zero one_fraction)

pub loop-i-preserved : goal.loop-i-preserved
loop-i-preserved c =
    c.in_ok-out.ensures
    ∙ ap₂ mul (c.in_ok-whole.ensures ∙ ap (natural fractions) c.in_ok-next.ensures) c.loop-i.invariant
    ∙ factorial_next c.loop-i.i
