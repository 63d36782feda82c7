use Rattle.std.proofs.Common.{◌+◌, ◌*◌, ◌^◌, ◌<◌, sym, subst}
use Rattle.std.specs.Option.{SomeIff}
use Rattle.std.specs.Str.Parse.{AllDigits, digits_value_after}
use Rattle.ratio.proofs.DigitLaws.{too_wide}
use Rattle.ratio.proofs.digits.appended.Goals as goal

pub returns-in_err-number : goal.returns-in_err-number
returns-in_err-number c =
    subst (λ r. SomeIff r (AllDigits 10 c.args.digits.now × (digits_value_after 10 c.args.start c.args.digits.now < 2 ^ 127)) (digits_value_after 10 c.args.start c.args.digits.now)) (sym c.from_residual-in_err-number.ensures)
    (too_wide c.args.digits.now c.loop-byte.byte-index c.loop-byte.number _ (AllDigits 10 c.args.digits.now) c.loop-byte-test.true c.loop-byte.invariant.value
    (λ h. c.in_err-number.ensures (subst (λ d. c.loop-byte.number * 10 + d < 2 ^ 127) (sym c.in_ok-digit.ensures.1) h)))
