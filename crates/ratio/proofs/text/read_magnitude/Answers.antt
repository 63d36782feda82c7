use Rattle.std.proofs.Common.{◌++◌, sym, ◌∙◌, ap}
use Rattle.std.specs.Str.Parse.{IsNumeral}
use Rattle.ratio.specs.NumberText.{Decimal, IsDecimal, Magnitude, Quotient, Point, IsMagnitude}
use Rattle.ratio.specs.Value.{valued}
use Rattle.ratio.proofs.GrammarLaws.{on_some_map}
use Rattle.ratio.proofs.MagnitudeLaws.{slash_value, no_slash_value}
use Rattle.ratio.proofs.text.read_magnitude.Goals as goal

pub returns-in-Some-clause-value : goal.returns-in-Some-clause-value
returns-in-Some-clause-value c =
    slash_value c.args.text.now c.split_digits.result.0.now c.split_digits.result.1.now c.in-Some.below.now (valued c.read_quotient.result)
    c.split_digits.ensures.whole c.split_digits.ensures.digits c.split_digits.ensures.rest c.in-Some.ensures c.read_quotient.ensures.value

pub returns-in-Some-clause-lawful : goal.returns-in-Some-clause-lawful
returns-in-Some-clause-lawful c =
    on_some_map c.read_quotient.result (IsNumeral 10 c.split_digits.result.0.now × IsNumeral 10 c.in-Some.below.now) ((m : Magnitude) × IsMagnitude c.args.text.now m)
    (λ h. (Quotient c.split_digits.result.0.now c.in-Some.below.now, (h.0, h.1, sym c.split_digits.ensures.whole ∙ ap (λ l. c.split_digits.result.0.now ++ l) c.in-Some.ensures)))
    c.read_quotient.ensures.lawful

pub returns-in-None-clause-value : goal.returns-in-None-clause-value
returns-in-None-clause-value c =
    no_slash_value c.args.text.now c.split_digits.result.0.now c.split_digits.result.1.now (valued c.read_decimal.result)
    c.split_digits.ensures.whole c.split_digits.ensures.digits c.split_digits.ensures.rest c.in-None.ensures c.read_decimal.ensures.value

pub returns-in-None-clause-lawful : goal.returns-in-None-clause-lawful
returns-in-None-clause-lawful c =
    on_some_map c.read_decimal.result ((d : Decimal) × IsDecimal c.args.text.now d) ((m : Magnitude) × IsMagnitude c.args.text.now m) (λ h. (Point h.0, h.1)) c.read_decimal.ensures.lawful
