use Rattle.std.proofs.Common.{◌<◌, ◌∷◌, [], get_or, arith, subst, sym}
use Rattle.std.specs.Bool.{OnTrue}
use Rattle.std.specs.Char.{digit_value}
use Rattle.std.specs.Str.Parse.{AllDigits}
use Rattle.ratio.proofs.DigitLaws.{AllDigits-append}
use Rattle.std.proofs.lemmas.List.{take_more}
use Rattle.ratio.proofs.digits.split_digits.Goals as goal

pub loop-end-preserved : goal.loop-end-preserved
loop-end-preserved c = record {
  within = omega arith;
  digits = subst (AllDigits 10) (sym (take_more c.args.text.now c.loop-end.end 0 c.loop-end-test.true)) (AllDigits-append _ (get_or c.args.text.now c.loop-end.end 0 ∷ []) c.loop-end.invariant.digits (subst (λ b. OnTrue b (digit_value (get_or c.args.text.now c.loop-end.end 0) < 10)) c.if-is_ascii_digit.true c.is_ascii_digit.ensures.bound, tt));
}
