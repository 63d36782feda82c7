use Rattle.std.proofs.Common.{◌≡◌, ◌<◌, ◌+◌, ◌^◌, take, ◌∙◌, ap, subst, arith}
use Rattle.std.specs.Str.Parse.{digits_value, AllDigits}
use Rattle.std.proofs.lemmas.List.{take_all}
use Rattle.std.proofs.lemmas.Int.Digits.{digits_value_more, digits_more}
use Rattle.std.proofs.lemmas.Str.Parse.{digits_value-take-le}
use Rattle.c_text.proofs.NumberLaws.{digit_below}
use Rattle.c_text.proofs.number.value.Goals as goal

pub loop-byte-preserved : goal.loop-byte-preserved
loop-byte-preserved c =
    let t = c.args.text.now in
    let i = c.loop-byte.byte-index in
    record {
      digits = digits_more 10 t i c.loop-byte-test.true c.loop-byte.invariant.digits c.in-Some.ensures.0;
      value = omega (arith, digits_value_more 10 t i c.loop-byte-test.true, c.loop-byte.invariant.value, c.in-Some.ensures.1);
      small = c.if-next-ge-LIMIT.false;
    }

pub returns-then-next-ge-LIMIT : goal.returns-then-next-ge-LIMIT
returns-then-next-ge-LIMIT c h =
    let t = c.args.text.now in
    let i = c.loop-byte.byte-index in
    omega (arith, digits_value_more 10 t i c.loop-byte-test.true, c.loop-byte.invariant.value, c.in-Some.ensures.1, digits_value-take-le 10 t (i + 1) (omega arith), h.1, c.if-next-ge-LIMIT.true)

pub returns-in_default : goal.returns-in_default
returns-in_default c h = c.in_default.ensures (digit_below c.args.text.now c.loop-byte.byte-index h.0 c.loop-byte-test.true)

pub returns : goal.returns
returns c =
    let t = c.args.text.now in
    let e : take c.loop-byte.byte-index t ≡ t = take_all c.loop-byte.byte-index t c.loop-byte-test.false in
    let v = c.loop-byte.invariant.value ∙ ap (digits_value 10) e in
    ((subst (AllDigits 10) e c.loop-byte.invariant.digits, subst (λ n. n < 2 ^ 64) v c.loop-byte.invariant.small), v)
