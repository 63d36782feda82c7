use Rattle.std.proofs.Common.{◌∙◌, sym, ap, arith}
use Rattle.slices.specs.FormTable.{with_digits}
use Rattle.slices.proofs.Form.{power_end, power_plus, power_minus, power_plain}
use Rattle.slices.proofs.form_table.power_length.Goals as goal

pub returns-then-from-text-clause-value : goal.returns-then-from-text-clause-value
returns-then-from-text-clause-value c = sym (power_end c.args.text.now c.args.from c.if-from-text.true)

pub returns-then-sign-eq43-clause-value : goal.returns-then-sign-eq43-clause-value
returns-then-sign-eq43-clause-value c = c.with_digits.ensures ∙ ap (with_digits 2) c.digits_length.ensures.value ∙ sym (power_plus c.args.text.now c.args.from (omega (arith, c.if-from-text.false)) c.if-sign-eq43.true)

pub returns-then-sign-eq45-clause-value : goal.returns-then-sign-eq45-clause-value
returns-then-sign-eq45-clause-value c =
    c.with_digits-then-sign-eq45.ensures ∙ ap (with_digits 2) c.digits_length-then-sign-eq45.ensures.value ∙ sym (power_minus c.args.text.now c.args.from (omega (arith, c.if-from-text.false)) c.if-sign-eq45.true)

pub returns-clause-value : goal.returns-clause-value
returns-clause-value c =
    c.with_digits-2.ensures ∙ ap (with_digits 1) c.digits_length-2.ensures.value ∙ sym (power_plain c.args.text.now c.args.from (omega (arith, c.if-from-text.false)) c.if-sign-eq43.false c.if-sign-eq45.false)
