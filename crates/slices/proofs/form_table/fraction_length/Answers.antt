use Rattle.std.proofs.Common.{◌+◌, ◌∙◌, sym, ap, arith}
use Rattle.slices.proofs.Form.{fraction_end, fraction_some, fraction_none}
use Rattle.slices.proofs.form_table.fraction_length.Goals as goal

pub returns-then-from-text-clause-value : goal.returns-then-from-text-clause-value
returns-then-from-text-clause-value c = sym (fraction_end c.args.text.now c.args.from c.if-from-text.true)

pub returns-then-text-from-ne46-clause-value : goal.returns-then-text-from-ne46-clause-value
returns-then-text-from-ne46-clause-value c = sym (fraction_none c.args.text.now c.args.from (omega (arith, c.if-from-text.false)) c.if-text-from-ne46.true)

pub returns-clause-value : goal.returns-clause-value
returns-clause-value c = ap (λ n. 1 + n) c.digits_length.ensures.value ∙ sym (fraction_some c.args.text.now c.args.from (omega (arith, c.if-from-text.false)) c.if-text-from-ne46.false)
