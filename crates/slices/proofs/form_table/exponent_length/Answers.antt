use Rattle.std.proofs.Common.{◌∙◌, sym, arith}
use Rattle.slices.proofs.Form.{exponent_end, exponent_small, exponent_large, exponent_none}
use Rattle.slices.proofs.form_table.exponent_length.Goals as goal

pub returns-then-from-text-clause-value : goal.returns-then-from-text-clause-value
returns-then-from-text-clause-value c = sym (exponent_end c.args.text.now c.args.from c.if-from-text.true)

pub returns-then-mark-eq101-clause-value : goal.returns-then-mark-eq101-clause-value
returns-then-mark-eq101-clause-value c = c.power_length.ensures.value ∙ sym (exponent_small c.args.text.now c.args.from (omega (arith, c.if-from-text.false)) c.if-mark-eq101.true)

pub returns-then-mark-eq69-clause-value : goal.returns-then-mark-eq69-clause-value
returns-then-mark-eq69-clause-value c = c.power_length-then-mark-eq69.ensures.value ∙ sym (exponent_large c.args.text.now c.args.from (omega (arith, c.if-from-text.false)) c.if-mark-eq69.true)

pub returns-clause-value : goal.returns-clause-value
returns-clause-value c = sym (exponent_none c.args.text.now c.args.from (omega (arith, c.if-from-text.false)) c.if-mark-eq101.false c.if-mark-eq69.false)
