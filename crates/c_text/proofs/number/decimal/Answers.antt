use Rattle.std.proofs.Common.{◌∙◌, sym, length}
use Rattle.std.proofs.lemmas.Bool.{eq-eqb}
use Rattle.c_text.proofs.NumberLaws.{decimal_empty, decimal_leading, decimal_told, decimal_either, eqb_ne}
use Rattle.c_text.proofs.number.decimal.Goals as goal

pub returns-then-is_empty : goal.returns-then-is_empty
returns-then-is_empty c = decimal_empty c.args.text.now (sym c.is_empty.ensures ∙ c.if-is_empty.true)

pub returns-then-text-ne1 : goal.returns-then-text-ne1
returns-then-text-ne1 c = decimal_leading c.args.text.now (eq-eqb _ 48 c.if-text-eq48.true) (eqb_ne (length c.args.text.now) 1 c.if-text-ne1.true)

pub returns : goal.returns
returns c = decimal_told c.args.text.now c.value.result c.value.ensures (sym c.is_empty.ensures ∙ c.if-is_empty.false) (decimal_either c.args.text.now c.else-text-eq48.either)
