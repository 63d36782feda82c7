use Rattle.std.proofs.Common.{◌<◌, subst, sym}
use Rattle.slices.proofs.Form.{number_is, number_some}
use Rattle.slices.proofs.form_table.number_length.Goals as goal

pub returns-clause-some : goal.returns-clause-some
returns-clause-some c =
    subst (λ n. 0 < n) (sym (number_is c.args.text.now _ _ _ c.digits_length-digits.ensures.value c.fraction_length.ensures.value c.exponent_length.ensures.value)) (number_some c.args.text.now c.requires)
