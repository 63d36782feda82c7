use Rattle.std.proofs.Common.{◌≡◌, sym, subst}
use Rattle.std.specs.Prelude.{IfOk}
use Rattle.ufl_form.specs.Reading.{form_of}
use Rattle.ufl_form.specs.Table.{element_of, form_kind}
use Rattle.ufl_form.proofs.FormLaws.{told_of}
use Rattle.ufl_form.proofs.form.Form.element.Goals as goal

pub returns : goal.returns
returns c =
    subst (λ x. IfOk (form_kind (form_of c.args.self.now)) (λ k. element_of c.args.argument k.arguments ≡ x)) (sym c.element_of.ensures)
    (told_of _ c.args.self.now _ _ _ _ (λ k. element_of c.args.argument k.arguments) c.self.view_is c.self.invariant.described)
