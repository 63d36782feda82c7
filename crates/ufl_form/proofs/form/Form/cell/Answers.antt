use Rattle.ufl_form.proofs.FormLaws.{told_of}
use Rattle.ufl_form.proofs.form.Form.cell.Goals as goal

pub returns : goal.returns
returns c = told_of _ c.args.self.now _ _ _ _ (λ k. k.cell) c.self.view_is c.self.invariant.described
