use Rattle.std.proofs.Common.{sym, ◌∙◌}
use Rattle.ufl_tree.specs.Places.{table_of}
use Rattle.ufl_form.specs.Reading.{form_of}
use Rattle.form_files.specs.Admissions.{dimension_of}
use Rattle.form_files.proofs.AdmissionLaws.{admitted_small}
use Rattle.form_files.proofs.admissions.admission.Goals as goal

pub exact_size-requires : goal.exact_size-requires
exact_size-requires c =
    let f = form_of c.args.named.now.form in
    admitted_small (dimension_of f) (table_of c.args.elements.now) f c.in-Ok.weight (sym c.exact_weight.ensures ∙ c.in-Ok.is)
