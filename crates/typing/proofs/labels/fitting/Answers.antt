use Rattle.std.proofs.Common.{subst}
use Rattle.ufl_tree.specs.Places.{table_of}
use Rattle.ufl_form.specs.Reading.{form_of}
use Rattle.typing.specs.Parts.{HaveByteParts}
use Rattle.typing.proofs.FittingLaws.{parts_fitting}
use Rattle.typing.proofs.labels.fitting.Goals as goal

pub returns : goal.returns
returns c = λ fits.
    parts_fitting (table_of c.args.elements.now) c.lawful.ensures (form_of c.args.form.now) c.tree.ensures.typed fits
    (subst (λ t. HaveByteParts (form_of t)) c.tree.ensures.same c.form_labels.ensures)
