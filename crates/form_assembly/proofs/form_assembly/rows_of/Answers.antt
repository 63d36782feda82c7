use Rattle.form_assembly.proofs.Admitting.{found_rows}
use Rattle.form_assembly.proofs.form_assembly.rows_of.Goals as goal

pub returns-in_ok-number-in-Some-get : goal.returns-in_ok-number-in-Some-get
returns-in_ok-number-in-Some-get c =
    rw c.in-Some.is
    (found_rows c.args.elements.now c.in-Some.element c.in-Some-get.element.now c.args.mesh.now c.in_ok-number-in-Some-get.field-0 c.in-Some-get.ensures
    c.in_ok-number-in-Some-get.ensures.rows)
