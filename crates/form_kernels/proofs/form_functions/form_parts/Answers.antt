use Rattle.spaces.specs.Cell.{dimension}
use Rattle.ufl_form.specs.Reading.{form_of}
use Rattle.ufl_tree.specs.Places.{table_of}
use Rattle.form_kernels.proofs.PartLaws.{parts_are}
use Rattle.form_kernels.proofs.form_functions.form_parts.Goals as goal

pub returns : goal.returns
returns c = λ k w form.
    parts_are (table_of c.args.elements.now) c.args.coefficients.now (form_of c.args.form.now) k w _ form c.lawful.ensures c.tree-tree.ensures.typed
    (c.admission_law.ensures (dimension k.cell) (table_of c.args.elements.now) (form_of c.args.form.now) c.lawful.ensures) c.in_ok-integrands.ensures.tree
    (c.in_ok-integrands.ensures.density form.fits) (c.in_ok-integrands.ensures.weight form.fits) c.in_ok-layout.ensures.layout c.in_ok-layout.ensures.lawful c.weigh.ensures
