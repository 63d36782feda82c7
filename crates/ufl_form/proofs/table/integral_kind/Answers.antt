use Rattle.std.proofs.Common.{ap, ◌∙◌}
use Rattle.ufl_tree.specs.Reading.{typed_of}
use Rattle.ufl_expr.specs.Shapes.{is_scalar}
use Rattle.ufl_form.specs.Arguments.{tree_arguments}
use Rattle.ufl_form.specs.Table.{no_free}
use Rattle.ufl_form.proofs.FormLaws.{integral_of}
use Rattle.ufl_form.proofs.table.integral_kind.Goals as goal

pub returns : goal.returns
returns c =
    integral_of c.args.body.now _ _ _ _ _ c.integral_from.ensures c.cell.ensures (c.tree_arguments.ensures ∙ ap (λ t. tree_arguments (typed_of t)) c.tree.ensures.same)
    (c.is_scalar.ensures ∙ ap is_scalar c.shape.ensures) (c.no_free.ensures ∙ ap no_free c.free.ensures)
