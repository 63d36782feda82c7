use Rattle.std.proofs.Common.{subst, arith}
use Rattle.ufl_expr.specs.Answer.{Gives}
use Rattle.ufl_values.proofs.FormDifferenceLaws.{large_form_difference, small_form_difference, is_large}
use Rattle.ufl_values.proofs.operators.difference_of_forms.Goals as goal

pub returns-then-is_full : goal.returns-then-is_full
returns-then-is_full c =
    let large = is_large c.args.g _ _ c.nodes.ensures.count c.height.ensures.depth c.if-is_full.ensures.full in
    subst (Gives c.add_forms.result) (large_form_difference c.args.c c.args.f c.args.g large) c.add_forms.ensures

pub returns : goal.returns
returns c =
    subst (Gives c.form_sum_with.result) (small_form_difference c.args.c c.args.f c.args.g c.tree-lawful.ensures.lawful (omega (arith, c.if-is_full.ensures.room.0)) (omega (arith, c.if-is_full.ensures.room.1))) (c.form_sum_with.ensures _ c.scale_form.ensures)
