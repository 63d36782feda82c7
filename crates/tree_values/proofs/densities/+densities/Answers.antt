use Rattle.std.proofs.Common.{◌∙◌, refl, sym, ap, ap₂}
use Rattle.ratio.specs.Value.{fraction_of}
use Rattle.calculus.specs.Polynomial.{plus, times, negative, constant, coefficient_of}
use Rattle.ufl_tree.specs.declared.function.Role.TheVariants.{Trial}
use Rattle.ufl_meaning.specs.Environment.{parameter_number}
use Rattle.tree_values.specs.PolyValue.{value_of}
use Rattle.tree_values.specs.Density.{density_in, density_changed}
use Rattle.tree_values.specs.declared.environment.Change.TheVariants.{Turned, Scaled, Replaced, Exchanged}
use Rattle.tree_values.proofs.ResultLaws.{ok_as}
use Rattle.tree_values.proofs.DensityLaws as l
use Rattle.tree_values.proofs.densities.+densities.Goals as goal

pub density-returns-in_ok-part-in-Integral : goal.density-returns-in_ok-part-in-Integral
density-returns-in_ok-part-in-Integral t c =
    ok_as value_of c.where_it_is.result _ _
    (l.in_integral c.args.scene.now c.args.form.now c.in-Integral.on c.in-Integral.body c.tree.result.now _ c.in-Integral.is c.tree.ensures.same c.in_ok-part-in-Integral.ensures) c.where_it_is.ensures

pub density-returns-in_ok-density-in-Sum : goal.density-returns-in_ok-density-in-Sum
density-returns-in_ok-density-in-Sum t c =
    ok_as value_of c.sum.result _ _
    (ap₂ plus (c.in_ok-density-in-Sum.ensures ∙ ap (density_in c.args.scene.now) c.get-in-Sum.ensures) (c.in_ok-right-in-Sum.ensures ∙ ap (density_in c.args.scene.now) c.get.ensures)
    ∙ l.in_sum c.args.scene.now c.args.form.now c.in-Sum.a c.in-Sum.b c.in-Sum.is) c.sum.ensures

pub density-returns-in_ok-constant-in-Scale : goal.density-returns-in_ok-constant-in-Scale
density-returns-in_ok-constant-in-Scale t c =
    ok_as value_of c.product.result _ _
    (ap₂ times c.in_ok-constant-in-Scale.ensures (c.in_ok-part-in-Scale.ensures ∙ ap (density_in c.args.scene.now) c.get-in-Scale.ensures)
    ∙ l.in_scale c.args.scene.now c.args.form.now c.in-Scale.a c.in-Scale.c c.in-Scale.is) c.product.ensures

pub density-returns-in_ok-whole-in-Left : goal.density-returns-in_ok-whole-in-Left
density-returns-in_ok-whole-in-Left t c =
    ok_as value_of c.linear_part.result _ _
    (ap₂ (λ n x. coefficient_of (parameter_number n) 1 x) (c.used.ensures.is c.args.scene.now.functions.now)
    (c.in_ok-whole-in-Left.ensures ∙ ap (λ a. density_changed c.args.scene.now a (Scaled Trial)) c.get-in-Left.ensures)
    ∙ l.in_left c.args.scene.now c.args.form.now c.in-Left.a c.in-Left.is) c.linear_part.ensures

pub density-returns-in_ok-constant_part-in-Right : goal.density-returns-in_ok-constant_part-in-Right
density-returns-in_ok-constant_part-in-Right t c =
    ok_as value_of c.negated.result _ _
    (ap negative
    (c.in_ok-constant_part-in-Right.ensures
    ∙ ap₂ (λ n x. coefficient_of (parameter_number n) 0 x) (c.used-in-Right.ensures.is c.args.scene.now.functions.now)
    (c.in_ok-whole-in-Right.ensures ∙ ap (λ a. density_changed c.args.scene.now a (Scaled Trial)) c.get-in-Right.ensures))
    ∙ l.in_right c.args.scene.now c.args.form.now c.in-Right.a c.in-Right.is) c.negated.ensures

pub density-returns-in-Action : goal.density-returns-in-Action
density-returns-in-Action t c =
    ok_as value_of c.changed-in-Action.result _ _
    (ap (λ a. density_changed c.args.scene.now a (Replaced c.in-Action.last c.in-Action.f.role)) c.get-in-Action.ensures
    ∙ l.in_action c.args.scene.now c.args.form.now c.in-Action.body c.in-Action.last c.in-Action.f c.in-Action.is) c.changed-in-Action.ensures

pub density-returns-in-Adjoint : goal.density-returns-in-Adjoint
density-returns-in-Adjoint t c =
    ok_as value_of c.changed-in-Adjoint.result _ _
    (ap (λ a. density_changed c.args.scene.now a Exchanged) c.get-in-Adjoint.ensures ∙ l.in_adjoint c.args.scene.now c.args.form.now c.in-Adjoint.a c.in-Adjoint.is) c.changed-in-Adjoint.ensures

pub density-returns-in_ok-whole-in-Derivative : goal.density-returns-in_ok-whole-in-Derivative
density-returns-in_ok-whole-in-Derivative t c =
    ok_as value_of c.linear_part-in-Derivative.result _ _
    (ap₂ (λ n x. coefficient_of (parameter_number n) 1 x) (c.used-in-Derivative.ensures.is c.args.scene.now.functions.now)
    (c.in_ok-whole-in-Derivative.ensures ∙ ap (λ a. density_changed c.args.scene.now a (Turned c.in-Derivative.w.role c.in-Derivative.du.role)) c.get-in-Derivative.ensures)
    ∙ l.in_derivative c.args.scene.now c.args.form.now c.in-Derivative.body c.in-Derivative.w c.in-Derivative.du c.in-Derivative.is) c.linear_part-in-Derivative.ensures

pub changed-returns : goal.changed-returns
changed-returns t c =
    ok_as value_of c.density.result _ _
    (l.changed_at c.args.scene.now _ c.args.form.now c.args.change c.in_ok-changes.changes refl refl refl c.as_slice.ensures c.in_ok-changes.ensures) c.density.ensures
