use Rattle.std.proofs.Common.{sym, subst, ap, ◌∙◌}
use Rattle.std.proofs.lemmas.Result.{err_from_is_err_and}
use Rattle.mesh_in.specs.MeshData.{fractions}
use Rattle.ufl_tree.specs.Places.{table_of}
use Rattle.ufl_form.specs.Reading.{form_of}
use Rattle.assembly.specs.Assembly.{most_entries}
use Rattle.form_layouts.specs.Layouts.{element_at}
use Rattle.form_values.proofs.IntervalMeshes.{mesh_of_values}
use Rattle.form_kernels.specs.Admitted.{occurring_in}
use Rattle.form_assembly.specs.Prepared.{AreRowsOf}
use Rattle.form_assembly.proofs.Admitting.{argument_cells, not_above, prepared, same_kind}
use Rattle.form_assembly.proofs.form_assembly.FormAssembly.new.Goals as goal

pub rows_of-requires : goal.rows_of-requires
rows_of-requires c = λ s at.
    let T = table_of c.args.elements.now in
    let on = argument_cells T c.args.coefficients.now (form_of c.args.form.now) c.requires.0 c.requires.1 (fractions c.args.mesh.now) c.lawful.ensures c.tree-tree.ensures.typed
    (mesh_of_values c.args.mesh.now c.kind-kind.ensures.mesh) c.requires.2 c.requires.3 in
    on.test s (ap (element_at T) (sym c.test_element.ensures) ∙ at)

pub rows_of-requires-2 : goal.rows_of-requires-2
rows_of-requires-2 c = λ s at.
    let T = table_of c.args.elements.now in
    let on = argument_cells T c.args.coefficients.now (form_of c.args.form.now) c.requires.0 c.requires.1 (fractions c.args.mesh.now) c.lawful.ensures c.tree-tree.ensures.typed
    (mesh_of_values c.args.mesh.now c.kind-kind.ensures.mesh) c.requires.2 c.requires.3 in
    on.trial s (ap (element_at T) (sym c.trial_element.ensures) ∙ at)

pub returns-clause-prepared : goal.returns-clause-prepared
returns-clause-prepared c =
    let T = table_of c.args.elements.now in
    let F = form_of c.args.form.now in
    let m = fractions c.args.mesh.now in
    let functions = c.in_ok-functions.functions in
    prepared T c.args.coefficients.now F m c.args.name.now functions.layout functions.functions c.in_ok-test.test c.in_ok-trial.trial
    (record {
      lawful = c.lawful.ensures;
      typed = c.tree-tree.ensures.typed;
      fitting = c.fitting.ensures;
      mesh = mesh_of_values c.args.mesh.now c.kind-kind.ensures.mesh;
      cell = λ k is. same_kind F c.requires.0 k m.kind c.requires.2.kind c.requires.3 is;
      layout = c.in_ok-functions.ensures.layout;
      functions = c.in_ok-functions.ensures.functions;
      test_rows = subst (λ e. AreRowsOf (element_at T e) m c.in_ok-test.test) c.test_element.ensures c.in_ok-test.ensures;
      trial_rows = subst (λ e. AreRowsOf (element_at T e) m c.in_ok-trial.trial) c.trial_element.ensures c.in_ok-trial.ensures;
    })

pub returns-in_err-test-clause-refusal : goal.returns-in_err-test-clause-refusal
returns-in_err-test-clause-refusal c =
    let numbers = c.args.coefficients.now in
    let wanting = err_from_is_err_and c.from_residual.result c.from_residual.ensures.1 in
    rw (wanting.1, wanting.2)
    (not_above most_entries _ c.are_too_many.result (c.are_too_many.ensures numbers (occurring_in numbers (form_of c.args.form.now))) c.if-are_too_many.false)

pub returns-in_err-trial-clause-refusal : goal.returns-in_err-trial-clause-refusal
returns-in_err-trial-clause-refusal c =
    let numbers = c.args.coefficients.now in
    let wanting = err_from_is_err_and c.from_residual-in_err-trial.result c.from_residual-in_err-trial.ensures.1 in
    rw (wanting.1, wanting.2)
    (not_above most_entries _ c.are_too_many.result (c.are_too_many.ensures numbers (occurring_in numbers (form_of c.args.form.now))) c.if-are_too_many.false)

pub returns-in_err-functions-clause-refusal : goal.returns-in_err-functions-clause-refusal
returns-in_err-functions-clause-refusal c =
    let numbers = c.args.coefficients.now in
    let wanting = err_from_is_err_and c.from_residual-in_err-functions.result c.from_residual-in_err-functions.ensures.1 in
    rw (wanting.1, wanting.2)
    (not_above most_entries _ c.are_too_many.result (c.are_too_many.ensures numbers (occurring_in numbers (form_of c.args.form.now))) c.if-are_too_many.false)
