use Rattle.std.proofs.Common.{Some, None, if◌then◌else◌, refl, sym, ap, ◌∙◌}
use Rattle.spaces.specs.Cell.{dimension}
use Rattle.ufl_tree.specs.Places.{table_of}
use Rattle.ufl_form.specs.Reading.{form_of}
use Rattle.ufl_form.specs.Table.{form_kind}
use Rattle.monos.specs.declared.layout.Layout.{Layout}
use Rattle.monos.specs.Layout.{position_parts}
use Rattle.form_values.specs.CellLayout.{Occurring, parts_of, places_from}
use Rattle.form_layouts.specs.Layouts.{element_at}
use Rattle.form_layouts.specs.Problems.{form_problem}
use Rattle.form_layouts.proofs.FitLaws.{lawful_here}
use Rattle.form_layouts.proofs.LayoutLaws.{kind_cell, layout_here, given_layout, few_entries}
use Rattle.form_layouts.proofs.layout.form_layout.Goals as goal

pub returns-clause-layout : goal.returns-clause-layout
returns-clause-layout c =
    let f = form_of c.args.form.now in
    let ns = c.args.coefficients.now in
    let t = table_of c.args.elements.now in
    given_layout t ns f (record { d = c.dim.result; rows = c.in_ok-rows.rows; cols = c.in_ok-cols.cols; coefs = c.in_ok-coefs.coefs; position = c.in_ok-position.position })
    (λ k m values is kind.
    let p = form_problem t ns f m values in
    let cell = kind_cell (form_kind f) k c.cell.result is c.cell.ensures in
    let cell_again = kind_cell (form_kind f) k c.cell-2.result is c.cell-2.ensures in
    record {
      cell = c.cell.result;
      kind = kind ∙ cell;
      d = c.dim.ensures ∙ ap dimension (sym cell_again ∙ cell);
      rows = c.in_ok-rows.ensures ∙ ap (λ e. parts_of (element_at t e)) c.test_element.ensures;
      cols = c.in_ok-cols.ensures ∙ ap (λ e. parts_of (element_at t e)) c.trial_element.ensures;
      coefs = c.in_ok-coefs.ensures.places p refl refl ∙ ap (places_from p 0) (c.as_slice.ensures ∙ ap (λ (o : Occurring). o.coefficients) c.in_ok-found.ensures);
      position = c.in_ok-position.ensures ∙ ap (λ (o : Occurring). if o.position then Some (position_parts c.cell.result) else None) c.in_ok-found.ensures;
    })

pub returns-clause-lawful : goal.returns-clause-lawful
returns-clause-lawful c =
    let f = form_of c.args.form.now in
    let ns = c.args.coefficients.now in
    let t = table_of c.args.elements.now in
    let l : Layout = record { d = c.dim.result; rows = c.in_ok-rows.rows; cols = c.in_ok-cols.cols; coefs = c.in_ok-coefs.coefs; position = c.in_ok-position.position } in
    record { lawful = λ k sound is. lawful_here t ns f k l sound is (layout_here t ns f k l (returns-clause-layout c) is) c.in_ok-coefs.ensures.few }

pub returns-clause-few : goal.returns-clause-few
returns-clause-few c =
    let l : Layout = record { d = c.dim.result; rows = c.in_ok-rows.rows; cols = c.in_ok-cols.cols; coefs = c.in_ok-coefs.coefs; position = c.in_ok-position.position } in
    few_entries (table_of c.args.elements.now) c.args.coefficients.now (form_of c.args.form.now) l c.entry_count-entries.result (returns-clause-layout c) c.tree-tree.ensures.lawful
    c.entry_count-entries.ensures.few c.entry_count-entries.ensures.value
