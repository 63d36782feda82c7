use Rattle.std.proofs.Common.{◌≡◌, ◌*◌, ◌+◌, length, refl, sym, ap, inl, inr, ◌∙◌, arith}
use Rattle.std.proofs.lemmas.Result.{err_from_is_err_and}
use Rattle.mesh_in.specs.Line.{words}
use Rattle.mesh_in.specs.CellLine.{cell_size}
use Rattle.mesh_in.specs.MeshData.{rows}
use Rattle.mesh_in.specs.MeshText.{begun, after_row}
use Rattle.mesh_in.specs.Reader.{remaining}
use Rattle.mesh_in.proofs.StepLemmas.{open_cells, at_cell, next_cell, goes, stops}
use Rattle.mesh_in.proofs.read.read_cells.Goals as goal

pub cells-init : goal.cells-init
unfolding rows
cells-init c = record {
  fit = let none : 0 * cell_size c.args.header ≡ 0 = omega arith in ap length c.new-numbers.ensures.items ∙ sym none;
  cells = tt;
  goes_on = λ points all. refl;
}

pub returns-in_err-line-clause-err : goal.returns-in_err-line-clause-err
returns-in_err-line-clause-err c =
    let p = err_from_is_err_and c.from_residual.result c.from_residual.ensures.1 in
    rw (p.1, p.2) (λ points all.
    inr (c.cells.invariant.goes_on points all
    ∙ c.in_err-line.ensures.refused (begun c.args.header points (rows (cell_size c.args.header) c.cells.counter c.cells.numbers.items)) (open_cells c.args.header points c.cells.counter c.cells.numbers.items all c.cells-test.true)))

pub returns-in_err-push_cell-clause-err : goal.returns-in_err-push_cell-clause-err
returns-in_err-push_cell-clause-err c =
    let p = err_from_is_err_and c.from_residual-in_err-push_cell.result c.from_residual-in_err-push_cell.ensures.1 in
    let line = c.in_ok-line.line in
    rw (p.1, p.2) (λ points all. elim c.in_err-push_cell.ensures.err [
      | inl memory ↦ inl memory
      | inr h ↦
          let before = rows (cell_size c.args.header) c.cells.counter c.cells.numbers.items in
          let q = h points before in
          inr (c.cells.invariant.goes_on points all ∙ c.in_ok-line.ensures.found (begun c.args.header points before)
          ∙ stops line.number (after_row (begun c.args.header points before) (words line.text.now)) c.in_err-push_cell.field-0.0 (λ next. remaining c.row.new.self next)
          (q.0, at_cell c.args.header points c.cells.counter c.cells.numbers.items (words line.text.now) all c.cells-test.true ∙ q.1, q.2))
    ])

pub cells-preserved : goal.cells-preserved
cells-preserved c =
    let line = c.in_ok-line.line in
    let ok = c.in_ok-push_cell.ensures.ok in
    let n = next_cell c.args.header c.cells.counter c.cells.numbers.items c.push_cell.new.numbers.items ok.0 (words line.text.now) c.cells-test.true c.cells.invariant.fit c.cells.invariant.cells ok.1 ok.2 ok.3 in
    record {
      fit = n.fit;
      cells = n.cells;
      goes_on = λ points all. c.cells.invariant.goes_on points all ∙ c.in_ok-line.ensures.found (begun c.args.header points (rows (cell_size c.args.header) c.cells.counter c.cells.numbers.items))
          ∙ goes line.number (after_row (begun c.args.header points (rows (cell_size c.args.header) c.cells.counter c.cells.numbers.items)) (words line.text.now))
          (begun c.args.header points (rows (cell_size c.args.header) (c.cells.counter + 1) c.push_cell.new.numbers.items)) (λ next. remaining c.row.new.self next) (n.says points all);
    }
