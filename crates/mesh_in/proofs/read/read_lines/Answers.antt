use Rattle.std.proofs.Common.{Ok, map, sym, ap, subst, inr, ◌∙◌}
use Rattle.std.proofs.lemmas.Result.{err_from_is_err_and}
use Rattle.ratio.specs.Value.{fraction_of}
use Rattle.spaces.specs.Cell.{dimension}
use Rattle.mesh_in.specs.CellLine.{cell_size}
use Rattle.mesh_in.specs.MeshData.{rows, fractions}
use Rattle.mesh_in.specs.MeshText.{nothing, begun}
use Rattle.mesh_in.specs.Reader.{points_of, Fails}
use Rattle.mesh_in.proofs.RowLemmas.{length-rows}
use Rattle.mesh_in.proofs.StepLemmas.{nothing_more, finished}
use Rattle.mesh_in.proofs.read.read_lines.Goals as goal

pub returns-in_err-header-clause-err : goal.returns-in_err-header-clause-err
returns-in_err-header-clause-err c =
    let p = err_from_is_err_and c.from_residual.result c.from_residual.ensures.1 in
    rw (p.1, p.2) (subst (Fails c.in_err-header.field-0.0) (c.new-lines.ensures.says nothing) c.in_err-header.ensures.err)

pub returns-in_err-coordinates-clause-err : goal.returns-in_err-coordinates-clause-err
returns-in_err-coordinates-clause-err c =
    let p = err_from_is_err_and c.from_residual-in_err-coordinates.result c.from_residual-in_err-coordinates.ensures.1 in
    rw (p.1, p.2) (subst (Fails c.in_err-coordinates.field-0.0) (sym c.in_ok-header.ensures.ok ∙ c.new-lines.ensures.says nothing) c.in_err-coordinates.ensures.err)

pub returns-in_err-numbers-clause-err : goal.returns-in_err-numbers-clause-err
returns-in_err-numbers-clause-err c =
    let p = err_from_is_err_and c.from_residual-in_err-numbers.result c.from_residual-in_err-numbers.ensures.1 in
    let h = c.in_ok-header.header in
    let points = points_of h h.vertices c.in_ok-coordinates.coordinates.items in
    rw (p.1, p.2) (subst (Fails c.in_err-numbers.field-0.0) (sym c.in_ok-coordinates.ensures.ok ∙ sym c.in_ok-header.ensures.ok ∙ c.new-lines.ensures.says nothing)
    (c.in_err-numbers.ensures.err points (length-rows (dimension h.kind) h.vertices (map fraction_of c.in_ok-coordinates.coordinates.items))))

pub returns-in_err-end-clause-err : goal.returns-in_err-end-clause-err
returns-in_err-end-clause-err c =
    let p = err_from_is_err_and c.from_residual-in_err-end.result c.from_residual-in_err-end.ensures.1 in
    let h = c.in_ok-header.header in
    let points = points_of h h.vertices c.in_ok-coordinates.coordinates.items in
    let said = begun h points (rows (cell_size h) h.cells c.in_ok-numbers.numbers.items) in
    rw (p.1, p.2) (inr (sym (c.new-lines.ensures.says nothing) ∙ c.in_ok-header.ensures.ok ∙ c.in_ok-coordinates.ensures.ok
    ∙ c.in_ok-numbers.ensures.ok points (length-rows (dimension h.kind) h.vertices (map fraction_of c.in_ok-coordinates.coordinates.items))
    ∙ c.in_err-end.ensures.refused said (nothing_more h c.in_ok-coordinates.coordinates.items c.in_ok-numbers.numbers.items)))

pub returns-clause-ok : goal.returns-clause-ok
returns-clause-ok c =
    let h = c.in_ok-header.header in
    let points = points_of h h.vertices c.in_ok-coordinates.coordinates.items in
    let said = begun h points (rows (cell_size h) h.cells c.in_ok-numbers.numbers.items) in
    sym (c.new-lines.ensures.says nothing) ∙ c.in_ok-header.ensures.ok ∙ c.in_ok-coordinates.ensures.ok
    ∙ c.in_ok-numbers.ensures.ok points (length-rows (dimension h.kind) h.vertices (map fraction_of c.in_ok-coordinates.coordinates.items))
    ∙ c.in_ok-end.ensures.ok said ∙ finished h c.in_ok-coordinates.coordinates.items c.in_ok-numbers.numbers.items c.end.new.self.number ∙ ap (λ m. Ok (fractions m)) (sym c.new.ensures)
