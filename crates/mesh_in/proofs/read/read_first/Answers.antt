use Rattle.std.proofs.Common.{[], inr, ◌∙◌}
use Rattle.std.proofs.lemmas.Result.{err_from_is_err_and}
use Rattle.mesh_in.specs.Line.{words}
use Rattle.mesh_in.specs.MeshText.{nothing, begun, after_row}
use Rattle.mesh_in.specs.Reader.{remaining}
use Rattle.mesh_in.proofs.StepLemmas.{header_row, goes, stops}
use Rattle.mesh_in.proofs.read.read_first.Goals as goal

pub returns-in_err-header-clause-err : goal.returns-in_err-header-clause-err
returns-in_err-header-clause-err c =
    let p = err_from_is_err_and c.from_residual-in_err-header.result c.from_residual-in_err-header.ensures.1 in
    let line = c.in_ok-line.line in
    let q = c.in_err-header.ensures.err in
    rw (p.1, p.2) (inr (c.in_ok-line.ensures.found nothing
    ∙ stops line.number (after_row nothing (words line.text.now)) c.in_err-header.field-0.0 (λ next. remaining c.row.new.self next) (q.0, header_row (words line.text.now) ∙ q.1, q.2)))

pub returns-clause-ok : goal.returns-clause-ok
returns-clause-ok c =
    let line = c.in_ok-line.line in
    c.in_ok-line.ensures.found nothing
    ∙ goes line.number (after_row nothing (words line.text.now)) (begun c.in_ok-header.header [] []) (λ next. remaining c.row.new.self next) (header_row (words line.text.now) ∙ c.in_ok-header.ensures.ok)
