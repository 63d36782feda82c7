use Rattle.std.proofs.Common.{Err, sym, ap, ◌∙◌}
use Rattle.mesh_in.specs.Line.{words}
use Rattle.data_in.specs.DataReading.{start, within, heading_in}
use Rattle.data_in.specs.DataText.{heading}
use Rattle.data_in.specs.Reader.{remaining}
use Rattle.data_in.proofs.StepLaws.{row_said, row_refused, with_heading}
use Rattle.data_in.proofs.WordLaws.{heading_found, heading_missing}
use Rattle.data_in.proofs.read.read_heading.Goals as goal

pub returns-then-is_heading-clause-ok : goal.returns-then-is_heading-clause-ok
returns-then-is_heading-clause-ok c =
    let line = c.in_ok-line.line in
    let ws = words line.text.now in
    c.in_ok-line.ensures.found start
    ∙ row_said line.number start (heading_in ws) heading (λ q. remaining c.row.new.self q) (heading_found ws (sym c.is_heading.ensures ∙ c.if-is_heading.true))
    ∙ with_heading (remaining c.row.new.self (within 0 0))

pub returns-else-is_heading-clause-err : goal.returns-else-is_heading-clause-err
returns-else-is_heading-clause-err c =
    let line = c.in_ok-line.line in
    let ws = words line.text.now in
    c.in_ok-line.ensures.found start
    ∙ row_refused line.number start (heading_in ws) (λ q. remaining c.row.new.self q) (heading_missing ws (sym c.is_heading.ensures ∙ c.if-is_heading.false))
    ∙ sym (ap Err c.refused.ensures)
