use Rattle.std.proofs.Common.{Err, map, sym, ap, inr, ◌∙◌, ◌+◌}
use Rattle.std.specs.Str.Lines.{lines}
use Rattle.std.proofs.lemmas.Result.{err_from_is_err_and}
use Rattle.ratio.specs.Value.{fraction_of}
use Rattle.mesh_in.specs.Line.{words}
use Rattle.data_in.specs.DataReading.{within}
use Rattle.data_in.specs.Reader.{remaining}
use Rattle.data_in.proofs.BlockLaws.{no_block, block_below, block_fails, block_read, none_lacking}
use Rattle.data_in.proofs.read.read_block.Goals as goal

pub returns-in_default-clause-err : goal.returns-in_default-clause-err
returns-in_default-clause-err c =
    let line = c.args.line in
    inr (no_block c.args.low line.number (words line.text.now) (λ q. remaining c.args.lines.now q) c.in_default.ensures ∙ sym (ap Err c.refused.ensures))

pub returns-then-head-low-clause-err : goal.returns-then-head-low-clause-err
returns-then-head-low-clause-err c =
    let line = c.args.line in
    let head = c.in-Some.head in
    inr (block_below c.args.low line.number (words line.text.now) head.number head.count (λ q. remaining c.args.lines.now q) c.in-Some.ensures c.if-head-low.true
    ∙ sym (ap Err c.refused-then-head-low.ensures))

pub returns-in_err-values-clause-err : goal.returns-in_err-values-clause-err
returns-in_err-values-clause-err c =
    let p = err_from_is_err_and c.from_residual.result c.from_residual.ensures.1 in
    let line = c.args.line in
    let head = c.in-Some.head in
    rw (p.1, p.2) (block_fails c.args.low line.number (words line.text.now) head.number head.count (λ q. remaining c.args.lines.now q) c.in_err-values.field-0.0 c.in-Some.ensures
    c.if-head-low.false (c.in_err-values.ensures.err (head.number + 1)))

pub returns-clause-ok : goal.returns-clause-ok
returns-clause-ok c =
    let line = c.args.line in
    let head = c.in-Some.head in
    let after = c.read_values.new.lines in
    block_read c.args.low line.number (words line.text.now) head.number head.count (map fraction_of c.in_ok-values.values.items) (λ q. remaining c.args.lines.now q)
    (remaining after (within (head.number + 1) 0)) c.in-Some.ensures c.if-head-low.false (c.in_ok-values.ensures.ok (head.number + 1))
    (none_lacking after.number (head.number + 1) (lines after.rest.now))
