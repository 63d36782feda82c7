use Rattle.std.proofs.lemmas.Result.{err_from_is_err_and}
use Rattle.answers.proofs.SinkLaws.{parts_more, parts_prefix}
use Rattle.answers.proofs.lines.put_line.Goals as goal

pub returns-in_err-put_part-clause-prefix : goal.returns-in_err-put_part-clause-prefix
returns-in_err-put_part-clause-prefix g c =
    let p = err_from_is_err_and c.from_residual.result c.from_residual.ensures.1 in
    rw (p.1) (parts_prefix (g.S.Sink.written c.args.sink.now) (g.S.Sink.written c.loop-part.sink) (g.S.Sink.written c.put_part.new.sink) _ _ c.args.parts.now c.loop-part.part-index _ c.loop-part-test.true c.loop-part.invariant c.in_err-put_part.ensures.prefix)

pub loop-part-preserved : goal.loop-part-preserved
loop-part-preserved g c =
    parts_more (g.S.Sink.written c.args.sink.now) (g.S.Sink.written c.loop-part.sink) (g.S.Sink.written c.put_part.new.sink) _ _ _ c.args.parts.now c.loop-part.part-index _ c.loop-part-test.true c.loop-part.invariant c.in_ok-put_part.ensures.ok c.in_ok-put_part.ensures.no_fault
