use Rattle.std.proofs.Common.{length, arith}
use Rattle.assembly.proofs.AddsLaws.{rows_fit}
use Rattle.assembly.proofs.SharesLaws.{local_pushed}
use Rattle.assembly.proofs.shares.push_local.Goals as goal

pub loop-row-preserved : goal.loop-row-preserved
loop-row-preserved c = record {
  room = rows_fit c.args.rows.now c.loop-row.row-index (length c.args.cols.now) (length c.loop-row.rest.now) _ (omega arith) c.loop-row.invariant.room (omega arith);
  triples = local_pushed c.args.rows.now c.args.cols.now c.loop-row.rest.now _ _ c.loop-row.row-index c.loop-row.triples.items c.push_row.new.triples.items _ (omega arith)
      c.split_at.ensures.front c.split_at.ensures.back c.in_ok-push_row.ensures c.loop-row.invariant.triples;
}
