use Rattle.std.proofs.Common.{refl, sym, subst, arith}
use Rattle.std.specs.Option.{option_copied}
use Rattle.assembly.specs.Assembly.{assembly_of}
use Rattle.assembly.specs.Shares.{AreSharesFrom}
use Rattle.assembly.specs.Stored.{rows_of, cols_of, tensor_at}
use Rattle.assembly.specs.declared.shares.CellShare.{CellShare}
use Rattle.assembly.proofs.SharesLaws.{shares_more, share_is}
use Rattle.assembly.proofs.shares.cells.Goals as goal

pub loop-cell-preserved : goal.loop-cell-preserved
loop-cell-preserved c =
    let s = assembly_of c.args.f.now c.args.m.now (option_copied c.args.rows) (option_copied c.args.cols) c.args.coefs.now in
    let stored = c.in_ok-stored.stored in
    let share : CellShare = record { cell = c.loop-cell.cell; triples = c.in_ok-triples.triples } in
    let count = c.loop-cell.invariant.count in
    record {
      count = omega (arith, c.in_ok-push.ensures.len, count);
      each = subst (AreSharesFrom s 0) (sym c.in_ok-push.ensures.items)
          (shares_more s 0 c.loop-cell.cell c.loop-cell.shares.items share (omega (arith, count)) c.loop-cell.invariant.each
          (share_is s (rows_of stored) (cols_of stored) (tensor_at stored) c.loop-cell.cell share c.in_ok-stored.ensures.maps.0 c.in_ok-stored.ensures.maps.1
          (c.in_ok-stored.ensures.tensors.1 c.loop-cell.cell (omega arith)) refl c.in_ok-triples.ensures));
    }
