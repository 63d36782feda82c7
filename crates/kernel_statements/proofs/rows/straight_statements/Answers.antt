use Rattle.std.proofs.Common.{◌≡◌, ◌+◌, ◌-◌, ◌*◌, length, drop, take, ap, ◌∙◌, arith}
use Rattle.c_unit.specs.Meaning.{fractions_of}
use Rattle.kernel_statements.specs.Emitted.{cut}
use Rattle.kernel_statements.proofs.RowLaws.{cut_here, cut_last, nonzeros, row_written, rows_count, rows_written, take_few}
use Rattle.kernel_statements.proofs.rows.straight_statements.Goals as goal

pub loop-k-preserved : goal.loop-k-preserved
loop-k-preserved c = record {
  counted =
      let next = ap rows_count (cut_here c.args.width c.args.rows c.loop-k.k c.args.items.now c.loop-k-test.true) in
      let here = c.row_statements-count.ensures.written 0 0 0 0 0 ∙ row_written 0 0 0 0 0 (fractions_of c.piece.result.now)
      ∙ ap (λ r. 3 * nonzeros (fractions_of r) - 1) c.piece.ensures in
      omega (arith, next, here, c.loop-k.invariant.counted);
  few =
      let width = take_few c.args.width (drop (c.loop-k.k * c.args.width) c.args.items.now) in
      omega (arith, c.row_statements-count.ensures.few, ap length c.piece.ensures, width, c.loop-k.invariant.few);
}

pub returns-clause-written : goal.returns-clause-written
returns-clause-written c scratch row cur t a =
    let none = ap rows_count (cut_last c.args.width c.args.rows c.loop-k.k (fractions_of (drop (c.loop-k.k * c.args.width) c.args.items.now)) c.loop-k-test.false) in
    omega (arith, rows_written scratch row cur t c.args.width a (cut c.args.width c.args.rows (fractions_of c.args.items.now)), none, c.loop-k.invariant.counted)
