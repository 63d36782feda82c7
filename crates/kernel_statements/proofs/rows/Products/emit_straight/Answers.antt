use Rattle.std.proofs.Common.{◌≡◌, ◌+◌, ◌-◌, ◌*◌, ◌++◌, drop, sym, ap, ◌∙◌}
use Rattle.c_unit.specs.Meaning.{fractions_of}
use Rattle.kernel_runs.specs.Planned.{straight_row, straight_rows}
use Rattle.kernel_statements.specs.Emitted.{cut}
use Rattle.kernel_statements.proofs.LoopLaws.{piece_more}
use Rattle.kernel_statements.proofs.RowLaws.{cut_here}
use Rattle.kernel_statements.proofs.rows.Products.emit_straight.Goals as goal

pub loop-k-preserved : goal.loop-k-preserved
loop-k-preserved c =
    let p = c.args.self in
    let left = straight_rows 32 p.values p.at p.table p.columns (c.loop-k.k + 1) (cut p.columns (p.rows - (c.loop-k.k + 1)) (fractions_of (drop ((c.loop-k.k + 1) * p.columns) c.args.items.now))) in
    piece_more c.loop-k.body (straight_row 32 (p.values + c.loop-k.k) p.at p.table (p.columns * c.loop-k.k) (fractions_of c.piece.result.now)) _ left _ _
    c.in_ok-emit_row.ensures
    (ap (straight_rows 32 p.values p.at p.table p.columns c.loop-k.k) (cut_here p.columns p.rows c.loop-k.k c.args.items.now c.loop-k-test.true)
    ∙ ap (λ r. straight_row 32 (p.values + c.loop-k.k) p.at p.table (p.columns * c.loop-k.k) (fractions_of r) ++ left) (sym c.piece.ensures))
    c.loop-k.invariant
