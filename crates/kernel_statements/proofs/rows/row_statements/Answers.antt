use Rattle.std.proofs.Common.{◌+◌, ◌*◌, ◌≡◌, drop, ap, arith}
use Rattle.std.proofs.lemmas.List.{drop_all}
use Rattle.c_unit.specs.Meaning.{fractions_of}
use Rattle.kernel_statements.proofs.RowLaws.{nonzeros, row_written}
use Rattle.kernel_statements.proofs.rows.row_statements.Goals as goal

pub returns-clause-written : goal.returns-clause-written
returns-clause-written c scratch out cur t at =
    let none = ap (λ rs. nonzeros (fractions_of rs)) (drop_all c.loop-item.item-index c.args.row.now (omega arith)) in
    omega (arith, row_written scratch out cur t at (fractions_of c.args.row.now), none, c.loop-item.invariant.counted, c.saturating_sub.ensures)
