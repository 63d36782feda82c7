use Rattle.std.proofs.Common.{◌<◌, ◌+◌, ap, arith}
use Rattle.std.proofs.lemmas.Bool.Decides.{nat_tests}
use Rattle.assembly.specs.LentRows.{LentRows}
use Rattle.assembly.proofs.LentLaws.{row_passing, row_lent}
use Rattle.assembly.proofs.lent_rows.Rows.next_row.Goals as goal

pub returns-in-Some : goal.returns-in-Some
returns-in-Some c =
    let left = c.self.invariant.some_left in
    let more : c.self.inside.next < c.self.inside.count = grind (arith, nat_tests) in (
      row_passing c.self.inside.stored c.self.inside.entries.items _ c.self.inside.count c.self.inside.next c.in-Some.col c.self.inside.sums c.add_up.new.sums c.args.self.now c.self.view_is
          c.self.invariant more c.add_up.ensures.added c.in-Some.ensures.passed,
      ap (λ (r : LentRows). record r { entries = c.finish_row.new.entries.items }) c.self.view_is,
    )

pub returns-in-None : goal.returns-in-None
returns-in-None c =
    let left = c.self.invariant.some_left in
    let more : c.self.inside.next < c.self.inside.count = grind (arith, nat_tests) in (
      row_lent c.self.inside.stored c.self.inside.entries.items _ c.self.inside.count c.self.inside.next c.self.inside.sums c.add_up.new.sums c.args.self.now _ c.self.view_is
          c.self.invariant more c.add_up.ensures.added c.in-None.ensures.own c.in-None.ensures.sums,
      ap (λ (r : LentRows). record r { entries = c.finish_row.new.entries.items; next = r.next + 1 }) c.self.view_is,
    )
