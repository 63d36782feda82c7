use Rattle.std.proofs.Common.{◌≡◌, ◌≤◌, ℕ, drop, length}
use Rattle.c_unit.specs.Meaning.{run_list, tables_of}
use Rattle.c_run.specs.Answer.{slots_of}
use Rattle.c_run.specs.Busy.{IsListed}
use Rattle.c_run.proofs.Runs.{left_at, left_in}
use Rattle.c_run.proofs.block.+run_block.Given as goal

-- what is left of the list is that of the statements from some statement on, from which the run goes on
abbrev pub invariant-all : goal.invariant-all
invariant-all l =
    (k : ℕ) × IsListed k (drop k l.body) l.rest
    × (run_list l.fn.body (tables_of l.from.tables.now) l.is.depth l.is.of (slots_of l.from.x.now l.from.w.now l.fn.t l.fn.a)
    ≡ left_at l.body (tables_of l.from.tables.now) l.is.depth l.is.of k (slots_of l.from.x.now l.from.w.now l.t l.a))
    × (length l.rest ≤ length l.fn.busy)

abbrev pub decreases-all : goal.decreases-all
decreases-all l = length l.rest

abbrev pub invariant-loop-i : goal.invariant-loop-i
invariant-loop-i l = record {
  listed : IsListed 0 l.inner l.inside;
  same : run_list l.fn.body (tables_of l.from.tables.now) l.is.depth l.is.of (slots_of l.from.x.now l.from.w.now l.fn.t l.fn.a)
      ≡ left_in l.body (tables_of l.from.tables.now) l.is.depth l.is.of l.first.index l.inner l.i-end l.i (slots_of l.from.x.now l.from.w.now l.t l.a);
}

abbrev pub decreases-run_block : goal.decreases-run_block
decreases-run_block l = length l.busy.now
