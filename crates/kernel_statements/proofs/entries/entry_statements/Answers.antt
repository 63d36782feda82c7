use Rattle.std.proofs.Common.{◌≡◌, ℕ, ◌+◌, drop, ap, ◌∙◌, arith}
use Rattle.std.proofs.lemmas.List.{drop_all}
use Rattle.c_unit.specs.Meaning.{written_list}
use Rattle.kernel_runs.specs.Planned.{entry_code}
use Rattle.kernel_statements.specs.Placed.{placed_code}
use Rattle.kernel_statements.proofs.LoopLaws.{drop_here, written_append}
use Rattle.kernel_statements.proofs.entries.entry_statements.Goals as goal

pub overflow_add-count : goal.overflow_add-count
overflow_add-count c = omega (arith, c.loop-entry.invariant.few, c.statements-count.ensures.few, c.requires)

pub loop-entry-preserved : goal.loop-entry-preserved
loop-entry-preserved c = record {
  written = λ values.
      let next = ap (λ es. written_list (placed_code 32 values es)) (drop_here c.args.entries.now c.loop-entry.entry-index c.entry-item.result (omega arith) c.entry-item.is)
      ∙ written_append (entry_code 32 values c.entry-item.result.entry c.entry-item.result.stands) (placed_code 32 values (drop (c.loop-entry.entry-index + 1) c.args.entries.now)) in
      omega (arith, next, c.loop-entry.invariant.written values, c.statements-count.ensures.written values);
  few = omega (arith, c.loop-entry.invariant.few, c.statements-count.ensures.few);
}

pub returns-clause-written : goal.returns-clause-written
returns-clause-written c values =
    let none = ap (λ es. written_list (placed_code 32 values es)) (drop_all c.loop-entry.entry-index c.args.entries.now (omega arith)) in
    omega (arith, none, c.loop-entry.invariant.written values)
