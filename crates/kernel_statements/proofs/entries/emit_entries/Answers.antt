use Rattle.std.proofs.Common.{◌++◌, ◌+◌, drop, ap, sym, ◌∙◌, append-nil, arith}
use Rattle.std.proofs.lemmas.List.{drop_all}
use Rattle.kernel_runs.specs.Planned.{entry_code}
use Rattle.basis_products.proofs.Lists.{all_at}
use Rattle.kernel_statements.specs.Placed.{HasSlot, placed_code}
use Rattle.kernel_statements.proofs.LoopLaws.{drop_here, piece_more}
use Rattle.kernel_statements.proofs.entries.emit_entries.Goals as goal

pub emit-requires : goal.emit-requires
emit-requires c = all_at (λ e. HasSlot c.args.values e.stands) c.args.entries.now c.loop-entry.entry-index c.entry-item.result (omega arith) c.entry-item.is c.requires

pub loop-entry-preserved : goal.loop-entry-preserved
loop-entry-preserved c =
    piece_more c.loop-entry.body (entry_code 32 c.args.values c.entry-item.result.entry c.entry-item.result.stands) _ (placed_code 32 c.args.values (drop (c.loop-entry.entry-index + 1) c.args.entries.now)) _ _
    c.in_ok-emit.ensures
    (ap (placed_code 32 c.args.values) (drop_here c.args.entries.now c.loop-entry.entry-index c.entry-item.result (omega arith) c.entry-item.is))
    c.loop-entry.invariant

pub returns : goal.returns
returns c =
    sym (append-nil c.loop-entry.body)
    ∙ ap (λ es. c.loop-entry.body ++ placed_code 32 c.args.values es) (sym (drop_all c.loop-entry.entry-index c.args.entries.now (omega arith)))
    ∙ c.loop-entry.invariant
