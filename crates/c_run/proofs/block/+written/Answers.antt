use Rattle.std.proofs.Common.{rules, ◌≡◌, ◌∙◌, sym, ap, false}
use Rattle.c_unit.specs.declared.unit.CStmt.TheViews.{the_lemmas}
use Rattle.c_unit.specs.Meaning.{written_list}
use Rattle.c_run.specs.Answer.{is_loop, number}
use Rattle.c_run.proofs.Counts.{count_more, loop_written, one_written}
use Rattle.c_run.proofs.block.+written.Goals as goal
use Rattle.c_run.proofs.block.+written.Goals.{in-For, in_default}

pub loop-s-preserved : goal.loop-s-preserved
loop-s-preserved t c =
    count_more c.args.body.now c.loop-s.s-index c.s-item.result c.loop-s.count c.match-s.more c.saturating_add-count.result c.loop-s-test.true c.s-item.is c.loop-s.invariant
    (elim c.match-s.branch [
      | in-For w ↦
          w.more-is ∙ loop_written c.s-item.result w.in-For.turns w.in-For.inner w.written.result w.saturating_add-more.result w.in-For.is
          (w.written.ensures ∙ ap (λ l. number (written_list l)) w.as_slice.ensures) w.saturating_add-more.ensures
      | in_default w ↦
          let simple : is_loop c.s-item.result ≡ false = search (rules, the_lemmas, w.in_default.not-For) in
          w.more-is ∙ ap number (sym (one_written c.s-item.result simple))
    ]) c.saturating_add-count.ensures
