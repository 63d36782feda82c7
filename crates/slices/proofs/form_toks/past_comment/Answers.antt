use Rattle.std.proofs.Common.{◌∙◌}
use Rattle.slices.proofs.FormNext.{comment_feed}
use Rattle.slices.proofs.form_toks.past_comment.Goals as goal

pub returns-then-text-at-eq10-clause-value : goal.returns-then-text-at-eq10-clause-value
returns-then-text-at-eq10-clause-value c =
    λ quiet line. c.loop-at.invariant.2 quiet line ∙ comment_feed quiet c.args.text.now c.loop-at.at line c.loop-at-test.true c.if-text-at-eq10.true
