use Rattle.std.proofs.Common.{◌∙◌, ◌≤◌, arith}
use Rattle.slices.proofs.FormNext.{join_gap}
use Rattle.slices.proofs.form_toks.past_gap.Goals as goal

pub all-preserved : goal.all-preserved
all-preserved c =
    let j = c.join_length-join.ensures in
    let some : 1 ≤ c.join_length-join.result = omega (arith, c.if-join-eq0.false) in
    record {
      lower = omega (arith, c.all.invariant.lower);
      upper = j.within;
      lines = omega (arith, c.all.invariant.lines, some);
      same = c.all.invariant.same ∙ join_gap c.args.quiet c.args.text.now c.all.at c.all.lines c.join_length-join.result (omega (arith, c.if-at-text.false)) c.if-byte-eq92.true j.value c.if-join-eq0.false;
    }
