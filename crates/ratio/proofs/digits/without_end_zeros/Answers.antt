use Rattle.std.proofs.Common.{◌∙◌, sym, arith}
use Rattle.ratio.proofs.DigitLaws.{shorter, shorter_zeros, kept_end, none_left}
use Rattle.ratio.proofs.digits.without_end_zeros.Goals.{then-loop-end-test+else-digits-end-eq48, else-loop-end-test}
use Rattle.ratio.proofs.digits.without_end_zeros.Goals as goal

pub loop-end-preserved : goal.loop-end-preserved
loop-end-preserved c = record {
  within = omega arith;
  kept = sym (shorter c.args.digits.now c.loop-end.end c.loop-end-test.true c.loop-end.invariant.within c.if-digits-end-eq48.true) ∙ c.loop-end.invariant.kept;
  dropped = shorter_zeros c.args.digits.now c.loop-end.end c.loop-end-test.true c.loop-end.invariant.within c.if-digits-end-eq48.true c.loop-end.invariant.dropped;
}

pub returns-clause-kept : goal.returns-clause-kept
returns-clause-kept c = elim c.loop-end-test.branch [
  | then-loop-end-test+else-digits-end-eq48 w ↦ kept_end c.args.digits.now c.loop-end.end w.loop-end-test.true c.loop-end.invariant.within w.if-digits-end-eq48.false ∙ c.loop-end.invariant.kept
  | else-loop-end-test w ↦ none_left c.args.digits.now c.loop-end.end w.loop-end-test.false ∙ c.loop-end.invariant.kept
]
