use Rattle.std.proofs.Common.{ap, sym, arith, length}
use Rattle.std.specs.Prelude.{not}
use Rattle.std.proofs.lemmas.List.Sums.{position_or_len_is}
use Rattle.mesh_in.specs.Line.{is_blank}
use Rattle.data_in.proofs.words.word_start.Goals as goal

pub returns-then-not-is_blank-clause-place : goal.returns-then-not-is_blank-clause-place
returns-then-not-is_blank-clause-place c = sym (position_or_len_is (λ b. not (is_blank b)) c.args.line.now c.loop-at.at 0 (omega arith) (λ k h. ap not (c.loop-at.invariant k h)) (λ _. cc))

pub returns-clause-place : goal.returns-clause-place
returns-clause-place c = sym (position_or_len_is (λ b. not (is_blank b)) c.args.line.now (length c.args.line.now) 0 (omega arith) (λ k h. ap not (c.loop-at.invariant k (omega arith))) (λ h. absurd (omega arith)))
