use Rattle.std.proofs.Common.{sym, arith, eqb, get_or, length}
use Rattle.std.proofs.lemmas.Bool.{eq-eqb}
use Rattle.std.proofs.lemmas.List.Sums.{position_or_len_is}
use Rattle.data_in.proofs.lines.place_of.Goals as goal

pub returns-then-found-byte-clause-place : goal.returns-then-found-byte-clause-place
returns-then-found-byte-clause-place c = sym (position_or_len_is (λ b. eqb b c.args.byte) c.args.bytes.now c.loop-at.at 0 (omega arith) (λ k h. c.loop-at.invariant k h) (λ _. eq-eqb (get_or c.args.bytes.now c.loop-at.at 0) c.args.byte c.if-found-byte.true))

pub returns-clause-place : goal.returns-clause-place
returns-clause-place c = sym (position_or_len_is (λ b. eqb b c.args.byte) c.args.bytes.now (length c.args.bytes.now) 0 (omega arith) (λ k h. c.loop-at.invariant k (omega arith)) (λ h. absurd (omega arith)))
