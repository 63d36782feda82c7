use Rattle.std.proofs.Common.{arith}
use Rattle.dofs.proofs.SupportLaws.{put_alone, put_first, put_second, put_front, put_middle, put_last}
use Rattle.dofs.proofs.support.with.Goals as goal
use Rattle.dofs.proofs.support.with.Goals.{in-0, in-1, in-1-2, in_default, in_default-2, in_default-3}

pub returns : goal.returns
returns c =
    elim c.match-support.branch [
      | in-0 w ↦ put_alone c.args.support c.args.vertex c.args.weight _ w.in-0.is w.t-20-is
      | in-1 w ↦ put_first c.args.support c.args.vertex c.args.weight _ w.in-1.is w.if-vertex-first.true w.t-20-is
      | in-1-2 w ↦ put_second c.args.support c.args.vertex c.args.weight _ w.in-1.is w.if-vertex-first.false w.t-20-is
      | in_default w ↦ put_front c.args.support c.args.vertex c.args.weight _ (omega arith) w.if-vertex-first-2.true w.t-20-is
      | in_default-2 w ↦ put_middle c.args.support c.args.vertex c.args.weight _ (omega arith) w.if-vertex-first-2.false w.if-vertex-second.true w.t-20-is
      | in_default-3 w ↦ put_last c.args.support c.args.vertex c.args.weight _ (omega arith) w.if-vertex-first-2.false w.if-vertex-second.false w.t-20-is
    ]
