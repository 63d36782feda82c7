use Rattle.std.proofs.Common.{arith}
use Rattle.mesh_in.proofs.LineLemmas.{line_with_end, line_without_end}
use Rattle.data_in.proofs.lines.split_line.Goals as goal

pub returns-in-empty-clause-lines : goal.returns-in-empty-clause-lines
returns-in-empty-clause-lines c =
    line_without_end c.args.text.now c.split_at.result.0.now c.split_at.result.1.now c.place_of-end.result c.place_of-end.ensures.place c.split_at.ensures.front c.split_at.ensures.back c.place_of-end.ensures.within (omega arith) c.requires

pub returns-in-len1-up-clause-lines : goal.returns-in-len1-up-clause-lines
returns-in-len1-up-clause-lines c =
    rw c.without_return.ensures (line_with_end c.args.text.now c.split_at.result.0.now c.split_at.result.1.now c.place_of-end.result c.place_of-end.ensures.place c.split_at.ensures.front c.split_at.ensures.back (omega arith))
