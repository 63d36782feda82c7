use Rattle.dofs.proofs.LocalLaws.{part_on}
use Rattle.dofs.proofs.local.push_local.Goals as goal

pub push_part-requires-clause-degree : goal.push_part-requires-clause-degree
push_part-requires-clause-degree c = (part_on c.args.cell.kind c.args.parts.now c.loop-part.part-index _ c.requires.degrees c.loop-part-test.true).degree
