use Rattle.passes.proofs.IndexLaws.{all_behind}
use Rattle.passes.proofs.indices.back.Goals as goal

pub returns-else-at-shape : goal.returns-else-at-shape
returns-else-at-shape c = all_behind c.args.shape.now c.args.at.now c.if-at-shape.false
