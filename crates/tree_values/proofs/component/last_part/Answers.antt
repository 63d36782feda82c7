use Rattle.tree_values.proofs.ComponentLaws.{all_behind}
use Rattle.tree_values.proofs.component.last_part.Goals as goal

pub returns-else-at-shape : goal.returns-else-at-shape
returns-else-at-shape c = all_behind c.args.shape.now c.args.at.now c.if-at-shape.false
