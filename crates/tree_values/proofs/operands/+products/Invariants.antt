use Rattle.std.proofs.Common.{length}
use Rattle.tree_values.proofs.operands.+products.Given as goal

abbrev pub decreases-products : goal.decreases-products
decreases-products l = length l.left.now
