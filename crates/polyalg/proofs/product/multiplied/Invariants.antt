use Rattle.std.proofs.Common.{drop}
use Rattle.polyalg.proofs.ProductLaws.{ProductSoFar}
use Rattle.polyalg.proofs.product.multiplied.Given as goal

abbrev pub invariant-loop-term : goal.invariant-loop-term
invariant-loop-term l = ProductSoFar l.all.items (drop l.term-index l.left) l.left l.right
