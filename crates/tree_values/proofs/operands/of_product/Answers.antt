use Rattle.std.proofs.Common.{arith}
use Rattle.tree_values.proofs.ResultLaws.{ok_then}
use Rattle.tree_values.proofs.OperandLaws.{product_first, product_second, product_third}
use Rattle.tree_values.proofs.operands.of_product.Goals as goal

pub returns-then-shape-eq0 : goal.returns-then-shape-eq0
returns-then-shape-eq0 c = ok_then c.pair.result (λ w h. product_first c.args.shape.now c.args.other.now c.args.at.now w.left w.right (omega arith) h.0 h.1) c.pair.ensures

pub returns-then-other-eq0 : goal.returns-then-other-eq0
returns-then-other-eq0 c =
    ok_then c.pair-then-other-eq0.result (λ w h. product_second c.args.shape.now c.args.other.now c.args.at.now w.left w.right (omega arith) (omega arith) h.0 h.1) c.pair-then-other-eq0.ensures

pub returns-else-other-eq0 : goal.returns-else-other-eq0
returns-else-other-eq0 c = ok_then c.of_dot.result (λ w h. product_third c.args.shape.now c.args.other.now c.args.at.now w.left w.right (omega arith) (omega arith) h) c.of_dot.ensures
