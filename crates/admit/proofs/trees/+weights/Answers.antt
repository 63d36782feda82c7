use Rattle.std.proofs.Common.{refl}
use Rattle.ufl_tree.specs.Places.{table_of}
use Rattle.ufl_tree.specs.Reading.{kind_of}
use Rattle.admit.proofs.ItemLaws.{list_turn}
use Rattle.admit.proofs.trees.+weights.Goals as goal

pub tree_weight-returns-clause-value : goal.tree_weight-returns-clause-value
tree_weight-returns-clause-value t c = c.node_weight.ensures.value (kind_of c.args.tree.now)

pub list_weight-loop-k-preserved : goal.list_weight-loop-k-preserved
list_weight-loop-k-preserved t c = record {
  value = list_turn (table_of c.args.elements.now) c.args.trees.now c.in-Some.front.now c.in-Some.last.now c.loop-k.k _ _ c.index-front-front.result c.tree_weight.result c.loop-k.all
      c.join-all.result c.in-Some.ensures.cases.0 c.in-Some.ensures.cases.1 c.loop-k-test.true refl c.index-front-front.is c.tree_weight.ensures.value c.loop-k.invariant.value
      c.join-all.ensures.value;
  denominators = c.join-all.ensures.denominators;
}
