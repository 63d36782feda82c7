use Rattle.std.proofs.Common.{◌≡◌, take, map}
use Rattle.ufl_tree.specs.Reading.{term_of}
use Rattle.passes.specs.Component.{component_in}
use Rattle.passes.proofs.lowering.+lowering.Given as goal

abbrev pub invariant-components-loop-tree : goal.invariant-components-loop-tree
invariant-components-loop-tree l = map term_of l.all ≡ map (λ a. component_in l.scope a l.at l.next) (take l.tree-index l.trees)
