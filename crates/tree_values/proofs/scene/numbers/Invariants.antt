use Rattle.std.proofs.Common.{◌≡◌, take, ◌++◌}
use Rattle.tree_values.specs.Scene.{names_of}
use Rattle.ufl_tree.specs.Indices.{index_values}
use Rattle.tree_values.proofs.scene.numbers.Given as goal

abbrev pub invariant-loop-i : goal.invariant-loop-i
invariant-loop-i l = l.all ≡ index_values (names_of l.names) (take l.i-index l.at)

abbrev pub invariant-loop-k : goal.invariant-loop-k
invariant-loop-k l = l.all ≡ index_values (names_of l.names) l.at ++ take l.k-index l.more
