use Rattle.std.proofs.Common.{◌≡◌, take}
use Rattle.tree_values.specs.Scene.{names_of}
use Rattle.tree_values.proofs.scene.look.Given as goal

abbrev pub invariant-loop-one : goal.invariant-loop-one
invariant-loop-one l = l.value ≡ names_of (take l.one-index l.names) l.index
