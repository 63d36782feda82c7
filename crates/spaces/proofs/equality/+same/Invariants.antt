use Rattle.std.proofs.Common.{◌≡◌, drop}
use Rattle.spaces.specs.Reading.{spaces_in}
use Rattle.spaces.specs.Equality.{same_spaces}
use Rattle.spaces.proofs.equality.+same.Given as goal

abbrev pub invariant-same_elements-loop-tree : goal.invariant-same_elements-loop-tree
invariant-same_elements-loop-tree l =
    same_spaces (spaces_in l.trees) (spaces_in l.others) ≡ same_spaces (spaces_in (drop l.tree-index l.trees)) (spaces_in l.left)
