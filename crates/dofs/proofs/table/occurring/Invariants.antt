use Rattle.std.proofs.Common.{◌≡◌, ◌++◌, drop, map}
use Rattle.spaces.specs.Scalar.{scalar_of}
use Rattle.dofs.specs.Arrays.{key_of}
use Rattle.dofs.specs.Rows.{labels_from}
use Rattle.dofs.proofs.table.occurring.Given as goal

-- what is there and the labels of the cells that are left
abbrev pub invariant-loop-k : goal.invariant-loop-k
invariant-loop-k l =
    l.keys.items ++ map key_of (labels_from l.mesh.kind (map scalar_of l.parts) l.k (drop l.k l.mesh.cells))
    ≡ map key_of (labels_from l.mesh.kind (map scalar_of l.parts) 0 l.mesh.cells)
