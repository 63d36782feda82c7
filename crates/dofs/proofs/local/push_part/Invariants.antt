use Rattle.std.proofs.Common.{◌≡◌, ◌++◌, take, map}
use Rattle.dofs.specs.Label.{node_label}
use Rattle.dofs.specs.Arrays.{key_of}
use Rattle.dofs.proofs.local.push_part.Given as goal

-- the nodes so far
abbrev pub invariant-loop-node : goal.invariant-loop-node
invariant-loop-node l = l.keys.items ≡ l.fn.keys.items ++ map (λ w. key_of (node_label l.number l.fn.part.family l.cell.number l.cell.vertices.now w)) (take l.node-index l.node-items)
