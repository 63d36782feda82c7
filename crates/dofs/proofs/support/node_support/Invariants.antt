use Rattle.std.proofs.Common.{◌≡◌, ◌≤◌, length, drop}
use Rattle.dofs.specs.Label.{weighted}
use Rattle.dofs.specs.Arrays.{support_of}
use Rattle.dofs.proofs.support.node_support.Given as goal

-- the vertices from i on
abbrev pub invariant-vertices : goal.invariant-vertices
invariant-vertices l = record {
  within : l.i ≤ length l.vertices;
  found : l.found ≡ support_of (weighted (drop l.i l.vertices) (drop l.i l.weights));
}

abbrev pub decreases-vertices : goal.decreases-vertices
decreases-vertices l = l.i
