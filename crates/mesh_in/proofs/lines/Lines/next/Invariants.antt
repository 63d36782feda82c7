use Rattle.std.proofs.Common.{◌≡◌, length}
use Rattle.mesh_in.specs.MeshText.{Said}
use Rattle.mesh_in.specs.Reader.{remaining, row_number}
use Rattle.mesh_in.proofs.lines.Lines.next.Given as goal

abbrev pub invariant-lines : goal.invariant-lines
invariant-lines l = record {
  says : (said : Said) → remaining l.fn.self said ≡ remaining l.self said;
  number : row_number l.fn.self ≡ row_number l.self;
}

abbrev pub decreases-lines : goal.decreases-lines
decreases-lines l = length l.self.rest.now
