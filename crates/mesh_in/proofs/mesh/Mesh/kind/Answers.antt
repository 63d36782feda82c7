use Rattle.std.proofs.Common.{subst}
use Rattle.mesh_in.specs.MeshData.{IsMesh}
use Rattle.mesh_in.proofs.StoredLemmas.{is_mesh}
use Rattle.mesh_in.proofs.mesh.Mesh.kind.Goals as goal

pub returns-clause-mesh : goal.returns-clause-mesh
returns-clause-mesh c =
    subst (λ m. IsMesh m) c.self.view_is (is_mesh c.self.inside.header c.self.inside.coordinates.items c.self.inside.numbers.items c.self.invariant)
