use Rattle.mesh_in.proofs.StoredLemmas.{point_count}
use Rattle.mesh_in.proofs.mesh.Mesh.vertices.Goals as goal

pub returns : goal.returns
returns c = point_count c.self.inside.header c.self.inside.coordinates.items c.self.inside.numbers.items c.args.self.now (record { fits = c.self.invariant; is = c.self.view_is })
