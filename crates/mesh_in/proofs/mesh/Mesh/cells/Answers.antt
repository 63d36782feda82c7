use Rattle.mesh_in.proofs.StoredLemmas.{cell_count}
use Rattle.mesh_in.proofs.mesh.Mesh.cells.Goals as goal

pub returns : goal.returns
returns c = cell_count c.self.inside.header c.self.inside.coordinates.items c.self.inside.numbers.items c.args.self.now (record { fits = c.self.invariant; is = c.self.view_is })
