use Rattle.mesh_in.proofs.StoredLemmas.{point_inside, point_at, length-point}
use Rattle.mesh_in.proofs.mesh.Mesh.point.Goals as goal

pub part-requires : goal.part-requires
part-requires c = rw (c.deref.ensures.value, c.dim-size.ensures) (point_inside c.self.inside.header c.self.inside.coordinates.items c.self.inside.numbers.items c.args.self.now c.args.v (record { fits = c.self.invariant; is = c.self.view_is }) c.requires)

pub returns-clause-coordinates : goal.returns-clause-coordinates
returns-clause-coordinates c = rw (c.part.ensures, c.deref.ensures.value, c.dim-size.ensures) (point_at c.self.inside.header c.self.inside.coordinates.items c.self.inside.numbers.items c.args.self.now c.args.v (record { fits = c.self.invariant; is = c.self.view_is }) c.requires)

pub returns-clause-dimension : goal.returns-clause-dimension
returns-clause-dimension c = rw (c.part.ensures, c.deref.ensures.value, c.dim-size.ensures) (length-point c.self.inside.header c.self.inside.coordinates.items c.self.inside.numbers.items c.args.self.now c.args.v (record { fits = c.self.invariant; is = c.self.view_is }) c.requires)
