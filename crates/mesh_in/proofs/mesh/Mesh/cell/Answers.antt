use Rattle.std.proofs.Common.{◌≡◌, ◌+◌, length, drop, get_or, refl, ap, arith, ◌∙◌}
use Rattle.std.proofs.lemmas.Option.{unwrap_or-slice_get}
use Rattle.std.proofs.lemmas.List.{get_or-drop}
use Rattle.std.specs.Prelude.{slice_get}
use Rattle.std.specs.Option.{unwrap_or}
use Rattle.spaces.specs.Cell.{dimension}
use Rattle.mesh_in.specs.CellLine.{cell_size, marker_in}
use Rattle.mesh_in.proofs.StoredLemmas.{cell_inside, cell_at, cell_lawful, marker_at, length-line, line_at}
use Rattle.mesh_in.proofs.mesh.Mesh.cell.Goals as goal

pub part-numbers-requires : goal.part-numbers-requires
part-numbers-requires c = rw (c.deref.ensures.value, c.cell_size-size.ensures) (cell_inside c.self.inside.header c.self.inside.coordinates.items c.self.inside.numbers.items c.args.self.now c.args.k (record { fits = c.self.invariant; is = c.self.view_is }) c.requires)

pub split_at-requires : goal.split_at-requires
split_at-requires c =
    let h = c.self.inside.header in
    let size : length (line_at h c.self.inside.numbers.items c.args.k) ≡ cell_size h = length-line h c.self.inside.coordinates.items c.self.inside.numbers.items c.args.self.now c.args.k (record { fits = c.self.invariant; is = c.self.view_is }) c.requires in
    rw (c.part-numbers.ensures, c.deref.ensures.value, c.cell_size-size.ensures, c.dim.ensures) (omega (arith, size))

pub returns-clause-vertices : goal.returns-clause-vertices
returns-clause-vertices c =
    rw (c.split_at.ensures.front, c.part-numbers.ensures, c.deref.ensures.value, c.cell_size-size.ensures, c.dim.ensures)
    (cell_at c.self.inside.header c.self.inside.coordinates.items c.self.inside.numbers.items c.args.self.now c.args.k (record { fits = c.self.invariant; is = c.self.view_is }) c.requires)

pub returns-clause-marker : goal.returns-clause-marker
returns-clause-marker c =
    let h = c.self.inside.header in
    let line = line_at h c.self.inside.numbers.items c.args.k in
    let behind : c.split_at.result.1.now ≡ drop (dimension h.kind + 1) line = rw (c.split_at.ensures.back, c.part-numbers.ensures, c.deref.ensures.value, c.cell_size-size.ensures, c.dim.ensures) refl in
    let same : dimension h.kind + 1 + 0 ≡ dimension h.kind + 1 = omega arith in
    let first : unwrap_or (slice_get (drop (dimension h.kind + 1) line) 0) 0 ≡ marker_in h.kind line = unwrap_or-slice_get (drop (dimension h.kind + 1) line) 0 0 ∙ get_or-drop (dimension h.kind + 1) line 0 0 ∙ ap (λ k. get_or line k 0) same in
    rw (c.unwrap_or.ensures, c.copied.ensures, c.first.ensures.value, behind, first)
    (marker_at h c.self.inside.coordinates.items c.self.inside.numbers.items c.args.self.now c.args.k (record { fits = c.self.invariant; is = c.self.view_is }) c.requires)

pub returns-clause-cell : goal.returns-clause-cell
returns-clause-cell c =
    rw (c.split_at.ensures.front, c.part-numbers.ensures, c.deref.ensures.value, c.cell_size-size.ensures, c.dim.ensures)
    (cell_lawful c.self.inside.header c.self.inside.coordinates.items c.self.inside.numbers.items c.args.self.now c.args.k (record { fits = c.self.invariant; is = c.self.view_is }) c.requires)
