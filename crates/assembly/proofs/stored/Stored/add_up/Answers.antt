use Rattle.std.proofs.Common.{◌≡◌, ◌∙◌, arith, ap, sym, subst, refl, Some}
use Rattle.std.specs.List.{flat_map}
use Rattle.std.specs.Option.{option_copied}
use Rattle.assembly.specs.Assembly.{IsMapOf}
use Rattle.assembly.specs.Stored.{stored_row, rows_of, cols_of, tensor_at, of_row, stored_entries, cell_places, places_in}
use Rattle.assembly.proofs.StoredLaws.{in_row_is, place_within, place_more, place_end, cell_more, cell_end, clear_listed, adds_same, all_cells}
use Rattle.assembly.proofs.stored.Stored.add_up.Goals as goal

pub loop-place-init : goal.loop-place-init
loop-place-init c = record {
  listed = clear_listed c.args.sums.now.sums.items c.args.sums.now.touched.items c.requires.clear.untouched c.requires.clear.none;
  room = c.requires.clear.room;
  size = refl;
  added = λ new a. a;
}

pub add_place-requires-clause-cell : goal.add_place-requires-clause-cell
add_place-requires-clause-cell c =
    let m : IsMapOf c.args.self.now.cells c.args.self.now.height (Some c.in-Some.map.now)
    = subst (IsMapOf c.args.self.now.cells c.args.self.now.height) (ap option_copied c.in-Some.is) c.requires.stored.rows in
    (place_within c.args.self.now.cells c.args.self.now.height c.args.row c.in-Some.map.now c.cells_of-places.result.now c.loop-place.place-index _ m c.cells_of-places.ensures (omega arith)).0

pub add_place-requires-clause-local : goal.add_place-requires-clause-local
add_place-requires-clause-local c =
    let m : IsMapOf c.args.self.now.cells c.args.self.now.height (Some c.in-Some.map.now)
    = subst (IsMapOf c.args.self.now.cells c.args.self.now.height) (ap option_copied c.in-Some.is) c.requires.stored.rows in
    (place_within c.args.self.now.cells c.args.self.now.height c.args.row c.in-Some.map.now c.cells_of-places.result.now c.loop-place.place-index _ m c.cells_of-places.ensures (omega arith)).1

pub loop-place-preserved : goal.loop-place-preserved
loop-place-preserved c = record {
  listed = c.add_place.ensures.listed;
  room = c.add_place.ensures.room;
  size = c.add_place.ensures.columns ∙ c.loop-place.invariant.size;
  added = λ new rest. c.loop-place.invariant.added new
      (place_more c.args.row (stored_row c.args.self.now c.args.row) c.cells_of-places.result.now c.loop-place.place-index _ c.loop-place.sums.sums.items c.add_place.new.sums.sums.items new (omega arith)
      (c.add_place.ensures.added c.args.row) rest);
}

pub loop-cell-init : goal.loop-cell-init
loop-cell-init c = record {
  listed = clear_listed c.args.sums.now.sums.items c.args.sums.now.touched.items c.requires.clear.untouched c.requires.clear.none;
  room = c.requires.clear.room;
  size = refl;
  added = λ new a. all_cells c.args.row (stored_row c.args.self.now c.args.row) c.args.self.now.cells c.args.sums.now.sums.items new a;
}

pub loop-cell-preserved : goal.loop-cell-preserved
loop-cell-preserved c = record {
  listed = c.add_place-in-loop-cell.ensures.listed;
  room = c.add_place-in-loop-cell.ensures.room;
  size = c.add_place-in-loop-cell.ensures.columns ∙ c.loop-cell.invariant.size;
  added = λ new rest. c.loop-cell.invariant.added new
      (cell_more c.args.row (stored_row c.args.self.now c.args.row) c.loop-cell.cell c.args.self.now.cells c.loop-cell.sums.sums.items c.add_place-in-loop-cell.new.sums.sums.items new (omega arith)
      (c.add_place-in-loop-cell.ensures.added c.args.row) rest);
}

pub returns-after-loop-place-clause-added : goal.returns-after-loop-place-clause-added
returns-after-loop-place-clause-added c =
    let s = c.args.self.now in
    let f = stored_row s c.args.row in
    let e : of_row c.args.row (stored_entries s) ≡ flat_map f c.cells_of-places.result.now
    = in_row_is (rows_of s) (cols_of s) (tensor_at s) s.cells s.height s.width c.args.row c.requires.stored.rows c.requires.stored.cols c.requires.row
    ∙ ap (flat_map f) (ap (λ o. places_in (option_copied o) s.cells c.args.row) c.in-Some.is ∙ sym c.cells_of-places.ensures) in
    adds_same c.args.row _ (flat_map f c.cells_of-places.result.now) c.args.sums.now.sums.items c.loop-place.sums.sums.items e
    (c.loop-place.invariant.added c.loop-place.sums.sums.items (place_end c.args.row f c.cells_of-places.result.now c.loop-place.place-index c.loop-place.sums.sums.items (omega arith)))

pub returns-after-loop-cell-clause-added : goal.returns-after-loop-cell-clause-added
returns-after-loop-cell-clause-added c =
    let s = c.args.self.now in
    let f = stored_row s c.args.row in
    let e : of_row c.args.row (stored_entries s) ≡ flat_map f (cell_places 0 s.cells)
    = in_row_is (rows_of s) (cols_of s) (tensor_at s) s.cells s.height s.width c.args.row c.requires.stored.rows c.requires.stored.cols c.requires.row
    ∙ ap (flat_map f) (ap (λ o. places_in (option_copied o) s.cells c.args.row) c.in-None.is) in
    adds_same c.args.row _ (flat_map f (cell_places 0 s.cells)) c.args.sums.now.sums.items c.loop-cell.sums.sums.items e
    (c.loop-cell.invariant.added c.loop-cell.sums.sums.items (cell_end c.args.row f c.loop-cell.cell s.cells c.loop-cell.sums.sums.items (omega arith)))
