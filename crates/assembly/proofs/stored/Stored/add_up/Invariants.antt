use Rattle.std.proofs.Common.{◌≡◌, ◌-◌, length, drop}
use Rattle.std.specs.List.{flat_map}
use Rattle.assembly.specs.RowSums.{Kept, AddsInRow, AreListed, HasRoom}
use Rattle.assembly.specs.Stored.{stored_row, cell_places}
use Rattle.assembly.proofs.stored.Stored.add_up.Given as goal

-- once those of the places that are left are added, all are
abbrev pub invariant-loop-place : goal.invariant-loop-place
invariant-loop-place l = record {
  listed : AreListed l.sums.sums.items l.sums.touched.items;
  room : HasRoom l.sums;
  size : length l.sums.sums.items ≡ length l.initial.sums.sums.items;
  added : (new : Kept) → AddsInRow l.row (flat_map (stored_row l.self l.row) (drop l.place-index l.places)) l.sums.sums.items new
      → AddsInRow l.row (flat_map (stored_row l.self l.row) l.places) l.initial.sums.sums.items new;
}

abbrev pub invariant-loop-cell : goal.invariant-loop-cell
invariant-loop-cell l = record {
  listed : AreListed l.sums.sums.items l.sums.touched.items;
  room : HasRoom l.sums;
  size : length l.sums.sums.items ≡ length l.initial.sums.sums.items;
  added : (new : Kept) → AddsInRow l.row (flat_map (stored_row l.self l.row) (cell_places l.cell (l.self.cells - l.cell))) l.sums.sums.items new
      → AddsInRow l.row (flat_map (stored_row l.self l.row) (cell_places 0 l.self.cells)) l.initial.sums.sums.items new;
}
