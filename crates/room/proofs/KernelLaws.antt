-- Within the room no step of a kernel passes
use Rattle.std.proofs.Common.{◌≡◌, ◌<◌, ◌≤◌, ◌^◌, false, List, map}
use Rattle.algebra.specs.Fraction.{Fraction, is_zero_fraction}
use Rattle.calculus.specs.Simplex.{Simplex, volume}
use Rattle.algebra.specs.Over.{Over}
use Rattle.weigh.specs.Admitted.{IsAdmitted}
use Rattle.weigh.specs.Refusals.{lcd, size}
use Rattle.monos.specs.declared.weight.Weight.{Weight}
use Rattle.room.specs.Room.{room, most, common_of}
use Rattle.room.specs.declared.numbers.CellNumbers.{CellNumbers}
use Rattle.room.specs.Steps.{Product, StepFits, StepsFit}
use Rattle.room.specs.Numbered.{IsNumbered}
use Rattle.room.specs.Kernel.{steps_to_volume, preamble_steps}
use Rattle.room.specs.Adding.{added}
use Rattle.room.specs.Rows.{EntryPart, IsWithin, AreBounded, scaled_part, part_products, part_value, sum_of, sizes, entry_sum, entry_steps}
use Rattle.algebra.specs.Sums.{total}
use Rattle.algebra.proofs.OverLaws.{over_at}
use Rattle.room.proofs.ColumnValues.{entry_is}
use Rattle.room.proofs.AddingLaws.{at_most_over}
use Rattle.room.proofs.PreambleLaws.{volume_fits, preamble_fits}
use Rattle.room.proofs.RoomLaws.{in_room, small_numbers}
use Rattle.room.proofs.WeightLaws.{admitted_bound}
use Rattle.room.proofs.MultipleLaws.{multiple_in_room}
use Rattle.room.proofs.RowLaws.{entry_over, entry_fits}

pub volume_in_room : (w : Weight) (c : CellNumbers) (v : Simplex) (values : List Fraction) → IsNumbered c v values → room w c < 2 ^ 127 → StepsFit (steps_to_volume c.d v)
volume_in_room w c v values n h = volume_fits c v values n (small_numbers w c v values n (in_room w c h))

pub preamble_in_room : (w : Weight) (c : CellNumbers) (v : Simplex) (values : List Fraction) → IsNumbered c v values → room w c < 2 ^ 127 → is_zero_fraction (volume v) ≡ false → StepsFit (preamble_steps c.d v)
preamble_in_room w c v values n h some = preamble_fits c v values n (small_numbers w c v values n (in_room w c h)) some

pub entry_in_room : (w : Weight) (c : CellNumbers) (v : Simplex) (values : List Fraction) → IsNumbered c v values → is_zero_fraction (volume v) ≡ false → IsAdmitted c.d w → room w c < 2 ^ 127
    → (parts : List EntryPart) → AreBounded w c parts → StepsFit (entry_steps c.d v parts)
entry_in_room w c v values n some h r parts b = entry_fits w c v values n some (admitted_bound c.d w h) (in_room w c r) parts b

pub share_over : (w : Weight) (c : CellNumbers) (v : Simplex) (values : List Fraction) → IsNumbered c v values → is_zero_fraction (volume v) ≡ false → IsAdmitted c.d w
    → (parts : List EntryPart) → AreBounded w c parts → Over (common_of w c v) (most w c) (total (map (part_value c.d v) parts))
share_over w c v values n some h parts b =
    over_at (common_of w c v) (most w c) (added (entry_sum c.d v parts)) (total (map (part_value c.d v) parts)) (entry_is c.d v parts)
    (at_most_over (common_of w c v) (most w c) (entry_sum c.d v parts) (entry_over w c v values n some (admitted_bound c.d w h) parts b))

pub multiple_fits : (w : Weight) (c : CellNumbers) (v : Simplex) (values : List Fraction) → IsNumbered c v values → is_zero_fraction (volume v) ≡ false → IsAdmitted c.d w → room w c < 2 ^ 127
    → (k : Fraction) (p : EntryPart) → IsWithin w c (scaled_part k p) → sizes (lcd c.d w) (scaled_part k p).items ≤ size c.d w → StepFits (Product k (added (sum_of (part_products c.d v p))))
multiple_fits w c v values n some h r k p g s = multiple_in_room w c v values n some (admitted_bound c.d w h) (in_room w c r) k p g s
