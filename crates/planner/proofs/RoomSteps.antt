-- Within the room of a cell no step of a kernel passes
use Rattle.std.proofs.Common.{◌≡◌, ℕ, zero, suc, ◌*◌, ◌<◌, ◌≤◌, ◌^◌, false, List, [], ◌∷◌, length, map, sym, ap, subst, arith}
use Rattle.std.specs.Prelude.{Contains, slice_index_or}
use Rattle.std.specs.List.{AllByRecursion, flat_map}
use Rattle.algebra.specs.Fraction.{Fraction, mul, is_zero_fraction}
use Rattle.calculus.specs.Simplex.{Simplex, IsCell, dimension, volume}
use Rattle.monos.specs.declared.layout.Layout.{Layout}
use Rattle.monos.specs.declared.weight.Weight.{Weight}
use Rattle.monos.specs.Layout.{IsLawfulLayout}
use Rattle.monos.specs.Monomial.{Monomial, directions}
use Rattle.weigh.specs.Lists.{HasWeight}
use Rattle.weigh.specs.Refusals.{lcd, size}
use Rattle.refint.specs.Local.{entries_of}
use Rattle.refint.specs.Reference.{items, value_lists}
use Rattle.room.specs.Adding.{added}
use Rattle.room.specs.Kernel.{growth_steps, steps_to_volume}
use Rattle.room.specs.Numbered.{AllOver, IsNumbered}
use Rattle.room.specs.Room.{all_values, numbers_of, room}
use Rattle.room.specs.Rows.{AreBounded, AreCounted, EntryPart, IsWithin as IsPartWithin, entry_part, part_products, part_sizes, scaled_part, sizes, sum_of}
use Rattle.room.specs.Steps.{Product, StepFits}
use Rattle.room.proofs.KernelLaws.{entry_in_room, multiple_fits, preamble_in_room, volume_in_room}
use Rattle.room.proofs.Lists.{all_right}
use Rattle.room.proofs.NumbersLaws.{numbered}
use Rattle.room.proofs.PartLaws.{part_within}
use Rattle.room.proofs.WeightLaws.{all_bottoms, counted_total}
use Rattle.monomial_weights.specs.Weighed.{IsWithin, cost_at, item_bound}
use Rattle.planner.specs.Kernels.{AreWithin, NoStepPasses}

-- the items of a monomial in an entry are within their bound
abbrev pub IsEntryBounded : Layout → Weight → ℕ → ℕ → Monomial → Type 0
IsEntryBounded l w a b m = AllOver (lcd l.d w) (item_bound l.d w m) (items l m a b)

-- in all entries
abbrev pub AreEntriesBounded : Layout → Weight → Monomial → Type 0
AreEntriesBounded l w m = (a b : ℕ) → a < entries_of l.rows → b < entries_of l.cols → IsEntryBounded l w a b m

-- the parts of a weighed sum in an entry are counted, where its items are within their bounds
abbrev pub PartsCount : Type 0
PartsCount =
    (l : Layout) (w : Weight) (ms : List Monomial) → HasWeight (cost_at l) l.d w ms → (v : Simplex) (values : List Fraction) (a b : ℕ)
    → AllByRecursion (IsEntryBounded l w a b) ms → AreCounted w l.d (map (entry_part l v values a b) ms) (w.cost * w.num)

-- ---- what all have, one has
of_member : {A : Type 0} (P : A → Type 0) (xs : List A) (i : ℕ) (x : A) → AllByRecursion P xs → i < length xs → slice_index_or xs i x ≡ x → P x
of_member P [] i x h lt at = absurd (omega arith)
of_member P (y ∷ xs) zero x h lt at = subst P at h.0
of_member P (y ∷ xs) (suc i) x h lt at = of_member P xs i x h.1 (omega arith) at

size_of_member : (l : ℕ) (f : Monomial → EntryPart) (ms : List Monomial) (i : ℕ) (m : Monomial) → i < length ms → slice_index_or ms i m ≡ m → sizes l (f m).items ≤ part_sizes l (map f ms)
size_of_member l f [] i m lt at = absurd (omega arith)
size_of_member l f (x ∷ ms) zero m lt at = let same : sizes l (f x).items ≡ sizes l (f m).items = ap (λ (y : Monomial). sizes l (f y).items) at in omega (arith, same)
size_of_member l f (x ∷ ms) (suc i) m lt at = let more = size_of_member l f ms i m (omega arith) at in omega (arith, more)

bounded_at : (l : Layout) (w : Weight) (a b : ℕ) → a < entries_of l.rows → b < entries_of l.cols → (ms : List Monomial) → AllByRecursion (AreEntriesBounded l w) ms
    → AllByRecursion (IsEntryBounded l w a b) ms
bounded_at l w a b row col [] h = tt
bounded_at l w a b row col (m ∷ ms) h = (h.0 a b row col, bounded_at l w a b row col ms h.1)

-- ---- a cell
module _ (count : PartsCount) (l : Layout) (lawful : IsLawfulLayout l) (w : Weight) (ms : List Monomial) (within : AreWithin l w ms) (bounded : AllByRecursion (AreEntriesBounded l w) ms) (v : Simplex) (values : List Fraction)
    (cell : IsCell v) (on : dimension v ≡ l.d) (small : room w (numbers_of l.d v (all_values l v values)) < 2 ^ 127) where
  is_numbered : IsNumbered (numbers_of l.d v (all_values l v values)) v (all_values l v values)
  is_numbered = numbered l.d v (all_values l v values) cell on

  part_in : (a b : ℕ) (m : Monomial) → IsWithin l w m → IsEntryBounded l w a b m → IsPartWithin w (numbers_of l.d v (all_values l v values)) (entry_part l v values a b m)
  part_in a b m h over =
      part_within w (numbers_of l.d v (all_values l v values)) lawful.0 l lawful.1 v cell on is_numbered.dw values is_numbered.values a b m h.functions h.least h.greatest
      (all_bottoms (lcd l.d w) (item_bound l.d w m) (items l m a b) over)

  parts_in : (a b : ℕ) (xs : List Monomial) → AllByRecursion (IsWithin l w) xs → AllByRecursion (IsEntryBounded l w a b) xs
      → AllByRecursion (IsPartWithin w (numbers_of l.d v (all_values l v values))) (map (entry_part l v values a b) xs)
  parts_in a b [] h over = tt
  parts_in a b (m ∷ xs) h over = (part_in a b m h.0 over.0, parts_in a b xs h.1 over.1)

  are_bounded : (a b : ℕ) → AllByRecursion (IsEntryBounded l w a b) ms → AreBounded w (numbers_of l.d v (all_values l v values)) (map (entry_part l v values a b) ms)
  are_bounded a b over = record {
    parts = parts_in a b ms within.each over;
    total = counted_total w l.d (map (entry_part l v values a b) ms) (count l w ms within.weighed v values a b over);
  }

  multiple : is_zero_fraction (volume v) ≡ false → (m : Monomial) → Contains ms m → (a b e f : ℕ) → e < entries_of l.rows → f < entries_of l.cols → (k : Fraction) → map (mul k) (items l m a b) ≡ items l m e f
      → StepFits (Product k (added (sum_of (part_products l.d v (entry_part l v values a b m)))))
  multiple some m there a b e f row col k is =
      let over = bounded_at l w e f row col ms bounded in
      let scaled : entry_part l v values e f m ≡ scaled_part k (entry_part l v values a b m) =
      ap (λ (xs : List Fraction). record { directions = flat_map directions m.atoms; values = value_lists l v values m.atoms; items = xs }) (sym is) in
      multiple_fits w (numbers_of l.d v (all_values l v values)) v (all_values l v values) is_numbered some within.admitted small k (entry_part l v values a b m)
      (subst (IsPartWithin w (numbers_of l.d v (all_values l v values))) scaled
      (part_in e f m (of_member (IsWithin l w) ms there.0 m within.each there.1 there.2) (of_member (IsEntryBounded l w e f) ms there.0 m over there.1 there.2)))
      (subst (λ (p : EntryPart). sizes (lcd l.d w) p.items ≤ size l.d w) scaled (size_here e f over (size_of_member (lcd l.d w) (entry_part l v values e f) ms there.0 m there.1 there.2)))
    where
      size_here : (e f : ℕ) → AllByRecursion (IsEntryBounded l w e f) ms → sizes (lcd l.d w) (items l m e f) ≤ part_sizes (lcd l.d w) (map (entry_part l v values e f) ms) → sizes (lcd l.d w) (items l m e f) ≤ size l.d w
      size_here e f over h = let all = (are_bounded e f over).total in omega (arith, h, all)

  pub no_step_passes : NoStepPasses l ms v values
  no_step_passes = record {
    first = volume_in_room w (numbers_of l.d v (all_values l v values)) v (all_values l v values) is_numbered small;
    growths = λ some. all_right StepFits (steps_to_volume l.d v) (growth_steps l.d v) (preamble_in_room w (numbers_of l.d v (all_values l v values)) v (all_values l v values) is_numbered small some);
    entries = λ some a b row col. entry_in_room w (numbers_of l.d v (all_values l v values)) v (all_values l v values) is_numbered some within.admitted small (map (entry_part l v values a b) ms)
        (are_bounded a b (bounded_at l w a b row col ms bounded));
    multiples = λ some m there a b e f row col row2 col2 nonzero k is. multiple some m there a b e f row2 col2 k is;
  }
