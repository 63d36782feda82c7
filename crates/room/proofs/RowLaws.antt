-- Products with items, rows and entries are over the common denominator, and their steps don't pass
use Rattle.std.proofs.Common.{◌≡◌, ℕ, ◌+◌, ◌-◌, ◌*◌, ◌^◌, ◌<◌, ◌≤◌, sym, subst, arith, List, [], ◌∷◌, ◌++◌, length, false}
use Rattle.std.specs.List.{AllByRecursion}
use Prim.Native.Nat.{◌∣◌}
use native.Mathlib.Nat as N
use Rattle.algebra.specs.Fraction.{Fraction, zero_fraction, mul, is_zero_fraction}
use Rattle.algebra.specs.LowestTerms.{bottom}
use Rattle.calculus.specs.Simplex.{Simplex, volume}
use Rattle.algebra.specs.Over.{Over}
use Rattle.weigh.specs.Admitted.{IsBound}
use Rattle.weigh.specs.Refusals.{lcd, size}
use Rattle.monos.specs.declared.weight.Weight.{Weight}
use Rattle.room.specs.Room.{common_of, depth, most, scale, whole_volume}
use Rattle.room.specs.declared.numbers.CellNumbers.{CellNumbers}
use Rattle.weigh.specs.Numerators.{size_over}
use Rattle.room.specs.Numbered.{AllOver, IsNumbered}
use Rattle.room.specs.Steps.{Product, StepFits, StepsFit}
use Rattle.room.specs.Columns.{column_values, column_steps, column_denominator, column_numerator}
use Rattle.room.specs.Adding.{Adding, Term, Plus, onto, adding_steps}
use Rattle.room.specs.Rows.{EntryPart, row_products, row_steps, sum_of, part_products, entry_from, entry_sum, products_steps, entry_steps, sizes, part_sizes, IsWithin, AreBounded}
use Rattle.algebra.proofs.OverLaws.{over_weaken, over_lift, over_product, over_zero}
use Rattle.algebra.proofs.OverSteps.{product_fits}
use Rattle.room.proofs.Lists.{all_append}
use Rattle.weigh.proofs.NumeratorLaws.{over_multiple}
use Rattle.room.proofs.ColumnLaws.{columns_over, columns_fit}
use Rattle.room.proofs.RoomLaws.{IsInRoom, grow, missing, lift_denominator, lift_numerator, numerator_below, denominator_below, common_below, most_is, some_cofactor}
use Rattle.room.proofs.RoomLaws as R
use Rattle.room.proofs.VolumeLaws.{whole_positive}
use Rattle.room.proofs.AddingLaws.{OverAtMost, at_most_plus, at_most_term, at_most_weaken, adding_fits}

one_more : (b x y s : ℕ) → b + x * s + y * s ≤ b + (x + y) * s
one_more b x y s = omega arith

no_more : (b s : ℕ) → b ≤ b + s
no_more b s = omega arith

first_of : (x y z : ℕ) → x + y ≤ z → x ≤ z
first_of x y z h = omega arith

rest_of : (x y z : ℕ) → x + y ≤ z → y ≤ z
rest_of x y z h = omega arith

module _ (w : Weight) (c : CellNumbers) (v : Simplex) (values : List Fraction) (n : IsNumbered c v values) (some : is_zero_fraction (volume v) ≡ false) (bound : IsBound c.d w) where
  -- an item times a column
  pub product_over : (k i b : ℕ) (x y : Fraction) → w.rmin ≤ k → k ≤ w.rmax → i ≤ w.f → Over (lcd c.d w) b x → Over (column_denominator c v k i) (column_numerator c v k i) y
      → Over (common_of w c v) (b * scale w c) (mul x y)
  product_over k i b x y h g f o p =
      over_weaken (common_of w c v) (b * column_numerator c v k i * missing w c v values n some k i) (b * scale w c) (mul x y) small
      (subst (λ l. Over l (b * column_numerator c v k i * missing w c v values n some k i) (mul x y)) (lift_denominator w c v values n some k i g f)
      (over_lift (lcd c.d w * column_denominator c v k i) (b * column_numerator c v k i) (missing w c v values n some k i) (mul x y) (R.missing_positive w c v values n some k i)
      (over_product (lcd c.d w) (column_denominator c v k i) b (column_numerator c v k i) x y o p)))
    where
      small : b * column_numerator c v k i * missing w c v values n some k i ≤ b * scale w c
      small = subst (λ m. m ≤ b * scale w c) (sym (N.mul_assoc b (column_numerator c v k i) (missing w c v values n some k i))) (N.mul-le-mul_left b (lift_numerator w c v values n some k i h g f))

  abbrev top : ℕ
  top = lcd c.d w

  abbrev row_bound : List Fraction → ℕ
  row_bound xs = sizes top xs * scale w c

  -- the products of a row, added to what stands there
  onto_row : (k i : ℕ) → w.rmin ≤ k → k ≤ w.rmax → i ≤ w.f → (xs ys : List Fraction) (t : Adding) (b : ℕ) → AllByRecursion (λ x. bottom x ∣ top) xs
      → AllOver (column_denominator c v k i) (column_numerator c v k i) ys → OverAtMost (common_of w c v) b t → OverAtMost (common_of w c v) (b + row_bound xs) (onto t (row_products xs ys))
  onto_row k i h g f [] ys t b p q o = at_most_weaken (common_of w c v) b (b + row_bound []) t (no_more b (row_bound [])) o
  onto_row k i h g f (x ∷ xs) [] t b p q o = at_most_weaken (common_of w c v) b (b + row_bound (x ∷ xs)) t (no_more b (row_bound (x ∷ xs))) o
  onto_row k i h g f (x ∷ xs) (y ∷ ys) t b p q o =
      at_most_weaken (common_of w c v) (b + size_over top x * scale w c + row_bound xs) (b + row_bound (x ∷ xs)) (onto (Plus t (Term (mul x y))) (row_products xs ys))
      (one_more b (size_over top x) (sizes top xs) (scale w c))
      (onto_row k i h g f xs ys (Plus t (Term (mul x y))) (b + size_over top x * scale w c) p.1 q.1
      (at_most_plus (common_of w c v) b (size_over top x * scale w c) t (Term (mul x y)) o
      (at_most_term (common_of w c v) (size_over top x * scale w c) (mul x y) (product_over k i (size_over top x) x y h g f (over_multiple top x bound.lcd p.0) q.0))))

  some_common : 0 < common_of w c v
  some_common =
      N.mul-pos (N.mul-pos (N.mul-pos bound.lcd (N.one-le-pow (depth w - 1) (whole_volume c v) (whole_positive c v values n some))) (N.one-le-pow c.d c.dd n.dd)) (N.one-le-pow w.f c.dw n.dw)

  zero_term : (b : ℕ) → OverAtMost (common_of w c v) b (Term zero_fraction)
  zero_term b = at_most_term (common_of w c v) b zero_fraction (over_zero (common_of w c v) b some_common)

  -- a row: the sum of its products
  pub row_over : (k i : ℕ) → w.rmin ≤ k → k ≤ w.rmax → i ≤ w.f → (xs ys : List Fraction) → AllByRecursion (λ x. bottom x ∣ top) xs
      → AllOver (column_denominator c v k i) (column_numerator c v k i) ys → OverAtMost (common_of w c v) (sizes (lcd c.d w) xs * scale w c) (sum_of (row_products xs ys))
  row_over k i h g f [] ys p q = zero_term (row_bound [])
  row_over k i h g f (x ∷ xs) [] p q = zero_term (row_bound (x ∷ xs))
  row_over k i h g f (x ∷ xs) (y ∷ ys) p q =
      at_most_weaken (common_of w c v) (size_over top x * scale w c + row_bound xs) (row_bound (x ∷ xs)) (sum_of (row_products (x ∷ xs) (y ∷ ys))) (first_more (size_over top x) (sizes top xs) (scale w c))
      (onto_row k i h g f xs ys (Term (mul x y)) (size_over top x * scale w c) p.1 q.1
      (at_most_term (common_of w c v) (size_over top x * scale w c) (mul x y) (product_over k i (size_over top x) x y h g f (over_multiple top x bound.lcd p.0) q.0)))
    where
      first_more : (x y s : ℕ) → x * s + y * s ≤ (x + y) * s
      first_more x y s = omega arith

  pub part_over : (p : EntryPart) → IsWithin w c p → OverAtMost (common_of w c v) (row_bound p.items) (sum_of (part_products c.d v p))
  part_over p h =
      row_over (length p.directions) (length p.values) h.least h.greatest h.functions p.items (column_values c.d v p.directions p.values) h.items (columns_over c v values n some p.directions p.values h.values)

  from_over : (ps : List EntryPart) (t : Adding) (b : ℕ) → AllByRecursion (IsWithin w c) ps → OverAtMost (common_of w c v) b t → OverAtMost (common_of w c v) (b + part_sizes top ps * scale w c) (entry_from c.d v t ps)
  from_over [] t b h o = at_most_weaken (common_of w c v) b (b + 0 * scale w c) t (no_more b (0 * scale w c)) o
  from_over (p ∷ ps) t b h o =
      at_most_weaken (common_of w c v) (b + row_bound p.items + part_sizes top ps * scale w c) (b + part_sizes top (p ∷ ps) * scale w c) (entry_from c.d v (Plus t (sum_of (part_products c.d v p))) ps)
      (one_more b (sizes top p.items) (part_sizes top ps) (scale w c))
      (from_over ps (Plus t (sum_of (part_products c.d v p))) (b + row_bound p.items) h.1
      (at_most_plus (common_of w c v) b (row_bound p.items) t (sum_of (part_products c.d v p)) o (part_over p h.0)))

  -- an entry is over the common denominator, its numerator at most P
  pub entry_over : (ps : List EntryPart) → AreBounded w c ps → OverAtMost (common_of w c v) (most w c) (entry_sum c.d v ps)
  entry_over ps h =
      at_most_weaken (common_of w c v) (0 + part_sizes top ps * scale w c) (most w c) (entry_sum c.d v ps) total (from_over ps (Term zero_fraction) 0 h.parts (zero_term 0))
    where
      total : 0 + part_sizes top ps * scale w c ≤ most w c
      total = subst (λ m. 0 + part_sizes top ps * scale w c ≤ m) (sym (most_is w c v values n some)) (subst (λ m. m ≤ size c.d w * scale w c) (sym (N.zero-add (part_sizes top ps * scale w c))) (N.mul-le-mul_right (scale w c) h.total))

  -- ---- steps
  module _ (room : IsInRoom w c) where
    pub row_fits : (k i : ℕ) → w.rmin ≤ k → k ≤ w.rmax → i ≤ w.f → (xs ys : List Fraction) → AllByRecursion (λ x. bottom x ∣ top) xs
        → AllOver (column_denominator c v k i) (column_numerator c v k i) ys → sizes top xs ≤ size c.d w → StepsFit (row_steps xs ys)
    row_fits k i h g f [] ys p q s = tt
    row_fits k i h g f (x ∷ xs) [] p q s = tt
    row_fits k i h g f (x ∷ xs) (y ∷ ys) p q s = (
      product_fits (top * column_denominator c v k i) (size_over top x * column_numerator c v k i) x y (N.lt_of_le_of_lt (denominator_below w c v values n some k i g f) room.common)
          (N.lt_of_le_of_lt (N.mul-le-mul (first_of (size_over top x) (sizes top xs) (size c.d w) s) (numerator_below w c v values n some k i h g f)) (subst (λ m. m < 2 ^ 127) (most_is w c v values n some) room.most))
          (over_product top (column_denominator c v k i) (size_over top x) (column_numerator c v k i) x y (over_multiple top x bound.lcd p.0) q.0),
      row_fits k i h g f xs ys p.1 q.1 (rest_of (size_over top x) (sizes top xs) (size c.d w) s),
    )

    part_columns_fit : (p : EntryPart) → IsWithin w c p → StepsFit (column_steps c.d v p.directions p.values)
    part_columns_fit p h =
        columns_fit c v values n some p.directions p.values h.values (some_cofactor w c v values n room)
        (N.lt_of_le_of_lt (N.le_trans (before top (column_denominator c v (length p.directions) (length p.values)) bound.lcd) (denominator_below w c v values n some (length p.directions) (length p.values) h.greatest h.functions)) room.common)
        (N.lt_of_le_of_lt (N.le_trans (numerator_below w c v values n some (length p.directions) (length p.values) h.least h.greatest h.functions) (before (size c.d w) (scale w c) bound.size)) (subst (λ m. m < 2 ^ 127) (most_is w c v values n some) room.most))
      where
        before : (a b : ℕ) → 0 < a → b ≤ a * b
        before a b h = subst (λ m. b ≤ m) (N.mul_comm b a) (grow b a h)

    pub products_fit : (ps : List EntryPart) → AllByRecursion (IsWithin w c) ps → part_sizes top ps ≤ size c.d w → StepsFit (products_steps c.d v ps)
    products_fit [] h s = tt
    products_fit (p ∷ ps) h s =
        all_append StepFits (column_steps c.d v p.directions p.values) (row_steps p.items (column_values c.d v p.directions p.values) ++ products_steps c.d v ps) (part_columns_fit p h.0)
        (all_append StepFits (row_steps p.items (column_values c.d v p.directions p.values)) (products_steps c.d v ps)
        (row_fits (length p.directions) (length p.values) h.0.least h.0.greatest h.0.functions p.items (column_values c.d v p.directions p.values) h.0.items (columns_over c v values n some p.directions p.values h.0.values) (first_of (sizes top p.items) (part_sizes top ps) (size c.d w) s))
        (products_fit ps h.1 (rest_of (sizes top p.items) (part_sizes top ps) (size c.d w) s)))

    pub entry_fits : (ps : List EntryPart) → AreBounded w c ps → StepsFit (entry_steps c.d v ps)
    entry_fits ps h =
        let o = entry_over ps h in
        all_append StepFits (products_steps c.d v ps) (adding_steps (entry_sum c.d v ps)) (products_fit ps h.parts h.total)
        (adding_fits (common_of w c v) o.own (entry_sum c.d v ps) (N.lt_of_le_of_lt (common_below w c v values n some) room.common) (N.lt_of_le_of_lt o.bound room.most) o.over)

    -- a multiple of a row has the value of a row of its own
    pub multiple_fits : (x y own : Fraction) → mul x y ≡ own → Over (common_of w c v) (most w c) own → StepFits (Product x y)
    multiple_fits x y own e o =
        product_fits (common_of w c v) (most w c) x y (N.lt_of_le_of_lt (common_below w c v values n some) room.common) room.most (subst (Over (common_of w c v) (most w c)) (sym e) o)
