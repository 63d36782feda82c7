-- A row that is a multiple of another: its multiplier, its value and the step that makes it
use Rattle.std.proofs.Common.{◌≡◌, ℕ, ◌*◌, ◌≤◌, refl, sym, ◌∙◌, ap, ap₂, subst, List, [], ◌∷◌, map, false}
use native.Mathlib.Nat as N
use Rattle.algebra.specs.Fraction.{Fraction, fractions, add, mul, inverse, mul_add, mul_assoc, is_zero_fraction}
use Rattle.algebra.specs.RingLaws as L
use Rattle.calculus.specs.Simplex.{Simplex, volume}
use Rattle.algebra.specs.Over.{Over}
use Rattle.weigh.specs.Admitted.{IsBound}
use Rattle.weigh.specs.Refusals.{lcd, size}
use Rattle.monos.specs.declared.weight.Weight.{Weight}
use Rattle.room.specs.Room.{common_of, most, scale}
use Rattle.room.specs.declared.numbers.CellNumbers.{CellNumbers}
use Rattle.weigh.specs.Numerators.{size_over}
use Rattle.room.specs.Numbered.{IsNumbered}
use Rattle.room.specs.Steps.{Product, StepFits}
use Rattle.room.specs.Adding.{Adding, Term, Plus, onto, added}
use Rattle.room.specs.Rows.{EntryPart, row_products, sum_of, part_products, sizes, IsWithin, scaled_part}
use Rattle.room.specs.Columns.{column_values}
use Rattle.algebra.proofs.OverLaws.{over_same, over_weaken, over_positive, over_quotient}
use Rattle.room.proofs.NumbersLaws.{over_exact}
use Rattle.room.proofs.AddingLaws.{at_most_over}
use Rattle.room.proofs.RoomLaws.{IsInRoom, most_is}
use Rattle.room.proofs.RowLaws.{part_over, multiple_fits}

-- the quotient of two items over l
pub multiplier_over : (l b e : ℕ) (x y : Fraction) → Over l b x → Over l e y → is_zero_fraction x ≡ false → Over (size_over l x) e (mul y (inverse x))
multiplier_over l b e x y o p some =
    let q : Over (l * 1) b x = over_same l b (l * 1) b x (sym (N.mul-one l)) refl o in
    over_same _ (e * 1) (size_over l x) e (mul y (inverse x)) (over_exact (l * 1) b x q ∙ ap (λ k. size_over k x) (N.mul-one l)) (N.mul-one e)
    (over_quotient l 1 e b y x p q (over_positive (l * 1) b x q some))

row-scaled : (k : Fraction) (xs ys : List Fraction) → row_products (map (mul k) xs) ys ≡ map (mul k) (row_products xs ys)
row-scaled k [] ys = refl
row-scaled k (x ∷ xs) [] = refl
row-scaled k (x ∷ xs) (y ∷ ys) = ap₂ (λ z zs. z ∷ zs) (mul_assoc k x y) (row-scaled k xs ys)

onto-scaled : (k : Fraction) (zs : List Fraction) (s t : Adding) → added s ≡ mul k (added t) → added (onto s (map (mul k) zs)) ≡ mul k (added (onto t zs))
onto-scaled k [] s t e = e
onto-scaled k (z ∷ zs) s t e = onto-scaled k zs (Plus s (Term (mul k z))) (Plus t (Term z)) (ap (λ x. add x (mul k z)) e ∙ sym (mul_add k (added t) z))

sum-scaled : (k : Fraction) (zs : List Fraction) → added (sum_of (map (mul k) zs)) ≡ mul k (added (sum_of zs))
sum-scaled k [] = sym (L.mul-zero fractions k)
sum-scaled k (z ∷ zs) = onto-scaled k zs (Term (mul k z)) (Term z) refl

pub part-scaled : (d : ℕ) (v : Simplex) (k : Fraction) (p : EntryPart) → added (sum_of (part_products d v (scaled_part k p))) ≡ mul k (added (sum_of (part_products d v p)))
part-scaled d v k p = ap (λ zs. added (sum_of zs)) (row-scaled k p.items (column_values d v p.directions p.values)) ∙ sum-scaled k (row_products p.items (column_values d v p.directions p.values))

-- the value of a row times the multiplier is that of the multiple's own row, so the product doesn't pass
pub multiple_in_room : (w : Weight) (c : CellNumbers) (v : Simplex) (values : List Fraction) (n : IsNumbered c v values) (some : is_zero_fraction (volume v) ≡ false) (bound : IsBound c.d w) → IsInRoom w c
    → (k : Fraction) (p : EntryPart) → IsWithin w c (scaled_part k p) → sizes (lcd c.d w) (scaled_part k p).items ≤ size c.d w → StepFits (Product k (added (sum_of (part_products c.d v p))))
multiple_in_room w c v values n some bound room k p h s =
    multiple_fits w c v values n some bound room k (added (sum_of (part_products c.d v p))) (added (sum_of (part_products c.d v (scaled_part k p)))) (sym (part-scaled c.d v k p))
    (over_weaken (common_of w c v) (sizes (lcd c.d w) (scaled_part k p).items * scale w c) (most w c) (added (sum_of (part_products c.d v (scaled_part k p))))
    (subst (λ m. sizes (lcd c.d w) (scaled_part k p).items * scale w c ≤ m) (sym (most_is w c v values n some)) (N.mul-le-mul_right (scale w c) s))
    (at_most_over (common_of w c v) (sizes (lcd c.d w) (scaled_part k p).items * scale w c) (sum_of (part_products c.d v (scaled_part k p))) (part_over w c v values n some bound (scaled_part k p) h)))
