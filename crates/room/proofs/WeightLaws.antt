-- What an admitted weight says of its bounds, and of the items of an entry
use Rattle.std.proofs.Common.{◌≡◌, ℕ, zero, suc, ◌+◌, ◌*◌, ◌^◌, ◌≤◌, subst, arith, List, [], ◌∷◌, length, take, drop}
use Rattle.std.specs.List.{AllByRecursion}
use Prim.Native.Nat.{◌∣◌}
use native.Mathlib.Nat as N
use Rattle.algebra.specs.Fraction.{Fraction}
use Rattle.algebra.specs.LowestTerms.{bottom}
use Rattle.calculus.specs.LocalFunction.{factorial}
use Rattle.calculus.proofs.Nodes.{factorial_positive}
use Rattle.algebra.specs.Over.{Over}
use Rattle.weigh.specs.Admitted.{IsBound, IsAdmitted}
use Rattle.weigh.specs.Refusals.{lcd, size}
use Rattle.monos.specs.declared.weight.Weight.{Weight}
use Rattle.weigh.specs.Numerators.{size_over}
use Rattle.room.specs.Numbered.{AllOver}
use Rattle.room.specs.Rows.{EntryPart, sizes, part_sizes, item_unit, AreCounted, none, more}
use Rattle.weigh.proofs.NumeratorLaws.{over_divides, over_size}

pub admitted_bound : (d : ℕ) (w : Weight) → IsAdmitted d w → IsBound d w
admitted_bound d w h = record {
  lcd = N.mul-pos (N.mul-pos (factorial_positive (w.deg + d)) h.one_den) h.one_fac;
  size = N.mul-pos (N.mul-pos (N.mul-pos (N.mul-pos (factorial_positive (w.deg + d)) h.one_fac) h.one_cost) (N.lt_of_lt_of_le h.one_den h.parts)) h.one_s;
  derivatives = h.derivatives;
}

-- ---- sizes of items
sizes_below : (l b : ℕ) (xs : List Fraction) → AllOver l b xs → sizes l xs ≤ length xs * b
sizes_below l b [] o = none_below b
  where
    none_below : (b : ℕ) → 0 ≤ 0 * b
    none_below b = omega arith
sizes_below l b (x ∷ xs) o = subst (λ k. size_over l x + sizes l xs ≤ k) (one_more (length xs) b) (N.add-le-add (over_size l b x o.0) (sizes_below l b xs o.1))
  where
    one_more : (n b : ℕ) → b + n * b ≡ suc n * b
    one_more n b = omega arith

pub all_bottoms : (l b : ℕ) (xs : List Fraction) → AllOver l b xs → AllByRecursion (λ x. bottom x ∣ l) xs
all_bottoms l b [] o = tt
all_bottoms l b (x ∷ xs) o = (over_divides l b x o.0, all_bottoms l b xs o.1)

counted_below : (w : Weight) (d total : ℕ) (ps : List EntryPart) → AreCounted w d ps total → part_sizes (lcd d w) ps ≤ item_unit d w * total
counted_below w d total [] none = bare (item_unit d w * total)
  where
    bare : (a : ℕ) → 0 ≤ a
    bare a = omega arith
counted_below w d total (p ∷ ps) (more {b = b} {spread = spread} {total = before} h rest g) =
    N.le_trans
    (N.add-le-add
    (N.le_trans (sizes_below (lcd d w) (item_unit d w * (b * 3 ^ length p.directions)) p.items h.items) (N.mul-le-mul_right (item_unit d w * (b * 3 ^ length p.directions)) h.columns))
    (counted_below w d before ps rest))
    (subst (λ k. k ≤ item_unit d w * total) (turn (item_unit d w) before b (3 ^ length p.directions) spread) (N.mul-le-mul_left (item_unit d w) g))
  where
    turn : (u t b r s : ℕ) → u * (t + b * r * s) ≡ s * (u * (b * r)) + u * t
    turn u t b r s = omega arith

-- the sizes of an entry's items add up to at most `size`
pub counted_total : (w : Weight) (d : ℕ) (ps : List EntryPart) → AreCounted w d ps (w.cost * w.num) → part_sizes (lcd d w) ps ≤ size d w
counted_total w d ps h = subst (λ k. part_sizes (lcd d w) ps ≤ k) (turn (factorial (w.deg + d)) w.fac w.s w.cost w.num) (counted_below w d (w.cost * w.num) ps h)
  where
    turn : (a f s c n : ℕ) → a * f * s * (c * n) ≡ a * f * c * n * s
    turn a f s c n = omega arith

-- ---- the values of a part of a coefficient are among those of the cell
all_front : {X : Type 0} (P : X → Type 0) (n : ℕ) (xs : List X) → AllByRecursion P xs → AllByRecursion P (take n xs)
all_front P zero xs a = tt
all_front P (suc n) [] a = tt
all_front P (suc n) (x ∷ xs) a = (a.0, all_front P n xs a.1)

all_back : {X : Type 0} (P : X → Type 0) (n : ℕ) (xs : List X) → AllByRecursion P xs → AllByRecursion P (drop n xs)
all_back P zero xs a = a
all_back P (suc n) [] a = tt
all_back P (suc n) (x ∷ xs) a = all_back P n xs a.1

pub part_values : (l b n k : ℕ) (xs : List Fraction) → AllOver l b xs → AllOver l b (take n (drop k xs))
part_values l b n k xs a = all_front (Over l b) n (drop k xs) (all_back (Over l b) k xs a)
