-- The numbers of a cell bound what they are made from
use Rattle.std.proofs.Common.{◌≡◌, ℕ, ℤ, ◌+◌, ◌*◌, ◌/◌, ◌<◌, ◌≤◌, max, sym, ◌∙◌, ap, ap₂, subst, arith, unsigned_abs, List, [], ◌∷◌, map, length}
use Rattle.std.specs.List.{AllByRecursion}
use Rattle.std.proofs.lemmas.Nat.Gcd.{dvd_trans}
use Prim.Native.Nat.{◌∣◌}
use native.Mathlib.Nat as N
use Rattle.algebra.specs.Fraction.{Fraction, add, negative, below_nought}
use Rattle.algebra.specs.Gcd.{gcd}
use Rattle.algebra.specs.GcdLaws.{part_left, part_right, positive_part}
use Rattle.algebra.specs.LowestTerms.{top, bottom, top_of, bottom_of}
use Rattle.algebra.proofs.Signs.{size_of_signed}
use Rattle.algebra.proofs.LowestLaws.{bottom_positive}
use Rattle.calculus.specs.Simplex.{Simplex, IsCell, dimension, along_axis}
use Rattle.calculus.specs.Jacobian.{vertex_at}
use Rattle.algebra.specs.Over.{Over}
use Rattle.room.specs.Room.{common_bottom, greatest_top, coordinates, differences_from, differences, numbers_of}
use Rattle.refint.specs.Local.{numbers_below}
use Rattle.weigh.specs.Numerators.{size_over}
use Rattle.weigh.proofs.LcmLaws.{lcm_left, lcm_right, lcm_positive}
use Rattle.weigh.proofs.NumeratorLaws.{over_multiple, over_divides}
use Rattle.room.specs.Numbered.{AllOver, IsNumbered}
use Rattle.room.proofs.Lists.{of_vertex, all_of_vertices, all_below, all_vertices}
use Rattle.algebra.proofs.OverLaws.{over_weaken, over_difference}

pub common_positive : (xs : List Fraction) → 0 < common_bottom xs
common_positive [] = N.zero-lt-suc 0
common_positive (x ∷ xs) = lcm_positive (bottom x) (common_bottom xs) (bottom_positive x) (common_positive xs)

left_below : (a b : ℕ) → a ≤ max a b
left_below a b = omega arith

right_below : (a b : ℕ) → b ≤ max a b
right_below a b = omega arith

pub all_weaken : (l b c : ℕ) (xs : List Fraction) → b ≤ c → AllOver l b xs → AllOver l c xs
all_weaken l b c [] h a = tt
all_weaken l b c (x ∷ xs) h a = (over_weaken l b c x h a.0, all_weaken l b c xs h a.1)

-- n is a multiple of the bottom of each
abbrev pub HasAllBottoms : ℕ → List Fraction → Type 0
HasAllBottoms n = AllByRecursion (λ x. bottom x ∣ n)

common_bottoms : (n : ℕ) (xs : List Fraction) → common_bottom xs ∣ n → HasAllBottoms n xs
common_bottoms n [] h = tt
common_bottoms n (x ∷ xs) h = (
  dvd_trans (bottom x) (lcm_left (bottom x) (common_bottom xs)) h,
  common_bottoms n xs (dvd_trans (common_bottom xs) (lcm_right (bottom x) (common_bottom xs)) h),
)

pub all_over_top : (n : ℕ) (xs : List Fraction) → 0 < n → HasAllBottoms n xs → AllOver n (greatest_top n xs) xs
all_over_top n [] h g = tt
all_over_top n (x ∷ xs) h g = (
  over_weaken n (size_over n x) (greatest_top n (x ∷ xs)) x (left_below (size_over n x) (greatest_top n xs)) (over_multiple n x h g.0),
  all_weaken n (greatest_top n xs) (greatest_top n (x ∷ xs)) xs (right_below (size_over n x) (greatest_top n xs)) (all_over_top n xs h g.1),
)

pub some_top : (n : ℕ) (xs : List Fraction) → 0 < greatest_top n xs
some_top n [] = N.zero-lt-suc 0
some_top n (x ∷ xs) = N.lt_of_lt_of_le (some_top n xs) (right_below (size_over n x) (greatest_top n xs))

pub divides_itself : (n : ℕ) → n ∣ n
divides_itself n = subst (λ k. n ∣ k) (N.mul-one n) (N.dvd-mul_right n 1)

-- what the whole number over l is, and that l is a multiple of the bottom
exact_at : (z : ℤ) (l : ℕ) → 0 < l → unsigned_abs z ≡ unsigned_abs (top_of z l) * (l / bottom_of z l)
exact_at z l h =
    let g = gcd (unsigned_abs z) l in
    let whole : l / (l / g) ≡ g = ap (λ n. n / (l / g)) (part_right (unsigned_abs z) l) ∙ N.mul-div_cancel g (positive_part g (l / g) l h (part_right (unsigned_abs z) l)) in
    part_left (unsigned_abs z) l ∙ N.mul_comm g (unsigned_abs z / g) ∙ ap₂ ◌*◌ (sym (size_of_signed (below_nought z) (unsigned_abs z / g))) (sym whole)

pub over_exact : (l b : ℕ) (x : Fraction) → (o : Over l b x) → unsigned_abs o.num ≡ size_over l x
unfolding top bottom
over_exact l b x o = exact_at o.num l o.positive ∙ ap (size_over l) (sym o.is)

pub numbered : (d : ℕ) (v : Simplex) (w : List Fraction) → IsCell v → dimension v ≡ d → IsNumbered (numbers_of d v w) v w
numbered d v w cell e =
    let n = common_bottom (coordinates d v) in
    let some : 0 < n = common_positive (coordinates d v) in
    let each : AllOver n (greatest_top n (coordinates d v)) (coordinates d v) = all_over_top n (coordinates d v) some (common_bottoms n (coordinates d v) (divides_itself n)) in
    let at : (k i : ℕ) → k < length v → i < d → Over n (greatest_top n (coordinates d v)) (along_axis i (vertex_at v k)) =
    λ k i h g. all_of_vertices (Over n (greatest_top n (coordinates d v))) d v (λ p i. along_axis i p) k i h g each in
    let apart : AllOver n (greatest_top n (differences d v)) (differences d v) =
    all_over_top n (differences d v) some
    (all_vertices (λ x. bottom x ∣ n) (differences_from d v) v
    (λ k h. all_vertices (λ x. bottom x ∣ n) (λ q. map (λ i. add (along_axis i (vertex_at v k)) (negative (along_axis i q))) (numbers_below d)) v
    (λ l g. all_below (λ x. bottom x ∣ n) (λ i. add (along_axis i (vertex_at v k)) (negative (along_axis i (vertex_at v l)))) d
    (λ i f. over_divides n (greatest_top n (coordinates d v) + greatest_top n (coordinates d v)) (add (along_axis i (vertex_at v k)) (negative (along_axis i (vertex_at v l))))
    (over_difference n _ _ (along_axis i (vertex_at v k)) (along_axis i (vertex_at v l)) (at k i h f) (at l i g f)))))) in
    record {
      cell = cell;
      dimension = e;
      dd = some;
      j = some_top n (differences d v);
      m = some_top n (coordinates d v);
      nw = some_top (common_bottom w) w;
      dw = common_positive w;
      coordinate = at;
      difference = λ k l i h g f. all_of_vertices (Over n (greatest_top n (differences d v))) d v (λ q i. add (along_axis i (vertex_at v k)) (negative (along_axis i q))) l i g f
          (of_vertex (Over n (greatest_top n (differences d v))) (differences_from d v) v k h apart);
      values = all_over_top (common_bottom w) w (common_positive w) (common_bottoms (common_bottom w) w (divides_itself (common_bottom w)));
    }
