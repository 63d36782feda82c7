-- Steps on fractions over known denominators don't pass
use Rattle.std.proofs.Common.{◌≡◌, ℕ, zero, suc, ℤ, pos, ◌+◌, ◌*◌, ◌/◌, ◌<◌, ◌≤◌, ◌^◌, ◌+ℤ◌, ◌*ℤ◌, refl, sym, ◌∙◌, ap, ap₂, subst, arith, unsigned_abs, true, Bool, false, Option, Some, None, [], ◌∷◌, if◌then◌else◌, ◌&&◌}
use Rattle.std.proofs.lemmas.Int.{unsigned_abs-mul}
use Prim.Native.Nat.{◌∣◌}
use native.Mathlib.Nat as N
use mathlib.Core.Quot.{mk}
use Rattle.algebra.specs.Fraction.{Fraction, add, mul, negative, below_nought}
use Rattle.algebra.specs.Integers.{integers}
use Rattle.algebra.specs.Solver.{at, ◌⊕◌, ◌⊗◌}
use Rattle.algebra.specs.Sound.{ring}
use Rattle.algebra.specs.Gcd.{gcd}
use Rattle.algebra.specs.GcdLaws.{coprime_parts, divides_other, IsCoprime, coprime_comm, gcd_positive_right, part_left, part_right, positive_part}
use Rattle.algebra.specs.LowestTerms.{top, bottom, top_of, bottom_of}
use Rattle.algebra.specs.Sign.{signed}
use Rattle.algebra.specs.Steps.{below_limit, fits, sum_fits, sum_fits_at, sum, product, difference}
use Rattle.algebra.proofs.Signs.{size_of_signed, signed_size, signed-mul}
use Rattle.algebra.specs.Over.{Over}
use Rattle.algebra.proofs.OverLaws.{pair, triangle, over_sum, over_negative}

below : (n : ℕ) → n < 2 ^ 127 → below_limit n ≡ true
below n h = grind arith

and_true : (a b : Bool) → a ≡ true → b ≡ true → (a && b) ≡ true
and_true true b h g = g
and_true false b h g = cc

part_below : (n g k : ℕ) → n ≤ k → n / g ≤ k
part_below n g k h = N.le_trans (N.div-le_self n g) h

pair_in_room : (z : ℤ) (l b : ℕ) (h : 0 < l) → l < 2 ^ 127 → b < 2 ^ 127 → unsigned_abs z ≤ b → fits (mk (pair z l h)) ≡ true
unfolding top bottom
pair_in_room z l b h g k e =
    ap (λ n. below_limit n && below_limit (bottom_of z l)) (size_of_signed (below_nought z) _)
    ∙ and_true _ _ (below _ (N.lt_of_le_of_lt (part_below (unsigned_abs z) _ b e) k)) (below _ (N.lt_of_le_of_lt (N.div-le_self l _) g))

-- the reduced parts fit
pub over_fits : (l b : ℕ) (x : Fraction) → l < 2 ^ 127 → b < 2 ^ 127 → Over l b x → fits x ≡ true
over_fits l b x g k o = ap fits o.is ∙ pair_in_room o.num l b o.positive g k o.bound

answers : (t : Bool) (v : Fraction) → t ≡ true → ◌≡◌ {A = Option Fraction} (if t then Some v else None) (Some v)
answers true v h = refl
answers false v h = cc

-- by what is known of the result
pub product_fits : (l b : ℕ) (x y : Fraction) → l < 2 ^ 127 → b < 2 ^ 127 → Over l b (mul x y) → product x y ≡ Some (mul x y)
unfolding product
product_fits l b x y g k o = answers (fits (mul x y)) (mul x y) (over_fits l b (mul x y) g k o)

-- ---- sums, gcd first
whole_top : (z : ℤ) (l : ℕ) → top_of z l *ℤ pos (gcd (unsigned_abs z) l) ≡ z
whole_top z l =
    signed-mul (below_nought z) (unsigned_abs z / gcd (unsigned_abs z) l) (gcd (unsigned_abs z) l)
    ∙ ap (signed (below_nought z)) (N.mul_comm _ _ ∙ sym (part_left (unsigned_abs z) l)) ∙ signed_size z

cancel : (n x y : ℕ) → 0 < n → n * x ≡ n * y → x ≡ y
cancel n x y h e = sym (N.mul-div_cancel_left x h) ∙ ap (λ i. i / n) e ∙ N.mul-div_cancel_left y h

-- where d*a and e*b are one number, a and b are multiples across
pub record Across (a b x y k : ℕ) : Type 0 where
  pub left : a ≡ y * k
  pub right : b ≡ x * k

across : (g x y a b : ℕ) → 0 < g → 0 < y → IsCoprime x y → g * x * a ≡ g * y * b → Across a b x y (a / y)
across g x y a b sg sy h e =
    let plain : x * a ≡ y * b = cancel g (x * a) (y * b) sg (sym (N.mul_assoc g x a) ∙ e ∙ N.mul_assoc g y b) in
    let whole : y * (a / y) ≡ a = N.mul-div_cancel' y (divides_other y x a (coprime_comm x y h) (subst (λ n. y ∣ n) (sym plain) (N.dvd-mul_right y b))) in
    record { left = sym whole; right = cancel y b (x * (a / y)) sy (sym plain ∙ ap (λ n. x * n) (sym whole) ∙ turn x y (a / y)) }
  where
    turn : (x y k : ℕ) → x * (y * k) ≡ y * (x * k)
    turn x y k = omega arith

smaller : (n k m : ℕ) → 0 < k → n * k ≤ m → n ≤ m
smaller n zero m h g = absurd (omega arith)
smaller n (suc k) m h g = omega (arith, N.mul-suc n k)

size_below : (n z : ℤ) (y k b : ℕ) → 0 < k → n *ℤ pos (y * k) ≡ z → unsigned_abs z ≤ b → unsigned_abs (n *ℤ pos y) ≤ b
size_below n z y k b h e g =
    smaller (unsigned_abs (n *ℤ pos y)) k b h
    (subst (λ i. i ≤ b) (sym (ap unsigned_abs e) ∙ ap unsigned_abs (regroup n y k) ∙ unsigned_abs-mul (n *ℤ pos y) (pos k)) g)
  where
    regroup : (n : ℤ) (y k : ℕ) → n *ℤ pos (y * k) ≡ n *ℤ pos y *ℤ pos k
    regroup n y k = ring integers (n ∷ pos y ∷ pos k ∷ []) (at 0 ⊗ (at 1 ⊗ at 2)) (at 0 ⊗ at 1 ⊗ at 2) refl

sum_below : (n m z w : ℤ) (x y k b : ℕ) → 0 < k → n *ℤ pos (y * k) ≡ z → m *ℤ pos (x * k) ≡ w → unsigned_abs (z +ℤ w) ≤ b → unsigned_abs (n *ℤ pos y +ℤ m *ℤ pos x) ≤ b
sum_below n m z w x y k b h e f g =
    smaller (unsigned_abs (n *ℤ pos y +ℤ m *ℤ pos x)) k b h
    (subst (λ i. i ≤ b) (sym (ap unsigned_abs (ap₂ ◌+ℤ◌ e f)) ∙ ap unsigned_abs (regroup n m x y k) ∙ unsigned_abs-mul (n *ℤ pos y +ℤ m *ℤ pos x) (pos k)) g)
  where
    regroup : (n m : ℤ) (x y k : ℕ) → n *ℤ pos (y * k) +ℤ m *ℤ pos (x * k) ≡ (n *ℤ pos y +ℤ m *ℤ pos x) *ℤ pos k
    regroup n m x y k = ring integers (n ∷ m ∷ pos x ∷ pos y ∷ pos k ∷ []) (at 0 ⊗ (at 3 ⊗ at 4) ⊕ at 1 ⊗ (at 2 ⊗ at 4)) ((at 0 ⊗ at 3 ⊕ at 1 ⊗ at 2) ⊗ at 4) refl

sum_steps : (z w : ℤ) (l b c : ℕ) (total : Fraction) → 0 < l → b + c < 2 ^ 127 → unsigned_abs z ≤ b → unsigned_abs w ≤ c → fits total ≡ true
    → sum_fits_at (top_of z l) (bottom_of z l) (top_of w l) (bottom_of w l) total ≡ true
sum_steps z w l b c total h room hz hw t =
    let d = bottom_of z l in
    let e = bottom_of w l in
    let a = gcd (unsigned_abs z) l in
    let f = gcd (unsigned_abs w) l in
    let sd : 0 < d = positive_part a d l h (part_right (unsigned_abs z) l) in
    let se : 0 < e = positive_part f e l h (part_right (unsigned_abs w) l) in
    let sg : 0 < gcd d e = gcd_positive_right d e se in
    let sy : 0 < e / gcd d e = positive_part (gcd d e) (e / gcd d e) e se (part_right d e) in
    let r = across (gcd d e) (d / gcd d e) (e / gcd d e) a f sg sy (coprime_parts d e (d / gcd d e) (e / gcd d e) sg (part_left d e) (part_right d e))
    (ap (λ n. n * a) (sym (part_left d e)) ∙ N.mul_comm d a ∙ sym (part_right (unsigned_abs z) l) ∙ part_right (unsigned_abs w) l ∙ N.mul_comm f e ∙ ap (λ n. n * f) (part_right d e)) in
    let sk : 0 < a / (e / gcd d e) = positive_part (e / gcd d e) (a / (e / gcd d e)) a (gcd_positive_right (unsigned_abs z) l h) r.left in
    let left : top_of z l *ℤ pos (e / gcd d e * (a / (e / gcd d e))) ≡ z = ap (λ n. top_of z l *ℤ pos n) (sym r.left) ∙ whole_top z l in
    let right : top_of w l *ℤ pos (d / gcd d e * (a / (e / gcd d e))) ≡ w = ap (λ n. top_of w l *ℤ pos n) (sym r.right) ∙ whole_top w l in
    and_true _ _ (below _ (fit b c _ (size_below (top_of z l) z (e / gcd d e) (a / (e / gcd d e)) b sk left hz) room))
    (and_true _ _ (below _ (fit' b c _ (size_below (top_of w l) w (d / gcd d e) (a / (e / gcd d e)) c sk right hw) room))
    (and_true _ _ (below _ (N.lt_of_le_of_lt (sum_below (top_of z l) (top_of w l) z w (d / gcd d e) (e / gcd d e) (a / (e / gcd d e)) (b + c) sk left right (N.le_trans (triangle z w) (N.add-le-add hz hw))) room)) t))
  where
    fit : (b c n : ℕ) → n ≤ b → b + c < 2 ^ 127 → n < 2 ^ 127
    fit b c n h g = omega arith

    fit' : (b c n : ℕ) → n ≤ c → b + c < 2 ^ 127 → n < 2 ^ 127
    fit' b c n h g = omega arith

sum_in_room : (l b c : ℕ) (x y : Fraction) → l < 2 ^ 127 → b + c < 2 ^ 127 → Over l b x → Over l c y → sum_fits x y ≡ true
unfolding top bottom
sum_in_room l b c x y g k o p =
    ap₂ (λ x' y'. sum_fits_at (top x') (bottom x') (top y') (bottom y') (add x y)) o.is p.is
    ∙ sum_steps o.num p.num l b c (add x y) o.positive k o.bound p.bound (over_fits l (b + c) (add x y) g k (over_sum l b c x y o p))

pub sum_fits_over : (l b c : ℕ) (x y : Fraction) → l < 2 ^ 127 → b + c < 2 ^ 127 → Over l b x → Over l c y → sum x y ≡ Some (add x y)
unfolding sum
sum_fits_over l b c x y g k o p = answers (sum_fits x y) (add x y) (sum_in_room l b c x y g k o p)

pub difference_fits_over : (l b c : ℕ) (x y : Fraction) → l < 2 ^ 127 → b + c < 2 ^ 127 → Over l b x → Over l c y → difference x y ≡ Some (add x (negative y))
unfolding difference
difference_fits_over l b c x y g k o p = sum_fits_over l b c x (negative y) g k o (over_negative l c y p)
