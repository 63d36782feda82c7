-- How the reduced sum is found
use Rattle.std.proofs.Common.{◌≡◌, ℕ, ℤ, pos, negsuc, suc, ◌+◌, ◌-◌, ◌*◌, ◌/◌, ◌<◌, ◌≤◌, ◌^◌, ◌*ℤ◌, ◌+ℤ◌, refl, sym, ◌∙◌, ap, ap₂, subst, subst₂, arith, unsigned_abs, ◌↔◌, ◌⊎◌, inl, inr, Bool, true, false, cond, ltb, ltb-true, ltb-false, to_z, of_z, [], ◌∷◌}
use Rattle.std.proofs.lemmas.Int.{unsigned_abs-mul}
use lib.IntN.{sub_ℕ, +ℤ_comm, *ℤ_comm}
use Rattle.algebra.specs.Integers.{integers}
use Rattle.algebra.specs.Solver.{at, ◌⊕◌, ◌⊗◌}
use Rattle.algebra.specs.Sound.{ring}
use Prim.Native.Nat.{◌∣◌}
use native.Mathlib.Nat as N
use Rattle.algebra.specs.Gcd.{gcd}
use Rattle.ratio.specs.Value.{pair_of, fraction_of}
use Rattle.ratio.specs.Parts.{Fits}
use Rattle.ratio.specs.declared.reduced.Ratio.{Ratio}
use Rattle.algebra.specs.Fraction.{same, pair_sum, add}
use Rattle.std.specs.Int.{w128}
use Rattle.algebra.specs.Sign.{signed, is_negative}
use Rattle.std.proofs.lemmas.Nat.Gcd.{dvd_trans}
use Rattle.algebra.specs.GcdLaws.{IsCoprime, coprime_from_gcd, gcd_from_coprime, gcd_of_multiples, coprime_parts, coprime-mul, divides_other}
use Rattle.algebra.specs.GcdLaws.{gcd_positive_left, gcd_positive_right, part_left, part_right, positive_part}
use Rattle.ratio.proofs.ProductLaws.{quotient, plain_integer}
use Rattle.algebra.proofs.Signs.{signed-mul}

-- the size of a difference of naturals
difference_sizes : (a b : ℕ) → (a ≡ unsigned_abs (sub_ℕ a b) + b) ⊎ (b ≡ unsigned_abs (sub_ℕ a b) + a)
difference_sizes a b = go (ltb a b) refl
  where
    above : (a b : ℕ) → a < b → b ≡ suc (b - suc a) + a
    above a b h = omega arith

    under : (a b : ℕ) → b ≤ a → a ≡ a - b + b
    under a b h = omega arith

    go : (t : Bool) → ltb a b ≡ t → (a ≡ unsigned_abs (cond t (negsuc (b - suc a)) (pos (a - b))) + b) ⊎ (b ≡ unsigned_abs (cond t (negsuc (b - suc a)) (pos (a - b))) + a)
    go true h = inr (above a b (ltb-true a b h))
    go false h = inl (under a b (ltb-false a b h))

two_more : (a b : ℕ) → suc (suc (a + b)) ≡ suc a + suc b
two_more a b = omega arith

from_difference : (k a b : ℕ) → ((a ≡ unsigned_abs (sub_ℕ a b) + b) ⊎ (b ≡ unsigned_abs (sub_ℕ a b) + a)) → k ∣ unsigned_abs (sub_ℕ a b) → k ∣ b → k ∣ a
from_difference k a b (inl e) h g = subst (λ n. k ∣ n) (sym e) (N.dvd-add k h g)
from_difference k a b (inr e) h g = (N.dvd-add_iff_right k h).1 (subst (λ n. k ∣ n) e g)

to_difference : (k a b : ℕ) → ((a ≡ unsigned_abs (sub_ℕ a b) + b) ⊎ (b ≡ unsigned_abs (sub_ℕ a b) + a)) → k ∣ unsigned_abs (sub_ℕ a b) → k ∣ a → k ∣ b
to_difference k a b (inl e) h g = (N.dvd-add_iff_right k h).1 (subst (λ n. k ∣ n) e g)
to_difference k a b (inr e) h g = subst (λ n. k ∣ n) (sym e) (N.dvd-add k h g)

-- what divides a sum and one part divides the other part
divides_part : (k : ℕ) (a b : ℤ) → k ∣ unsigned_abs (a +ℤ b) → k ∣ unsigned_abs b → k ∣ unsigned_abs a
divides_part k (pos a) (pos b) h g = (N.dvd-add_iff_left k g).1 h
divides_part k (pos a) (negsuc b) h g = from_difference k a (suc b) (difference_sizes a (suc b)) h g
divides_part k (negsuc a) (pos b) h g = to_difference k b (suc a) (difference_sizes b (suc a)) h g
divides_part k (negsuc a) (negsuc b) h g = (N.dvd-add_iff_left k g).1 (subst (λ n. k ∣ n) (two_more a b) h)

swap_dvd : (k a b : ℕ) → k ∣ a * b → k ∣ b * a
swap_dvd k a b h = subst (λ n. k ∣ n) (N.mul_comm a b) h

-- the sum's top has nothing in common with the bottom's parts
coprime_bottom : (n m : ℤ) (d e g h x y k top : ℕ) → 0 < h → gcd (unsigned_abs n) d ≡ 1 → gcd (unsigned_abs m) e ≡ 1 → IsCoprime x y
    → d ≡ g * x → e ≡ g * y → h ≡ gcd (unsigned_abs (n *ℤ pos y +ℤ m *ℤ pos x)) g
    → unsigned_abs (n *ℤ pos y +ℤ m *ℤ pos x) ≡ h * top → g ≡ h * k → IsCoprime top (x * (k * y))
coprime_bottom n m d e g h x y k top sh hn hm xy pd pe eh pt pg =
    coprime-mul top x (k * y) with_x (coprime-mul top k y with_k with_y)
  where
    whole : (j : ℕ) → j ∣ top → j ∣ unsigned_abs (n *ℤ pos y +ℤ m *ℤ pos x)
    whole j u = subst (λ i. j ∣ i) (sym pt) (N.dvd-mul_left_of_dvd j u h)

    size : (z : ℤ) (i : ℕ) → unsigned_abs (z *ℤ pos i) ≡ unsigned_abs z * i
    size z i = unsigned_abs-mul z (pos i)

    with_x : IsCoprime top x
    with_x j u v =
        let left : j ∣ unsigned_abs (n *ℤ pos y) = divides_part j (n *ℤ pos y) (m *ℤ pos x) (whole j u) (subst (λ i. j ∣ i) (sym (size m x)) (N.dvd-mul_left_of_dvd j v (unsigned_abs m))) in
        coprime_from_gcd (unsigned_abs n) d hn j
        (divides_other j y (unsigned_abs n) (λ i a b. xy i (dvd_trans i a v) b) (swap_dvd j (unsigned_abs n) y (subst (λ i. j ∣ i) (size n y) left)))
        (subst (λ i. j ∣ i) (sym pd) (N.dvd-mul_left_of_dvd j v g))

    with_y : IsCoprime top y
    with_y j u v =
        let right : j ∣ unsigned_abs (m *ℤ pos x) = divides_part j (m *ℤ pos x) (n *ℤ pos y) (subst (λ z. j ∣ unsigned_abs z) (+ℤ_comm (n *ℤ pos y) (m *ℤ pos x)) (whole j u)) (subst (λ i. j ∣ i) (sym (size n y)) (N.dvd-mul_left_of_dvd j v (unsigned_abs n))) in
        coprime_from_gcd (unsigned_abs m) e hm j
        (divides_other j x (unsigned_abs m) (λ i a b. xy i b (dvd_trans i a v)) (swap_dvd j (unsigned_abs m) x (subst (λ i. j ∣ i) (size m x) right)))
        (subst (λ i. j ∣ i) (sym pe) (N.dvd-mul_left_of_dvd j v g))

    with_k : IsCoprime top k
    with_k =
        coprime_parts (unsigned_abs (n *ℤ pos y +ℤ m *ℤ pos x)) g top k (subst (λ i. 0 < i) eh sh)
        (pt ∙ ap (λ i. i * top) eh) (pg ∙ ap (λ i. i * k) eh)

-- what the code's numbers say
pub record SumFound (n m : ℤ) (d e : ℕ) (t : ℤ) (top bottom : ℕ) : Type 0 where
  pub positive : 0 < bottom
  pub lowest : gcd top bottom ≡ 1
  pub fits : Fits (unsigned_abs (n *ℤ pos e +ℤ m *ℤ pos d)) (d * e) ↔ ((top < 2 ^ 127) × (bottom < 2 ^ 127))
  pub cross : (s : Bool) → t ≡ signed s (unsigned_abs t) → signed s top *ℤ pos (d * e) ≡ (n *ℤ pos e +ℤ m *ℤ pos d) *ℤ pos bottom

sum_parts : (n m : ℤ) (d e g h x y k top : ℕ) → 0 < g → 0 < h → 0 < x → 0 < y → 0 < k → IsCoprime top (x * (k * y)) → d ≡ g * x → e ≡ g * y
    → unsigned_abs (n *ℤ pos y +ℤ m *ℤ pos x) ≡ h * top → g ≡ h * k → SumFound n m d e (n *ℤ pos y +ℤ m *ℤ pos x) top (x * (k * y))
sum_parts n m d e g h x y k top sg sh sx sy sk prime pd pe pt pg = record {
  positive = N.mul-pos sx (N.mul-pos sk sy);
  lowest = gcd_from_coprime top (x * (k * y)) prime;
  fits = (λ f. (subst (λ i. i < 2 ^ 127) top_is f.0, subst (λ i. i < 2 ^ 127) bottom_is f.1), λ f. (subst (λ i. i < 2 ^ 127) (sym top_is) f.0, subst (λ i. i < 2 ^ 127) (sym bottom_is) f.1));
  cross = λ s et. signed_cross s et;
}
  where
    part : ℤ
    part = n *ℤ pos y +ℤ m *ℤ pos x

    whole : ℤ
    whole = n *ℤ pos e +ℤ m *ℤ pos d

    whole_is : n *ℤ pos e +ℤ m *ℤ pos d ≡ pos g *ℤ (n *ℤ pos y +ℤ m *ℤ pos x)
    whole_is =
        ap₂ (λ i j. n *ℤ pos i +ℤ m *ℤ pos j) pe pd
        ∙ ring integers (n ∷ m ∷ pos g ∷ pos x ∷ pos y ∷ []) (at 0 ⊗ (at 2 ⊗ at 4) ⊕ at 1 ⊗ (at 2 ⊗ at 3)) (at 2 ⊗ (at 0 ⊗ at 4 ⊕ at 1 ⊗ at 3)) refl

    size_is : unsigned_abs (n *ℤ pos e +ℤ m *ℤ pos d) ≡ g * h * top
    size_is = ap unsigned_abs whole_is ∙ unsigned_abs-mul (pos g) (n *ℤ pos y +ℤ m *ℤ pos x) ∙ ap (λ i. g * i) pt ∙ sym (N.mul_assoc g h top)

    turn : (g x h k y : ℕ) → g * x * (h * k * y) ≡ g * h * (x * (k * y))
    turn g x h k y = omega arith

    product_is : d * e ≡ g * h * (x * (k * y))
    product_is = ap₂ ◌*◌ pd (pe ∙ ap (λ i. i * y) pg) ∙ turn g x h k y

    divisor_is : gcd (unsigned_abs (n *ℤ pos e +ℤ m *ℤ pos d)) (d * e) ≡ g * h
    divisor_is = ap₂ gcd size_is product_is ∙ gcd_of_multiples (g * h) top (x * (k * y)) prime

    positive_divisor : 0 < gcd (unsigned_abs (n *ℤ pos e +ℤ m *ℤ pos d)) (d * e)
    positive_divisor = subst (λ i. 0 < i) (sym divisor_is) (N.mul-pos sg sh)

    top_is : unsigned_abs (n *ℤ pos e +ℤ m *ℤ pos d) / gcd (unsigned_abs (n *ℤ pos e +ℤ m *ℤ pos d)) (d * e) ≡ top
    top_is = quotient (unsigned_abs (n *ℤ pos e +ℤ m *ℤ pos d)) (gcd (unsigned_abs (n *ℤ pos e +ℤ m *ℤ pos d)) (d * e)) top positive_divisor (size_is ∙ ap (λ i. i * top) (sym divisor_is))

    bottom_is : d * e / gcd (unsigned_abs (n *ℤ pos e +ℤ m *ℤ pos d)) (d * e) ≡ x * (k * y)
    bottom_is = quotient (d * e) (gcd (unsigned_abs (n *ℤ pos e +ℤ m *ℤ pos d)) (d * e)) (x * (k * y)) positive_divisor (product_is ∙ ap (λ i. i * (x * (k * y))) (sym divisor_is))

    turned : (top g h b : ℕ) → top * (g * h * b) ≡ h * top * g * b
    turned top g h b = omega arith

    signed_cross : (s : Bool) → n *ℤ pos y +ℤ m *ℤ pos x ≡ signed s (unsigned_abs (n *ℤ pos y +ℤ m *ℤ pos x))
        → signed s top *ℤ pos (d * e) ≡ (n *ℤ pos e +ℤ m *ℤ pos d) *ℤ pos (x * (k * y))
    signed_cross s et =
        signed-mul s top (d * e)
        ∙ ap (signed s) (ap (λ i. top * i) product_is ∙ turned top g h (x * (k * y)))
        ∙ sym (signed-mul s (h * top * g) (x * (k * y)))
        ∙ ap (λ z. z *ℤ pos (x * (k * y)))
        (sym (signed-mul s (h * top) g)
        ∙ *ℤ_comm (signed s (h * top)) (pos g)
        ∙ ap (λ z. pos g *ℤ z) (ap (signed s) (sym pt) ∙ sym et)
        ∙ sym whole_is)

pub sum_found : (n m : ℤ) (d e g h : ℕ) (t : ℤ) → 0 < d → 0 < e → gcd (unsigned_abs n) d ≡ 1 → gcd (unsigned_abs m) e ≡ 1
    → g ≡ gcd d e → t ≡ n *ℤ pos (e / g) +ℤ m *ℤ pos (d / g) → h ≡ gcd (unsigned_abs t) g → SumFound n m d e t (unsigned_abs t / h) (d / g * (e / h))
sum_found n m d e g h t sd se hn hm eg et eh =
    subst₂ (λ z b. SumFound n m d e z (unsigned_abs z / h) (d / g * b)) (sym et) (sym e_is)
    (sum_parts n m d e g h (d / g) (e / g) (g / h) (unsigned_abs (n *ℤ pos (e / g) +ℤ m *ℤ pos (d / g)) / h) sg sh
    (positive_part g (d / g) d sd pd) (positive_part g (e / g) e se pe) (positive_part h (g / h) g sg pg)
    (coprime_bottom n m d e g h (d / g) (e / g) (g / h) (unsigned_abs (n *ℤ pos (e / g) +ℤ m *ℤ pos (d / g)) / h) sh hn hm xy pd pe eh' pt pg)
    pd pe pt pg)
  where
    sg : 0 < g
    sg = subst (λ i. 0 < i) (sym eg) (gcd_positive_left d e sd)

    eh' : h ≡ gcd (unsigned_abs (n *ℤ pos (e / g) +ℤ m *ℤ pos (d / g))) g
    eh' = eh ∙ ap (λ z. gcd (unsigned_abs z) g) et

    sh : 0 < h
    sh = subst (λ i. 0 < i) (sym eh') (gcd_positive_right (unsigned_abs (n *ℤ pos (e / g) +ℤ m *ℤ pos (d / g))) g sg)

    pd : d ≡ g * (d / g)
    pd = part_left d e ∙ ap (λ i. i * (d / i)) (sym eg)

    pe : e ≡ g * (e / g)
    pe = part_right d e ∙ ap (λ i. i * (e / i)) (sym eg)

    pt : unsigned_abs (n *ℤ pos (e / g) +ℤ m *ℤ pos (d / g)) ≡ h * (unsigned_abs (n *ℤ pos (e / g) +ℤ m *ℤ pos (d / g)) / h)
    pt = part_left (unsigned_abs (n *ℤ pos (e / g) +ℤ m *ℤ pos (d / g))) g ∙ ap (λ i. i * (unsigned_abs (n *ℤ pos (e / g) +ℤ m *ℤ pos (d / g)) / i)) (sym eh')

    pg : g ≡ h * (g / h)
    pg = part_right (unsigned_abs (n *ℤ pos (e / g) +ℤ m *ℤ pos (d / g))) g ∙ ap (λ i. i * (g / i)) (sym eh')

    xy : IsCoprime (d / g) (e / g)
    xy = coprime_parts d e (d / g) (e / g) (gcd_positive_left d e sd) (pd ∙ ap (λ i. i * (d / g)) eg) (pe ∙ ap (λ i. i * (e / g)) eg)

    e_is : e / h ≡ g / h * (e / g)
    e_is = quotient e h (g / h * (e / g)) sh (pe ∙ ap (λ i. i * (e / g)) pg ∙ N.mul_assoc h (g / h) (e / g))

-- a number as it is passed
abbrev cast : ℤ → ℤ
cast z = to_z w128 (of_z w128 z)

pub sign_is : (t : ℤ) → t ≡ signed (is_negative t) (unsigned_abs t)
sign_is (pos a) = refl
sign_is (negsuc a) = refl

-- the steps of the sum, as the code takes them
pub sum_steps : (x y : Ratio) (g : ℕ) (p q t : ℤ) (size h : ℕ) → g ≡ gcd x.d y.d
    → (unsigned_abs (cast x.n *ℤ pos (y.d / g)) < 2 ^ 127) × (p ≡ cast x.n *ℤ pos (y.d / g))
    → (unsigned_abs (cast y.n *ℤ pos (x.d / g)) < 2 ^ 127) × (q ≡ cast y.n *ℤ pos (x.d / g))
    → (unsigned_abs (cast p +ℤ cast q) < 2 ^ 127) × (t ≡ cast p +ℤ cast q)
    → size ≡ unsigned_abs (cast t) → h ≡ gcd size g
    → SumFound x.n y.n x.d y.d t (size / h) (x.d / g * (y.d / h))
    × (unsigned_abs (x.n *ℤ pos (y.d / gcd x.d y.d)) < 2 ^ 127)
    × (unsigned_abs (y.n *ℤ pos (x.d / gcd x.d y.d)) < 2 ^ 127)
    × (unsigned_abs (x.n *ℤ pos (y.d / gcd x.d y.d) +ℤ y.n *ℤ pos (x.d / gcd x.d y.d)) < 2 ^ 127)
sum_steps x y g p q t size h eg hp hq ht es eh =
    let ep : p ≡ x.n *ℤ pos (y.d / g) = hp.1 ∙ ap (λ z. z *ℤ pos (y.d / g)) (plain_integer x.n x.fits) in
    let eq : q ≡ y.n *ℤ pos (x.d / g) = hq.1 ∙ ap (λ z. z *ℤ pos (x.d / g)) (plain_integer y.n y.fits) in
    let cp : cast p ≡ x.n *ℤ pos (y.d / g) = plain_integer p (subst (λ z. unsigned_abs z < 2 ^ 127) (sym hp.1) hp.0) ∙ ep in
    let cq : cast q ≡ y.n *ℤ pos (x.d / g) = plain_integer q (subst (λ z. unsigned_abs z < 2 ^ 127) (sym hq.1) hq.0) ∙ eq in
    let et : t ≡ x.n *ℤ pos (y.d / g) +ℤ y.n *ℤ pos (x.d / g) = ht.1 ∙ ap₂ ◌+ℤ◌ cp cq in
    let small : unsigned_abs t < 2 ^ 127 = subst (λ z. unsigned_abs z < 2 ^ 127) (sym ht.1) ht.0 in
    let size_is : size ≡ unsigned_abs t = es ∙ ap unsigned_abs (plain_integer t small) in
    let step : (i : ℕ) → i ≡ gcd x.d y.d → i ≡ gcd x.d y.d = λ i e. e in (
      subst (λ i. SumFound x.n y.n x.d y.d t (i / h) (x.d / g * (y.d / h))) (sym size_is)
          (sum_found x.n y.n x.d y.d g h t x.positive y.positive x.lowest y.lowest eg et (eh ∙ ap (λ i. gcd i g) size_is)),
      subst (λ i. unsigned_abs (x.n *ℤ pos (y.d / i)) < 2 ^ 127) eg (subst (λ z. unsigned_abs z < 2 ^ 127) (sym hp.1 ∙ ep) hp.0),
      subst (λ i. unsigned_abs (y.n *ℤ pos (x.d / i)) < 2 ^ 127) eg (subst (λ z. unsigned_abs z < 2 ^ 127) (sym hq.1 ∙ eq) hq.0),
      subst (λ i. unsigned_abs (x.n *ℤ pos (y.d / i) +ℤ y.n *ℤ pos (x.d / i)) < 2 ^ 127) eg (subst (λ z. unsigned_abs z < 2 ^ 127) et small),
    )

pub built_sum : (r x y : Ratio) (s : Bool) (t : ℤ) (top bottom : ℕ) → s ≡ is_negative t → (r.n ≡ signed s top) × (r.d ≡ bottom)
    → SumFound x.n y.n x.d y.d t top bottom → fraction_of r ≡ add (fraction_of x) (fraction_of y)
unfolding fraction_of add
built_sum r x y s t top bottom es (en, ed) f =
    same (pair_of r) (pair_sum (pair_of x) (pair_of y))
    (ap (λ z. z *ℤ pos (x.d * y.d)) (en ∙ ap (λ b. signed b top) es)
    ∙ f.cross (is_negative t) (sign_is t)
    ∙ ap (λ k. (x.n *ℤ pos y.d +ℤ y.n *ℤ pos x.d) *ℤ pos k) (sym ed))
