-- A fraction over a small whole number fits
use Rattle.std.proofs.Common.{◌≡◌, ℕ, zero, suc, ℤ, pos, ◌*◌, ◌/◌, ◌^◌, ◌<◌, ◌≤◌, ◌*ℤ◌, refl, sym, ◌∙◌, ap, ap₂, arith, unsigned_abs, subst, to_z, of_z, true, Option, Some, None, if◌then◌else◌, [], ◌∷◌}
use Rattle.std.specs.Int.{w128}
use native.Mathlib.Nat as N
use mathlib.Core.Quot.{mk}
use Rattle.algebra.specs.Fraction.{Fraction, Pair, same, whole, pair_product, inverse_parts, mul, inverse, of_integer}
use Rattle.algebra.specs.Integers.{integers}
use Rattle.algebra.specs.Solver.{at, num, ◌⊗◌}
use Rattle.algebra.specs.Sound.{ring}
use Rattle.algebra.specs.LowestTerms.{top, bottom}
use Rattle.algebra.specs.Steps.{fits, quotient}
use Rattle.algebra.proofs.LowestLaws.{bottom_positive, from_parts}
use Rattle.ratio.proofs.ProductLaws.{plain_integer}
use Rattle.ratio.proofs.Reading.{pair_fits}

abbrev pair : ℤ → (d : ℕ) → 0 < d → Pair
pair z d h = record { num = z; den = d; positive = h }

whole_over : (z : ℤ) (j : ℕ) → mul (of_integer z) (inverse (of_integer (pos (suc j)))) ≡ mk (pair z (suc j) (N.zero-lt-suc j))
unfolding mul inverse of_integer
whole_over z j = same (pair_product (whole z) (inverse_parts (pos (suc j)) 1)) (pair z (suc j) (N.zero-lt-suc j)) (ring integers (z ∷ pos (suc j) ∷ []) ((at 0 ⊗ num (pos 1)) ⊗ at 1) (at 0 ⊗ (num (pos 1) ⊗ at 1)) refl)

pair_over : (z : ℤ) (d : ℕ) (h : 0 < d) (i : ℕ) (j : ℕ) → suc j ≡ suc i * d → mul (mk (pair z d h)) (inverse (of_integer (pos (suc i)))) ≡ mk (pair z (suc j) (N.zero-lt-suc j))
unfolding mul inverse of_integer
pair_over z d h i j e =
    same (pair_product (pair z d h) (inverse_parts (pos (suc i)) 1)) (pair z (suc j) (N.zero-lt-suc j))
    (ap (λ n. z *ℤ pos 1 *ℤ pos n) e ∙ ring integers (z ∷ pos d ∷ pos (suc i) ∷ []) ((at 0 ⊗ num (pos 1)) ⊗ (at 2 ⊗ at 1)) (at 0 ⊗ (at 1 ⊗ at 2)) refl)

part_below : (n g : ℕ) → n < 2 ^ 127 → n / g < 2 ^ 127
part_below n g h = let less : n / g ≤ n = N.div-le_self n g in omega arith

chosen : (x : Fraction) → fits x ≡ true → ◌≡◌ {A = Option Fraction} (if fits x then Some x else None) (Some x)
chosen x h = ap (λ t. if t then Some x else None) h

quotient_fits : (x : Fraction) (i j : ℕ) → suc j ≡ suc i * bottom x → unsigned_abs (top x) < 2 ^ 127 → suc j < 2 ^ 127
    → quotient (top x) (pos (suc j)) ≡ Some (mul x (inverse (of_integer (pos (suc i)))))
unfolding quotient
quotient_fits x i j e h g =
    let value = whole_over (top x) j in
    let fit : fits (mul (of_integer (top x)) (inverse (of_integer (pos (suc j))))) ≡ true =
    ap fits value ∙ pair_fits (pair (top x) (suc j) (N.zero-lt-suc j)) (part_below _ _ h, part_below _ _ g) in
    chosen (mul (of_integer (top x)) (inverse (of_integer (pos (suc j))))) fit
    ∙ ap Some
    (value
    ∙ sym (pair_over (top x) (bottom x) (bottom_positive x) i j e)
    ∙ ap (λ y. mul y (inverse (of_integer (pos (suc i))))) (sym (from_parts x)))

-- x/k is the quotient of its parts, and fits where they are small
pub over_small : (x : Fraction) (n : ℤ) (k : ℕ) → n ≡ pos k → 0 < k → k ≤ 384 → 384 * unsigned_abs (top x) < 2 ^ 100 → 384 * bottom x < 2 ^ 100
    → quotient (top x) (n *ℤ pos (bottom x)) ≡ Some (mul x (inverse (of_integer n)))
over_small x n zero e h l t b = absurd (omega arith)
over_small x n (suc i) e h l t b =
    ap (λ n. quotient (top x) (n *ℤ pos (bottom x))) e
    ∙ go (suc i * bottom x) refl (N.mul-pos h (bottom_positive x))
    ∙ ap (λ n. Some (mul x (inverse (of_integer n)))) (sym e)
  where
    go : (d : ℕ) → d ≡ suc i * bottom x → 0 < d → quotient (top x) (pos (suc i * bottom x)) ≡ Some (mul x (inverse (of_integer (pos (suc i)))))
    go zero f p = absurd (omega arith)
    go (suc j) f p =
        let small : suc i * bottom x ≤ 384 * bottom x = N.mul-le-mul_right (bottom x) l in
        ap (λ d. quotient (top x) (pos d)) (sym f) ∙ quotient_fits x i j f (omega arith) (omega arith)

-- a number in its machine form
abbrev machine : ℤ → ℤ
machine z = to_z w128 (of_z w128 z)

-- the same of an answer as the code has it
pub over_answered : (x : Fraction) (n : ℤ) (t d : ℤ) (o : Option Fraction) → (k : ℕ) × ((n ≡ pos k) × ((0 < k) × (k ≤ 384))) → 384 * unsigned_abs (top x) < 2 ^ 100 → 384 * bottom x < 2 ^ 100
    → t ≡ top x → d ≡ pos (bottom x) → o ≡ quotient (machine t) (machine (machine n *ℤ machine d)) → o ≡ Some (mul x (inverse (of_integer n)))
over_answered x n t d o (k, h) top_small bottom_small et ed e =
    let small : k * bottom x ≤ 384 * bottom x = N.mul-le-mul_right (bottom x) h.1.1 in
    let size : unsigned_abs (n *ℤ pos (bottom x)) < 2 ^ 127 = subst (λ m. unsigned_abs (m *ℤ pos (bottom x)) < 2 ^ 127) (sym h.0) (omega arith) in
    let size_n : unsigned_abs n < 2 ^ 127 = subst (λ m. unsigned_abs m < 2 ^ 127) (sym h.0) (omega arith) in
    let size_d : unsigned_abs (pos (bottom x)) < 2 ^ 127 = omega arith in
    e
    ∙ ap₂ quotient
    (ap machine et ∙ plain_integer (top x) (omega arith))
    (ap machine (ap₂ ◌*ℤ◌ (plain_integer n size_n) (ap machine ed ∙ plain_integer (pos (bottom x)) size_d)) ∙ plain_integer (n *ℤ pos (bottom x)) size)
    ∙ over_small x n k h.0 h.1.0 h.1.1 top_small bottom_small

pub some_value : (x y : Fraction) → ◌≡◌ {A = Option Fraction} (Some x) (Some y) → x ≡ y
some_value x y e = cc

pub no_none : (y : Fraction) → ◌≡◌ {A = Option Fraction} None (Some y) → ⊥
no_none y e = cc
