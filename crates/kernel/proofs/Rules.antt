-- Rules for the ends of runs
use Rattle.std.proofs.Common.{◌≡◌, ℕ, refl, sym, ◌∙◌, ap, subst, List, Bool, true, false, Option, None, Some, if◌then◌else◌}
use Rattle.algebra.specs.Fraction.{Fraction, add, inverse, is_zero_fraction, mul, negative}
use Rattle.algebra.specs.Steps.{difference, fits, product, reciprocal, sum, sum_fits}
use Rattle.c_unit.specs.declared.unit.Op.{Op}
use Rattle.c_unit.specs.declared.unit.Place.{Place}
use Rattle.c_unit.specs.Meaning.{Slots, End, Going, Passed, Zero, further, put, put_or_pass, put_or_zero, then_do}
use Rattle.kernel.specs.Ends.{Ends}

pub ends_further : (Q Z : Type 0) (P : Slots → Type 0) (n : ℕ) (e : End) → Ends Q Z P e → Ends Q Z P (further n e)
ends_further Q Z P n (Going s) h = h
ends_further Q Z P n (Passed at op l r s) h = h
ends_further Q Z P n (Zero at s) h = h

pub ends_then : (Q Z : Type 0) (P R : Slots → Type 0) (e : End) (go : Slots → End) → Ends Q Z P e → ((s : Slots) → P s → Ends Q Z R (go s)) → Ends Q Z R (then_do e go)
ends_then Q Z P R (Going s) go h g = g s h
ends_then Q Z P R (Passed at op l r s) go h g = h
ends_then Q Z P R (Zero at s) go h g = h

pub ends_weaker : (Q Z : Type 0) (P R : Slots → Type 0) (e : End) → Ends Q Z P e → ((s : Slots) → P s → R s) → Ends Q Z R e
ends_weaker Q Z P R (Going s) h g = g s h
ends_weaker Q Z P R (Passed at op l r s) h g = h
ends_weaker Q Z P R (Zero at s) h g = h

-- ---- what a step gives
chosen : (t : Bool) (v u : Fraction) → ◌≡◌ {A = Option Fraction} (if t then Some v else None) (Some u) → u ≡ v
chosen true v u e = cc
chosen false v u e = cc

pub sum_value : (x y u : Fraction) → sum x y ≡ Some u → u ≡ add x y
unfolding sum
sum_value x y u e = chosen (sum_fits x y) (add x y) u e

pub difference_value : (x y u : Fraction) → difference x y ≡ Some u → u ≡ add x (negative y)
unfolding difference
difference_value x y u e = sum_value x (negative y) u e

-- ---- a step, and what follows n statements further on where it has a value
pub difference_then : (Q Z : Type 0) (P : Slots → Type 0) (x y : Fraction) (op : Op) (l r : Fraction) (to : Place) (is : List ℕ) (s : Slots) (n : ℕ) (rest : Slots → End)
    → (difference x y ≡ None → Q) → (difference x y ≡ Some (add x (negative y)) → Ends Q Z P (rest (put to is (add x (negative y)) s)))
    → Ends Q Z P (then_do (put_or_pass (difference x y) op l r to is s) (λ u. further n (rest u)))
difference_then Q Z P x y op l r to is s n rest q h = go (difference x y) refl
  where
    go : (o : Option Fraction) → difference x y ≡ o → Ends Q Z P (then_do (put_or_pass o op l r to is s) (λ u. further n (rest u)))
    go None e = q e
    go (Some u) e =
        let value : u ≡ add x (negative y) = difference_value x y u e in
        ends_further Q Z P n (rest (put to is u s)) (subst (λ v. Ends Q Z P (rest (put to is v s))) (sym value) (h (e ∙ ap Some value)))

-- a product passes exactly where it doesn't fit
pub product_then : (Q Z : Type 0) (P : Slots → Type 0) (x y : Fraction) (op : Op) (l r : Fraction) (to : Place) (is : List ℕ) (s : Slots) (n : ℕ) (rest : Slots → End)
    → (fits (mul x y) ≡ false → Q) → (fits (mul x y) ≡ true → Ends Q Z P (rest (put to is (mul x y) s)))
    → Ends Q Z P (then_do (put_or_pass (product x y) op l r to is s) (λ u. further n (rest u)))
unfolding product
product_then Q Z P x y op l r to is s n rest q h = go (fits (mul x y)) refl
  where
    go : (t : Bool) → fits (mul x y) ≡ t → Ends Q Z P (then_do (put_or_pass (if t then Some (mul x y) else None) op l r to is s) (λ u. further n (rest u)))
    go true e = ends_further Q Z P n (rest (put to is (mul x y) s)) (h e)
    go false e = q e

pub reciprocal_then : (Q Z : Type 0) (P : Slots → Type 0) (x : Fraction) (to : Place) (is : List ℕ) (s : Slots) (n : ℕ) (rest : Slots → End)
    → (is_zero_fraction x ≡ true → Z) → (is_zero_fraction x ≡ false → Ends Q Z P (rest (put to is (inverse x) s)))
    → Ends Q Z P (then_do (put_or_zero (reciprocal x) to is s) (λ u. further n (rest u)))
unfolding reciprocal
reciprocal_then Q Z P x to is s n rest z h = go (is_zero_fraction x) refl
  where
    go : (t : Bool) → is_zero_fraction x ≡ t → Ends Q Z P (then_do (put_or_zero (if t then None else Some (inverse x)) to is s) (λ u. further n (rest u)))
    go true e = z e
    go false e = ends_further Q Z P n (rest (put to is (inverse x) s)) (h e)
