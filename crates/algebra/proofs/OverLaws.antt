-- Fractions over known denominators: what sums, products and reciprocals of them are over
use Rattle.std.proofs.Common.{◌≡◌, ℕ, zero, suc, ℤ, pos, negsuc, ◌+◌, ◌*◌, ◌<◌, ◌≤◌, ◌+ℤ◌, ◌*ℤ◌, neg_ℤ, refl, sym, ◌∙◌, ap, ap₂, subst, arith, unsigned_abs, List, [], ◌∷◌, ◌++◌, map, Bool, true, false}
use Rattle.std.proofs.lemmas.Int.{unsigned_abs-mul, ints}
use Rattle.std.proofs.Math.Nat.{add-mul, mul-add}
use native.Mathlib.Nat as N
use mathlib.Core.Quot.{mk}
use Rattle.algebra.specs.Fraction.{Pair, Fraction, add, mul, negative, inverse, inverse_parts, absolute, when, is_below_zero, same, pair_sum, pair_product, zero_fraction, one_fraction, whole, is_zero_fraction, is_nought}
use Rattle.algebra.specs.Integers.{integers}
use Rattle.algebra.specs.Solver.{at, num, ◌⊕◌, ◌⊗◌, minus}
use Rattle.algebra.specs.Sound.{ring}
use Rattle.algebra.proofs.Signs.{unsigned_abs-neg}
use Rattle.algebra.specs.Over.{Over, AreOver}

abbrev pub pair : ℤ → (l : ℕ) → 0 < l → Pair
pair z l h = record { num = z; den = l; positive = h }

pub over_weaken : (l b c : ℕ) (x : Fraction) → b ≤ c → Over l b x → Over l c x
over_weaken l b c x h o = record { positive = o.positive; num = o.num; is = o.is; bound = N.le_trans o.bound h }

-- over a multiple
pub over_lift : (l b k : ℕ) (x : Fraction) → 0 < k → Over l b x → Over (l * k) (b * k) x
over_lift l b k x h o = record {
  positive = N.mul-pos o.positive h;
  num = o.num *ℤ pos k;
  is = o.is ∙ same (pair o.num l o.positive) (pair (o.num *ℤ pos k) (l * k) (N.mul-pos o.positive h)) (ring integers (o.num ∷ pos l ∷ pos k ∷ []) (at 0 ⊗ (at 1 ⊗ at 2)) (at 0 ⊗ at 2 ⊗ at 1) refl);
  bound = subst (λ n. n ≤ b * k) (sym (unsigned_abs-mul o.num (pos k))) (N.mul-le-mul_right k o.bound);
}

-- with other words for the two bounds
pub over_same : (l b m c : ℕ) (x : Fraction) → l ≡ m → b ≡ c → Over l b x → Over m c x
over_same l b m c x e f o = subst (λ n. Over n c x) e (subst (λ n. Over l n x) f o)

pub over_at : (l b : ℕ) (x y : Fraction) → x ≡ y → Over l b x → Over l b y
over_at l b x y e o = subst (Over l b) e o

pub triangle : (a b : ℤ) → unsigned_abs (a +ℤ b) ≤ unsigned_abs a + unsigned_abs b
triangle a b = omega (arith, ints)

pub over_sum : (l b c : ℕ) (x y : Fraction) → Over l b x → Over l c y → Over l (b + c) (add x y)
unfolding add
over_sum l b c x y o p = record {
  positive = o.positive;
  num = o.num +ℤ p.num;
  is = ap₂ add o.is p.is ∙ same (pair_sum (pair o.num l o.positive) (pair p.num l p.positive)) (pair (o.num +ℤ p.num) l o.positive)
      (ring integers (o.num ∷ pos l ∷ p.num ∷ []) ((at 0 ⊗ at 1 ⊕ at 2 ⊗ at 1) ⊗ at 1) ((at 0 ⊕ at 2) ⊗ (at 1 ⊗ at 1)) refl);
  bound = N.le_trans (triangle o.num p.num) (N.add-le-add o.bound p.bound);
}

pub over_product : (l m b c : ℕ) (x y : Fraction) → Over l b x → Over m c y → Over (l * m) (b * c) (mul x y)
unfolding mul
over_product l m b c x y o p = record {
  positive = N.mul-pos o.positive p.positive;
  num = o.num *ℤ p.num;
  is = ap₂ mul o.is p.is;
  bound = subst (λ n. n ≤ b * c) (sym (unsigned_abs-mul o.num p.num)) (N.mul-le-mul o.bound p.bound);
}

pub over_negative : (l b : ℕ) (x : Fraction) → Over l b x → Over l b (negative x)
unfolding negative
over_negative l b x o = record {
  positive = o.positive;
  num = neg_ℤ o.num;
  is = ap negative o.is;
  bound = subst (λ n. n ≤ b) (sym (unsigned_abs-neg o.num)) o.bound;
}

pub over_difference : (l b c : ℕ) (x y : Fraction) → Over l b x → Over l c y → Over l (b + c) (add x (negative y))
over_difference l b c x y o p = over_sum l b c x (negative y) o (over_negative l c y p)

pub over_absolute : (l b : ℕ) (x : Fraction) → Over l b x → Over l b (absolute x)
over_absolute l b x o = go (is_below_zero x)
  where
    go : (t : Bool) → Over l b (when t (negative x) x)
    go true = over_negative l b x o
    go false = o

pub over_zero : (l b : ℕ) → 0 < l → Over l b zero_fraction
unfolding zero_fraction
over_zero l b h = record {
  positive = h;
  num = pos 0;
  is = same (whole (pos 0)) (pair (pos 0) l h) (ring integers (pos l ∷ []) (num (pos 0) ⊗ at 0) (num (pos 0) ⊗ num (pos 1)) refl);
  bound = none b;
}
  where
    none : (b : ℕ) → 0 ≤ b
    none b = omega arith

pub over_one : Over 1 1 one_fraction
unfolding one_fraction
over_one = record { positive = N.zero-lt-suc 0; num = pos 1; is = refl; bound = N.le_refl 1 }

-- ---- quotients
size_positive : (z : ℤ) → is_nought z ≡ false → 0 < unsigned_abs z
size_positive (pos zero) e = cc
size_positive (pos (suc n)) e = N.zero-lt-suc n
size_positive (negsuc n) e = N.zero-lt-suc n

zero_at : (z : ℤ) (l : ℕ) (h : 0 < l) → is_zero_fraction (mk (pair z l h)) ≡ is_nought z
unfolding is_zero_fraction
zero_at z l h = refl

-- the whole number over l of what is not 0 is not 0
pub over_positive : (l b : ℕ) (x : Fraction) → (o : Over l b x) → is_zero_fraction x ≡ false → 0 < unsigned_abs o.num
over_positive l b x o h = size_positive o.num (sym (zero_at o.num l o.positive) ∙ ap is_zero_fraction (sym o.is) ∙ h)

quotient_is : (n z : ℤ) (l k : ℕ) (h : 0 < l) (g : 0 < l * k) (f : 0 < unsigned_abs z)
    → (m : ℤ) × ((mul (mk (pair n l h)) (inverse (mk (pair z (l * k) g))) ≡ mk (pair m (unsigned_abs z) f)) × (unsigned_abs m ≡ unsigned_abs n * k))
unfolding mul inverse
quotient_is n (pos zero) l k h g f = absurd (omega arith)
quotient_is n (pos (suc z)) l k h g f = (
  n *ℤ pos k,
  (
    same (pair_product (pair n l h) (inverse_parts (pos (suc z)) (l * k))) (pair (n *ℤ pos k) (suc z) f) (ring integers (n ∷ pos l ∷ pos k ∷ pos (suc z) ∷ []) (at 0 ⊗ (at 1 ⊗ at 2) ⊗ at 3) (at 0 ⊗ at 2 ⊗ (at 1 ⊗ at 3)) refl),
    unsigned_abs-mul n (pos k),
  ),
)
quotient_is n (negsuc z) l k h g f = (
  neg_ℤ n *ℤ pos k,
  (
    same (pair_product (pair n l h) (inverse_parts (negsuc z) (l * k))) (pair (neg_ℤ n *ℤ pos k) (suc z) f) (ring integers (n ∷ pos l ∷ pos k ∷ pos (suc z) ∷ []) (at 0 ⊗ minus (at 1 ⊗ at 2) ⊗ at 3) (minus (at 0) ⊗ at 2 ⊗ (at 1 ⊗ at 3)) refl),
    unsigned_abs-mul (neg_ℤ n) (pos k) ∙ ap (λ i. i * k) (unsigned_abs-neg n),
  ),
)

-- a quotient of numbers over l and l*k, where l cancels
pub over_quotient : (l k b c : ℕ) (x y : Fraction) → Over l b x → (p : Over (l * k) c y) → 0 < unsigned_abs p.num → Over (unsigned_abs p.num) (b * k) (mul x (inverse y))
over_quotient l k b c x y o p h =
    let q = quotient_is o.num p.num l k o.positive p.positive h in
    record {
      positive = h;
      num = q.0;
      is = ap₂ (λ u v. mul u (inverse v)) o.is p.is ∙ q.1.0;
      bound = subst (λ n. n ≤ b * k) (sym q.1.1) (N.mul-le-mul_right k o.bound);
    }

-- 1/n
pub over_reciprocal : (n : ℕ) → 0 < n → Over n 1 (inverse (mk (whole (pos n))))
unfolding inverse
over_reciprocal zero h = absurd (omega arith)
over_reciprocal (suc n) h = record { positive = N.zero-lt-suc n; num = pos 1; is = refl; bound = N.le_refl 1 }

pub over_whole : (n : ℕ) → Over 1 n (mk (whole (pos n)))
over_whole n = record { positive = N.zero-lt-suc 0; num = pos n; is = refl; bound = N.le_refl n }

-- ---- lists
pub are_weaken : (l b c : ℕ) (xs : List Fraction) → b ≤ c → AreOver l b xs → AreOver l c xs
are_weaken l b c [] h a = tt
are_weaken l b c (x ∷ xs) h a = (a.0, a.1, N.le_trans a.2 h, a.3, a.4)

pub are_lift : (l b k : ℕ) (xs : List Fraction) → 0 < k → AreOver l b xs → AreOver (l * k) (b * k) xs
are_lift l b k [] h a = tt
are_lift l b k (x ∷ xs) h a = (a.0 * k, a.1 * k, shares a.0 a.1 b k a.2, over_lift l a.0 k x h a.3, are_lift l a.1 k xs h a.4)
  where
    shares : (n m b k : ℕ) → n + m ≤ b → n * k + m * k ≤ b * k
    shares n m b k h = subst (λ i. i ≤ b * k) (add-mul n m k) (N.mul-le-mul_right k h)

pub are_append : (l b c : ℕ) (xs ys : List Fraction) → AreOver l b xs → AreOver l c ys → AreOver l (b + c) (xs ++ ys)
are_append l b c [] ys a o = are_weaken l c (b + c) ys (more b c) o
  where
    more : (b c : ℕ) → c ≤ b + c
    more b c = omega arith
are_append l b c (x ∷ xs) ys a o = (a.0, a.1 + c, shares a.0 a.1 b c a.2, a.3, are_append l a.1 c xs ys a.4 o)
  where
    shares : (n m b c : ℕ) → n + m ≤ b → n + (m + c) ≤ b + c
    shares n m b c h = omega arith

pub are_negative : (l b : ℕ) (xs : List Fraction) → AreOver l b xs → AreOver l b (map negative xs)
are_negative l b [] a = tt
are_negative l b (x ∷ xs) a = (a.0, a.1, a.2, over_negative l a.0 x a.3, are_negative l a.1 xs a.4)

pub are_multiples : (l m b c : ℕ) (x : Fraction) (ys : List Fraction) → Over l b x → AreOver m c ys → AreOver (l * m) (b * c) (map (mul x) ys)
are_multiples l m b c x [] o a = tt
are_multiples l m b c x (y ∷ ys) o a = (b * a.0, b * a.1, shares b a.0 a.1 c a.2, over_product l m b a.0 x y o a.3, are_multiples l m b a.1 x ys o a.4)
  where
    shares : (b n m c : ℕ) → n + m ≤ c → b * n + b * m ≤ b * c
    shares b n m c h = subst (λ i. i ≤ b * c) (mul-add b n m) (N.mul-le-mul_left b h)
