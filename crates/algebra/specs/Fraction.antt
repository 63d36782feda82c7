-- Fractions: pairs of a whole number and a positive one, equal where the cross products are
use Rattle.std.specs.Prelude.{◌≡◌, ℕ, zero, suc, ℤ, pos, negsuc, ◌+ℤ◌, ◌*ℤ◌, ◌*◌, ◌<◌, neg_ℤ, List, [], ◌∷◌, true}
use Rattle.algebra.specs.Ring.{Ring}
use Rattle.algebra.specs.Solver.{at, num, ◌⊕◌, ◌⊗◌, minus}
use Rattle.algebra.specs.Sound.{ring, ring_from}
use Rattle.algebra.specs.Integers.{integers}
use mathlib.Core.Path.{refl, sym, ◌∙◌, ap}
use mathlib.Core.Quot.{Quot, mk, sound, ind, lift, Quot-set}
use mathlib.Mathlib.Data.Quot.{lift₂}
use native.Mathlib.Nat.{mul-pos, zero-lt-suc, ne_of_gt}
use borrow.Author.Differences.{up}
use mathlib.Core.HLevel.{Π_prop}
use mathlib.Core.Bool.{Bool, false, Bool-set}
use lib.IntN.{neg_ℤ-neg_ℤ, pos-ne-negsuc, zero-*ℤ}

pub record Pair : Type 0 where
  pub num : ℤ
  pub den : ℕ
  pub positive : 0 < den

-- the two pairs are one fraction
abbrev pub Same : Pair → Pair → Type 0
Same p q = p.num *ℤ pos q.den ≡ q.num *ℤ pos p.den

abbrev pub Fraction : Type 0
Fraction = Quot Same

abbrev pub pair_sum : Pair → Pair → Pair
pair_sum p q = record { num = p.num *ℤ pos q.den +ℤ q.num *ℤ pos p.den; den = p.den * q.den; positive = mul-pos p.positive q.positive }

abbrev pub pair_product : Pair → Pair → Pair
pair_product p q = record { num = p.num *ℤ q.num; den = p.den * q.den; positive = mul-pos p.positive q.positive }

abbrev pub pair_negative : Pair → Pair
pair_negative p = record { num = neg_ℤ p.num; den = p.den; positive = p.positive }

abbrev pub whole : ℤ → Pair
whole z = record { num = z; den = 1; positive = zero-lt-suc 0 }

pub sum_right : (p q r : Pair) → Same q r → Same (pair_sum p q) (pair_sum p r)
sum_right p q r h =
    ring_from integers (p.num ∷ pos p.den ∷ q.num ∷ pos q.den ∷ r.num ∷ pos r.den ∷ [])
    ((at 0 ⊗ at 3 ⊕ at 2 ⊗ at 1) ⊗ (at 1 ⊗ at 5))
    ((at 0 ⊗ at 5 ⊕ at 4 ⊗ at 1) ⊗ (at 1 ⊗ at 3))
    (at 1 ⊗ at 1) (at 2 ⊗ at 5) (at 4 ⊗ at 3) h refl

pub sum_left : (q r p : Pair) → Same q r → Same (pair_sum q p) (pair_sum r p)
sum_left q r p h =
    ring_from integers (p.num ∷ pos p.den ∷ q.num ∷ pos q.den ∷ r.num ∷ pos r.den ∷ [])
    ((at 2 ⊗ at 1 ⊕ at 0 ⊗ at 3) ⊗ (at 5 ⊗ at 1))
    ((at 4 ⊗ at 1 ⊕ at 0 ⊗ at 5) ⊗ (at 3 ⊗ at 1))
    (at 1 ⊗ at 1) (at 2 ⊗ at 5) (at 4 ⊗ at 3) h refl

pub product_right : (p q r : Pair) → Same q r → Same (pair_product p q) (pair_product p r)
product_right p q r h =
    ring_from integers (p.num ∷ pos p.den ∷ q.num ∷ pos q.den ∷ r.num ∷ pos r.den ∷ [])
    ((at 0 ⊗ at 2) ⊗ (at 1 ⊗ at 5)) ((at 0 ⊗ at 4) ⊗ (at 1 ⊗ at 3))
    (at 0 ⊗ at 1) (at 2 ⊗ at 5) (at 4 ⊗ at 3) h refl

pub product_left : (q r p : Pair) → Same q r → Same (pair_product q p) (pair_product r p)
product_left q r p h =
    ring_from integers (p.num ∷ pos p.den ∷ q.num ∷ pos q.den ∷ r.num ∷ pos r.den ∷ [])
    ((at 2 ⊗ at 0) ⊗ (at 5 ⊗ at 1)) ((at 4 ⊗ at 0) ⊗ (at 3 ⊗ at 1))
    (at 0 ⊗ at 1) (at 2 ⊗ at 5) (at 4 ⊗ at 3) h refl

pub negative_same : (q r : Pair) → Same q r → Same (pair_negative q) (pair_negative r)
negative_same q r h =
    ring_from integers (q.num ∷ pos q.den ∷ r.num ∷ pos r.den ∷ [])
    (minus (at 0) ⊗ at 3) (minus (at 2) ⊗ at 1)
    (num (negsuc 0)) (at 0 ⊗ at 3) (at 2 ⊗ at 1) h refl

unfoldable pub zero_fraction : Fraction
zero_fraction = mk (whole (pos 0))

unfoldable pub one_fraction : Fraction
one_fraction = mk (whole (pos 1))

-- a whole number as a fraction
unfoldable pub of_integer : ℤ → Fraction
of_integer z = mk (whole z)

unfoldable pub add : Fraction → Fraction → Fraction
add = lift₂ Quot-set (λ p q. mk (pair_sum p q)) (λ p q r h. sound (sum_right p q r h)) (λ q r p h. sound (sum_left q r p h))

unfoldable pub mul : Fraction → Fraction → Fraction
mul = lift₂ Quot-set (λ p q. mk (pair_product p q)) (λ p q r h. sound (product_right p q r h)) (λ q r p h. sound (product_left q r p h))

unfoldable pub negative : Fraction → Fraction
negative = lift Quot-set (λ p. mk (pair_negative p)) (λ q r h. sound (negative_same q r h))

-- one fraction where the cross products are equal
pub same : (p q : Pair) → Same p q → ◌≡◌ {A = Fraction} (mk p) (mk q)
same p q h = sound h

-- two functions of fractions are equal where they are at pairs
pub at_pairs : (f g : Fraction → Fraction) → ((p : Pair) → f (mk p) ≡ g (mk p)) → (a : Fraction) → f a ≡ g a
at_pairs f g h a = ind {r = Same} {β = λ a. f a ≡ g a} (λ a. Quot-set (f a) (g a)) h a

pub at_two_pairs : (f g : Fraction → Fraction → Fraction) → ((p q : Pair) → f (mk p) (mk q) ≡ g (mk p) (mk q)) → (a b : Fraction) → f a b ≡ g a b
at_two_pairs f g h a b = ind {r = Same} {β = λ a. f a b ≡ g a b} (λ a. Quot-set (f a b) (g a b)) (λ p. at_pairs (f (mk p)) (g (mk p)) (h p) b) a

pub at_three_pairs : (f g : Fraction → Fraction → Fraction → Fraction) → ((p q r : Pair) → f (mk p) (mk q) (mk r) ≡ g (mk p) (mk q) (mk r)) → (a b c : Fraction) → f a b c ≡ g a b c
at_three_pairs f g h a b c =
    ind {r = Same} {β = λ a. f a b c ≡ g a b c} (λ a. Quot-set (f a b c) (g a b c)) (λ p. at_two_pairs (f (mk p)) (g (mk p)) (h p) b c) a

-- the values of the solver's variables at three pairs
abbrev values : Pair → Pair → Pair → List ℤ
values p q r = p.num ∷ pos p.den ∷ q.num ∷ pos q.den ∷ r.num ∷ pos r.den ∷ []

pub add_assoc : (a b c : Fraction) → add (add a b) c ≡ add a (add b c)
unfolding add
add_assoc =
    at_three_pairs (λ a b c. add (add a b) c) (λ a b c. add a (add b c))
    (λ p q r. same (pair_sum (pair_sum p q) r) (pair_sum p (pair_sum q r)) (ring integers (values p q r)
    (((at 0 ⊗ at 3 ⊕ at 2 ⊗ at 1) ⊗ at 5 ⊕ at 4 ⊗ (at 1 ⊗ at 3)) ⊗ (at 1 ⊗ (at 3 ⊗ at 5)))
    ((at 0 ⊗ (at 3 ⊗ at 5) ⊕ (at 2 ⊗ at 5 ⊕ at 4 ⊗ at 3) ⊗ at 1) ⊗ (at 1 ⊗ at 3 ⊗ at 5)) refl))

pub add_comm : (a b : Fraction) → add a b ≡ add b a
unfolding add
add_comm =
    at_two_pairs (λ a b. add a b) (λ a b. add b a)
    (λ p q. same (pair_sum p q) (pair_sum q p) (ring integers (values p q q)
    ((at 0 ⊗ at 3 ⊕ at 2 ⊗ at 1) ⊗ (at 3 ⊗ at 1)) ((at 2 ⊗ at 1 ⊕ at 0 ⊗ at 3) ⊗ (at 1 ⊗ at 3)) refl))

pub add_zero : (a : Fraction) → add a zero_fraction ≡ a
unfolding add zero_fraction
add_zero =
    at_pairs (λ a. add a zero_fraction) (λ a. a)
    (λ p. same (pair_sum p (whole (pos 0))) p (ring integers (values p p p)
    ((at 0 ⊗ num (pos 1) ⊕ num (pos 0) ⊗ at 1) ⊗ at 1) (at 0 ⊗ (at 1 ⊗ num (pos 1))) refl))

pub add_negative : (a : Fraction) → add a (negative a) ≡ zero_fraction
unfolding add negative zero_fraction
add_negative =
    at_pairs (λ a. add a (negative a)) (λ a. zero_fraction)
    (λ p. same (pair_sum p (pair_negative p)) (whole (pos 0)) (ring integers (values p p p)
    ((at 0 ⊗ at 1 ⊕ minus (at 0) ⊗ at 1) ⊗ num (pos 1)) (num (pos 0) ⊗ (at 1 ⊗ at 1)) refl))

pub mul_assoc : (a b c : Fraction) → mul (mul a b) c ≡ mul a (mul b c)
unfolding mul
mul_assoc =
    at_three_pairs (λ a b c. mul (mul a b) c) (λ a b c. mul a (mul b c))
    (λ p q r. same (pair_product (pair_product p q) r) (pair_product p (pair_product q r)) (ring integers (values p q r)
    ((at 0 ⊗ at 2 ⊗ at 4) ⊗ (at 1 ⊗ (at 3 ⊗ at 5))) ((at 0 ⊗ (at 2 ⊗ at 4)) ⊗ (at 1 ⊗ at 3 ⊗ at 5)) refl))

pub mul_comm : (a b : Fraction) → mul a b ≡ mul b a
unfolding mul
mul_comm =
    at_two_pairs (λ a b. mul a b) (λ a b. mul b a)
    (λ p q. same (pair_product p q) (pair_product q p)
    (ring integers (values p q q) ((at 0 ⊗ at 2) ⊗ (at 3 ⊗ at 1)) ((at 2 ⊗ at 0) ⊗ (at 1 ⊗ at 3)) refl))

pub mul_one : (a : Fraction) → mul a one_fraction ≡ a
unfolding mul one_fraction
mul_one =
    at_pairs (λ a. mul a one_fraction) (λ a. a)
    (λ p. same (pair_product p (whole (pos 1))) p
    (ring integers (values p p p) ((at 0 ⊗ num (pos 1)) ⊗ at 1) (at 0 ⊗ (at 1 ⊗ num (pos 1))) refl))

pub mul_add : (a b c : Fraction) → mul a (add b c) ≡ add (mul a b) (mul a c)
unfolding add mul
mul_add =
    at_three_pairs (λ a b c. mul a (add b c)) (λ a b c. add (mul a b) (mul a c))
    (λ p q r. same (pair_product p (pair_sum q r)) (pair_sum (pair_product p q) (pair_product p r)) (ring integers (values p q r)
    ((at 0 ⊗ (at 2 ⊗ at 5 ⊕ at 4 ⊗ at 3)) ⊗ (at 1 ⊗ at 3 ⊗ (at 1 ⊗ at 5)))
    ((at 0 ⊗ at 2 ⊗ (at 1 ⊗ at 5) ⊕ at 0 ⊗ at 4 ⊗ (at 1 ⊗ at 3)) ⊗ (at 1 ⊗ (at 3 ⊗ at 5))) refl))

abbrev pub fractions : Ring Fraction
fractions = record {
  is_set = Quot-set;
  zero = zero_fraction;
  one = one_fraction;
  add = add;
  mul = mul;
  neg = negative;
  add_assoc = add_assoc;
  add_comm = add_comm;
  add_zero = add_zero;
  add_neg = add_negative;
  mul_assoc = mul_assoc;
  mul_comm = mul_comm;
  mul_one = mul_one;
  mul_add = mul_add;
}

-- ---- zero, and the reciprocal
product_zero : (z : ℤ) (d : ℕ) → 0 < d → z *ℤ pos d ≡ pos 0 → z ≡ pos 0
product_zero (pos zero) d h e = refl
product_zero (pos (suc n)) d h e = absurd (ne_of_gt (mul-pos (zero-lt-suc n) h) (ap up e))
product_zero (negsuc n) d h e =
    absurd (ne_of_gt (mul-pos (zero-lt-suc n) h) (ap up (sym (neg_ℤ-neg_ℤ (pos (suc n * d))) ∙ ap neg_ℤ e)))

not_opposite : (a b : ℕ) → 0 < a → pos a ≡ neg_ℤ (pos b) → ⊥
not_opposite a zero h e = ne_of_gt h (ap up e)
not_opposite a (suc b) h e = pos-ne-negsuc a b e

abbrev pub is_nought : ℤ → Bool
is_nought (pos zero) = true
is_nought (pos (suc n)) = false
is_nought (negsuc n) = false

pub nought : (z : ℤ) → is_nought z ≡ true → z ≡ pos 0
nought (pos zero) e = refl
nought (pos (suc n)) e = cc
nought (negsuc n) e = cc

same_nought : (p q : Pair) → Same p q → is_nought p.num ≡ true → is_nought q.num ≡ true
same_nought p q h e =
    ap is_nought (product_zero q.num p.den p.positive (sym h ∙ ap (λ z. z *ℤ pos q.den) (nought p.num e) ∙ zero-*ℤ (pos q.den)))

equal_tests : (a b : Bool) → (a ≡ true → b ≡ true) → (b ≡ true → a ≡ true) → a ≡ b
equal_tests true b f g = sym (f refl)
equal_tests false true f g = g refl
equal_tests false false f g = refl

pub same_noughts : (p q : Pair) → Same p q → is_nought p.num ≡ is_nought q.num
same_noughts p q h = equal_tests (is_nought p.num) (is_nought q.num) (same_nought p q h) (same_nought q p (sym h))

unfoldable pub is_zero_fraction : Fraction → Bool
is_zero_fraction = lift Bool-set (λ p. is_nought p.num) same_noughts

-- equal fractions have equal cross products
pub cross_products : (p q : Pair) → ◌≡◌ {A = Fraction} (mk p) (mk q) → Same p q
unfolding is_zero_fraction add negative zero_fraction
cross_products p q e =
    let difference : add (mk p) (negative (mk q)) ≡ zero_fraction = ap (λ x. add x (negative (mk q))) e ∙ add_negative (mk q) in
    let top : p.num *ℤ pos q.den +ℤ neg_ℤ q.num *ℤ pos p.den ≡ pos 0 = nought (p.num *ℤ pos q.den +ℤ neg_ℤ q.num *ℤ pos p.den) (ap is_zero_fraction difference) in
    ring_from integers (values p q q) (at 0 ⊗ at 3) (at 2 ⊗ at 1) (num (pos 1)) (at 0 ⊗ at 3 ⊕ minus (at 2) ⊗ at 1) (num (pos 0)) top refl

abbrev pub inverse_parts : ℤ → ℕ → Pair
inverse_parts (pos zero) d = whole (pos 0)
inverse_parts (pos (suc n)) d = record { num = pos d; den = suc n; positive = zero-lt-suc n }
inverse_parts (negsuc n) d = record { num = neg_ℤ (pos d); den = suc n; positive = zero-lt-suc n }

pub inverse_same : (a : ℤ) (d : ℕ) (b : ℤ) (f : ℕ) → 0 < d → 0 < f → a *ℤ pos f ≡ b *ℤ pos d → Same (inverse_parts a d) (inverse_parts b f)
inverse_same (pos zero) d (pos zero) f hd hf e = refl
inverse_same (pos zero) d (pos (suc m)) f hd hf e = absurd (ne_of_gt (mul-pos (zero-lt-suc m) hd) (ap up (sym e ∙ zero-*ℤ (pos f))))
inverse_same (pos zero) d (negsuc m) f hd hf e = absurd (not_opposite (suc m * d) 0 (mul-pos (zero-lt-suc m) hd) (sym (neg_ℤ-neg_ℤ (pos (suc m * d))) ∙ ap neg_ℤ (sym e ∙ zero-*ℤ (pos f))))
inverse_same (pos (suc n)) d (pos zero) f hd hf e = absurd (ne_of_gt (mul-pos (zero-lt-suc n) hf) (ap up (e ∙ zero-*ℤ (pos d))))
inverse_same (pos (suc n)) d (pos (suc m)) f hd hf e =
    ring_from integers (pos (suc n) ∷ pos d ∷ pos (suc m) ∷ pos f ∷ []) (at 1 ⊗ at 2) (at 3 ⊗ at 0) (num (negsuc 0)) (at 0 ⊗ at 3) (at 2 ⊗ at 1) e refl
inverse_same (pos (suc n)) d (negsuc m) f hd hf e = absurd (not_opposite (suc n * f) (suc m * d) (mul-pos (zero-lt-suc n) hf) e)
inverse_same (negsuc n) d (pos zero) f hd hf e = absurd (not_opposite (suc n * f) 0 (mul-pos (zero-lt-suc n) hf) (sym (neg_ℤ-neg_ℤ (pos (suc n * f))) ∙ ap neg_ℤ (e ∙ zero-*ℤ (pos d))))
inverse_same (negsuc n) d (pos (suc m)) f hd hf e = absurd (not_opposite (suc m * d) (suc n * f) (mul-pos (zero-lt-suc m) hd) (sym e))
inverse_same (negsuc n) d (negsuc m) f hd hf e =
    ring_from integers (pos (suc n) ∷ pos d ∷ pos (suc m) ∷ pos f ∷ []) (minus (at 1) ⊗ at 2) (minus (at 3) ⊗ at 0) (num (negsuc 0)) (minus (at 0) ⊗ at 3) (minus (at 2) ⊗ at 1) e refl

-- 1/x, and 0 at 0
unfoldable pub inverse : Fraction → Fraction
inverse = lift Quot-set (λ p. mk (inverse_parts p.num p.den)) (λ p q h. sound (inverse_same p.num p.den q.num q.den p.positive q.positive h))

inverse_pair : (a : ℤ) (d : ℕ) (h : 0 < d) → is_nought a ≡ false → Same (pair_product (record { num = a; den = d; positive = h }) (inverse_parts a d)) (whole (pos 1))
inverse_pair (pos zero) d h e = cc
inverse_pair (pos (suc n)) d h e = ring integers (pos (suc n) ∷ pos d ∷ []) (at 0 ⊗ at 1 ⊗ num (pos 1)) (num (pos 1) ⊗ (at 1 ⊗ at 0)) refl
inverse_pair (negsuc n) d h e = ring integers (pos (suc n) ∷ pos d ∷ []) (minus (at 0) ⊗ minus (at 1) ⊗ num (pos 1)) (num (pos 1) ⊗ (at 1 ⊗ at 0)) refl

pub mul_inverse : (a : Fraction) → is_zero_fraction a ≡ false → mul a (inverse a) ≡ one_fraction
unfolding is_zero_fraction mul inverse one_fraction
mul_inverse a =
    ind {r = Same} {β = λ a. is_zero_fraction a ≡ false → mul a (inverse a) ≡ one_fraction}
    (λ a. Π_prop (λ _. Quot-set (mul a (inverse a)) one_fraction))
    (λ p e. same (pair_product p (inverse_parts p.num p.den)) (whole (pos 1)) (inverse_pair p.num p.den p.positive e)) a

-- ---- sign and absolute value
abbrev pub below_nought : ℤ → Bool
below_nought (pos n) = false
below_nought (negsuc n) = true

same_side : (a : ℤ) (d : ℕ) (b : ℤ) (f : ℕ) → 0 < d → 0 < f → a *ℤ pos f ≡ b *ℤ pos d → below_nought a ≡ below_nought b
same_side (pos n) d (pos m) f hd hf e = refl
same_side (pos n) d (negsuc m) f hd hf e = absurd (not_opposite (suc m * d) (n * f) (mul-pos (zero-lt-suc m) hd) (sym (neg_ℤ-neg_ℤ (pos (suc m * d))) ∙ ap neg_ℤ (sym e)))
same_side (negsuc n) d (pos m) f hd hf e = absurd (not_opposite (suc n * f) (m * d) (mul-pos (zero-lt-suc n) hf) (sym (neg_ℤ-neg_ℤ (pos (suc n * f))) ∙ ap neg_ℤ e))
same_side (negsuc n) d (negsuc m) f hd hf e = refl

pub same_sides : (p q : Pair) → Same p q → below_nought p.num ≡ below_nought q.num
same_sides p q h = same_side p.num p.den q.num q.den p.positive q.positive h

unfoldable pub is_below_zero : Fraction → Bool
is_below_zero = lift Bool-set (λ p. below_nought p.num) same_sides

abbrev pub when : Bool → Fraction → Fraction → Fraction
when true x y = x
when false x y = y

-- the absolute value
abbrev pub absolute : Fraction → Fraction
absolute a = when (is_below_zero a) (negative a) a
