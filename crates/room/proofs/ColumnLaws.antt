-- Columns are over the stated numbers, and their steps don't pass
use Rattle.std.proofs.Common.{◌≡◌, ℕ, suc, ◌-◌, ◌*◌, ◌^◌, ◌<◌, ◌≤◌, refl, sym, ◌∙◌, ap, subst, arith, List, [], ◌∷◌, map, length, true, false, Bool, if◌then◌else◌, nat_lt}
use Rattle.std.specs.List.{AllByRecursion, flat_map}
use Rattle.std.proofs.lemmas.List.{length-map}
use native.Mathlib.Nat as N
use Rattle.algebra.specs.Fraction.{Fraction, fractions, zero_fraction, mul, absolute, is_zero_fraction}
use Rattle.algebra.specs.RingLaws as L
use Rattle.calculus.specs.Simplex.{Simplex, volume}
use Rattle.calculus.specs.Jacobian.{inverse_jacobian}
use Rattle.algebra.specs.Over.{Over}
use Rattle.room.specs.Room.{cofactor_bound, whole_volume}
use Rattle.room.specs.declared.numbers.CellNumbers.{CellNumbers}
use Rattle.room.specs.Steps.{Product, StepFits, StepsFit}
use Rattle.room.specs.Numbered.{AllOver, IsNumbered}
use Rattle.room.specs.Columns.{extended, extended_steps, repeated, repeated_steps, grown, grown_steps, weighted, weighted_steps, column_values, column_steps, column_denominator, derived_numerator, column_numerator}
use Rattle.refint.specs.Reference.{growths}
use Rattle.algebra.proofs.OverLaws.{over_at, over_product, over_zero}
use Rattle.algebra.proofs.OverSteps.{product_fits}
use Rattle.room.proofs.Lists.{all_append, all_below}
use Rattle.room.proofs.VolumeLaws.{absolute_over, growth_over, first_over, whole_positive}

-- ---- what holds of each pair of items
pub all_map : {Y Z : Type 0} (Q : Y → Type 0) (S : Z → Type 0) (f : Y → Z) → ((y : Y) → Q y → S (f y)) → (ys : List Y) → AllByRecursion Q ys → AllByRecursion S (map f ys)
all_map Q S f h [] b = tt
all_map Q S f h (y ∷ ys) b = (h y b.0, all_map Q S f h ys b.1)

pub all_pairs : {X Y Z : Type 0} (P : X → Type 0) (Q : Y → Type 0) (S : Z → Type 0) (f : X → Y → Z) → ((x : X) (y : Y) → P x → Q y → S (f x y)) → (xs : List X) (ys : List Y)
    → AllByRecursion P xs → AllByRecursion Q ys → AllByRecursion S (flat_map (λ x. map (f x) ys) xs)
all_pairs P Q S f h [] ys a b = tt
all_pairs P Q S f h (x ∷ xs) ys a b = all_append S (map (f x) ys) (flat_map (λ x. map (f x) ys) xs) (all_map Q S (f x) (λ y q. h x y a.0 q) ys b) (all_pairs P Q S f h xs ys a.1 b)

pub extended_over : (l m b c : ℕ) (xs ys : List Fraction) → AllOver l b xs → AllOver m c ys → AllOver (l * m) (b * c) (extended xs ys)
extended_over l m b c = all_pairs (Over l b) (Over m c) (Over (l * m) (b * c)) mul (over_product l m b c)

pub repeated_over : (l m b c : ℕ) (xs ys : List Fraction) → AllOver l b xs → AllOver m c ys → AllOver (l * m) (b * c) (repeated xs ys)
repeated_over l m b c xs ys o p = all_pairs (Over m c) (Over l b) (Over (l * m) (b * c)) (λ y x. mul x y) (λ y x p o. over_product l m b c x y o p) ys xs p o

pub product_step : (l m b c : ℕ) → l * m < 2 ^ 127 → b * c < 2 ^ 127 → (x y : Fraction) → Over l b x → Over m c y → StepFits (Product x y)
product_step l m b c g h x y o p = product_fits (l * m) (b * c) x y g h (over_product l m b c x y o p)

pub extended_fit : (l m b c : ℕ) (xs ys : List Fraction) → l * m < 2 ^ 127 → b * c < 2 ^ 127 → AllOver l b xs → AllOver m c ys → StepsFit (extended_steps xs ys)
extended_fit l m b c xs ys g h = all_pairs (Over l b) (Over m c) StepFits (λ x y. Product x y) (product_step l m b c g h) xs ys

pub repeated_fit : (l m b c : ℕ) (xs ys : List Fraction) → l * m < 2 ^ 127 → b * c < 2 ^ 127 → AllOver l b xs → AllOver m c ys → StepsFit (repeated_steps xs ys)
repeated_fit l m b c xs ys g h o p = all_pairs (Over m c) (Over l b) StepFits (λ y x. Product x y) (λ y x p o. product_step l m b c g h x y o p) ys xs p o

-- ---- factors one after the other
one_more : (l m n : ℕ) → l * m * m ^ n ≡ l * m ^ suc n
one_more l m n = N.mul_assoc l m (m ^ n) ∙ ap (λ k. l * k) (sym (N.pow-succ' m n))

one_less : (l m n : ℕ) → 0 < m → l * m ^ suc n < 2 ^ 127 → l * m < 2 ^ 127
one_less l m n h g = N.lt_of_le_of_lt (grow (l * m) (m ^ n) (N.one-le-pow n m h)) (subst (λ k. k < 2 ^ 127) (sym (one_more l m n)) g)
  where
    grow : (a b : ℕ) → 1 ≤ b → a ≤ a * b
    grow a b h = subst (λ k. k ≤ a * b) (N.mul-one a) (N.mul-le-mul_left a h)

pub all_same : (l b m c : ℕ) (xs : List Fraction) → l ≡ m → b ≡ c → AllOver l b xs → AllOver m c xs
all_same l b m c xs e f a = subst (λ n. AllOver n c xs) e (subst (λ n. AllOver l n xs) f a)

none : (l m : ℕ) → l ≡ l * m ^ 0
none l m = sym (ap (λ k. l * k) (N.pow-zero m) ∙ N.mul-one l)

abbrev pub EachOver : ℕ → ℕ → List (List Fraction) → Type 0
EachOver m c = AllByRecursion (AllOver m c)

pub grown_over : (l m b c : ℕ) (xs : List Fraction) (fs : List (List Fraction)) → AllOver l b xs → EachOver m c fs → AllOver (l * m ^ length fs) (b * c ^ length fs) (grown xs fs)
grown_over l m b c xs [] o p = all_same l b (l * m ^ 0) (b * c ^ 0) xs (none l m) (none b c) o
grown_over l m b c xs (f ∷ fs) o p =
    all_same (l * m * m ^ length fs) (b * c * c ^ length fs) (l * m ^ suc (length fs)) (b * c ^ suc (length fs)) (grown (extended xs f) fs) (one_more l m (length fs)) (one_more b c (length fs))
    (grown_over (l * m) m (b * c) c (extended xs f) fs (extended_over l m b c xs f o p.0) p.1)

at_first : (a b : ℕ) → 1 ≤ b → a * b < 2 ^ 127 → a < 2 ^ 127
at_first a b h k = N.lt_of_le_of_lt (subst (λ i. i ≤ a * b) (N.mul-one a) (N.mul-le-mul_left a h)) k

at_end : (l m n : ℕ) → l * m ^ n * m ≡ l * m ^ suc n
at_end l m n = N.mul_assoc l (m ^ n) m ∙ ap (λ k. l * k) (sym (N.pow-suc m n))

pub weighted_over : (l m b c : ℕ) (xs : List Fraction) (fs : List (List Fraction)) → AllOver l b xs → EachOver m c fs → AllOver (l * m ^ length fs) (b * c ^ length fs) (weighted xs fs)
weighted_over l m b c xs [] o p = all_same l b (l * m ^ 0) (b * c ^ 0) xs (none l m) (none b c) o
weighted_over l m b c xs (f ∷ fs) o p =
    all_same (l * m ^ length fs * m) (b * c ^ length fs * c) (l * m ^ suc (length fs)) (b * c ^ suc (length fs)) (repeated (weighted xs fs) f) (at_end l m (length fs)) (at_end b c (length fs))
    (repeated_over (l * m ^ length fs) m (b * c ^ length fs) c (weighted xs fs) f (weighted_over l m b c xs fs o p.1) p.0)

-- the last product bounds those before it
pub grown_fit : (l m b c : ℕ) (xs : List Fraction) (fs : List (List Fraction)) → 0 < m → 0 < c → l * m ^ length fs < 2 ^ 127 → b * c ^ length fs < 2 ^ 127
    → AllOver l b xs → EachOver m c fs → StepsFit (grown_steps xs fs)
grown_fit l m b c xs [] sm sc g h o p = tt
grown_fit l m b c xs (f ∷ fs) sm sc g h o p =
    all_append StepFits (extended_steps xs f) (grown_steps (extended xs f) fs)
    (extended_fit l m b c xs f (one_less l m (length fs) sm g) (one_less b c (length fs) sc h) o p.0)
    (grown_fit (l * m) m (b * c) c (extended xs f) fs sm sc (subst (λ k. k < 2 ^ 127) (sym (one_more l m (length fs))) g) (subst (λ k. k < 2 ^ 127) (sym (one_more b c (length fs))) h)
    (extended_over l m b c xs f o p.0) p.1)

less_than_end : (l m n : ℕ) → 0 < m → l * m ^ suc n < 2 ^ 127 → l * m ^ n < 2 ^ 127
less_than_end l m n s h = at_first (l * m ^ n) m s (subst (λ k. k < 2 ^ 127) (sym (at_end l m n)) h)

pub weighted_fit : (l m b c : ℕ) (xs : List Fraction) (fs : List (List Fraction)) → 0 < m → 0 < c → l * m ^ length fs < 2 ^ 127 → b * c ^ length fs < 2 ^ 127
    → AllOver l b xs → EachOver m c fs → StepsFit (weighted_steps xs fs)
weighted_fit l m b c xs [] sm sc g h o p = tt
weighted_fit l m b c xs (f ∷ fs) sm sc g h o p =
    all_append StepFits (weighted_steps xs fs) (repeated_steps (weighted xs fs) f)
    (weighted_fit l m b c xs fs sm sc (less_than_end l m (length fs) sm g) (less_than_end b c (length fs) sc h) o p.1)
    (repeated_fit (l * m ^ length fs) m (b * c ^ length fs) c (weighted xs fs) f (subst (λ k. k < 2 ^ 127) (sym (at_end l m (length fs))) g) (subst (λ k. k < 2 ^ 127) (sym (at_end b c (length fs))) h)
    (weighted_over l m b c xs fs o p.1) p.0)

before : (n : ℕ) → n ≡ suc n - 1
before n = omega arith

-- ---- on a cell
-- how a reference coordinate grows: over V, and times the absolute volume factor over D^d
pub record IsGrowth (c : CellNumbers) (v : Simplex) (y : Fraction) : Type 0 where
  pub own : Over (whole_volume c v) (cofactor_bound c * c.dd) y
  pub first : Over (c.dd ^ c.d) (cofactor_bound c * c.dd) (mul (absolute (volume v)) y)

abbrev pub AreGrowths : CellNumbers → Simplex → List (List Fraction) → Type 0
AreGrowths c v = AllByRecursion (AllByRecursion (IsGrowth c v))

module _ (c : CellNumbers) (v : Simplex) (w : List Fraction) (n : IsNumbered c v w) (some : is_zero_fraction (volume v) ≡ false) where
  cofactor_growth : (i a : ℕ) → IsGrowth c v (inverse_jacobian v a i)
  unfolding inverse_jacobian
  cofactor_growth i a = record { own = growth_over c v w n some i a; first = first_over c v w n some i a }

  zero_growth : IsGrowth c v zero_fraction
  zero_growth = record {
    own = over_zero (whole_volume c v) (cofactor_bound c * c.dd) (whole_positive c v w n some);
    first = over_at (c.dd ^ c.d) (cofactor_bound c * c.dd) zero_fraction (mul (absolute (volume v)) zero_fraction) (sym (L.mul-zero fractions (absolute (volume v))))
        (over_zero (c.dd ^ c.d) (cofactor_bound c * c.dd) (N.one-le-pow c.d c.dd n.dd));
  }

  pub all_growths : (i : ℕ) → AllByRecursion (IsGrowth c v) (growths c.d v i)
  all_growths i = all_below (IsGrowth c v) (λ a. if nat_lt i c.d then inverse_jacobian v a i else zero_fraction) c.d (λ a h. chosen (nat_lt i c.d) a)
    where
      chosen : (t : Bool) (a : ℕ) → IsGrowth c v (if t then inverse_jacobian v a i else zero_fraction)
      chosen true a = cofactor_growth i a
      chosen false a = zero_growth

  pub are_growths : (is : List ℕ) → AreGrowths c v (map (growths c.d v) is)
  are_growths [] = tt
  are_growths (i ∷ is) = (all_growths i, are_growths is)

  alone : AllOver (c.dd ^ c.d) (whole_volume c v) (absolute (volume v) ∷ [])
  alone = (absolute_over c v w n, tt)

  firsts : (f : List Fraction) → AllByRecursion (IsGrowth c v) f → AllOver (c.dd ^ c.d) (cofactor_bound c * c.dd) (extended (absolute (volume v) ∷ []) f)
  firsts f g =
      all_append (Over (c.dd ^ c.d) (cofactor_bound c * c.dd)) (map (λ y. mul (absolute (volume v)) y) f) []
      (all_map (IsGrowth c v) (Over (c.dd ^ c.d) (cofactor_bound c * c.dd)) (λ y. mul (absolute (volume v)) y) (λ y h. h.first) f g) tt

  own : (f : List Fraction) → AllByRecursion (IsGrowth c v) f → AllOver (whole_volume c v) (cofactor_bound c * c.dd) f
  own [] g = tt
  own (y ∷ f) g = (g.0.own, own f g.1)

  owns : (fs : List (List Fraction)) → AreGrowths c v fs → EachOver (whole_volume c v) (cofactor_bound c * c.dd) fs
  owns [] g = tt
  owns (f ∷ fs) g = (own f g.0, owns fs g.1)

  -- the absolute volume factor times r derivative factors
  pub derived_over : (fs : List (List Fraction)) → AreGrowths c v fs → AllOver (c.dd ^ c.d * whole_volume c v ^ (length fs - 1)) (derived_numerator c v (length fs)) (grown (absolute (volume v) ∷ []) fs)
  derived_over [] g = all_same (c.dd ^ c.d) (whole_volume c v) (c.dd ^ c.d * whole_volume c v ^ 0) (whole_volume c v) (absolute (volume v) ∷ []) (none (c.dd ^ c.d) (whole_volume c v)) refl alone
  derived_over (f ∷ fs) g =
      all_same (c.dd ^ c.d * whole_volume c v ^ length fs) (cofactor_bound c * c.dd * (cofactor_bound c * c.dd) ^ length fs) (c.dd ^ c.d * whole_volume c v ^ (suc (length fs) - 1)) ((cofactor_bound c * c.dd) ^ suc (length fs))
      (grown (extended (absolute (volume v) ∷ []) f) fs) (ap (λ k. c.dd ^ c.d * whole_volume c v ^ k) (before (length fs))) (sym (N.pow-succ' (cofactor_bound c * c.dd) (length fs)))
      (grown_over (c.dd ^ c.d) (whole_volume c v) (cofactor_bound c * c.dd) (cofactor_bound c * c.dd) (extended (absolute (volume v) ∷ []) f) fs (firsts f g.0) (owns fs g.1))

  -- and with their steps
  pub derived_fit : (fs : List (List Fraction)) → AreGrowths c v fs → 0 < cofactor_bound c → c.dd ^ c.d * whole_volume c v ^ (length fs - 1) < 2 ^ 127 → derived_numerator c v (length fs) < 2 ^ 127
      → StepsFit (grown_steps (absolute (volume v) ∷ []) fs)
  derived_fit [] g sc h k = tt
  derived_fit (f ∷ fs) g sc h k =
      let low : c.dd ^ c.d * whole_volume c v ^ length fs < 2 ^ 127 = subst (λ i. c.dd ^ c.d * whole_volume c v ^ i < 2 ^ 127) (sym (before (length fs))) h in
      let high : cofactor_bound c * c.dd * (cofactor_bound c * c.dd) ^ length fs < 2 ^ 127 = subst (λ i. i < 2 ^ 127) (N.pow-succ' (cofactor_bound c * c.dd) (length fs)) k in
      let some_growth : 0 < cofactor_bound c * c.dd = N.mul-pos sc n.dd in
      all_append StepFits (extended_steps (absolute (volume v) ∷ []) f) (grown_steps (extended (absolute (volume v) ∷ []) f) fs)
      (all_append StepFits (map (λ y. Product (absolute (volume v)) y) f) []
      (all_map (IsGrowth c v) StepFits (λ y. Product (absolute (volume v)) y)
      (λ y q. product_fits (c.dd ^ c.d) (cofactor_bound c * c.dd) (absolute (volume v)) y (at_first (c.dd ^ c.d) (whole_volume c v ^ length fs) (N.one-le-pow (length fs) (whole_volume c v) (whole_positive c v w n some)) low)
      (at_first (cofactor_bound c * c.dd) ((cofactor_bound c * c.dd) ^ length fs) (N.one-le-pow (length fs) (cofactor_bound c * c.dd) some_growth) high) q.first) f g.0) tt)
      (grown_fit (c.dd ^ c.d) (whole_volume c v) (cofactor_bound c * c.dd) (cofactor_bound c * c.dd) (extended (absolute (volume v) ∷ []) f) fs (whole_positive c v w n some) some_growth low high (firsts f g.0) (owns fs g.1))

  derived : (is : List ℕ) → AllOver (c.dd ^ c.d * whole_volume c v ^ (length is - 1)) (derived_numerator c v (length is)) (grown (absolute (volume v) ∷ []) (map (growths c.d v) is))
  derived is =
      subst (λ k. AllOver (c.dd ^ c.d * whole_volume c v ^ (k - 1)) (derived_numerator c v k) (grown (absolute (volume v) ∷ []) (map (growths c.d v) is))) (length-map is (growths c.d v))
      (derived_over (map (growths c.d v) is) (are_growths is))

  -- r derivative factors, then i values
  pub columns_over : (is : List ℕ) (ws : List (List Fraction)) → EachOver c.dw c.nw ws → AllOver (column_denominator c v (length is) (length ws)) (column_numerator c v (length is) (length ws)) (column_values c.d v is ws)
  columns_over is ws h =
      weighted_over (c.dd ^ c.d * whole_volume c v ^ (length is - 1)) c.dw (derived_numerator c v (length is)) c.nw (grown (absolute (volume v) ∷ []) (map (growths c.d v) is)) ws (derived is) h

  pub columns_fit : (is : List ℕ) (ws : List (List Fraction)) → EachOver c.dw c.nw ws → 0 < cofactor_bound c
      → column_denominator c v (length is) (length ws) < 2 ^ 127 → column_numerator c v (length is) (length ws) < 2 ^ 127 → StepsFit (column_steps c.d v is ws)
  columns_fit is ws e sc h k =
      all_append StepFits (grown_steps (absolute (volume v) ∷ []) (map (growths c.d v) is)) (weighted_steps (grown (absolute (volume v) ∷ []) (map (growths c.d v) is)) ws)
      (derived_fit (map (growths c.d v) is) (are_growths is) sc
      (subst (λ r. c.dd ^ c.d * whole_volume c v ^ (r - 1) < 2 ^ 127) (sym (length-map is (growths c.d v))) (at_first (c.dd ^ c.d * whole_volume c v ^ (length is - 1)) (c.dw ^ length ws) (N.one-le-pow (length ws) c.dw n.dw) h))
      (subst (λ r. derived_numerator c v r < 2 ^ 127) (sym (length-map is (growths c.d v))) (at_first (derived_numerator c v (length is)) (c.nw ^ length ws) (N.one-le-pow (length ws) c.nw n.nw) k)))
      (weighted_fit (c.dd ^ c.d * whole_volume c v ^ (length is - 1)) c.dw (derived_numerator c v (length is)) c.nw (grown (absolute (volume v) ∷ []) (map (growths c.d v) is)) ws n.dw n.nw h k (derived is) e)
