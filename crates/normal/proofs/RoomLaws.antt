-- What keeps steps on coefficients, and numbers of derivatives, from passing
use Rattle.std.proofs.Common.{◌≡◌, ℕ, zero, suc, ◌+◌, ◌*◌, ◌^◌, ◌<◌, ◌≤◌, Bool, true, false, List, [], ◌∷◌, ◌++◌, length, get_or, slice_index, None, Some, if◌then◌else◌, IsPermutation, refl, sym, ◌∙◌, ap, subst, ◌⊎◌, inl, inr, arith}
use Rattle.std.proofs.lemmas.Bool.{cases_lt}
use Rattle.std.specs.List.{AllByRecursion}
use native.Mathlib.Nat as N
use Prim.Native.Nat.{◌∣◌}
use Rattle.algebra.specs.Fraction.{Fraction, add, is_zero_fraction}
use Rattle.algebra.specs.LowestTerms.{bottom}
use Rattle.algebra.specs.Over.{Over}
use Rattle.algebra.specs.Steps.{product, sum}
use Rattle.algebra.proofs.OverLaws.{over_weaken, over_product, over_positive}
use Rattle.algebra.proofs.OverSteps.{product_fits, sum_fits_over}
use Rattle.ratio.specs.Value.{fraction_of}
use Rattle.ufl_tree.specs.declared.function.Function.{Function}
use Rattle.monos.specs.Monomial.{Monomial, monomial_of, monomials_of, derivative_count, derivatives}
use Rattle.monos.specs.declared.mono.Atom.{Atom}
use Rattle.monos.specs.declared.mono.Mono.{Mono}
use Rattle.weigh.specs.Numerators.{size_over}
use Rattle.weigh.specs.Lists.{costs, spread, load, loads, IsOver}
use Rattle.weigh.proofs.ListLaws.{weighed_sorted, weighed_dropped, weighed_merged}
use Rattle.weigh.proofs.NumeratorLaws.{over_multiple}
use Rattle.normal.specs.Collecting.{same_atoms, AreReordered, HasNoZero}
use Rattle.normal.specs.Gathering.{HasRoom, HaveRoom, AllOver, AreFew}
use Rattle.normal.proofs.CollectingLaws.{same_atoms_equal}
use Rattle.normal.proofs.CollectedWeights.{weighed_reordered}
use Rattle.normal.proofs.MergedSteps.{with_sum, last_of, MergedTo}

-- ---- arithmetic
power_positive : (b n : ℕ) → 1 ≤ b → 1 ≤ b ^ n
power_positive b zero h = subst (λ k. 1 ≤ k) (sym (N.pow-zero b)) (N.le_refl 1)
power_positive b (suc n) h = subst (λ k. 1 ≤ k) (sym (N.pow-suc b n)) (N.mul-pos (power_positive b n h) h)

first_part : (a b c t : ℕ) → a ≤ b → b + c ≤ t → a ≤ t
first_part a b c t h k = omega (arith, h, k)

rest_part : (b c t : ℕ) → b + c ≤ t → c ≤ t
rest_part b c t h = omega (arith, h)

two_parts : (a b c d e t : ℕ) → a ≤ b → c ≤ d → b + (d + e) ≤ t → a + c ≤ t
two_parts a b c d e t h k l = omega (arith, h, k, l)

small_power : (r t : ℕ) → 3 ^ r ≤ t → t < 2 ^ 127 → r < 255
small_power r t h k = side (cases_lt r 255)
  where
    two : 2 ^ r ≤ 3 ^ r
    two = N.pow-le-pow_left (omega arith) r

    side : (r < 255) ⊎ (255 ≤ r) → r < 255
    side (inl p) = p
    side (inr p) =
        let q : 127 ≤ r = omega (arith, p) in
        let high : 2 ^ 127 ≤ 2 ^ r = N.pow-le-pow_right (omega arith) q in
        absurd (N.lt_irrefl (2 ^ 127) (N.lt_of_le_of_lt (N.le_trans high (N.le_trans two h)) k))

module _ (cost : Function → ℕ) (d : ℕ) (some_cost : (f : Function) → 1 ≤ cost f) (some_d : 1 ≤ d) where
  costs_positive : (xs : List Atom) → 1 ≤ costs cost xs
  costs_positive [] = N.le_refl 1
  costs_positive (x ∷ xs) = N.mul-pos (some_cost x.f) (costs_positive xs)

  spread_positive : (m : Monomial) → 1 ≤ spread cost d m
  spread_positive m = N.mul-pos (costs_positive m.atoms) (power_positive d (derivatives m.atoms) some_d)

  size_below : (l : ℕ) (m : Monomial) → size_over l m.c ≤ load cost d l m
  size_below l m =
      N.le_trans (N.le-mul_of_pos_right (size_over l m.c) (power_positive 3 (derivatives m.atoms) (omega arith)))
      (N.le-mul_of_pos_right (size_over l m.c * 3 ^ derivatives m.atoms) (spread_positive m))

  pub all_over : (l t : ℕ) → 1 ≤ l → (ms : List Monomial) → AllByRecursion (IsOver l) ms → loads cost d l ms ≤ t → AllOver l t ms
  all_over l t p [] o h = tt
  all_over l t p (m ∷ ms) o h = (
    over_weaken l (size_over l m.c) t m.c (first_part _ _ _ t (size_below l m) h) (over_multiple l m.c p o.0),
    all_over l t p ms o.1 (rest_part _ _ t h),
  )

  two_fit : (l t : ℕ) → 1 ≤ l → l < 2 ^ 127 → t < 2 ^ 127 → (m n : Monomial) (ms : List Monomial) → bottom m.c ∣ l → bottom n.c ∣ l → loads cost d l (m ∷ n ∷ ms) ≤ t
      → sum m.c n.c ≡ Some (add m.c n.c)
  two_fit l t p q r m n ms g h k =
      sum_fits_over l (size_over l m.c) (size_over l n.c) m.c n.c q
      (N.lt_of_le_of_lt (two_parts _ _ _ _ _ t (size_below l m) (size_below l n) k) r) (over_multiple l m.c p g) (over_multiple l n.c p h)

  -- ---- what isn't 0 has few derivatives
  some_size : (l : ℕ) → 1 ≤ l → (x : Fraction) → bottom x ∣ l → is_zero_fraction x ≡ false → 1 ≤ size_over l x
  some_size l p x h e = let o : Over l (size_over l x) x = over_multiple l x p h in N.le_trans (over_positive l (size_over l x) x o e) o.bound

  power_below : (l : ℕ) → 1 ≤ l → (m : Monomial) → bottom m.c ∣ l → is_zero_fraction m.c ≡ false → 3 ^ derivatives m.atoms ≤ load cost d l m
  power_below l p m h e =
      N.le_trans (subst (λ k. 3 ^ derivatives m.atoms ≤ k) (N.mul_comm (3 ^ derivatives m.atoms) (size_over l m.c)) (N.le-mul_of_pos_right (3 ^ derivatives m.atoms) (some_size l p m.c h e)))
      (N.le-mul_of_pos_right (size_over l m.c * 3 ^ derivatives m.atoms) (spread_positive m))

  pub few_derivatives : (l t : ℕ) → 1 ≤ l → t < 2 ^ 127 → (ms : List Monomial) → HasNoZero ms → AllByRecursion (IsOver l) ms → loads cost d l ms ≤ t → AreFew ms
  few_derivatives l t p q [] z o h = tt
  few_derivatives l t p q (m ∷ ms) z o h = (
    small_power (derivatives m.atoms) t (first_part _ _ _ t (power_below l p m o.0 z.0) h) q,
    few_derivatives l t p q ms z.1 o.1 (rest_part _ _ t h),
  )

-- ---- room for sums
pub room_sorted : (ms ns : List Monomial) → IsPermutation ms ns → HasRoom ms → HasRoom ns
room_sorted ms ns h r = record {
  cost = r.cost;
  d = r.d;
  l = r.l;
  s = r.s;
  t = r.t;
  costs = r.costs;
  directions = r.directions;
  some = r.some;
  weighed = weighed_sorted r.cost r.d r.l ms ns r.s r.t h r.weighed;
  small = r.small;
  few = r.few;
}

pub room_reordered : (ms ns : List Monomial) → AreReordered ms ns → HasRoom ms → HasRoom ns
room_reordered ms ns h r = record {
  cost = r.cost;
  d = r.d;
  l = r.l;
  s = r.s;
  t = r.t;
  costs = r.costs;
  directions = r.directions;
  some = r.some;
  weighed = weighed_reordered r.cost r.d r.l ms ns r.s r.t h r.weighed;
  small = r.small;
  few = r.few;
}

room_rest : (m : Monomial) (ms : List Monomial) → HasRoom (m ∷ ms) → HasRoom ms
room_rest m ms r = record {
  cost = r.cost;
  d = r.d;
  l = r.l;
  s = r.s;
  t = r.t;
  costs = r.costs;
  directions = r.directions;
  some = r.some;
  weighed = weighed_dropped r.cost r.d r.l m ms r.s r.t r.weighed;
  small = r.small;
  few = r.few;
}

room_merged : (m n : Monomial) (ms : List Monomial) → n.atoms ≡ m.atoms → HasRoom (m ∷ n ∷ ms) → HasRoom (with_sum m n ∷ ms)
room_merged m n ms e r =
    record {
      cost = r.cost;
      d = r.d;
      l = r.l;
      s = r.s;
      t = r.t;
      costs = r.costs;
      directions = r.directions;
      some = r.some;
      weighed = weighed_merged r.cost r.d r.l r.some m n (with_sum m n) ms r.s r.t (record { value = refl; first = refl; second = e }) r.weighed;
      small = r.small;
      few = r.few;
    }

abbrev Fits : Monomial → Monomial → Type 0
Fits m n = sum m.c n.c ≡ Some (add m.c n.c)

first_fits : (m n : Monomial) (ms : List Monomial) → HasRoom (m ∷ n ∷ ms) → Fits m n
first_fits m n ms r = two_fit r.cost r.d r.costs r.directions r.l r.t r.some r.small r.few m n ms (r.weighed.over).0 (r.weighed.over).1.0 r.weighed.total

last_fits : (m : Monomial) (ns : List Monomial) (x : Monomial) (rest : List Monomial) → HasRoom (m ∷ (ns ++ x ∷ rest)) → Fits (last_of m ns) x
last_fits m [] x rest r = first_fits m x rest r
last_fits m (n ∷ ns) x rest r =
    go (same_atoms m.atoms n.atoms) (λ e. last_fits (with_sum m n) ns x rest (room_merged m n (ns ++ x ∷ rest) (sym (same_atoms_equal m.atoms n.atoms e)) r))
    (last_fits n ns x rest (room_rest m (n ∷ (ns ++ x ∷ rest)) r)) refl
  where
    go : (b : Bool) → (same_atoms m.atoms n.atoms ≡ true → Fits (last_of (with_sum m n) ns) x) → Fits (last_of n ns) x → same_atoms m.atoms n.atoms ≡ b
        → Fits (if b then last_of (with_sum m n) ns else last_of n ns) x
    go true h k e = h e
    go false h k e = k

nothing : {A : Type 0} (x : A) → None ≡ Some x → ⊥
nothing x e = cc

pub merge_fits : (ys : List Monomial) (s x : Mono) (out rest : List Monomial) → MergedTo ys (Some s) out → HasRoom (ys ++ monomial_of x ∷ rest)
    → sum (fraction_of s.c) (fraction_of x.c) ≡ None → ⊥
merge_fits [] s x out rest h r e = something h.0
  where
    something : Some s ≡ None → ⊥
    something e = cc
merge_fits (m ∷ ns) s x out rest h r e =
    nothing _ (sym e ∙ subst (λ y. Fits y (monomial_of x)) (sym (ap monomial_of (waiting h.one h.some) ∙ h.is)) (last_fits m ns (monomial_of x) rest r))
  where
    waiting : (one : Mono) → Some s ≡ Some one → s ≡ one
    waiting one e = cc

-- ---- room for products
over_at : (l t : ℕ) (ms : List Mono) → AllOver l t (monomials_of ms) → (i : ℕ) (d : Mono) → i < length ms → Over l t (fraction_of (get_or ms i d).c)
over_at l t [] o i d h = absurd (omega (arith, h))
over_at l t (m ∷ ms) o zero d h = o.0
over_at l t (m ∷ ms) o (suc i) d h = over_at l t ms o.1 i d (omega (arith, h))

pub pair_fits : (ms ns : List Mono) (i k : ℕ) (m n : Mono) → i < length ms → k < length ns → m ≡ get_or ms i m → n ≡ get_or ns k n → HaveRoom (monomials_of ms) (monomials_of ns)
    → product (fraction_of m.c) (fraction_of n.c) ≡ None → ⊥
pair_fits ms ns i k m n h g e f r z =
    nothing _
    (sym z
    ∙ product_fits (r.l * r.j) (r.t * r.u) (fraction_of m.c) (fraction_of n.c) r.small r.few
    (over_product r.l r.j r.t r.u (fraction_of m.c) (fraction_of n.c)
    (subst (λ (y : Mono). Over r.l r.t (fraction_of y.c)) (sym e) (over_at r.l r.t ms r.left i m h))
    (subst (λ (y : Mono). Over r.j r.u (fraction_of y.c)) (sym f) (over_at r.j r.u ns r.right k n g))))

-- ---- room for derivatives
few_at : (ms : List Mono) → AreFew (monomials_of ms) → (i : ℕ) (d : Mono) → i < length ms → derivatives (get_or ms i d).atoms < 255
few_at [] o i d h = absurd (omega (arith, h))
few_at (m ∷ ms) o zero d h = o.0
few_at (m ∷ ms) o (suc i) d h = few_at ms o.1 i d (omega (arith, h))

pub not_many : (ms : List Mono) (i : ℕ) (m : Mono) → i < length ms → m ≡ get_or ms i m → AreFew (monomials_of ms) → 255 ≤ derivatives m.atoms → ⊥
not_many ms i m h e r k = (omega (arith, k, subst (λ (y : Mono). derivatives y.atoms < 255) (sym e) (few_at ms r i m h)))

in_direction : (a : Atom) (i : ℕ) → i < 3 → slice_index a.dirs i ≤ derivative_count a
in_direction a zero h = omega arith
in_direction a (suc zero) h = omega arith
in_direction a (suc (suc zero)) h = omega arith
in_direction a (suc (suc (suc i))) h = absurd (omega (arith, h))

pub counted_in : (xs : List Atom) (k : ℕ) (a : Atom) (i : ℕ) → k < length xs → a ≡ get_or xs k a → i < 3 → slice_index a.dirs i ≡ 255 → 255 ≤ derivatives xs
counted_in [] k a i h e p q = absurd (omega (arith, h))
counted_in (x ∷ xs) zero a i h e p q = (let s = in_direction a i p in let t : derivative_count a ≡ derivative_count x = ap derivative_count e in at _ _ _ _ q s t)
  where
    at : (n m j c : ℕ) → n ≡ 255 → n ≤ m → m ≡ j → 255 ≤ j + c
    at n m j c h k l = omega (arith, h, k, l)
counted_in (x ∷ xs) (suc k) a i h e p q = N.le_trans (counted_in xs k a i (omega (arith, h)) e p q) (behind (derivative_count x) (derivatives xs))
  where
    behind : (m n : ℕ) → n ≤ m + n
    behind m n = omega arith
