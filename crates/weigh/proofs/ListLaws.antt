-- What the steps of `normal` do to the weight of a list
use Rattle.std.proofs.Common.{◌≡◌, ℕ, zero, suc, ◌+◌, ◌*◌, ◌/◌, ◌^◌, ◌≤◌, List, [], ◌∷◌, ◌++◌, length, IsPermutation, sum_by, refl, sym, ◌∙◌, ap, ap₂, subst, subst₂, arith}
use Rattle.std.specs.List.{AllByRecursion}
use Rattle.std.proofs.lemmas.List.Elements.{All-from_recursion, recursion_from_All}
use Rattle.std.proofs.lemmas.List.Sorted.{All-permutation, sum_by-IsPermutation}
use Rattle.std.proofs.lemmas.List.Recursion.{is_sum_by}
use Rattle.std.proofs.lemmas.Nat.{pow-add}
use Prim.Native.Nat.{◌∣◌}
use native.Mathlib.Nat as N
use Rattle.algebra.specs.Fraction.{Fraction, add, mul}
use Rattle.algebra.specs.LowestTerms.{bottom}
use Rattle.ufl_tree.specs.declared.function.Function.{Function}
use Rattle.weigh.specs.Numerators.{size_over}
use Rattle.algebra.specs.Over.{Over}
use Rattle.monos.specs.Monomial.{Monomial}
use Rattle.monos.specs.declared.mono.Atom.{Atom}
use Rattle.weigh.specs.Lists.{costs, spread, load, spreads, loads, IsOver, IsWeighed, IsProduct, AreProducts, AllProducts, none, more, IsDerived, AllDerived, IsMerged}
use Rattle.monos.specs.Monomial.{derivatives}
use Rattle.weigh.proofs.LcmLaws.{times_of}
use Rattle.algebra.proofs.OverLaws.{over_lift, over_sum, over_product}
use Rattle.weigh.proofs.NumeratorLaws.{over_multiple, over_divides, over_size}

pub all_append : {A : Type 0} (P : A → Type 0) (xs ys : List A) → AllByRecursion P xs → AllByRecursion P ys → AllByRecursion P (xs ++ ys)
all_append P [] ys h k = k
all_append P (x ∷ xs) ys h k = (h.0, all_append P xs ys h.1 k)

-- ---- one coefficient
lifted_size : (l L : ℕ) (x : Fraction) → 1 ≤ l → 1 ≤ L → l ∣ L → bottom x ∣ l → size_over L x ≤ size_over l x * (L / l)
lifted_size l L x p q h k = at (L / l) (times_of l L h) positive
  where
    some : (n : ℕ) → L ≡ l * n → 1 ≤ n
    some zero e = let z : l * 0 ≡ 0 = N.mul-zero l in omega (arith, q, e, z)
    some (suc n) e = omega arith

    positive : 1 ≤ L / l
    positive = some (L / l) (times_of l L h)

    at : (n : ℕ) → L ≡ l * n → 1 ≤ n → size_over L x ≤ size_over l x * n
    at n e s = subst (λ M. size_over M x ≤ size_over l x * n) (sym e) (over_size (l * n) (size_over l x * n) x (over_lift l (size_over l x) n x s (over_multiple l x p k)))

product_size : (l m : ℕ) (x y : Fraction) → 1 ≤ l → 1 ≤ m → bottom x ∣ l → bottom y ∣ m → (bottom (mul x y) ∣ l * m) × (size_over (l * m) (mul x y) ≤ size_over l x * size_over m y)
product_size l m x y p q h k =
    let o : Over (l * m) (size_over l x * size_over m y) (mul x y) = over_product l m (size_over l x) (size_over m y) x y (over_multiple l x p h) (over_multiple m y q k) in
    (over_divides (l * m) (size_over l x * size_over m y) (mul x y) o, over_size (l * m) (size_over l x * size_over m y) (mul x y) o)

sum_size : (l : ℕ) (x y : Fraction) → 1 ≤ l → bottom x ∣ l → bottom y ∣ l → (bottom (add x y) ∣ l) × (size_over l (add x y) ≤ size_over l x + size_over l y)
sum_size l x y p h k =
    let o : Over l (size_over l x + size_over l y) (add x y) = over_sum l (size_over l x) (size_over l y) x y (over_multiple l x p h) (over_multiple l y p k) in
    (over_divides l (size_over l x + size_over l y) (add x y) o, over_size l (size_over l x + size_over l y) (add x y) o)

module _ (cost : Function → ℕ) (d : ℕ) where
  -- ---- append
  spreads_append : (ms ns : List Monomial) → spreads cost d (ms ++ ns) ≡ spreads cost d ms + spreads cost d ns
  spreads_append [] ns = sym (N.zero-add (spreads cost d ns))
  spreads_append (m ∷ ms) ns = ap (λ n. spread cost d m + n) (spreads_append ms ns) ∙ sym (N.add_assoc (spread cost d m) (spreads cost d ms) (spreads cost d ns))

  loads_append : (l : ℕ) (ms ns : List Monomial) → loads cost d l (ms ++ ns) ≡ loads cost d l ms + loads cost d l ns
  loads_append l [] ns = sym (N.zero-add (loads cost d l ns))
  loads_append l (m ∷ ms) ns = ap (λ n. load cost d l m + n) (loads_append l ms ns) ∙ sym (N.add_assoc (load cost d l m) (loads cost d l ms) (loads cost d l ns))

  pub weighed_nil : (l : ℕ) → IsWeighed cost d l [] 0 0
  weighed_nil l = record { over = tt; sum = N.le_refl 0; total = N.le_refl 0 }

  pub weighed_more : (l : ℕ) (ms : List Monomial) (s t s' t' : ℕ) → s ≤ s' → t ≤ t' → IsWeighed cost d l ms s t → IsWeighed cost d l ms s' t'
  weighed_more l ms s t s' t' h k p = record { over = p.over; sum = N.le_trans p.sum h; total = N.le_trans p.total k }

  pub weighed_append : (l : ℕ) (ms ns : List Monomial) (s t s' t' : ℕ) → IsWeighed cost d l ms s t → IsWeighed cost d l ns s' t' → IsWeighed cost d l (ms ++ ns) (s + s') (t + t')
  weighed_append l ms ns s t s' t' p q = record {
    over = all_append (IsOver l) ms ns p.over q.over;
    sum = subst (λ n. n ≤ s + s') (sym (spreads_append ms ns)) (N.add-le-add p.sum q.sum);
    total = subst (λ n. n ≤ t + t') (sym (loads_append l ms ns)) (N.add-le-add p.total q.total);
  }

  -- ---- over a multiple
  grown : (b c k r s : ℕ) → b ≤ c * k → b * r * s ≤ c * r * s * k
  grown b c k r s h = through (N.mul-le-mul_right s (N.mul-le-mul_right r h))
    where
      through : b * r * s ≤ c * k * r * s → b * r * s ≤ c * r * s * k
      through j = omega (arith, j)

  all_lifted : (l L : ℕ) → l ∣ L → (ms : List Monomial) → AllByRecursion (IsOver l) ms → AllByRecursion (IsOver L) ms
  all_lifted l L h [] p = tt
  all_lifted l L h (m ∷ ms) p = (N.dvd_trans (bottom m.c) p.0 h, all_lifted l L h ms p.1)

  loads_lifted : (l L : ℕ) → 1 ≤ l → 1 ≤ L → l ∣ L → (ms : List Monomial) → AllByRecursion (IsOver l) ms → loads cost d L ms ≤ loads cost d l ms * (L / l)
  loads_lifted l L p q h [] k = omega arith
  loads_lifted l L p q h (m ∷ ms) k =
      subst (λ n. loads cost d L (m ∷ ms) ≤ n) (sym (N.add-mul (load cost d l m) (loads cost d l ms) (L / l)))
      (N.add-le-add
      (grown (size_over L m.c) (size_over l m.c) (L / l) (3 ^ derivatives m.atoms) (spread cost d m) (lifted_size l L m.c p q h k.0))
      (loads_lifted l L p q h ms k.1))

  pub weighed_lifted : (l L : ℕ) → 1 ≤ l → 1 ≤ L → l ∣ L → (ms : List Monomial) (s t : ℕ) → IsWeighed cost d l ms s t → IsWeighed cost d L ms s (t * (L / l))
  weighed_lifted l L p q h ms s t w = record {
    over = all_lifted l L h ms w.over;
    sum = w.sum;
    total = N.le_trans (loads_lifted l L p q h ms w.over) (N.mul-le-mul_right (L / l) w.total);
  }

  -- ---- products
  product_spread : (m n k : Monomial) → IsProduct cost m n k → spread cost d k ≡ spread cost d m * spread cost d n
  product_spread m n k h =
      ap₂ (λ c r. c * d ^ r) h.costs h.derivatives
      ∙ ap (λ p. costs cost m.atoms * costs cost n.atoms * p) (pow-add d (derivatives m.atoms) (derivatives n.atoms))
      ∙ turned (costs cost m.atoms) (costs cost n.atoms) (d ^ derivatives m.atoms) (d ^ derivatives n.atoms)
    where
      turned : (a b p q : ℕ) → a * b * (p * q) ≡ a * p * (b * q)
      turned a b p q = omega arith

  product_load : (l j : ℕ) → 1 ≤ l → 1 ≤ j → (m n k : Monomial) → IsOver l m → IsOver j n → IsProduct cost m n k
      → IsOver (l * j) k × (load cost d (l * j) k ≤ load cost d l m * load cost d j n)
  product_load l j p q m n k x y h = (subst (λ v. bottom v ∣ l * j) (sym h.value) size.0, bound)
    where
      size : (bottom (mul m.c n.c) ∣ l * j) × (size_over (l * j) (mul m.c n.c) ≤ size_over l m.c * size_over j n.c)
      size = product_size l j m.c n.c p q x y

      all : (v : ℕ) → v ≤ size_over l m.c * size_over j n.c
          → v * (3 ^ derivatives m.atoms * 3 ^ derivatives n.atoms) * (spread cost d m * spread cost d n) ≤ load cost d l m * load cost d j n
      all v b = through (size_over l m.c) (size_over j n.c) (3 ^ derivatives m.atoms) (3 ^ derivatives n.atoms) (spread cost d m) (spread cost d n)
          (N.mul-le-mul_right (spread cost d m * spread cost d n) (N.mul-le-mul_right (3 ^ derivatives m.atoms * 3 ^ derivatives n.atoms) b))
        where
          through : (a b p q s t : ℕ) → v * (p * q) * (s * t) ≤ a * b * (p * q) * (s * t) → v * (p * q) * (s * t) ≤ a * p * s * (b * q * t)
          through a b p q s t i = omega (arith, i)

      powers : 3 ^ derivatives k.atoms ≡ 3 ^ derivatives m.atoms * 3 ^ derivatives n.atoms
      powers = ap (λ r. 3 ^ r) h.derivatives ∙ pow-add 3 (derivatives m.atoms) (derivatives n.atoms)

      bound : load cost d (l * j) k ≤ load cost d l m * load cost d j n
      bound = subst (λ v. v ≤ load cost d l m * load cost d j n)
          (sym (ap₂ (λ b s. b * s) (ap₂ (λ v p. size_over (l * j) v * p) h.value powers) (product_spread m n k h)))
          (all (size_over (l * j) (mul m.c n.c)) size.1)

  row_weighed : (l j : ℕ) → 1 ≤ l → 1 ≤ j → (m : Monomial) (ns ks : List Monomial) → IsOver l m → AllByRecursion (IsOver j) ns → AreProducts cost m ns ks
      → IsWeighed cost d (l * j) ks (spread cost d m * spreads cost d ns) (load cost d l m * loads cost d j ns)
  row_weighed l j p q m [] [] x y h = record { over = tt; sum = omega arith; total = omega arith }
  row_weighed l j p q m [] (k ∷ ks) x y h = absurd h
  row_weighed l j p q m (n ∷ ns) [] x y h = absurd h
  row_weighed l j p q m (n ∷ ns) (k ∷ ks) x y h =
      let rest : IsWeighed cost d (l * j) ks (spread cost d m * spreads cost d ns) (load cost d l m * loads cost d j ns) = row_weighed l j p q m ns ks x y.1 h.1 in
      let first : IsOver (l * j) k × (load cost d (l * j) k ≤ load cost d l m * load cost d j n) = product_load l j p q m n k x y.0 h.0 in
      record {
        over = (first.0, rest.over);
        sum = subst (λ v. spread cost d k + spreads cost d ks ≤ v) (sym (N.mul-add (spread cost d m) (spread cost d n) (spreads cost d ns)))
            (N.add-le-add (N.le_of_eq (product_spread m n k h.0)) rest.sum);
        total = subst (λ v. load cost d (l * j) k + loads cost d (l * j) ks ≤ v) (sym (N.mul-add (load cost d l m) (load cost d j n) (loads cost d j ns)))
            (N.add-le-add first.1 rest.total);
      }

  all_products : (l j : ℕ) → 1 ≤ l → 1 ≤ j → (ns : List Monomial) → AllByRecursion (IsOver j) ns → (ms ks : List Monomial) → AllByRecursion (IsOver l) ms → AllProducts cost ns ms ks
      → IsWeighed cost d (l * j) ks (spreads cost d ms * spreads cost d ns) (loads cost d l ms * loads cost d j ns)
  all_products l j p q ns y _ _ x none = record { over = tt; sum = omega arith; total = omega arith }
  all_products l j p q ns y _ _ x (more m ms ks js h k) =
      subst₂ (λ s t. IsWeighed cost d (l * j) (ks ++ js) s t)
      (sym (N.add-mul (spread cost d m) (spreads cost d ms) (spreads cost d ns))) (sym (N.add-mul (load cost d l m) (loads cost d l ms) (loads cost d j ns)))
      (weighed_append (l * j) ks js _ _ _ _ (row_weighed l j p q m ns ks x.0 y h) (all_products l j p q ns y ms js x.1 k))

  pub weighed_products : (l j : ℕ) → 1 ≤ l → 1 ≤ j → (ms ns ks : List Monomial) (s t s' t' : ℕ)
      → IsWeighed cost d l ms s t → IsWeighed cost d j ns s' t' → AllProducts cost ns ms ks → IsWeighed cost d (l * j) ks (s * s') (t * t')
  weighed_products l j p q ms ns ks s t s' t' x y h =
      weighed_more (l * j) ks _ _ _ _ (N.mul-le-mul x.sum y.sum) (N.mul-le-mul x.total y.total) (all_products l j p q ns y.over ms ks x.over h)

  -- ---- derivatives
  derived_spread : (m k : Monomial) → IsDerived cost m k → spread cost d k ≡ spread cost d m * d
  derived_spread m k h = ap₂ (λ c r. c * d ^ r) h.costs h.derivatives ∙ ap (λ p. costs cost m.atoms * p) (N.pow-suc d (derivatives m.atoms)) ∙ sym (N.mul_assoc (costs cost m.atoms) (d ^ derivatives m.atoms) d)

  derived_load : (l : ℕ) (m k : Monomial) → IsDerived cost m k → load cost d l k ≡ load cost d l m * (3 * d)
  derived_load l m k h =
      ap₂ (λ b s. b * s) (ap₂ (λ v r. size_over l v * 3 ^ r) h.value h.derivatives) (derived_spread m k h)
      ∙ ap (λ p. size_over l m.c * p * (spread cost d m * d)) (N.pow-suc 3 (derivatives m.atoms))
      ∙ turned (size_over l m.c) (3 ^ derivatives m.atoms) (spread cost d m)
    where
      turned : (b p s : ℕ) → b * (p * 3) * (s * d) ≡ b * p * s * (3 * d)
      turned b p s = omega arith

  -- as many as there are
  some_derived : (l : ℕ) (m : Monomial) (ks : List Monomial) → IsOver l m → AllByRecursion (IsDerived cost m) ks
      → IsWeighed cost d l ks (length ks * (spread cost d m * d)) (length ks * (load cost d l m * (3 * d)))
  some_derived l m [] x h = record { over = tt; sum = omega arith; total = omega arith }
  some_derived l m (k ∷ ks) x h =
      let rest : IsWeighed cost d l ks (length ks * (spread cost d m * d)) (length ks * (load cost d l m * (3 * d))) = some_derived l m ks x h.1 in
      let p : spread cost d k ≡ spread cost d m * d = derived_spread m k h.0 in
      let q : load cost d l k ≡ load cost d l m * (3 * d) = derived_load l m k h.0 in
      record {
        over = (subst (λ v. bottom v ∣ l) (sym (h.0).value) x, rest.over);
        sum = next (length ks) (spread cost d k) (spread cost d m * d) (spreads cost d ks) p rest.sum;
        total = next (length ks) (load cost d l k) (load cost d l m * (3 * d)) (loads cost d l ks) q rest.total;
      }
    where
      next : (n a b c : ℕ) → a ≡ b → c ≤ n * b → a + c ≤ suc n * b
      next n a b c e i = subst (λ v. a + c ≤ v) (sym (N.suc-mul n b)) (omega (arith, e, i))

  all_derived : (g l : ℕ) (ms ks : List Monomial) → AllByRecursion (IsOver l) ms → AllDerived cost g ms ks
      → IsWeighed cost d l ks (spreads cost d ms * g * d) (loads cost d l ms * g * (3 * d))
  all_derived g l _ _ x none = record { over = tt; sum = omega arith; total = omega arith }
  all_derived g l _ _ x (more m ms ks js few h k) =
      subst₂ (λ s t. IsWeighed cost d l (ks ++ js) s t)
      (sym (split (spread cost d m) (spreads cost d ms) g d)) (sym (split (load cost d l m) (loads cost d l ms) g (3 * d)))
      (weighed_append l ks js _ _ _ _
      (weighed_more l ks _ _ _ _ (at_most (length ks) g (spread cost d m) d few) (at_most (length ks) g (load cost d l m) (3 * d) few) (some_derived l m ks x.0 h))
      (all_derived g l ms js x.1 k))
    where
      split : (a b g d : ℕ) → (a + b) * g * d ≡ a * g * d + b * g * d
      split a b g d = omega arith

      at_most : (n g a d : ℕ) → n ≤ g → n * (a * d) ≤ a * g * d
      at_most n g a d i = through (N.mul-le-mul_right (a * d) i)
        where
          through : n * (a * d) ≤ g * (a * d) → n * (a * d) ≤ a * g * d
          through j = omega (arith, j)

  pub weighed_derived : (g l : ℕ) (ms ks : List Monomial) (s t : ℕ) → IsWeighed cost d l ms s t → AllDerived cost g ms ks → IsWeighed cost d l ks (s * g * d) (t * g * (3 * d))
  weighed_derived g l ms ks s t x h =
      weighed_more l ks _ _ _ _ (N.mul-le-mul_right d (N.mul-le-mul_right g x.sum)) (N.mul-le-mul_right (3 * d) (N.mul-le-mul_right g x.total)) (all_derived g l ms ks x.over h)

  -- ---- collecting: sorting, merging, dropping
  pub weighed_sorted : (l : ℕ) (ms ns : List Monomial) (s t : ℕ) → IsPermutation ms ns → IsWeighed cost d l ms s t → IsWeighed cost d l ns s t
  weighed_sorted l ms ns s t h x = record {
    over = recursion_from_All (IsOver l) ns (All-permutation (IsOver l) ms ns h (All-from_recursion (IsOver l) ms x.over));
    sum = subst (λ v. v ≤ s) (same_spreads ms ∙ sym (sum_by-IsPermutation (spread cost d) ms ns h) ∙ sym (same_spreads ns)) x.sum;
    total = subst (λ v. v ≤ t) (same_loads ms ∙ sym (sum_by-IsPermutation (load cost d l) ms ns h) ∙ sym (same_loads ns)) x.total;
  }
    where
      same_spreads : (ms : List Monomial) → spreads cost d ms ≡ sum_by (spread cost d) ms
      same_spreads = is_sum_by (spreads cost d) (spread cost d) refl (λ _ _. refl)

      same_loads : (ms : List Monomial) → loads cost d l ms ≡ sum_by (load cost d l) ms
      same_loads = is_sum_by (loads cost d l) (load cost d l) refl (λ _ _. refl)

  pub weighed_dropped : (l : ℕ) (m : Monomial) (ms : List Monomial) (s t : ℕ) → IsWeighed cost d l (m ∷ ms) s t → IsWeighed cost d l ms s t
  weighed_dropped l m ms s t x = record {
    over = x.over.1;
    sum = N.le_trans (N.le-add_left (spreads cost d ms) (spread cost d m)) x.sum;
    total = N.le_trans (N.le-add_left (loads cost d l ms) (load cost d l m)) x.total;
  }

  pub weighed_merged : (l : ℕ) → 1 ≤ l → (m n k : Monomial) (ms : List Monomial) (s t : ℕ) → IsMerged m n k → IsWeighed cost d l (m ∷ n ∷ ms) s t → IsWeighed cost d l (k ∷ ms) s t
  weighed_merged l p m n k ms s t h x = record {
    over = (subst (λ v. bottom v ∣ l) (sym h.value) size.0, x.over.1.1);
    sum = N.le_trans (fewer _ _ _ _ (N.le_of_eq (ap (λ as_. costs cost as_ * d ^ derivatives as_) h.first))) x.sum;
    total = N.le_trans (less _ _ _ _ load_sum) x.total;
  }
    where
      size : (bottom (add m.c n.c) ∣ l) × (size_over l (add m.c n.c) ≤ size_over l m.c + size_over l n.c)
      size = sum_size l m.c n.c p x.over.0 x.over.1.0

      fewer : (a b c e : ℕ) → a ≤ b → a + e ≤ b + (c + e)
      fewer a b c e h = omega (arith, h)

      less : (a b c e : ℕ) → a ≤ b + c → a + e ≤ b + (c + e)
      less a b c e h = omega (arith, h)

      rest : List Atom → ℕ
      rest as_ = costs cost as_ * d ^ derivatives as_

      spread_out : (v a b q r : ℕ) → v ≤ a + b → v * q * r ≤ a * q * r + b * q * r
      spread_out v a b q r h = through (N.mul-le-mul_right r (N.mul-le-mul_right q h))
        where
          through : v * q * r ≤ (a + b) * q * r → v * q * r ≤ a * q * r + b * q * r
          through i = omega (arith, i)

      load_sum : load cost d l k ≤ load cost d l m + load cost d l n
      load_sum =
          subst₂ (λ v w. v ≤ load cost d l m + w)
          (sym (ap₂ (λ c as_. size_over l c * 3 ^ derivatives as_ * (costs cost as_ * d ^ derivatives as_)) h.value h.first))
          (sym (ap (λ as_. size_over l n.c * 3 ^ derivatives as_ * (costs cost as_ * d ^ derivatives as_)) h.second))
          (spread_out (size_over l (add m.c n.c)) (size_over l m.c) (size_over l n.c) (3 ^ derivatives m.atoms) (costs cost m.atoms * d ^ derivatives m.atoms) size.1)
