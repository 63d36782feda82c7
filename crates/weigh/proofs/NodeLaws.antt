-- The lists of `normal`, node by node: each has the weight of its row
use Rattle.std.proofs.Common.{◌≡◌, ℕ, zero, suc, ◌+◌, ◌*◌, ◌/◌, ◌^◌, ◌≤◌, max, List, [], ◌∷◌, ◌++◌, unsigned_abs, refl, sym, ◌∙◌, ap, ap₂, subst, subst₂, arith}
use Rattle.std.specs.List.{AllByRecursion}
use Prim.Native.Nat.{◌∣◌}
use native.Mathlib.Nat as N
use Rattle.algebra.specs.Fraction.{Fraction, negative}
use Rattle.algebra.specs.LowestTerms.{top, bottom}
use Rattle.algebra.proofs.LowestLaws.{bottom_positive, top-negative, bottom-negative}
use Rattle.algebra.proofs.Signs.{unsigned_abs-neg}
use Rattle.ufl_tree.specs.declared.function.Function.{Function}
use Rattle.monos.specs.declared.weight.Weight.{Weight}
use Rattle.weigh.specs.Bounds.{Bounds, IsSound}
use Rattle.weigh.specs.Steps.{lcm, number_step, times_step, plus_step, index_step, space_step}
use Rattle.weigh.specs.Numerators.{size_over}
use Rattle.monos.specs.Monomial.{Monomial}
use Rattle.weigh.specs.Lists.{lists_below}
use Rattle.weigh.specs.Lists.{costs, spread, load, spreads, loads, IsOver, IsWeighed, HasWeight, AllProducts, AllDerived, IsNegated, AreNegated}
use Rattle.monos.specs.Monomial.{derivatives}
use Rattle.weigh.proofs.LcmLaws.{times_of, lcm_left, lcm_right, lcm_positive}
use Rattle.weigh.proofs.ListLaws.{weighed_more, weighed_append, weighed_lifted, weighed_products, weighed_derived}

module _ (cost : Function → ℕ) (d : ℕ) where
  -- ---- what bounds the tree bounds the list
  pub bounded_list : (w e : Weight) → IsSound w → IsSound e → Bounds w e → (ms : List Monomial) → HasWeight cost d e ms → HasWeight cost d w ms
  bounded_list w e p q h ms x =
      weighed_more cost d w.den ms _ _ _ _ h.cost (totals (w.den / e.den) (times_of e.den w.den h.den))
      (weighed_lifted cost d e.den w.den q.den p.den h.den ms _ _ x)
    where
      totals : (n : ℕ) → w.den ≡ e.den * n → e.cost * e.num * n ≤ w.cost * w.num
      totals n k = subst (λ v. v ≤ w.cost * w.num) (sym (N.mul_assoc e.cost e.num n)) (N.mul-le-mul h.cost (scaled (subst (λ v. e.num * v ≤ w.num * e.den) k h.num)))
        where
          scaled : e.num * (e.den * n) ≤ w.num * e.den → e.num * n ≤ w.num
          scaled i = N.le_of_mul-le-mul_right (through i) q.den
            where
              through : e.num * (e.den * n) ≤ w.num * e.den → e.num * n * e.den ≤ w.num * e.den
              through j = omega (arith, j)

  -- ---- sums
  pub plus_list : (a b : Weight) → IsSound a → IsSound b → (ms ns : List Monomial) → HasWeight cost d a ms → HasWeight cost d b ns → HasWeight cost d (plus_step a b) (ms ++ ns)
  plus_list a b p q ms ns x y =
      let l : ℕ = lcm a.den b.den in
      weighed_more cost d l (ms ++ ns) _ _ _ _ (N.le_refl (a.cost + b.cost)) (totals a.cost a.num b.cost b.num (l / a.den) (l / b.den))
      (weighed_append cost d l ms ns _ _ _ _
      (weighed_lifted cost d a.den l p.den (lcm_positive a.den b.den p.den q.den) (lcm_left a.den b.den) ms _ _ x)
      (weighed_lifted cost d b.den l q.den (lcm_positive a.den b.den p.den q.den) (lcm_right a.den b.den) ns _ _ y))
    where
      totals : (c n e m i j : ℕ) → c * n * i + e * m * j ≤ (c + e) * (n * i + m * j)
      totals c n e m i j = omega arith

  -- ---- products
  pub times_list : (a b : Weight) → IsSound a → IsSound b → (ms ns ks : List Monomial) → HasWeight cost d a ms → HasWeight cost d b ns → AllProducts cost ns ms ks
      → HasWeight cost d (times_step a b) ks
  times_list a b p q ms ns ks x y h =
      weighed_more cost d (a.den * b.den) ks _ _ _ _ (N.le_refl (a.cost * b.cost)) (N.le_of_eq (turned a.cost a.num b.cost b.num))
      (weighed_products cost d a.den b.den p.den q.den ms ns ks _ _ _ _ x y h)
    where
      turned : (c n e m : ℕ) → c * n * (e * m) ≡ c * e * (n * m)
      turned c n e m = omega arith

  -- ---- index sums: a list for each value
  below_list : (a : Weight) (n : ℕ) (f : ℕ → List Monomial) → ((k : ℕ) → HasWeight cost d a (f k)) → IsWeighed cost d a.den (lists_below n f) (n * a.cost) (n * (a.cost * a.num))
  below_list a zero f h = record { over = tt; sum = omega arith; total = omega arith }
  below_list a (suc n) f h =
      weighed_more cost d a.den (lists_below n f ++ f n) _ _ _ _ (N.le_of_eq (sym (N.suc-mul n a.cost))) (N.le_of_eq (sym (N.suc-mul n (a.cost * a.num))))
      (weighed_append cost d a.den (lists_below n f) (f n) _ _ _ _ (below_list a n f h) (h n))

  pub index_list : (n : ℕ) (a : Weight) (f : ℕ → List Monomial) → ((k : ℕ) → HasWeight cost d a (f k)) → HasWeight cost d (index_step n a) (lists_below n f)
  index_list n a f h =
      weighed_more cost d a.den (lists_below n f) _ _ _ _ (costs_below a.cost) (totals a.cost a.num) (below_list a n f h)
    where
      costs_below : (c : ℕ) → n * c ≤ c * max n 1
      costs_below c = subst (λ v. v ≤ c * max n 1) (N.mul_comm c n) (N.mul-le-mul (N.le_refl c) (omega arith))

      totals : (c k : ℕ) → n * (c * k) ≤ c * max n 1 * k
      totals c k = through (N.mul-le-mul_right k (costs_below c))
        where
          through : n * c * k ≤ c * max n 1 * k → n * (c * k) ≤ c * max n 1 * k
          through h = omega (arith, h)

  -- ---- derivatives
  pub space_list : (a : Weight) (ms ks : List Monomial) → HasWeight cost d a ms → AllDerived cost a.g ms ks → HasWeight cost d (space_step d a) ks
  space_list a ms ks x h =
      weighed_more cost d a.den ks _ _ _ _ (N.le_refl (a.cost * a.g * d)) (N.le_of_eq (turned a.cost a.num a.g)) (weighed_derived cost d a.g a.den ms ks _ _ x h)
    where
      turned : (c n g : ℕ) → c * n * g * (3 * d) ≡ c * g * d * (n * 3)
      turned c n g = omega arith

  -- ---- the other sign
  negated_load : (l : ℕ) (m k : Monomial) → IsNegated m k → load cost d l k ≡ load cost d l m
  negated_load l m k h =
      ap₂ (λ v as_. size_over l v * 3 ^ derivatives as_ * (costs cost as_ * d ^ derivatives as_)) h.0 h.1
      ∙ ap (λ v. v * 3 ^ derivatives m.atoms * spread cost d m) (same_size m.c)
    where
      same_size : (x : Fraction) → size_over l (negative x) ≡ size_over l x
      same_size x = ap₂ (λ t b. t * (l / b)) (ap unsigned_abs (top-negative x) ∙ unsigned_abs-neg (top x)) (bottom-negative x)

  pub negated_list : (l : ℕ) (ms ks : List Monomial) (s t : ℕ) → AreNegated ms ks → IsWeighed cost d l ms s t → IsWeighed cost d l ks s t
  negated_list l ms ks s t h x = record {
    over = all_over ms ks h x.over;
    sum = subst (λ v. v ≤ s) (sym (same_spreads ms ks h)) x.sum;
    total = subst (λ v. v ≤ t) (sym (same_loads ms ks h)) x.total;
  }
    where
      all_over : (ms ks : List Monomial) → AreNegated ms ks → AllByRecursion (IsOver l) ms → AllByRecursion (IsOver l) ks
      all_over [] [] h x = tt
      all_over [] (k ∷ ks) h x = absurd h
      all_over (m ∷ ms) [] h x = absurd h
      all_over (m ∷ ms) (k ∷ ks) h x = (subst (λ b. b ∣ l) (sym (ap bottom h.0.0 ∙ bottom-negative m.c)) x.0, all_over ms ks h.1 x.1)

      same_spreads : (ms ks : List Monomial) → AreNegated ms ks → spreads cost d ks ≡ spreads cost d ms
      same_spreads [] [] h = refl
      same_spreads [] (k ∷ ks) h = absurd h
      same_spreads (m ∷ ms) [] h = absurd h
      same_spreads (m ∷ ms) (k ∷ ks) h = ap₂ ◌+◌ (ap (λ as_. costs cost as_ * d ^ derivatives as_) h.0.1) (same_spreads ms ks h.1)

      same_loads : (ms ks : List Monomial) → AreNegated ms ks → loads cost d l ks ≡ loads cost d l ms
      same_loads [] [] h = refl
      same_loads [] (k ∷ ks) h = absurd h
      same_loads (m ∷ ms) [] h = absurd h
      same_loads (m ∷ ms) (k ∷ ks) h = ap₂ ◌+◌ (negated_load l m k h.0) (same_loads ms ks h.1)

  -- ---- leaves
  pub number_list : (m : Monomial) → m.atoms ≡ [] → HasWeight cost d (number_step (unsigned_abs (top m.c)) (bottom m.c)) (m ∷ [])
  number_list m e = record {
    over = (N.dvd_refl b, tt);
    sum = subst (λ as_. costs cost as_ * d ^ derivatives as_ + 0 ≤ 1) (sym e) (omega (arith, N.pow-zero d));
    total = subst (λ as_. size_over b m.c * 3 ^ derivatives as_ * (costs cost as_ * d ^ derivatives as_) + 0 ≤ 1 * max t b) (sym e)
        (subst₂ (λ p q. t * q * 1 * (1 * p) + 0 ≤ 1 * max t b) (sym (N.pow-zero d)) (sym (N.div_self (bottom_positive m.c))) (omega arith));
  }
    where
      b : ℕ
      b = bottom m.c

      t : ℕ
      t = unsigned_abs (top m.c)
