-- What one step does to exact and kept weights
use Rattle.std.proofs.Common.{◌≡◌, ℕ, ◌*◌, ◌^◌, ◌<◌, ◌≤◌, ◌⊎◌, inl, inr, sym, ◌∙◌, ap, ap₂, subst, arith}
use native.Mathlib.Nat as N
use Rattle.std.proofs.lemmas.Bool.{cases_lt}
use Rattle.monos.specs.declared.weight.Weight.{Weight}
use Rattle.weigh.specs.Bounds.{IsSound}
use Rattle.weigh.specs.Steps.{capped}
use Rattle.weigh.specs.Weighing.{kept}
use Rattle.weigh.specs.Refusals.{IsCostly, IsLarge, IsSameCost, Agree}

pub record IsPositive (w : Weight) : Type 0 where
  pub cost : 1 ≤ w.cost
  pub g : 1 ≤ w.g
  pub num : 1 ≤ w.num
  pub den : 1 ≤ w.den
  pub fac : 1 ≤ w.fac
  pub s : 1 ≤ w.s

-- what no step makes smaller
pub record IsAbove (a x : Weight) : Type 0 where
  pub cost : a.cost ≤ x.cost
  pub g : a.g ≤ x.g
  pub fac : a.fac ≤ x.fac
  pub num : a.num ≤ x.num
  pub s : a.s ≤ x.s

abbrev pub IsLow : Weight → Type 0
IsLow w = w.deg ≤ 3 * w.g

-- what is kept of an exact weight e and a kept one k
pub record Agrees (e k : Weight) : Type 0 where
  pub sound : IsSound e
  pub low : IsLow e
  pub positive : IsPositive k
  pub agree : Agree e k

pub record IsStep (F : Weight → Weight) : Type 0 where
  pub sound : (a : Weight) → IsSound a → IsSound (F a)
  pub low : (a : Weight) → IsSound a → IsLow a → IsLow (F a)
  pub positive : (a : Weight) → IsPositive a → IsPositive (F a)
  pub above : (a : Weight) → IsPositive a → IsAbove a (F a)
  pub same : (a b : Weight) → IsSameCost a b → IsSameCost (F a) (F b)

pub record IsPairStep (F : Weight → Weight → Weight) : Type 0 where
  pub sound : (a b : Weight) → IsSound a → IsSound b → IsSound (F a b)
  pub low : (a b : Weight) → IsLow a → IsLow b → IsLow (F a b)
  pub positive : (a b : Weight) → IsPositive a → IsPositive b → IsPositive (F a b)
  pub first : (a b : Weight) → IsPositive a → IsPositive b → IsAbove a (F a b)
  pub second : (a b : Weight) → IsPositive a → IsPositive b → IsAbove b (F a b)
  pub same : (a b c d : Weight) → IsSameCost a b → IsSameCost c d → IsSameCost (F a c) (F b d)

pub positive_from_sound : (w : Weight) → IsSound w → IsPositive w
positive_from_sound w p = record { cost = p.cost; g = p.g; num = (let h = p.parts in let k = p.den in omega (arith, h, k)); den = p.den; fac = p.fac; s = p.s }

-- ---- the limit
kept_positive : (n : ℕ) → 1 ≤ n → 1 ≤ kept n
kept_positive n h = omega arith

kept_whole : (n : ℕ) → n < 2 ^ 100 → kept n ≡ n
kept_whole n h = omega arith

kept_cases : (n : ℕ) → (kept n ≡ n) ⊎ (2 ^ 100 ≤ kept n)
kept_cases n = at (cases_lt n (2 ^ 100))
  where
    at : (n < 2 ^ 100) ⊎ (2 ^ 100 ≤ n) → (kept n ≡ n) ⊎ (2 ^ 100 ≤ kept n)
    at (inl h) = inl (kept_whole n h)
    at (inr h) = inr (omega arith)

first_of_three : (a b c : ℕ) → 1 ≤ b → 1 ≤ c → a ≤ a * b * c
first_of_three a b c p q = N.le_trans (N.le-mul_of_pos_right a p) (N.le-mul_of_pos_right (a * b) q)

second_of_three : (a b c : ℕ) → 1 ≤ a → 1 ≤ c → b ≤ a * b * c
second_of_three a b c p q = subst (λ n. b ≤ n * c) (N.mul_comm b a) (first_of_three b a c p q)

third_of_three : (a b c : ℕ) → 1 ≤ a → 1 ≤ b → c ≤ a * b * c
third_of_three a b c p q = subst (λ n. c ≤ n) (N.mul_comm c (a * b)) (N.le-mul_of_pos_right c (N.mul-pos p q))

kept_product : (a b c : ℕ) → 1 ≤ a → 1 ≤ b → 1 ≤ c → 2 ^ 100 ≤ a * b * c → 2 ^ 100 ≤ kept a * kept b * kept c
kept_product a b c pa pb pc h = at (kept_cases a) (kept_cases b) (kept_cases c)
  where
    at : (kept a ≡ a) ⊎ (2 ^ 100 ≤ kept a) → (kept b ≡ b) ⊎ (2 ^ 100 ≤ kept b) → (kept c ≡ c) ⊎ (2 ^ 100 ≤ kept c) → 2 ^ 100 ≤ kept a * kept b * kept c
    at (inr x) y z = N.le_trans x (first_of_three (kept a) (kept b) (kept c) (kept_positive b pb) (kept_positive c pc))
    at (inl x) (inr y) z = N.le_trans y (second_of_three (kept a) (kept b) (kept c) (kept_positive a pa) (kept_positive c pc))
    at (inl x) (inl y) (inr z) = N.le_trans z (third_of_three (kept a) (kept b) (kept c) (kept_positive a pa) (kept_positive b pb))
    at (inl x) (inl y) (inl z) = subst (λ n. 2 ^ 100 ≤ n) (sym (ap₂ ◌*◌ (ap₂ ◌*◌ x y) z)) h

kept_over : (l n : ℕ) → l < 2 ^ 100 → l < n → l < kept n
kept_over l n h k = omega arith

pub kept_positives : (w : Weight) → IsPositive w → IsPositive (capped kept w)
kept_positives w p = record { cost = kept_positive _ p.cost; g = kept_positive _ p.g; num = kept_positive _ p.num; den = kept_positive _ p.den; fac = kept_positive _ p.fac; s = kept_positive _ p.s }

kept_costly : (w : Weight) → IsCostly w → IsCostly (capped kept w)
kept_costly w (inl h) = inl (kept_over (2 ^ 20) w.cost (omega arith) h)
kept_costly w (inr h) = inr (kept_over 256 w.g (omega arith) h)

kept_large : (w : Weight) → IsPositive w → IsLarge w → IsLarge (capped kept w)
kept_large w p h = kept_product w.fac w.num w.s p.fac p.num p.s h

-- ---- cases
costly_cases : (w : Weight) → IsCostly w ⊎ ((w.cost ≤ 2 ^ 20) × (w.g ≤ 256))
costly_cases w = at (cases_lt (2 ^ 20) w.cost) (cases_lt 256 w.g)
  where
    at : (2 ^ 20 < w.cost) ⊎ (w.cost ≤ 2 ^ 20) → (256 < w.g) ⊎ (w.g ≤ 256) → IsCostly w ⊎ ((w.cost ≤ 2 ^ 20) × (w.g ≤ 256))
    at (inl h) y = inl (inl h)
    at (inr h) (inl k) = inl (inr k)
    at (inr h) (inr k) = inr (h, k)

kept_same_cost : (w : Weight) → w.cost ≤ 2 ^ 20 → w.g ≤ 256 → IsSameCost w (capped kept w)
kept_same_cost w h k = (sym (kept_whole w.cost (omega arith)), sym (kept_whole w.g (omega arith)))

-- nothing is cut off where nothing is refused
kept_all : (w : Weight) → IsSound w → IsLow w → w.cost ≤ 2 ^ 20 → w.g ≤ 256 → w.fac * w.num * w.s < 2 ^ 100 → capped kept w ≡ w
kept_all w p low hc hg h =
    let num_one : 1 ≤ w.num = let a = p.parts in let b = p.den in omega (arith, a, b) in
    let fac : w.fac < 2 ^ 100 = N.lt_of_le_of_lt (first_of_three w.fac w.num w.s num_one p.s) h in
    let num : w.num < 2 ^ 100 = N.lt_of_le_of_lt (second_of_three w.fac w.num w.s p.fac p.s) h in
    let s : w.s < 2 ^ 100 = N.lt_of_le_of_lt (third_of_three w.fac w.num w.s p.fac num_one) h in
    let parts = p.parts in let functions = p.functions in let derivatives = p.derivatives in let few = p.few in
    λ i. record {
      cost = kept_whole w.cost (omega arith) i;
      deg = kept_whole w.deg (omega (arith, low)) i;
      g = kept_whole w.g (omega arith) i;
      f = kept_whole w.f (omega (arith, functions)) i;
      rmin = kept_whole w.rmin (omega (arith, derivatives, few)) i;
      rmax = kept_whole w.rmax (omega (arith, few)) i;
      num = kept_whole w.num num i;
      den = kept_whole w.den (omega (arith, parts)) i;
      fac = kept_whole w.fac fac i;
      s = kept_whole w.s s i;
    }

-- an exact weight and the same kept
pub kept_agrees : (w : Weight) → IsSound w → IsLow w → Agrees w (capped kept w)
kept_agrees w p low = record { sound = p; low = low; positive = kept_positives w (positive_from_sound w p); agree = at (costly_cases w) }
  where
    large : (2 ^ 100 ≤ w.fac * w.num * w.s) ⊎ (w.fac * w.num * w.s < 2 ^ 100) → w.cost ≤ 2 ^ 20 → w.g ≤ 256 → Agree w (capped kept w)
    large (inl h) a b = inr (inr (kept_same_cost w a b, h, kept_large w (positive_from_sound w p) h))
    large (inr h) a b = inl (sym (kept_all w p low a b h))

    at : IsCostly w ⊎ ((w.cost ≤ 2 ^ 20) × (w.g ≤ 256)) → Agree w (capped kept w)
    at (inl h) = inr (inl (h, kept_costly w h))
    at (inr h) = large (swapped (cases_lt (w.fac * w.num * w.s) (2 ^ 100))) h.0 h.1
      where
        swapped : {A B : Type 0} → A ⊎ B → B ⊎ A
        swapped (inl a) = inr a
        swapped (inr b) = inl b

-- ---- upward
costly_above : (a x : Weight) → IsAbove a x → IsCostly a → IsCostly x
costly_above a x h (inl k) = inl (N.lt_of_lt_of_le k h.cost)
costly_above a x h (inr k) = inr (N.lt_of_lt_of_le k h.g)

large_above : (a x : Weight) → IsAbove a x → IsLarge a → IsLarge x
large_above a x h k = N.le_trans k (N.mul-le-mul (N.mul-le-mul h.fac h.num) h.s)

same_costly : (e k : Weight) → IsSameCost e k → IsCostly e → IsCostly k
same_costly e k h (inl p) = inl (subst (λ n. 2 ^ 20 < n) h.0 p)
same_costly e k h (inr p) = inr (subst (λ n. 256 < n) h.1 p)

-- both too large and of one cost, the second one kept
large_agree : (x y : Weight) → IsPositive y → IsSameCost x y → IsLarge x → IsLarge y → Agree x (capped kept y)
large_agree x y p h lx ly = at (costly_cases y)
  where
    joined : IsSameCost x y → IsSameCost y (capped kept y) → IsSameCost x (capped kept y)
    joined a b = (a.0 ∙ b.0, a.1 ∙ b.1)

    at : IsCostly y ⊎ ((y.cost ≤ 2 ^ 20) × (y.g ≤ 256)) → Agree x (capped kept y)
    at (inl c) = inr (inl (same_costly y x (sym h.0, sym h.1) c, kept_costly y c))
    at (inr c) = inr (inr (joined h (kept_same_cost y c.0 c.1), lx, kept_large y p ly))

costly_agree : (x y : Weight) → IsCostly x → IsCostly y → Agree x (capped kept y)
costly_agree x y cx cy = inr (inl (cx, kept_costly y cy))

same_cost_from : (e k : Weight) → e ≡ k → IsSameCost e k
same_cost_from e k h = (ap (λ w. w.cost) h, ap (λ w. w.g) h)

-- ---- a step
pub step_agrees : (F : Weight → Weight) → IsStep F → (e k : Weight) → Agrees e k → Agrees (F e) (capped kept (F k))
step_agrees F S e k h = record {
  sound = S.sound e h.sound;
  low = S.low e h.sound h.low;
  positive = kept_positives (F k) (S.positive k h.positive);
  agree = at h.agree;
}
  where
    pe : IsPositive e
    pe = positive_from_sound e h.sound

    at : Agree e k → Agree (F e) (capped kept (F k))
    at (inl q) = subst (λ w. Agree (F e) (capped kept (F w))) q (kept_agrees (F e) (S.sound e h.sound) (S.low e h.sound h.low)).agree
    at (inr (inl q)) = costly_agree (F e) (F k) (costly_above e (F e) (S.above e pe) q.0) (costly_above k (F k) (S.above k h.positive) q.1)
    at (inr (inr q)) = large_agree (F e) (F k) (S.positive k h.positive) (S.same e k q.0)
        (large_above e (F e) (S.above e pe) q.1) (large_above k (F k) (S.above k h.positive) q.2)

pub pair_agrees : (F : Weight → Weight → Weight) → IsPairStep F → (e k d l : Weight) → Agrees e k → Agrees d l → Agrees (F e d) (capped kept (F k l))
pair_agrees F S e k d l h j = record {
  sound = S.sound e d h.sound j.sound;
  low = S.low e d h.low j.low;
  positive = kept_positives (F k l) (S.positive k l h.positive j.positive);
  agree = at h.agree j.agree;
}
  where
    pe : IsPositive e
    pe = positive_from_sound e h.sound

    pd : IsPositive d
    pd = positive_from_sound d j.sound

    first : IsCostly e × IsCostly k → Agree (F e d) (capped kept (F k l))
    first q = costly_agree (F e d) (F k l) (costly_above e (F e d) (S.first e d pe pd) q.0) (costly_above k (F k l) (S.first k l h.positive j.positive) q.1)

    second : IsCostly d × IsCostly l → Agree (F e d) (capped kept (F k l))
    second q = costly_agree (F e d) (F k l) (costly_above d (F e d) (S.second e d pe pd) q.0) (costly_above l (F k l) (S.second k l h.positive j.positive) q.1)

    first_large : IsSameCost e k → IsLarge e → IsLarge k → IsSameCost d l → Agree (F e d) (capped kept (F k l))
    first_large s x y t = large_agree (F e d) (F k l) (S.positive k l h.positive j.positive) (S.same e k d l s t)
        (large_above e (F e d) (S.first e d pe pd) x) (large_above k (F k l) (S.first k l h.positive j.positive) y)

    second_large : IsSameCost e k → IsSameCost d l → IsLarge d → IsLarge l → Agree (F e d) (capped kept (F k l))
    second_large s t x y = large_agree (F e d) (F k l) (S.positive k l h.positive j.positive) (S.same e k d l s t)
        (large_above d (F e d) (S.second e d pe pd) x) (large_above l (F k l) (S.second k l h.positive j.positive) y)

    at : Agree e k → Agree d l → Agree (F e d) (capped kept (F k l))
    at (inl q) (inl r) =
        subst (λ v. Agree (F e d) (capped kept (F k v))) r
        (subst (λ w. Agree (F e d) (capped kept (F w d))) q (kept_agrees (F e d) (S.sound e d h.sound j.sound) (S.low e d h.low j.low)).agree)
    at (inr (inl q)) r = first q
    at (inl q) (inr (inl r)) = second r
    at (inr (inr q)) (inr (inl r)) = second r
    at (inl q) (inr (inr r)) = second_large (same_cost_from e k q) r.0 r.1 r.2
    at (inr (inr q)) (inl r) = first_large q.0 q.1 q.2 (same_cost_from d l r)
    at (inr (inr q)) (inr (inr r)) = first_large q.0 q.1 q.2 r.0
