-- Kept and exact numbers decide alike on forms
use Rattle.std.proofs.Common.{◌≡◌, ℕ, zero, suc, ◌+◌, ◌*◌, ◌-◌, ◌^◌, ◌≤◌, min, Bool, true, false, if◌then◌else◌, Option, None, Some, Result, Ok, Err, IfOk, refl, sym, ◌∙◌, ap, subst, ◌<◌, ◌⊎◌, inl, inr, arith}
use Rattle.std.proofs.lemmas.Bool.{cases_lt}
use native.Mathlib.Nat as N
use Rattle.calculus.specs.LocalFunction.{factorial}
use Rattle.monos.specs.declared.weight.Weight.{Weight}
use Rattle.weigh.specs.declared.refusal.WeightRefusal.{WeightRefusal}
use Rattle.weigh.specs.Weighing.{kept}
use Rattle.admit.specs.Admission.{by_weight}

pub same_decision : (v w : Weight) (r s : Option WeightRefusal) → r ≡ s → (r ≡ None → v ≡ w) → by_weight v r ≡ by_weight w s
same_decision v w None s e h = ap Ok (h refl) ∙ ap (by_weight w) e
same_decision v w (Some r) s e h = ap (by_weight w) e

-- ---- factorials
factorial_from : (m : ℕ) → factorial 40 ≤ factorial (40 + m)
factorial_from zero = N.le_refl (factorial 40)
factorial_from (suc m) =
    let n : ℕ = factorial (40 + m) in
    let grown : n ≤ suc (40 + m) * n = subst (λ k. n ≤ k) (N.mul_comm n (suc (40 + m))) (N.le-mul_of_pos_right n (N.zero-lt-suc (40 + m))) in
    let e : 40 + suc m ≡ suc (40 + m) = omega arith in
    subst (λ k. factorial 40 ≤ factorial k) (sym e) (N.le_trans (factorial_from m) grown)

large_factorial : (n : ℕ) → 40 ≤ n → 2 ^ 127 - 1 ≤ factorial n
large_factorial n h =
    let e : n ≡ 40 + (n - 40) = omega (arith, h) in
    let limit : 2 ^ 127 - 1 ≤ factorial 40 = omega arith in
    subst (λ m. 2 ^ 127 - 1 ≤ factorial m) (sym e) (N.le_trans limit (factorial_from (n - 40)))

at_limit : (a b : ℕ) → 2 ^ 127 - 1 ≤ a → 2 ^ 127 - 1 ≤ b → kept a ≡ kept b
at_limit a b p q = omega (arith, p, q)

-- from 40 on all are alike
alike : (m n : ℕ) → (m ≡ n) ⊎ ((40 ≤ m) × (40 ≤ n)) → kept (factorial m) ≡ kept (factorial n)
alike m n (inl e) = ap (λ k. kept (factorial k)) e
alike m n (inr h) = at_limit (factorial m) (factorial n) (large_factorial m h.0) (large_factorial n h.1)

kept_within : (limit n : ℕ) → 40 ≤ limit → (min n limit ≡ n) ⊎ ((40 ≤ min n limit) × (40 ≤ n))
kept_within limit n h = side (cases_lt n limit)
  where
    side : (n < limit) ⊎ (limit ≤ n) → (min n limit ≡ n) ⊎ ((40 ≤ min n limit) × (40 ≤ n))
    side (inl p) = inl (omega (arith, p))
    side (inr p) = inr (omega (arith, p, h), omega (arith, p, h))

pub factorial_within : (limit n : ℕ) → 40 ≤ limit → kept (factorial (min n limit)) ≡ kept (factorial n)
factorial_within limit n h = alike (min n limit) n (kept_within limit n h)

pub factorial_kept_at : (n : ℕ) → kept (factorial (min n 40)) ≡ kept (factorial n)
factorial_kept_at n = factorial_within 40 n (omega arith)

-- what holds of an answer gives more of it
pub ok_then : {A E : Type 0} (r : Result A E) {P Q : A → Type 0} → ((a : A) → P a → Q a) → IfOk r P → IfOk r Q
ok_then (Ok a) f h = f a h
ok_then (Err e) f h = tt

pub ok_always : {A E : Type 0} (r : Result A E) {Q : A → Type 0} → ((a : A) → Q a) → IfOk r Q
ok_always (Ok a) f = f a
ok_always (Err e) f = tt
