-- The common multiple as the steps of the code compute it
use Rattle.std.proofs.Common.{◌≡◌, ℕ, zero, suc, ◌+◌, ◌*◌, ◌/◌, ◌≤◌, ◌<◌, max, ◌-◌, ◌^◌, ◌⊎◌, inl, inr, sym, ◌∙◌, ap, subst, arith}
use native.Mathlib.Nat as N
use Rattle.std.proofs.Math.Nat.{mul-div_cancel_left}
use Rattle.std.proofs.lemmas.Bool.{cases_lt}
use Rattle.algebra.specs.Gcd.{gcd}
use Rattle.algebra.specs.GcdLaws.{gcd-zero, gcd_positive_left, part_left, part_right}
use Rattle.weigh.specs.Steps.{lcm}
use Rattle.weigh.specs.Weighing.{kept}
use Rattle.weigh.proofs.LcmLaws.{lcm_positive}
use Rattle.admit.specs.declared.steps.Put.{Put}
use Rattle.admit.specs.declared.steps.Put.TheVariants.{Either, Both}
use Rattle.admit.specs.Put.{put_by}

-- a multiple's quotient by its part
quotient : (d n q : ℕ) → 1 ≤ d → n ≡ d * q → n / d ≡ q
quotient d n q p e = ap (λ k. k / d) e ∙ mul-div_cancel_left q p

swapped : (x g y : ℕ) → x * (g * y) ≡ g * x * y
swapped x g y = omega arith

-- how often each of two numbers goes into their common multiple
pub lcm_by_left : (a b : ℕ) → 1 ≤ a → lcm a b / a ≡ b / gcd a b
lcm_by_left a b p = quotient a (lcm a b) (b / gcd a b) p
    (ap (λ n. a / gcd a b * n) (part_right a b) ∙ swapped (a / gcd a b) (gcd a b) (b / gcd a b) ∙ ap (λ n. n * (b / gcd a b)) (sym (part_left a b)))

pub lcm_by_right : (a b : ℕ) → 1 ≤ b → lcm a b / b ≡ a / gcd a b
lcm_by_right a b p = quotient b (lcm a b) (a / gcd a b) p (N.mul_comm (a / gcd a b) b)

-- what is kept of numbers that were kept before
pub max_kept : (m n : ℕ) → kept (max (kept m) (kept n)) ≡ kept (max m n)
max_kept m n = omega arith

pub sum_kept : (m n : ℕ) → kept (kept m + kept n) ≡ kept (m + n)
sum_kept m n = omega arith

pub put_kept : (how : Put) (m n : ℕ) → kept (put_by how (kept m) (kept n)) ≡ kept (put_by how m n)
put_kept Either = max_kept
put_kept Both = sum_kept

-- the last of Euclid's steps
pub last_divisor : (a b : ℕ) → b ≡ 0 → gcd a b ≡ a
last_divisor = gcd-zero

pub divisor_positive : (a b : ℕ) → 1 ≤ a → 0 < gcd a b
divisor_positive = gcd_positive_left

-- a number that is kept is itself, or at the limit
kept_or_limit : (m : ℕ) → (kept m ≡ m) ⊎ (2 ^ 127 - 1 ≤ kept m)
kept_or_limit m = side (cases_lt m (2 ^ 127 - 1))
  where
    side : (m < 2 ^ 127 - 1) ⊎ (2 ^ 127 - 1 ≤ m) → (kept m ≡ m) ⊎ (2 ^ 127 - 1 ≤ kept m)
    side (inl h) = inl (omega (arith, h))
    side (inr h) = inr (omega (arith, h))

at_limit : (m p q : ℕ) → kept m ≤ p → m ≤ q → (kept m ≡ m) ⊎ (2 ^ 127 - 1 ≤ kept m) → (kept m ≡ m → p ≡ q) → kept p ≡ kept q
at_limit m p q h k (inl e) f = ap kept (f e)
at_limit m p q h k (inr e) f = omega (arith, h, k, e)

-- a product whose factor was kept before
pub kept_times : (m d : ℕ) → kept (kept m * d) ≡ kept (m * d)
kept_times m zero = ap kept (N.mul-zero (kept m) ∙ sym (N.mul-zero m))
kept_times m (suc d) =
    let below : kept m ≤ kept m * suc d = N.le-mul_of_pos_right (kept m) (N.zero-lt-suc d) in
    let own : m ≤ m * suc d = N.le-mul_of_pos_right m (N.zero-lt-suc d) in
    at_limit m (kept m * suc d) (m * suc d) below own (kept_or_limit m) (λ h. ap (λ n. n * suc d) h)

kept_positive : (n : ℕ) → 1 ≤ n → 1 ≤ kept n
kept_positive n h = omega (arith, h)

-- the common multiple that is kept
pub kept_multiple : (a b g n : ℕ) → 1 ≤ a → 1 ≤ b → g ≡ gcd a b → n ≡ kept (a / g * b) → 1 ≤ n
kept_multiple a b g n p q e h =
    subst (λ m. 1 ≤ m) (sym (h ∙ ap (λ d. kept (a / d * b)) e)) (kept_positive (lcm a b) (lcm_positive a b p q))
