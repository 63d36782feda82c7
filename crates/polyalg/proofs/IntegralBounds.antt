-- The integral of bounded terms over a reference cell: its steps don't pass, and what it is over
use Rattle.std.proofs.Common.{◌≡◌, ℕ, zero, suc, ◌+◌, ◌-◌, ◌*◌, ◌<◌, ◌≤◌, ◌^◌, Option, Some, option_and_then, List, [], ◌∷◌, refl, sym, ap, ◌∙◌, arith}
use Rattle.std.proofs.Math.Nat.{suc-mul}
use native.Mathlib.Nat as N
use Rattle.algebra.specs.Fraction.{Fraction, zero_fraction, add, mul, inverse}
use Rattle.algebra.specs.Steps.{product, sum}
use Rattle.algebra.specs.Over.{Over}
use Rattle.algebra.proofs.OverLaws.{over_at, over_same, over_weaken, over_whole, over_reciprocal, over_product, over_lift, over_sum, over_zero}
use Rattle.algebra.proofs.OverSteps.{product_fits, sum_fits_over}
use Rattle.ratio.specs.Value.{fraction_of}
use Rattle.calculus.specs.LocalFunction.{factorial}
use Rattle.calculus.specs.Rational.{natural_whole}
use Rattle.calculus.proofs.Nodes.{factorial_positive}
use Rattle.polyalg.specs.Exponents.{exponent, total}
use Rattle.polyalg.specs.Small.{over}
use Rattle.polyalg.specs.Products.{degree_of}
use Rattle.polyalg.specs.ReferenceIntegral.{raised, factor_of, integral_from, integral_steps}
use Rattle.polyalg.specs.Bounds.{CoefficientsOver}
use Rattle.polyalg.specs.declared.term.Term.{Term}

-- these steps have an answer, which is over l and at most b
abbrev pub Gives : ℕ → ℕ → Option Fraction → Type 0
Gives l b r = (x : Fraction) × (r ≡ Some x) × Over l b x

quotient_over : (n k : ℕ) → 0 < k → Over k n (over n k)
quotient_over n k h =
    over_same (1 * k) (n * 1) k n _ (one_times k) (times_one n)
    (over_product 1 k n 1 _ _ (over_at 1 n _ _ (sym (natural_whole n)) (over_whole n)) (over_at k 1 _ _ (ap inverse (sym (natural_whole k))) (over_reciprocal k h)))
  where
    times_one : (n : ℕ) → n * 1 ≡ n
    times_one n = omega arith

    one_times : (n : ℕ) → 1 * n ≡ n
    one_times n = omega arith

-- n! is a multiple of m! for each m up to n
multiple : (m k : ℕ) → (j : ℕ) × (0 < j) × (factorial m * j ≡ factorial (k + m))
multiple m zero = (1, N.zero-lt-suc 0, once m)
  where
    once : (m : ℕ) → factorial m * 1 ≡ factorial (0 + m)
    once m =
        let e : m ≡ 0 + m = omega arith in
        let f : factorial m * 1 ≡ factorial m = omega arith in
        f ∙ ap factorial e
multiple m (suc k) = go (multiple m k)
  where
    go : (j : ℕ) × (0 < j) × (factorial m * j ≡ factorial (k + m)) → (j : ℕ) × (0 < j) × (factorial m * j ≡ factorial (suc k + m))
    go r =
        let e : suc (k + m) ≡ suc k + m = omega arith in
        (suc (k + m) * r.0, N.mul-pos (N.zero-lt-suc (k + m)) r.1, turn (factorial m) (suc (k + m)) r.0 ∙ ap (λ i. suc (k + m) * i) r.2 ∙ ap factorial e)
      where
        turn : (f n j : ℕ) → f * (n * j) ≡ n * (f * j)
        turn f n j = omega arith

multiple_within : (m n : ℕ) → m ≤ n → (j : ℕ) × (0 < j) × (factorial m * j ≡ factorial n)
multiple_within m n h =
    let r = multiple m (n - m) in
    let e : n - m + m ≡ n = omega arith in
    (r.0, r.1, r.2 ∙ ap factorial e)

factorial_within : (m n top : ℕ) → m ≤ n → factorial n < top → factorial m < top
factorial_within m n top h g = let r = multiple_within m n h in N.lt_of_le_of_lt (least (factorial m) r.0 (factorial n) r.1 r.2) g
  where
    least : (f j n : ℕ) → 0 < j → f * j ≡ n → f ≤ n
    least f zero n h e = absurd (omega arith)
    least f (suc j) n h e = omega (arith, N.mul-suc f j)

-- a fraction of absolute value at most 1 over m!
abbrev IsPart : ℕ → Option Fraction → Type 0
IsPart m r = Gives (factorial m) (factorial m) r

raised_part : (below k n : ℕ) (f : Fraction) → below + k ≤ n → factorial n < 2 ^ 127 → Over (factorial below) (factorial below) f → IsPart (below + k) (raised below k f)
raised_part below zero n f h g o = (f, refl, over_same _ _ _ _ f (same below) (same below) o)
  where
    same : (m : ℕ) → factorial m ≡ factorial (m + 0)
    same m = let e : m ≡ m + 0 = omega arith in ap factorial e
raised_part below (suc k) n f h g o = step (raised_part below k n f (omega arith) g o)
  where
    next : (b k : ℕ) → factorial (b + k) * (b + suc k) ≡ factorial (b + suc k)
    next b k = let e : b + suc k ≡ suc (b + k) = omega arith in ap (λ m. factorial (b + k) * m) e ∙ N.mul_comm (factorial (b + k)) (suc (b + k)) ∙ ap factorial (sym e)

    positive : (b k : ℕ) → 0 < b + suc k
    positive b k = omega arith

    less : (b k : ℕ) → suc k ≤ b + suc k
    less b k = omega arith

    step : IsPart (below + k) (raised below k f) → IsPart (below + suc k) (raised below (suc k) f)
    step r =
        let o : Over (factorial (below + suc k)) (factorial (below + suc k)) (mul r.0 (over (suc k) (below + suc k))) =
        over_same _ _ _ _ _ (next below k) (next below k)
        (over_weaken (factorial (below + k) * (below + suc k)) (factorial (below + k) * suc k) (factorial (below + k) * (below + suc k)) _ (N.mul-le-mul_left (factorial (below + k)) (less below k))
        (over_product (factorial (below + k)) (below + suc k) (factorial (below + k)) (suc k) r.0 _ r.2 (quotient_over (suc k) (below + suc k) (positive below k)))) in
        let small : factorial (below + suc k) < 2 ^ 127 = factorial_within (below + suc k) n (2 ^ 127) h g in (
          mul r.0 (over (suc k) (below + suc k)),
          ap (option_and_then (λ g. product g (over (suc k) (below + suc k)))) r.1 ∙ product_fits _ _ r.0 (over (suc k) (below + suc k)) small small o,
          o,
        )

-- the factor of a term
factor_part : (d n : ℕ) (e : List ℕ) → d + exponent e 0 + exponent e 1 + exponent e 2 ≤ n → factorial n < 2 ^ 127 → IsPart (d + exponent e 0 + exponent e 1 + exponent e 2) (factor_of d e)
factor_part d n e h g =
    let start : Over (factorial d) (factorial d) (over 1 (factorial d)) =
    over_weaken (factorial d) 1 (factorial d) _ (factorial_positive d) (quotient_over 1 (factorial d) (factorial_positive d)) in
    let first = raised_part d (exponent e 0) n (over 1 (factorial d)) (omega arith) g start in
    let second = raised_part (d + exponent e 0) (exponent e 1) n first.0 (omega arith) g first.2 in
    let third = raised_part (d + exponent e 0 + exponent e 1) (exponent e 2) n second.0 h g second.2 in (
      third.0,
      ap (λ r. option_and_then (raised (d + exponent e 0 + exponent e 1) (exponent e 2)) (option_and_then (raised (d + exponent e 0) (exponent e 1)) r)) first.1
          ∙ ap (option_and_then (raised (d + exponent e 0 + exponent e 1) (exponent e 2))) second.1
          ∙ third.1,
      third.2,
    )

-- over n!
factor_within : (d n : ℕ) (e : List ℕ) → total e + d ≤ n → factorial n < 2 ^ 127 → IsPart n (factor_of d e)
factor_within d n e h g =
    let least : d + exponent e 0 + exponent e 1 + exponent e 2 ≤ n = omega arith in
    let r = factor_part d n e least g in
    let j = multiple_within (d + exponent e 0 + exponent e 1 + exponent e 2) n least in
    (r.0, r.1, over_same _ _ _ _ r.0 j.2 j.2 (over_lift _ _ j.0 r.0 j.1 r.2))

-- ---- the sum
integral_gives : (l b n d c top : ℕ) (so_far : Fraction) (ts : List Term) → factorial n < 2 ^ 127 → l * factorial n < 2 ^ 127 → top < 2 ^ 127 → c + b * factorial n ≤ top
    → degree_of ts + d ≤ n → Over (l * factorial n) c so_far → CoefficientsOver l b ts → Gives (l * factorial n) (c + b * factorial n) (integral_from d so_far ts)
integral_gives l b n d c top so_far [] f h g k deg o s = (so_far, refl, over_weaken (l * factorial n) c (c + b * factorial n) so_far (more c (b * factorial n)) o)
  where
    more : (c k : ℕ) → c ≤ c + k
    more c k = omega arith
integral_gives l b n d c top so_far (t ∷ ts) f h g k deg o s =
    let few : s.0 * factorial n + s.1 * factorial n ≤ b * factorial n = shares s.0 s.1 b (factorial n) s.2 in
    let here : total t.e + d ≤ n = omega arith in
    let rest : degree_of ts + d ≤ n = omega arith in
    let small : s.0 * factorial n < 2 ^ 127 = omega arith in
    let room : c + s.0 * factorial n < 2 ^ 127 = omega arith in
    let left : c + s.0 * factorial n + s.1 * factorial n ≤ top = omega arith in
    let least : c + s.0 * factorial n + s.1 * factorial n ≤ c + b * factorial n = omega arith in
    let w = factor_within d n t.e here f in
    let x : Fraction = mul (fraction_of t.c) w.0 in
    let ox : Over (l * factorial n) (s.0 * factorial n) x = over_product l (factorial n) s.0 (factorial n) (fraction_of t.c) w.0 s.3 w.2 in
    let r = integral_gives l s.1 n d (c + s.0 * factorial n) top (add so_far x) ts f h g left rest (over_sum (l * factorial n) c (s.0 * factorial n) so_far x o ox) s.4 in (
      r.0,
      ap (option_and_then (λ f. option_and_then (λ x. option_and_then (λ s. integral_from d s ts) (sum so_far x)) (product (fraction_of t.c) f))) w.1
          ∙ ap (option_and_then (λ x. option_and_then (λ s. integral_from d s ts) (sum so_far x))) (product_fits _ _ (fraction_of t.c) w.0 h small ox)
          ∙ ap (option_and_then (λ s. integral_from d s ts)) (sum_fits_over _ c (s.0 * factorial n) so_far x h room o ox)
          ∙ r.1,
      over_weaken _ _ (c + b * factorial n) r.0 least r.2,
    )
  where
    shares : (i j b n : ℕ) → i + j ≤ b → i * n + j * n ≤ b * n
    shares i j b n h = let k : (i + j) * n ≤ b * n = N.mul-le-mul_right n h in omega arith

pub integrals : (l b n d : ℕ) (ts : List Term) → 0 < l → l * factorial n < 2 ^ 127 → b * factorial n < 2 ^ 127 → degree_of ts + d ≤ n → CoefficientsOver l b ts
    → Gives (l * factorial n) (b * factorial n) (integral_steps d ts)
integrals l b n d ts z h g deg s =
    let r = integral_gives l b n d 0 (b * factorial n) zero_fraction ts (N.lt_of_le_of_lt (least l (factorial n) z) h) h g (all (b * factorial n)) deg
    (over_zero (l * factorial n) 0 (N.mul-pos z (factorial_positive n))) s in
    (r.0, r.1, over_same _ _ _ _ r.0 refl (none (b * factorial n)) r.2)
  where
    least : (l n : ℕ) → 0 < l → n ≤ l * n
    least zero n h = absurd (omega arith)
    least (suc l) n h = omega (arith, suc-mul l n)

    all : (n : ℕ) → 0 + n ≤ n
    all n = omega arith

    none : (n : ℕ) → 0 + n ≡ n
    none n = omega arith
