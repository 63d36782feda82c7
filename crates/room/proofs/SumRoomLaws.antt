-- Sums of shares within their room don't pass
use Rattle.std.proofs.Common.{◌≡◌, ℕ, ◌+◌, ◌*◌, ◌/◌, ◌<◌, ◌≤◌, ◌^◌, max, sym, ◌∙◌, ap, arith, List, [], ◌∷◌, map}
use Rattle.std.specs.List.{AllByRecursion}
use Rattle.std.proofs.lemmas.Nat.Gcd.{dvd_trans}
use Prim.Native.Nat.{◌∣◌}
use native.Mathlib.Nat as N
use Rattle.algebra.specs.Fraction.{zero_fraction}
use Rattle.algebra.specs.GcdLaws.{positive_part}
use Rattle.algebra.specs.Over.{Over}
use Rattle.room.specs.Steps.{StepsFit}
use Rattle.room.specs.Adding.{Adding, Term, Plus, onto, adding_steps}
use Rattle.room.specs.SumRoom.{Share, IsOver, common_den, lifted_most, sum_room, share_sum}
use Rattle.algebra.proofs.OverLaws.{over_same, over_lift, over_zero}
use Rattle.room.proofs.NumbersLaws.{divides_itself}
use Rattle.weigh.proofs.LcmLaws.{lcm_positive, lcm_left, lcm_right}
use Rattle.room.proofs.AddingLaws.{OverAtMost, at_most_plus, at_most_term, at_most_weaken, adding_fits}

-- l is a multiple of each denominator
abbrev HasAllDens : ℕ → List Share → Type 0
HasAllDens l = AllByRecursion (λ x. x.den ∣ l)

common_dens : (l : ℕ) (xs : List Share) → common_den xs ∣ l → HasAllDens l xs
common_dens l [] h = tt
common_dens l (x ∷ xs) h = (
  dvd_trans x.den (lcm_left x.den (common_den xs)) h,
  common_dens l xs (dvd_trans (common_den xs) (lcm_right x.den (common_den xs)) h),
)

common_den_positive : (xs : List Share) → AllByRecursion IsOver xs → 0 < common_den xs
common_den_positive [] o = N.zero-lt-suc 0
common_den_positive (x ∷ xs) o = lcm_positive x.den (common_den xs) o.0.positive (common_den_positive xs o.1)

pub share_over : (l : ℕ) (x : Share) → 0 < l → x.den ∣ l → IsOver x → Over l (x.most * l / x.den) x.value
share_over l x s h o =
    let whole : x.den * (l / x.den) ≡ l = N.mul-div_cancel' x.den h in
    over_same (x.den * (l / x.den)) (x.most * (l / x.den)) l (x.most * l / x.den) x.value whole
    (sym (ap (λ m. x.most * m / x.den) (sym whole) ∙ ap (λ m. m / x.den) (turn x.most x.den (l / x.den)) ∙ N.mul-div_cancel_left (x.most * (l / x.den)) o.positive))
    (over_lift x.den x.most (l / x.den) x.value (positive_part x.den (l / x.den) l s (sym whole)) o)
  where
    turn : (p d k : ℕ) → p * (d * k) ≡ d * (p * k)
    turn p d k = omega arith

onto_over : (l : ℕ) (xs : List Share) (t : Adding) (b : ℕ) → 0 < l → HasAllDens l xs → AllByRecursion IsOver xs → OverAtMost l b t → OverAtMost l (b + lifted_most l xs) (onto t (map (λ x. x.value) xs))
onto_over l [] t b s h o p = at_most_weaken l b (b + 0) t (same b) p
  where
    same : (b : ℕ) → b ≤ b + 0
    same b = omega arith
onto_over l (x ∷ xs) t b s h o p =
    at_most_weaken l (b + x.most * l / x.den + lifted_most l xs) (b + lifted_most l (x ∷ xs)) (onto (Plus t (Term x.value)) (map (λ x. x.value) xs)) (together b (x.most * l / x.den) (lifted_most l xs))
    (onto_over l xs (Plus t (Term x.value)) (b + x.most * l / x.den) s h.1 o.1
    (at_most_plus l b (x.most * l / x.den) t (Term x.value) p (at_most_term l (x.most * l / x.den) x.value (share_over l x s h.0 o.0))))
  where
    together : (a b c : ℕ) → a + b + c ≤ a + (b + c)
    together a b c = omega arith

pub sums_over : (xs : List Share) → AllByRecursion IsOver xs → OverAtMost (common_den xs) (lifted_most (common_den xs) xs) (share_sum xs)
sums_over xs o =
    let some = common_den_positive xs o in
    at_most_weaken (common_den xs) (0 + lifted_most (common_den xs) xs) (lifted_most (common_den xs) xs) (share_sum xs) (bare (lifted_most (common_den xs) xs))
    (onto_over (common_den xs) xs (Term zero_fraction) 0 some (common_dens (common_den xs) xs (divides_itself (common_den xs))) o (at_most_term (common_den xs) 0 zero_fraction (over_zero (common_den xs) 0 some)))
  where
    bare : (a : ℕ) → 0 + a ≤ a
    bare a = omega arith

parts : (p q : ℕ) → 1024 * max p q < 2 ^ 127 → (p < 2 ^ 127) × (q < 2 ^ 127)
parts p q h = (omega arith, omega arith)

pub sums_fit : (xs : List Share) → AllByRecursion IsOver xs → sum_room xs < 2 ^ 127 → StepsFit (adding_steps (share_sum xs))
unfolding sum_room
sums_fit xs o h =
    let p = parts (common_den xs) (lifted_most (common_den xs) xs) h in
    let q = sums_over xs o in
    adding_fits (common_den xs) q.own (share_sum xs) p.0 (N.lt_of_le_of_lt q.bound p.1) q.over
