-- Sums of terms over one denominator don't pass, in any order of adding
use Rattle.std.proofs.Common.{ℕ, ◌+◌, ◌<◌, ◌≤◌, ◌^◌, arith, [], ◌∷◌, ◌++◌}
use native.Mathlib.Nat as N
use Rattle.algebra.specs.Fraction.{Fraction}
use Rattle.algebra.specs.Over.{Over}
use Rattle.room.specs.Steps.{Sum, StepFits, StepsFit}
use Rattle.room.specs.Adding.{Adding, Term, Plus, added, adding_steps, OverAdding, term, plus}
use Rattle.algebra.proofs.OverLaws.{over_sum, over_weaken}
use Rattle.algebra.proofs.OverSteps.{sum_fits_over}
use Rattle.room.proofs.Lists.{all_append}

pub added_over : (l b : ℕ) (t : Adding) → OverAdding l b t → Over l b (added t)
added_over l b (Term x) (term o) = o
added_over l _ (Plus s t) (plus {b = b} {c = c} p q) = over_sum l b c (added s) (added t) (added_over l b s p) (added_over l c t q)

pub adding_fits : (l b : ℕ) (t : Adding) → l < 2 ^ 127 → b < 2 ^ 127 → OverAdding l b t → StepsFit (adding_steps t)
adding_fits l b (Term x) h k (term o) = tt
adding_fits l _ (Plus s t) h k (plus {b = b} {c = c} p q) =
    all_append StepFits (adding_steps s) (adding_steps t ++ Sum (added s) (added t) ∷ []) (adding_fits l b s h (left b c k) p)
    (all_append StepFits (adding_steps t) (Sum (added s) (added t) ∷ []) (adding_fits l c t h (right b c k) q)
    (sum_fits_over l b c (added s) (added t) h k (added_over l b s p) (added_over l c t q), tt))
  where
    left : (b c : ℕ) → b + c < 2 ^ 127 → b < 2 ^ 127
    left b c h = omega arith

    right : (b c : ℕ) → b + c < 2 ^ 127 → c < 2 ^ 127
    right b c h = omega arith

-- ---- sums with a bound that may grow
pub record OverAtMost (l b : ℕ) (t : Adding) : Type 0 where
  pub own : ℕ
  pub over : OverAdding l own t
  pub bound : own ≤ b

pub at_most_plus : (l b c : ℕ) (s t : Adding) → OverAtMost l b s → OverAtMost l c t → OverAtMost l (b + c) (Plus s t)
at_most_plus l b c s t o p = record { own = o.own + p.own; over = plus o.over p.over; bound = N.add-le-add o.bound p.bound }

pub at_most_term : (l b : ℕ) (x : Fraction) → Over l b x → OverAtMost l b (Term x)
at_most_term l b x o = record { own = b; over = term o; bound = N.le_refl b }

pub at_most_weaken : (l b c : ℕ) (t : Adding) → b ≤ c → OverAtMost l b t → OverAtMost l c t
at_most_weaken l b c t h o = record { own = o.own; over = o.over; bound = N.le_trans o.bound h }

pub at_most_over : (l b : ℕ) (t : Adding) → OverAtMost l b t → Over l b (added t)
at_most_over l b t o = over_weaken l o.own b (added t) o.bound (added_over l o.own t o.over)
