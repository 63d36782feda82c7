-- Each change of an environment keeps that no polynomial has a parameter that isn't in use
use Rattle.std.proofs.Common.{◌≡◌, ℕ, zero, suc, ◌+◌, ◌<◌, ◌≤◌, refl, ap, ap₂, ◌∙◌, Bool, true, false, List, if◌then◌else◌, arith, ◌==◌, ◌&&◌}
use Rattle.algebra.specs.RingLaws as L
use Rattle.calculus.specs.Powers.{delta}
use Rattle.calculus.specs.Polynomial.{Polynomial, polynomials, nil, plus, times, derivative, whole, plus-nil}
use Rattle.calculus.proofs.PolynomialLaws.{derivative-plus, derivative-times, derivative-coordinate, constant-zero}
use Rattle.ufl_tree.specs.declared.function.Role.{Role}
use Rattle.ufl_meaning.specs.Environment.{Environment, HasOnlyUsed, parameter, parameter_number, same_role, same_list, raised, turned, scaled, with_function, other_argument, exchanged}

-- variable n doesn't occur in p
abbrev IsWithout : ℕ → Polynomial → Type 0
IsWithout n p = derivative n p ≡ nil

pub apart : (i j : ℕ) → i < j → delta i j ≡ 0
apart zero zero h = absurd (omega arith)
apart zero (suc j) h = refl
apart (suc i) zero h = absurd (omega arith)
apart (suc i) (suc j) h = apart i j (omega arith)

without_parameter : (u k : ℕ) → suc u ≤ k → IsWithout (parameter_number k) (parameter u)
without_parameter u k h = derivative-coordinate (3 + k) (3 + u) ∙ ap whole (apart (3 + u) (3 + k) (omega arith)) ∙ constant-zero

without_plus : (n : ℕ) (p q : Polynomial) → IsWithout n p → IsWithout n q → IsWithout n (plus p q)
without_plus n p q hp hq = derivative-plus n p q ∙ ap₂ plus hp hq ∙ plus-nil nil

without_times : (n : ℕ) (p q : Polynomial) → IsWithout n p → IsWithout n q → IsWithout n (times p q)
without_times n p q hp hq =
    derivative-times n p q
    ∙ ap₂ plus (ap (λ x. times x q) hp ∙ L.zero-mul polynomials q) (ap (times p) hq ∙ L.mul-zero polynomials p)
    ∙ plus-nil nil

either : (n : ℕ) (b : Bool) (p q : Polynomial) → IsWithout n p → IsWithout n q → IsWithout n (if b then p else q)
either n true p q hp hq = hp
either n false p q hp hq = hq

pub raised_only_used : (l : ℕ) (c : List ℕ) (env : Environment) → HasOnlyUsed env → HasOnlyUsed (raised l c env)
raised_only_used l c env H = record {
  values = λ r i k h. H.values r i k (omega arith);
  offsets = λ m b k h.
      either (parameter_number k) ((m == l) && same_list b c) _ _
      (without_plus (parameter_number k) _ _ (H.offsets m b k (omega arith)) (without_parameter env.used k h))
      (H.offsets m b k (omega arith));
}

pub turned_only_used : (w d : Role) (env : Environment) → HasOnlyUsed env → HasOnlyUsed (turned w d env)
turned_only_used w d env H = record {
  values = λ r i k h.
      either (parameter_number k) (same_role r w) _ _
      (without_plus (parameter_number k) _ _ (H.values r i k (omega arith))
      (without_times (parameter_number k) _ _ (without_parameter env.used k h) (H.values d i k (omega arith))))
      (H.values r i k (omega arith));
  offsets = λ m b k h. H.offsets m b k (omega arith);
}

pub scaled_only_used : (w : Role) (env : Environment) → HasOnlyUsed env → HasOnlyUsed (scaled w env)
scaled_only_used w env H = record {
  values = λ r i k h.
      either (parameter_number k) (same_role r w) _ _
      (without_times (parameter_number k) _ _ (without_parameter env.used k h) (H.values r i k (omega arith)))
      (H.values r i k (omega arith));
  offsets = λ m b k h. H.offsets m b k (omega arith);
}

pub with_function_only_used : (w f : Role) (env : Environment) → HasOnlyUsed env → HasOnlyUsed (with_function w f env)
with_function_only_used w f env H = record {
  values = λ r i k h. either (parameter_number k) (same_role r w) _ _ (H.values f i k h) (H.values r i k h);
  offsets = H.offsets;
}

pub exchanged_only_used : (env : Environment) → HasOnlyUsed env → HasOnlyUsed (exchanged env)
exchanged_only_used env H = record {
  values = λ r i k h. H.values (other_argument r) i k h;
  offsets = H.offsets;
}
