-- The quotient of two whole numbers, and what its reduced pair says
use Rattle.std.proofs.Common.{◌≡◌, ◌≢◌, ℕ, zero, suc, ℤ, pos, negsuc, ◌*◌, ◌*ℤ◌, refl, sym, ◌∙◌, ap, ap₂, subst, unsigned_abs, Option, None, Some, IsSome, IfSome, ◌↔◌, [], ◌∷◌}
use Rattle.std.proofs.lemmas.Int.{unsigned_abs-mul}
use native.Mathlib.Nat as N
use mathlib.Core.Quot.{mk}
use Rattle.ratio.specs.declared.reduced.Ratio.{Ratio}
use Rattle.ratio.specs.Value.{pair_of, fraction_of, valued}
use Rattle.ratio.specs.Parts.{Fits}
use Rattle.algebra.specs.Fraction.{Pair, same, whole, pair_product, inverse_parts, mul, inverse, of_integer}
use Rattle.algebra.specs.Integers.{integers}
use Rattle.algebra.specs.Solver.{at, num, minus, ◌⊗◌}
use Rattle.algebra.specs.Sound.{ring_from}
use Rattle.algebra.specs.Steps.{quotient}
use Rattle.ratio.proofs.Reading.{answered, pair_fits, fits_pair}

-- n over d as one pair, where d is not 0
abbrev quotient_pair : ℤ → ℤ → Pair
quotient_pair n d = pair_product (whole n) (inverse_parts d 1)

unit_fits : (n s : ℤ) (k : ℕ) → unsigned_abs s ≡ 1 → Fits (unsigned_abs n) k ≡ Fits (unsigned_abs (n *ℤ s)) (1 * k)
unit_fits n s k h = ap₂ Fits (sym (unsigned_abs-mul n s ∙ ap (λ j. unsigned_abs n * j) h ∙ N.mul-one (unsigned_abs n))) (sym (N.one-mul k))

value_at : (r : Ratio) (n : ℤ) (k : ℕ) → r.n *ℤ pos (suc k) ≡ n *ℤ pos r.d → fraction_of r ≡ mk (quotient_pair n (pos (suc k)))
unfolding fraction_of
value_at r n k e =
    same (pair_of r) (quotient_pair n (pos (suc k)))
    (ring_from integers (r.n ∷ pos r.d ∷ n ∷ pos (suc k) ∷ []) (at 0 ⊗ (num (pos 1) ⊗ at 3)) (at 2 ⊗ num (pos 1) ⊗ at 1) (num (pos 1)) (at 0 ⊗ at 3) (at 2 ⊗ at 1) e refl)

value_below : (r : Ratio) (n : ℤ) (k : ℕ) → r.n *ℤ negsuc k ≡ n *ℤ pos r.d → fraction_of r ≡ mk (quotient_pair n (negsuc k))
unfolding fraction_of
value_below r n k e =
    same (pair_of r) (quotient_pair n (negsuc k))
    (ring_from integers (r.n ∷ pos r.d ∷ n ∷ pos (suc k) ∷ []) (at 0 ⊗ (num (pos 1) ⊗ at 3)) (at 2 ⊗ num (negsuc 0) ⊗ at 1) (num (negsuc 0)) (at 0 ⊗ minus (at 3)) (at 2 ⊗ at 1) e refl)

-- an answer under a fact about each value
each_value : (r : Option Ratio) (P Q : Ratio → Type 0) → ((x : Ratio) → P x → Q x) → IfSome r P → IfSome r Q
each_value None P Q f h = h
each_value (Some x) P Q f h = f x h

pub quotient_answered : (n d : ℤ) (r : Option Ratio) → IsSome r ↔ ((d ≢ pos 0) × Fits (unsigned_abs n) (unsigned_abs d)) → IfSome r (λ x. x.n *ℤ d ≡ n *ℤ pos x.d)
    → valued r ≡ quotient n d
unfolding quotient mul inverse of_integer
quotient_answered n (pos zero) None p v = refl
quotient_answered n (pos zero) (Some x) p v = absurd ((p.0 refl).0 refl)
quotient_answered n (pos (suc k)) r p v =
    let same_fit = unit_fits n (pos 1) (suc k) refl in
    answered _ r (mk (quotient_pair n (pos (suc k)))) _ p
    ((λ h. pair_fits (quotient_pair n (pos (suc k))) (subst (λ T. T) same_fit h.1)), (λ h. (positive k, subst (λ T. T) (sym same_fit) (fits_pair (quotient_pair n (pos (suc k))) h))))
    (each_value r _ _ (λ x e. value_at x n k e) v)
  where
    positive : (k : ℕ) → pos (suc k) ≢ pos 0
    positive k e = cc
quotient_answered n (negsuc k) r p v =
    let same_fit = unit_fits n (negsuc 0) (suc k) refl in
    answered _ r (mk (quotient_pair n (negsuc k))) _ p
    ((λ h. pair_fits (quotient_pair n (negsuc k)) (subst (λ T. T) same_fit h.1)), (λ h. (below k, subst (λ T. T) (sym same_fit) (fits_pair (quotient_pair n (negsuc k)) h))))
    (each_value r _ _ (λ x e. value_below x n k e) v)
  where
    below : (k : ℕ) → negsuc k ≢ pos 0
    below k e = cc
