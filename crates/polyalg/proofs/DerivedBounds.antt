-- A derivative of bounded terms: its steps don't pass, and what bounds its coefficients
use Rattle.std.proofs.Common.{◌≡◌, ℕ, zero, suc, ◌+◌, ◌*◌, ◌<◌, ◌≤◌, ◌^◌, false, is_none, nat_lt, List, [], ◌∷◌, length, refl, sym, ap, ap₂, ◌∙◌, arith}
use native.Mathlib.Nat as N
use Rattle.algebra.specs.Ring.{natural}
use Rattle.algebra.specs.Fraction.{fractions, mul}
use Rattle.algebra.specs.Over.{Over, AreOver}
use Rattle.algebra.proofs.OverLaws.{over_at, over_same, over_whole, over_product, over_weaken}
use Rattle.algebra.proofs.OverSteps.{product_fits}
use Rattle.ratio.specs.Value.{fraction_of}
use Rattle.calculus.specs.Polynomial.{plus, derivative, monomial}
use Rattle.calculus.specs.Powers.{powers_of, power_of, lower}
use Rattle.calculus.specs.Rational.{natural_whole}
use Rattle.calculus.proofs.OverRingLaws as O
use Rattle.calculus.proofs.PolynomialLaws.{derivative-plus}
use Rattle.polyalg.specs.Exponents.{exponent, total}
use Rattle.polyalg.specs.Terms.{term_value, value_of, AreTerms, IsPoly}
use Rattle.polyalg.specs.Range.{derivative_passes}
use Rattle.polyalg.specs.Products.{degree_of}
use Rattle.polyalg.specs.Bounds.{CoefficientsOver, Pieces, sum_of, sizes}
use Rattle.polyalg.specs.declared.term.Term.{Term}
use Rattle.polyalg.proofs.MonomialLaws.{exponent_is}
use Rattle.polyalg.proofs.DerivedLaws.{by_three, derivative-nil}
use Rattle.polyalg.proofs.SizeLaws.{piece, no_pieces, one_more, size_at}
use Rattle.polyalg.proofs.BoundLaws.{bounded, only_one, share_left, share_right}

-- an exponent is at most the degree
exponent_within : (e : List ℕ) (k : ℕ) → length e ≡ 3 → exponent e k ≤ total e
exponent_within e k h = by_three (λ e. exponent e k ≤ total e) (λ x y z. go x y z k) e h
  where
    go : (x y z k : ℕ) → exponent (x ∷ y ∷ z ∷ []) k ≤ x + y + z
    go x y z zero = omega arith
    go x y z (suc zero) = omega arith
    go x y z (suc (suc zero)) = omega arith
    go x y z (suc (suc (suc k))) = omega arith

natural_over : (n : ℕ) → Over 1 n (natural fractions n)
natural_over n = over_at 1 n _ _ (sym (natural_whole n)) (over_whole n)

times_one : (l : ℕ) → l * 1 ≡ l
times_one l = omega arith

one_times : (l : ℕ) → 1 * l ≡ l
one_times l = omega arith

pub derivatives_fit : (l b n k : ℕ) (ts : List Term) → l < 2 ^ 127 → b * n < 2 ^ 127 → AreTerms ts → degree_of ts ≤ n → CoefficientsOver l b ts → derivative_passes k ts ≡ false
derivatives_fit l b n k [] h g a d s = refl
derivatives_fit l b n k (t ∷ ts) h g a d s =
    let e = exponent t.e k in
    let small : exponent t.e k ≤ n = omega (arith, exponent_within t.e k a.0.three) in
    let rest : degree_of ts ≤ n = omega arith in
    let here : s.0 * exponent t.e k ≤ b * n = N.mul-le-mul (share_left s.0 s.1 b s.2) small in
    let there : s.1 * n ≤ b * n = N.mul-le-mul_right n (share_right s.0 s.1 b s.2) in
    only_one (nat_lt 0 (exponent t.e k)) _ _
    (ap is_none (product_fits l (s.0 * exponent t.e k) (fraction_of t.c) (natural fractions (exponent t.e k)) h (N.lt_of_le_of_lt here g)
    (over_same (l * 1) (s.0 * exponent t.e k) l (s.0 * exponent t.e k) _ (times_one l) refl (over_product l 1 s.0 (exponent t.e k) (fraction_of t.c) _ s.3 (natural_over (exponent t.e k))))))
    (derivatives_fit l s.1 n k ts h (N.lt_of_le_of_lt there g) a.1 rest s.4)

-- the derivative term by term
abbrev derived_pieces : ℕ → List Term → Pieces
derived_pieces k [] = []
derived_pieces k (t ∷ ts) = (mul (natural fractions (power_of (powers_of t.e) k)) (fraction_of t.c), lower k (powers_of t.e)) ∷ derived_pieces k ts

derived_term : (k : ℕ) (t : Term) → derivative k (term_value t) ≡ piece (mul (natural fractions (power_of (powers_of t.e) k)) (fraction_of t.c)) (lower k (powers_of t.e))
unfolding monomial derivative
derived_term k t = O.derivative-monomial fractions k (fraction_of t.c) (powers_of t.e)

derived_sum : (k : ℕ) (ts : List Term) → derivative k (value_of ts) ≡ sum_of (derived_pieces k ts)
derived_sum k [] = derivative-nil k ∙ sym no_pieces
derived_sum k (t ∷ ts) = derivative-plus k (term_value t) (value_of ts) ∙ ap₂ plus (derived_term k t) (derived_sum k ts) ∙ sym (one_more _ _ (derived_pieces k ts))

derived_over : (l b n k : ℕ) (ts : List Term) → AreTerms ts → degree_of ts ≤ n → CoefficientsOver l b ts → AreOver l (b * n) (sizes (derived_pieces k ts))
derived_over l b n k [] a d s = tt
derived_over l b n k (t ∷ ts) a d s =
    let small : power_of (powers_of t.e) k ≤ n = omega (arith, exponent_is t.e k, exponent_within t.e k a.0.three) in
    let rest : degree_of ts ≤ n = omega arith in (
      n * s.0,
      s.1 * n,
      shares s.0 s.1 b n s.2,
      over_weaken l (power_of (powers_of t.e) k * s.0) (n * s.0) _ (N.mul-le-mul_right s.0 small)
          (over_same (1 * l) (power_of (powers_of t.e) k * s.0) l (power_of (powers_of t.e) k * s.0) _ (one_times l) refl
          (over_product 1 l (power_of (powers_of t.e) k) s.0 _ (fraction_of t.c) (natural_over (power_of (powers_of t.e) k)) s.3)),
      derived_over l s.1 n k ts a.1 rest s.4,
    )
  where
    shares : (i j b n : ℕ) → i + j ≤ b → n * i + j * n ≤ b * n
    shares i j b n h = let k : (i + j) * n ≤ b * n = N.mul-le-mul_right n h in omega arith

pub derived_bounded : (l b n k : ℕ) (ts result : List Term) → 0 < l → IsPoly ts → IsPoly result → value_of result ≡ derivative k (value_of ts) → degree_of ts ≤ n → CoefficientsOver l b ts
    → CoefficientsOver l (b * n) result
derived_bounded l b n k ts result h p q e d s =
    bounded l (b * n) result q
    (size_at l (b * n) _ _ e (record { positive = h; pieces = derived_pieces k ts; is = derived_sum k ts; over = derived_over l b n k ts p.terms d s }))
