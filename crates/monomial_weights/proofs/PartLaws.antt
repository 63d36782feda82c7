-- What the weight of a layout's functions says of the parts of atoms, and of products of these
use Rattle.std.proofs.Common.{◌≡◌, ℕ, zero, suc, ◌+◌, ◌-◌, ◌*◌, ◌^◌, ◌≤◌, max, true, List, [], ◌∷◌, Option, None, Some, map, refl, sym, ap, subst, arith}
use Rattle.std.specs.Prelude.{slice_get}
use Rattle.std.proofs.lemmas.Nat.{pow-add}
use Prim.Native.Nat.{◌∣◌}
use native.Mathlib.Nat as N
use Rattle.calculus.specs.LocalFunction.{factorial}
use Rattle.lagrange.specs.Bounds.{basis_bound}
use Rattle.spaces.specs.declared.parts.Part.{Part}
use Rattle.spaces.specs.Scalar.{Scalar, scalar_of}
use Rattle.spaces.proofs.NodeLaws.{both_true}
use Rattle.ufl_tree.specs.declared.function.Function.{Function}
use Rattle.monos.specs.declared.layout.Layout.{Layout}
use Rattle.monos.specs.declared.mono.Atom.{Atom}
use Rattle.monos.specs.Layout.{role_parts}
use Rattle.monos.specs.Monomial.{derivative_count, derivatives}
use Rattle.refint.specs.Reference.{nodes_in}
use Rattle.weigh.specs.Lists.{costs}
use Rattle.weigh.specs.Weighing.{coefficient_sum, parts_weight}
use Rattle.weigh.proofs.LcmLaws.{lcm_left, lcm_right}
use Rattle.weigh.proofs.WeighLaws.{parts_sound}
use Rattle.monomial_products.specs.Products.{alive_on, is_alive, are_alive, degree_in, degree_at, degree_left, denominator, coefficient_bound, own_spread}
use Rattle.monomial_products.proofs.FormedLaws.{alive_within, not_alive}
use Rattle.monomial_weights.specs.Weighed.{weight_at, cost_at, degree_sum}

-- ---- the parts of one function
abbrev scalars_of : List Part → List Scalar
scalars_of ps = map scalar_of ps

pub nodes_covered : (ps : List Part) (i : ℕ) → max 1 (nodes_in (slice_get ps i)) ≤ (parts_weight (scalars_of ps)).cost
nodes_covered [] i = omega arith
nodes_covered (p ∷ ps) zero = let h = (parts_sound (scalars_of ps)).cost in omega (arith, h)
nodes_covered (p ∷ ps) (suc i) = let h = nodes_covered ps i in omega (arith, h)

degree_covered : (ps : List Part) (i : ℕ) → degree_in (slice_get ps i) ≤ (parts_weight (scalars_of ps)).deg
degree_covered [] i = omega arith
degree_covered (p ∷ ps) zero = omega arith
degree_covered (p ∷ ps) (suc i) = let h = degree_covered ps i in omega (arith, h)

denominator_covered : (ps : List Part) (i : ℕ) → factorial (degree_in (slice_get ps i)) ∣ (parts_weight (scalars_of ps)).fac
denominator_covered [] i = N.dvd_refl 1
denominator_covered (p ∷ ps) zero = lcm_left (factorial p.degree) (parts_weight (scalars_of ps)).fac
denominator_covered (p ∷ ps) (suc i) =
    N.dvd_trans (factorial (degree_in (slice_get ps i))) (denominator_covered ps i) (lcm_right (factorial p.degree) (parts_weight (scalars_of ps)).fac)

same_sum : (q : ℕ) → basis_bound q ≡ coefficient_sum q
same_sum zero = refl
same_sum (suc zero) = refl
same_sum (suc (suc zero)) = refl
same_sum (suc (suc (suc q))) = refl

sum_covered : (ps : List Part) (i : ℕ) → basis_bound (degree_in (slice_get ps i)) ≤ (parts_weight (scalars_of ps)).s
sum_covered [] i = omega arith
sum_covered (p ∷ ps) zero = let e = same_sum p.degree in omega (arith, e)
sum_covered (p ∷ ps) (suc i) = let h = sum_covered ps i in omega (arith, h)

alive_degree : (o : Option Part) (k : ℕ) → alive_on o k ≡ true → k ≤ degree_in o
alive_degree None k h = absurd (not_alive None k refl h)
alive_degree (Some p) k h = alive_within (Some p) p k refl h

-- ---- products of atoms
grown : (a c p C P : ℕ) → a ≤ c * p * (C * P) → a ≤ c * C * (p * P)
grown a c p C P h = omega (arith, h)

-- one more factor, with k more derivatives
pub raised : (b k r a c C : ℕ) → a ≤ c * b ^ k * (C * b ^ r) → a ≤ c * C * b ^ (k + r)
raised b k r a c C h = subst (λ p. a ≤ c * C * p) (sym (pow-add b k r)) (grown a c (b ^ k) C (b ^ r) h)

pub costs_positive : (cost : Function → ℕ) → ((f : Function) → 1 ≤ cost f) → (xs : List Atom) → 1 ≤ costs cost xs
costs_positive cost h [] = N.le_refl 1
costs_positive cost h (x ∷ xs) = N.mul-pos (h x.f) (costs_positive cost h xs)

module _ (l : Layout) where
  pub spread_covered : (xs : List Atom) → own_spread l xs ≤ costs (cost_at l) xs * l.d ^ derivatives xs
  spread_covered [] = N.le_of_eq (sym (ap (λ p. 1 * p) (N.pow-zero l.d)))
  spread_covered (x ∷ xs) =
      raised l.d (derivative_count x) (derivatives xs) (own_spread l (x ∷ xs)) (cost_at l x.f) (costs (cost_at l) xs)
      (N.mul-le-mul (N.mul-le-mul_right (l.d ^ derivative_count x) (nodes_covered (role_parts l x.f.role) x.component)) (spread_covered xs))

  pub bound_covered : (xs : List Atom) → coefficient_bound l xs ≤ costs (λ f. (weight_at l f).s) xs * 3 ^ derivatives xs
  bound_covered [] = N.le_of_eq (sym (ap (λ p. 1 * p) (N.pow-zero 3)))
  bound_covered (x ∷ xs) =
      raised 3 (derivative_count x) (derivatives xs) (coefficient_bound l (x ∷ xs)) (weight_at l x.f).s (costs (λ f. (weight_at l f).s) xs)
      (N.mul-le-mul (N.mul-le-mul_right (3 ^ derivative_count x) (sum_covered (role_parts l x.f.role) x.component)) (bound_covered xs))

  pub denominators_divide : (xs : List Atom) → denominator l xs ∣ costs (λ f. (weight_at l f).fac) xs
  denominators_divide [] = N.dvd_refl 1
  denominators_divide (x ∷ xs) =
      N.mul-dvd-mul (factorial (degree_at l x)) (denominator l xs) (denominator_covered (role_parts l x.f.role) x.component) (denominators_divide xs)

  -- as many derivatives as an atom has, its degree falls
  pub degrees_fall : (xs : List Atom) → are_alive l xs ≡ true → degree_left l xs + derivatives xs ≤ degree_sum l xs
  degrees_fall [] h = omega arith
  degrees_fall (x ∷ xs) h =
      let b = both_true (is_alive l x) (are_alive l xs) h in
      fall (degree_at l x) (derivative_count x) (weight_at l x.f).deg (degree_left l xs) (derivatives xs) (degree_sum l xs)
      (alive_degree (slice_get (role_parts l x.f.role) x.component) (derivative_count x) b.0) (degree_covered (role_parts l x.f.role) x.component)
      (degrees_fall xs b.1)
    where
      fall : (n k q m r t : ℕ) → k ≤ n → n ≤ q → m + r ≤ t → n - k + m + (k + r) ≤ q + t
      fall n k q m r t h g f = omega (arith, h, g, f)
