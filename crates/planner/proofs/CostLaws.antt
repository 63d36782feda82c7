-- The costs of functions by their parts
use Rattle.std.proofs.Common.{ℕ, zero, suc, ◌+◌, ◌*◌, ◌^◌, ◌≤◌, max, List, [], ◌∷◌, map, sym, subst, arith}
use Rattle.std.specs.Prelude.{slice_get}
use Rattle.std.proofs.lemmas.Nat.{pow-add}
use native.Mathlib.Nat as N
use Rattle.spaces.specs.declared.parts.Part.{Part}
use Rattle.spaces.specs.Scalar.{scalar_of}
use Rattle.ufl_tree.specs.declared.function.Function.{Function}
use Rattle.monos.specs.declared.layout.Layout.{Layout}
use Rattle.monos.specs.declared.mono.Atom.{Atom}
use Rattle.monos.specs.Layout.{role_parts}
use Rattle.refint.specs.Reference.{nodes_in}
use Rattle.weigh.specs.Lists.{costs}
use Rattle.weigh.specs.Weighing.{parts_weight}
use Rattle.weigh.proofs.WeighLaws.{parts_sound}
use Rattle.monomial_weights.specs.Weighed.{cost_at}

pub nodes_covered : (ps : List Part) (i : ℕ) → max 1 (nodes_in (slice_get ps i)) ≤ (parts_weight (map scalar_of ps)).cost
nodes_covered [] i = omega arith
nodes_covered (p ∷ ps) zero = let h = (parts_sound (map scalar_of ps)).cost in omega (arith, h)
nodes_covered (p ∷ ps) (suc i) = let h = nodes_covered ps i in omega (arith, h)

cost_positive : (l : Layout) (f : Function) → 1 ≤ cost_at l f
cost_positive l f = N.le_trans (some _) (nodes_covered (role_parts l f.role) 0)
  where
    some : (n : ℕ) → 1 ≤ max 1 n
    some n = omega arith

pub costs_positive : (l : Layout) (xs : List Atom) → 1 ≤ costs (cost_at l) xs
costs_positive l [] = N.le_refl 1
costs_positive l (x ∷ xs) = N.mul-pos (cost_positive l x.f) (costs_positive l xs)

-- one more factor, with k more derivatives
grown : (a c p C P : ℕ) → a ≤ c * p * (C * P) → a ≤ c * C * (p * P)
grown a c p C P h = omega (arith, h)

pub raised : (b k r a c C : ℕ) → a ≤ c * b ^ k * (C * b ^ r) → a ≤ c * C * b ^ (k + r)
raised b k r a c C h = subst (λ p. a ≤ c * C * p) (sym (pow-add b k r)) (grown a c (b ^ k) C (b ^ r) h)
