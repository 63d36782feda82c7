-- What an operator makes of a body has the weight that the operator makes of the body's
use Rattle.std.proofs.Common.{◌≡◌, ℕ, ◌*◌, ◌≤◌, max, Bool, true, false, List, [], ◌∷◌, length, if◌then◌else◌, refl, arith, slice_get}
use native.Mathlib.Nat as N
use Rattle.spaces.specs.Scalar.{Scalar}
use Rattle.ufl_tree.specs.declared.function.Function.{Function}
use Rattle.ufl_tree.specs.declared.function.Ix.{Ix}
use Rattle.ufl_tree.specs.declared.function.Role.TheVariants.{Trial}
use Rattle.ufl_tree.specs.Places.{Table}
use Rattle.ufl_tree.specs.Term.{Term, num, fun, mark, neg, sum, prod, over, dx, delta, pick, raise, turn, Terms, no_terms, term}
use Rattle.ufl_meaning.specs.Environment.{same_role}
use Rattle.monos.specs.declared.weight.Weight.{Weight}
use Rattle.weigh.specs.Bounds.{Bounds, IsSound}
use Rattle.weigh.specs.Steps.{one_step, linear_step, part_step}
use Rattle.weigh.specs.Terms.{function_directions, term_directions, items_directions, term_weight, items_weight}
use Rattle.weigh.specs.Weighing.{exact, parts_weight, scalars_in, number_weight, times_weight, linear_weight, part_weight}
use Rattle.weigh.proofs.BoundsLaws.{bounds_refl, bounds_trans, times_bounds, plus_bounds, join_bounds, index_bounds, space_bounds, label_bounds, changed_bounds}
use Rattle.weigh.proofs.TermLaws.{directions_positive, term_sound}
use Rattle.lower.specs.Renaming.{zero_term}
use Rattle.perturb.specs.Expanding.{linear, all_linear}
use Rattle.perturb.proofs.BoundsKept.{linear_keeps}
use Rattle.perturb.proofs.LinearLaws.{linear_one_bounds}
use Rattle.integrands.specs.declared.operator.Operator.{Operator}
use Rattle.integrands.specs.declared.operator.Operator.TheVariants.{Scale, Left, Right, Action, Adjoint, Derivative}
use Rattle.integrands.specs.declared.substitution.Substitution.{Substitution}
use Rattle.integrands.specs.declared.substitution.Substitution.TheVariants.{Without, Replaced, Exchanged}
use Rattle.integrands.specs.Flattening.{under}
use Rattle.integrands.specs.Sides.{without_trial, left_side, left_sides}
use Rattle.integrands.specs.Substitution.{in_role, put, substituted, all_substituted}

-- what an operator makes of a weight
abbrev pub weight_under : Operator → Weight → Weight
weight_under (Scale c) a = times_weight exact (number_weight exact c) a
weight_under Left a = linear_weight exact a
weight_under Right a = part_weight exact a
weight_under (Action last by) a = a
weight_under Adjoint a = a
weight_under (Derivative w d) a = linear_weight exact a

-- ---- 0 in place of a function
no_derivative : (ps : List Scalar) → (parts_weight ps).rmin ≡ 0
no_derivative [] = refl
no_derivative (p ∷ ps) = no_derivative ps

one_bounds : (a : Weight) → IsSound a → a.rmin ≡ 0 → Bounds a one_step
one_bounds a p h = record {
  cost = p.cost;
  deg = omega arith;
  g = p.g;
  f = omega arith;
  rmin = omega (arith, h);
  rmax = omega arith;
  s = p.s;
  den = N.one-dvd a.den;
  fac = N.one-dvd a.fac;
  num = parts p.parts;
}
  where
    parts : a.den ≤ a.num → 1 * a.den ≤ a.num * 1
    parts k = omega (arith, k)

most : (a b x y : ℕ) → x ≤ a → y ≤ b → max x y ≤ max a b
most a b x y h k = omega (arith, h, k)

module _ (elements : Table) where
  function_bounds : (f : Function) (at : List Ix) → Bounds (term_weight elements (fun f at)) one_step
  function_bounds f at = one_bounds _ (term_sound elements (fun f at)) (no_derivative (scalars_in (slice_get elements f.element)))

  -- ---- functions in place of others
  put_directions : (s : Substitution) (f : Function) (at : List Ix) → term_directions elements (put s f at) ≤ function_directions elements f
  put_directions (Without w) f at = go (same_role f.role w)
    where
      go : (t : Bool) → term_directions elements (if t then zero_term else fun f at) ≤ function_directions elements f
      go true = directions_positive elements (fun f at)
      go false = N.le_refl _
  put_directions (Replaced last by) f at = go (same_role f.role last)
    where
      go : (t : Bool) → term_directions elements (if t then in_role by f at else fun f at) ≤ function_directions elements f
      go true = N.le_refl _
      go false = N.le_refl _
  put_directions Exchanged f at = N.le_refl _

  put_bounds : (s : Substitution) (f : Function) (at : List Ix) → Bounds (term_weight elements (fun f at)) (term_weight elements (put s f at))
  put_bounds (Without w) f at = go (same_role f.role w)
    where
      go : (t : Bool) → Bounds (term_weight elements (fun f at)) (term_weight elements (if t then zero_term else fun f at))
      go true = function_bounds f at
      go false = bounds_refl _
  put_bounds (Replaced last by) f at = go (same_role f.role last)
    where
      go : (t : Bool) → Bounds (term_weight elements (fun f at)) (term_weight elements (if t then in_role by f at else fun f at))
      go true = bounds_refl _
      go false = bounds_refl _
  put_bounds Exchanged f at = bounds_refl _

  module _ (s : Substitution) where
    mutual
      substituted_directions : (e : Term) → term_directions elements (substituted s e) ≤ term_directions elements e
      substituted_directions (num c) = N.le_refl 1
      substituted_directions (fun f at) = put_directions s f at
      substituted_directions (mark l at e) = substituted_directions e
      substituted_directions (neg a) = substituted_directions a
      substituted_directions (sum a b) = most _ _ _ _ (substituted_directions a) (substituted_directions b)
      substituted_directions (prod a b) = most _ _ _ _ (substituted_directions a) (substituted_directions b)
      substituted_directions (over i n b) = substituted_directions b
      substituted_directions (dx i b) = substituted_directions b
      substituted_directions (delta i j) = N.le_refl 1
      substituted_directions (pick i ts) = all_substituted_directions ts
      substituted_directions (raise l at e) = directions_positive elements e
      substituted_directions (turn f g e) = directions_positive elements e

      all_substituted_directions : (ts : Terms) → items_directions elements (all_substituted s ts) ≤ items_directions elements ts
      all_substituted_directions no_terms = N.le_refl 1
      all_substituted_directions (term t ts) = most _ _ _ _ (substituted_directions t) (all_substituted_directions ts)

    mutual
      pub substituted_bounds : (e : Term) → Bounds (term_weight elements e) (term_weight elements (substituted s e))
      substituted_bounds (num c) = bounds_refl _
      substituted_bounds (fun f at) = put_bounds s f at
      substituted_bounds (mark l at e) = label_bounds (length at) (length at) (N.le_refl _) _ _ (substituted_bounds e)
      substituted_bounds (neg a) = substituted_bounds a
      substituted_bounds (sum a b) = plus_bounds _ _ _ _ (term_sound elements (substituted s a)) (substituted_bounds a) (substituted_bounds b)
      substituted_bounds (prod a b) = times_bounds _ _ _ _ (substituted_bounds a) (substituted_bounds b)
      substituted_bounds (over i n b) = index_bounds n n (N.le_refl n) _ _ (substituted_bounds b)
      substituted_bounds (dx i b) = space_bounds _ _ (substituted_directions b) _ _ (substituted_bounds b)
      substituted_bounds (delta i j) = bounds_refl _
      substituted_bounds (pick i ts) = all_substituted_bounds ts
      substituted_bounds (raise l at e) = linear_one_bounds _ (term_sound elements e)
      substituted_bounds (turn f g e) = linear_one_bounds _ (term_sound elements e)

      all_substituted_bounds : (ts : Terms) → Bounds (items_weight elements ts) (items_weight elements (all_substituted s ts))
      all_substituted_bounds no_terms = bounds_refl _
      all_substituted_bounds (term t no_terms) = substituted_bounds t
      all_substituted_bounds (term t (term u ts)) =
          join_bounds _ _ _ _ (term_sound elements (substituted s t)) (substituted_bounds t) (all_substituted_bounds (term u ts))

  -- ---- the left side: node by node as the derivative along the trial function, with less beside it in products
  without_bounds : (e : Term) → Bounds (term_weight elements e) (term_weight elements (without_trial e))
  without_bounds e = substituted_bounds (Without Trial) e

  without_directions : (e : Term) → term_directions elements (without_trial e) ≤ term_directions elements e
  without_directions e = substituted_directions (Without Trial) e

  in_role_bounds : (t : Bool) (f : Function) (at : List Ix)
      → Bounds (term_weight elements (if t then in_role Trial f at else zero_term)) (term_weight elements (if t then fun f at else zero_term))
  in_role_bounds true f at = bounds_refl _
  in_role_bounds false f at = bounds_refl _

  in_role_directions : (t : Bool) (f : Function) (at : List Ix)
      → term_directions elements (if t then fun f at else zero_term) ≤ term_directions elements (if t then in_role Trial f at else zero_term)
  in_role_directions true f at = N.le_refl _
  in_role_directions false f at = N.le_refl _

  mutual
    left_directions : (e : Term) → term_directions elements (left_side e) ≤ term_directions elements (linear Trial Trial e)
    left_directions (num c) = N.le_refl 1
    left_directions (fun f at) = in_role_directions (same_role f.role Trial) f at
    left_directions (mark l at e) = left_directions e
    left_directions (neg a) = left_directions a
    left_directions (sum a b) = most _ _ _ _ (left_directions a) (left_directions b)
    left_directions (prod a b) =
        most _ _ _ _ (most _ _ _ _ (left_directions a) (without_directions b)) (most _ _ _ _ (without_directions a) (left_directions b))
    left_directions (over i n b) = left_directions b
    left_directions (dx i b) = left_directions b
    left_directions (delta i j) = N.le_refl 1
    left_directions (pick i ts) = all_left_directions ts
    left_directions (raise l at e) = N.le_refl 1
    left_directions (turn f g e) = N.le_refl 1

    all_left_directions : (ts : Terms) → items_directions elements (left_sides ts) ≤ items_directions elements (all_linear Trial Trial ts)
    all_left_directions no_terms = N.le_refl 1
    all_left_directions (term t ts) = most _ _ _ _ (left_directions t) (all_left_directions ts)

  mutual
    left_less : (e : Term) → Bounds (term_weight elements (linear Trial Trial e)) (term_weight elements (left_side e))
    left_less (num c) = bounds_refl _
    left_less (fun f at) = in_role_bounds (same_role f.role Trial) f at
    left_less (mark l at e) = left_less e
    left_less (neg a) = left_less a
    left_less (sum a b) = plus_bounds _ _ _ _ (term_sound elements (left_side a)) (left_less a) (left_less b)
    left_less (prod a b) =
        plus_bounds _ _ _ _ (term_sound elements (prod (left_side a) (without_trial b)))
        (times_bounds _ _ _ _ (left_less a) (without_bounds b)) (times_bounds _ _ _ _ (without_bounds a) (left_less b))
    left_less (over i n b) = index_bounds n n (N.le_refl n) _ _ (left_less b)
    left_less (dx i b) = space_bounds _ _ (left_directions b) _ _ (left_less b)
    left_less (delta i j) = bounds_refl _
    left_less (pick i ts) = all_left_less ts
    left_less (raise l at e) = bounds_refl _
    left_less (turn f g e) = bounds_refl _

    all_left_less : (ts : Terms) → Bounds (items_weight elements (all_linear Trial Trial ts)) (items_weight elements (left_sides ts))
    all_left_less no_terms = bounds_refl _
    all_left_less (term t no_terms) = left_less t
    all_left_less (term t (term u ts)) =
        join_bounds _ _ _ _ (term_sound elements (left_side t)) (left_less t) (all_left_less (term u ts))

  left_bounds : (e : Term) → Bounds (linear_step (term_weight elements e)) (term_weight elements (left_side e))
  left_bounds e =
      bounds_trans _ (term_weight elements (linear Trial Trial e)) _ (term_sound elements (linear Trial Trial e)).den (linear_keeps elements Trial Trial e) (left_less e)

  -- ---- the right side
  part_more : (a x : Weight) → Bounds a x → Bounds (part_step a) x
  part_more a x h = changed_bounds a x a.cost x.cost a.g x.g a.num x.num 0 x.rmin h h.cost h.g h.num (omega arith)

  -- ---- operators
  pub under_bounds : (op : Operator) (e : Term) → Bounds (weight_under op (term_weight elements e)) (term_weight elements (under op e))
  under_bounds (Scale c) e = bounds_refl _
  under_bounds Left e = left_bounds e
  under_bounds Right e = part_more _ _ (without_bounds e)
  under_bounds (Action last by) e = substituted_bounds (Replaced last by) e
  under_bounds Adjoint e = substituted_bounds Exchanged e
  under_bounds (Derivative w d) e = linear_keeps elements w d e
