-- The meaning of typed trees: the polynomial of each component, at values of the free indices. Source: M. Alnaes and others, Unified Form Language, ACM TOMS 40 (2014)
use Rattle.std.specs.Prelude.{ℕ, zero, suc, List, [], ◌∷◌, ◌++◌}
use Rattle.ratio.specs.Value.{fraction_of}
use Rattle.calculus.specs.Polynomial.{Polynomial, nil, plus, constant, coefficient_of, power as raised_to}
use Rattle.ufl_tree.specs.Typed.{Typed, number, identity, function, piece, one, two, power, index, partial, tensor, list, variable, diff, TypedList, no_items, item, own_kind, shape_of, free_of}
use Rattle.ufl_tree.specs.Indices.{Names, with_names, index_value, index_values, front, back, named, direction, repeated}
use Rattle.ufl_tree.specs.Places.{Table, function_place, piece_place}
use Rattle.ufl_meaning.specs.Environment.{Environment, parameter_number, raised}
use Rattle.ufl_meaning.specs.Operators.{along, sum_names, at_place, identity_value, one_value, two_value}
use Rattle.monos.specs.Summed.{summed}

-- the first number chooses an item
abbrev pub chosen_value : (ℕ → List ℕ → Polynomial) → List ℕ → Polynomial
chosen_value f [] = nil
chosen_value f (i ∷ b) = f i b

-- e at component b, in env, where the names have the values v. The derivative by a variable is the coefficient of a parameter t that isn't in use,
-- where t is added to the variable's component: what stands outside the label doesn't change.
abbrev mutual
  pub value : Table → Typed → Environment → List ℕ → Names → Polynomial
  value elements (number k c) env b v = constant (fraction_of c)
  value elements (identity k n) env b v = identity_value b
  value elements (function k f) env b v = at_place (function_place elements f b) (env.value f.role)
  value elements (piece k f n) env b v = at_place (piece_place elements f n b) (env.value f.role)
  value elements (one k op a) env b v = one_value op (shape_of a) (λ c. value elements a env c v) b
  value elements (two k op a d) env b v =
      sum_names (summed op (free_of a) (free_of d)) (λ w. two_value op (shape_of a) (shape_of d) (λ c. value elements a env c w) (λ c. value elements d env c w) b) v
  value elements (power k a n) env b v = raised_to (value elements a env [] v) n
  value elements (index k a at) env b v =
      sum_names (repeated (free_of a ++ named at (shape_of a))) (λ w. value elements a env (index_values w at ++ b) w) v
  value elements (partial k a i) env b v =
      sum_names (repeated (free_of a ++ direction i (own_kind a).cell)) (λ w. along (index_value w i) (value elements a env b w)) v
  value elements (tensor k a by) env b v = value elements a env [] (with_names by b v)
  value elements (list k ts) env b v = chosen_value (λ i c. item_value elements ts env c v i) b
  value elements (variable k l a) env b v = plus (value elements a env b v) (env.offset l b)
  value elements (diff k l by a) env b v =
      coefficient_of (parameter_number env.used) 1 (value elements a (raised l (back (shape_of a) b) env) (front (shape_of a) b) v)

  -- the item of this number, counted from 0, or 0
  pub item_value : Table → TypedList → Environment → List ℕ → Names → ℕ → Polynomial
  item_value elements no_items env b v i = nil
  item_value elements (item t ts) env b v zero = value elements t env b v
  item_value elements (item t ts) env b v (suc i) = item_value elements ts env b v i
