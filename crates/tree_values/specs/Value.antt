-- What the program computes, read from its arguments
use Rattle.std.specs.Prelude.{ℕ, zero, suc, Bool, List, [], ◌∷◌, ◌++◌, if◌then◌else◌}
use Rattle.calculus.specs.Polynomial.{Polynomial, nil, plus, times, minus, coefficient_of}
use Rattle.ufl_tree.specs.declared.function.Free.{Free}
use Rattle.ufl_tree.specs.declared.tree.Tree.{Tree}
use Rattle.ufl_tree.specs.Typed.{Typed, number, identity, function, piece, one, two, power, index, partial, tensor, list, variable, diff, own_kind, shape_of, free_of}
use Rattle.ufl_tree.specs.Reading.{typed_of}
use Rattle.ufl_tree.specs.Indices.{Names, index_value, index_values, named, direction, repeated, with_names, front, back}
use Rattle.ufl_tree.specs.Places.{table_of, Table, function_place, piece_place}
use Rattle.ufl_meaning.specs.Environment.{Environment, raised, parameter_number}
use Rattle.ufl_meaning.specs.Operators.{Components, along, two_value, one_in, turned_over, matrix_value, trace_value, unit_or_nil, at_place}
use Rattle.monos.specs.Summed.{summed}
use Rattle.ufl_meaning.specs.Value.{value}
use Rattle.tree_values.specs.Scene.{names_of, environment_of, sum_over}
use Rattle.tree_values.specs.declared.scene.Bound.{Bound}
use Rattle.ufl_tree.specs.declared.function.Function.{Function}
use Rattle.tree_values.specs.declared.scene.Scene.{Scene}

-- the indices that a node sums
abbrev pub summed_at : Typed → List Free
summed_at (number k c) = []
summed_at (identity k n) = []
summed_at (function k f) = []
summed_at (piece k f n) = []
summed_at (one k op a) = []
summed_at (two k op a b) = summed op (free_of a) (free_of b)
summed_at (power k a n) = []
summed_at (index k a at) = repeated (free_of a ++ named at (shape_of a))
summed_at (partial k a i) = repeated (free_of a ++ direction i (own_kind a).cell)
summed_at (tensor k a by) = []
summed_at (list k ts) = []
summed_at (variable k l a) = []
summed_at (diff k l by a) = []

-- the value of a node without these sums
abbrev pub value_without_sums : Table → Typed → Environment → List ℕ → Names → Polynomial
value_without_sums es (number k c) env b v = value es (number k c) env b v
value_without_sums es (identity k n) env b v = value es (identity k n) env b v
value_without_sums es (function k f) env b v = value es (function k f) env b v
value_without_sums es (piece k f n) env b v = value es (piece k f n) env b v
value_without_sums es (one k op a) env b v = value es (one k op a) env b v
value_without_sums es (two k op a d) env b v = two_value op (shape_of a) (shape_of d) (λ c. value es a env c v) (λ c. value es d env c v) b
value_without_sums es (power k a n) env b v = value es (power k a n) env b v
value_without_sums es (index k a at) env b v = value es a env (index_values v at ++ b) v
value_without_sums es (partial k a i) env b v = along (index_value v i) (value es a env b v)
value_without_sums es (tensor k a by) env b v = value es (tensor k a by) env b v
value_without_sums es (list k ts) env b v = value es (list k ts) env b v
value_without_sums es (variable k l a) env b v = value es (variable k l a) env b v
value_without_sums es (diff k l by a) env b v = value es (diff k l by a) env b v

abbrev pub at_marker : ℕ → Environment → Environment
at_marker m env = record env { marker = m }

abbrev pub env_of : Scene → Environment
env_of s = at_marker s.marker (environment_of s.functions.now s.changes.now)

-- a component of a tree in a scene
unfoldable pub value_in : Scene → Tree → Components
value_in s t b = value (table_of s.elements.now) (typed_of t) (env_of s) b (names_of s.names.now)

unfoldable pub unsummed_in : Scene → Tree → Components
unsummed_in s t b = value_without_sums (table_of s.elements.now) (typed_of t) (env_of s) b (names_of s.names.now)

-- an item of a list of trees
abbrev pub item_in : Scene → List Tree → ℕ → Components
item_in s [] i b = nil
item_in s (t ∷ ts) zero b = value_in s t b
item_in s (t ∷ ts) (suc i) b = item_in s ts i b

abbrev pub chosen_in : Scene → List Tree → Components
chosen_in s ts [] = nil
chosen_in s ts (i ∷ b) = item_in s ts i b

-- half the sum with the transpose, or half the difference
abbrev pub half_of : Bool → Components → Components
half_of skew f = matrix_value (λ i j. times (one_in 2) (if skew then minus (f (i ∷ j ∷ [])) (turned_over f i j) else plus (f (i ∷ j ∷ [])) (turned_over f i j)))

abbrev pub dev_of : ℕ → Components → Components
dev_of n f = matrix_value (λ i j. minus (f (i ∷ j ∷ [])) (times (times (trace_value n f) (one_in n)) (unit_or_nil i j)))

-- the component of a function
unfoldable pub function_component : Scene → Function → Components
function_component s f b = at_place (function_place (table_of s.elements.now) f b) ((env_of s).value f.role)

-- the component of a sub-element of a function
unfoldable pub piece_component : Scene → Function → ℕ → Components
piece_component s f k b = at_place (piece_place (table_of s.elements.now) f k b) ((env_of s).value f.role)

-- a scalar tree where the names have the numbers of a component
unfoldable pub bound_in : Scene → Tree → List ℕ → Components
bound_in s t by b = value (table_of s.elements.now) (typed_of t) (env_of s) [] (with_names by b (names_of s.names.now))

-- the derivative of a tree by the variable l
unfoldable pub diff_in : Scene → Tree → ℕ → Components
diff_in s t l b =
    coefficient_of (parameter_number (env_of s).used) 1
    (value (table_of s.elements.now) (typed_of t) (raised l (back t.shape b) (env_of s)) (front t.shape b) (names_of s.names.now))

-- the sum over choices of names
unfoldable pub sum_in : List (List Bound) → Scene → Tree → Components
sum_in ns s t b = sum_over ns (λ v. value_without_sums (table_of s.elements.now) (typed_of t) (env_of s) b v)
