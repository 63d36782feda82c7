-- The environment and the shares of one cell, by local nodes
use Rattle.std.specs.Prelude.{ℕ, zero, suc, ◌+◌, ◌-◌, ◌==◌, ◌&&◌, List, [], ◌∷◌, ◌++◌, map, nat_lt, nat_le, Option, None, Some, slice_get, slice_index_or, if◌then◌else◌}
use Rattle.std.specs.List.{flat_map}
use Rattle.algebra.specs.Fraction.{Fraction, zero_fraction}
use Rattle.calculus.specs.Polynomial.{Polynomial, nil, times, constant}
use Rattle.calculus.specs.Simplex.{Simplex, along_axis}
use Rattle.calculus.specs.Jacobian.{vertex_at}
use Rattle.calculus.specs.Integral.{integral_value, sum_below}
use Rattle.calculus.specs.LocalFunction.{local_function}
use Rattle.spaces.specs.declared.cell.Cell.{Cell}
use Rattle.spaces.specs.declared.cell.Cell.TheVariants.{Interval, Triangle, Tetrahedron}
use Rattle.spaces.specs.declared.parts.Part.{Part}
use Rattle.spaces.specs.declared.parts.Parts.{Parts}
use Rattle.monos.specs.declared.layout.CoefPlace.{CoefPlace}
use Rattle.monos.specs.declared.layout.Layout.{Layout}
use Rattle.spaces.specs.Nodes.{nodes_of}
use Rattle.ufl_tree.specs.declared.function.Role.{Role}
use Rattle.ufl_tree.specs.declared.function.Role.TheVariants.{Test, Trial, Position, Coefficient}
use Rattle.ufl_meaning.specs.Environment.{Environment}

abbrev pub cell_in : ℕ → Cell
cell_in zero = Interval
cell_in (suc zero) = Interval
cell_in (suc (suc zero)) = Triangle
cell_in (suc (suc (suc d))) = Tetrahedron

-- the function of node j of a part
abbrev pub node_function : ℕ → Simplex → Part → ℕ → Polynomial
node_function d v p j = local_function v (slice_index_or (nodes_of (cell_in d) p.degree) j [])

-- that of local node a, where it is one of this part
abbrev pub in_part : ℕ → Simplex → Option Part → ℕ → Polynomial
in_part d v None a = nil
in_part d v (Some p) a = if nat_le p.offset a && nat_lt a (p.offset + p.nodes) then node_function d v p (a - p.offset) else nil

abbrev pub argument_value : ℕ → Simplex → Parts → ℕ → ℕ → Polynomial
argument_value d v ps a i = in_part d v (slice_get ps.items i) a

-- the sum over the nodes of a part, whose values stand from `at` on
abbrev pub part_value : ℕ → Simplex → List Fraction → ℕ → Option Part → Polynomial
part_value d v w at None = nil
part_value d v w at (Some p) = sum_below p.nodes (λ j. times (constant (slice_index_or w (at + p.offset + j) zero_fraction)) (node_function d v p j))

abbrev pub coefficient_value : ℕ → Simplex → List Fraction → List CoefPlace → ℕ → ℕ → Polynomial
coefficient_value d v w [] n i = nil
coefficient_value d v w (c ∷ cs) n i = if c.number == n then part_value d v w c.offset (slice_get c.parts.items i) else coefficient_value d v w cs n i

-- ---- the coordinate of space is a function too: its values are the coordinates of the cell's vertices
abbrev pub position_part : Option Parts → ℕ → Option Part
position_part None i = None
position_part (Some ps) i = slice_get ps.items i

abbrev pub position_value : ℕ → Simplex → Option Part → ℕ → Polynomial
position_value d v None i = nil
position_value d v (Some p) i = sum_below p.nodes (λ j. times (constant (along_axis i (vertex_at v j))) (node_function d v p j))

-- ---- the environment: no function depends on the cell's marker, which is 0 here; a density on cells with marker k is `λ env. density (record env { marker = k })`
abbrev pub local_value : Layout → Simplex → List Fraction → ℕ → ℕ → Role → ℕ → Polynomial
local_value l v w a b Test i = argument_value l.d v l.rows a i
local_value l v w a b Trial i = argument_value l.d v l.cols b i
local_value l v w a b Position i = position_value l.d v (position_part l.position i) i
local_value l v w a b (Coefficient n) i = coefficient_value l.d v w l.coefs n i

abbrev pub local : Layout → Simplex → List Fraction → ℕ → ℕ → Environment
local l v w a b = record { cell = v; marker = 0; value = local_value l v w a b; offset = λ n c. nil; used = 0 }

-- of any density, which is a function of the environment
abbrev pub local_share : (Environment → Polynomial) → Layout → Simplex → List Fraction → ℕ → ℕ → Fraction
local_share density l v w a b = integral_value v (density (local l v w a b))

abbrev pub numbers_below : ℕ → List ℕ
numbers_below zero = []
numbers_below (suc n) = numbers_below n ++ n ∷ []

-- an argument that doesn't occur counts as one
abbrev pub count_in : List Part → ℕ → ℕ
count_in [] n = 1
count_in (p ∷ ps) n = n

abbrev pub entries_of : Parts → ℕ
entries_of ps = count_in ps.items ps.local

-- row by row
unfoldable pub local_shares : (Environment → Polynomial) → Layout → Simplex → List Fraction → List Fraction
local_shares density l v w = flat_map (λ a. map (local_share density l v w a) (numbers_below (entries_of l.cols))) (numbers_below (entries_of l.rows))
