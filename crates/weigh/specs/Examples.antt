-- Trees whose weights are worked out by hand
use Rattle.std.specs.Prelude.{ℕ, ◌+◌, List, [], ◌∷◌, Some}
use Rattle.spaces.specs.declared.cell.Cell.{Cell}
use Rattle.spaces.specs.declared.cell.Cell.TheVariants.{Interval, Triangle}
use Rattle.spaces.specs.declared.family.Family.TheVariants.{Lagrange, Real}
use Rattle.spaces.specs.Cell.{dimension}
use Rattle.spaces.specs.Space.{scalar, vector}
use Rattle.ufl_tree.specs.declared.function.Function.{Function}
use Rattle.ufl_tree.specs.declared.function.Role.TheVariants.{Test, Trial, Position, Coefficient}
use Rattle.ufl_tree.specs.declared.tree.Op1.TheVariants.{Grad}
use Rattle.ufl_tree.specs.declared.tree.Op2.TheVariants.{Sum, Product, Inner}
use Rattle.ufl_tree.specs.Places.{Table}
use Rattle.ufl_tree.specs.Typed.{Kind, Typed, function, one, two, power}
use Rattle.monos.specs.declared.weight.Weight.{Weight}
use Rattle.weigh.specs.Weighing.{exact, weight_with}
use Rattle.weigh.specs.Refusals.{size}

-- the two numbers that a form is admitted by
pub record CostAndSize : Type 0 where
  pub cost : ℕ
  pub size : ℕ

abbrev pub cost_and_size : ℕ → Table → Typed → CostAndSize
cost_and_size d elements e = let w = weight_with exact elements e in record { cost = w.cost; size = size d w }

abbrev pub kind : Cell → List ℕ → Kind
kind c s = record { shape = s; free = []; cell = Some c }

abbrev pub trial : Function
trial = record { role = Trial; element = 0 }

abbrev pub test : Function
test = record { role = Test; element = 0 }

-- u * v, degree 1 on an interval
abbrev pub line_table : Table
line_table = scalar Lagrange Interval 1 ∷ []

abbrev pub mass_tree : Typed
mass_tree = two (kind Interval []) Product (function (kind Interval []) trial) (function (kind Interval []) test)

-- inner(grad(u), grad(v)), degree 1 on a triangle
abbrev pub plane_table : Table
plane_table = scalar Lagrange Triangle 1 ∷ []

abbrev pub gradient : Cell → List ℕ → List ℕ → Function → Typed
gradient c s t f = one (kind c t) Grad (function (kind c s) f)

abbrev pub laplacian_tree : Typed
laplacian_tree = two (kind Triangle []) Inner (gradient Triangle [] (2 ∷ []) trial) (gradient Triangle [] (2 ∷ []) test)

-- (c1 + c2)**n, of constants on an interval
abbrev pub constant_table : Table
constant_table = scalar Real Interval 0 ∷ []

abbrev pub constant : ℕ → Typed
constant n = function (kind Interval []) (record { role = Coefficient n; element = 0 })

abbrev pub powered_tree : ℕ → Typed
powered_tree n = power (kind Interval []) (two (kind Interval []) Sum (constant 0) (constant 1)) n

-- the coordinate of space: a vector of degree 1
abbrev pub position_table : Cell → Table
position_table c = vector (scalar Lagrange c 1) (dimension c) ∷ []

abbrev pub position : Function
position = record { role = Position; element = 0 }

abbrev pub position_weight : Cell → Weight
position_weight c = record { cost = dimension c + 1; deg = 1; g = 1; f = 1; rmin = 0; rmax = 0; num = 1; den = 1; fac = 1; s = 4 }
