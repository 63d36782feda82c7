-- Weights that were worked out by hand
use Rattle.std.proofs.Common.{◌≡◌, [], ◌∷◌, Some, refl}
use Rattle.algebra.specs.Gcd.{gcd}
use Rattle.spaces.specs.declared.cell.Cell.{Cell}
use Rattle.spaces.specs.declared.cell.Cell.TheVariants.{Interval, Triangle, Tetrahedron}
use Rattle.spaces.specs.declared.family.Family.TheVariants.{Lagrange, Dg}
use Rattle.spaces.specs.Space.{scalar, vector, tensor}
use Rattle.ufl_tree.specs.declared.function.Function.{Function}
use Rattle.ufl_tree.specs.declared.function.Ix.TheVariants.{Fixed}
use Rattle.ufl_tree.specs.declared.function.Role.TheVariants.{Coefficient}
use Rattle.ufl_tree.specs.declared.tree.Op1.TheVariants.{Sym}
use Rattle.ufl_tree.specs.declared.tree.Op2.TheVariants.{Product, Dot, Inner}
use Rattle.ufl_tree.specs.Typed.{Typed, function, one, two, index, variable, diff}
use Rattle.weigh.specs.declared.refusal.WeightRefusal.TheVariants.{Cost}
use Rattle.weigh.specs.Weighing.{kept, weight_with, function_weight}
use Rattle.weigh.specs.Refusals.{weight_refusal}
use Rattle.weigh.specs.Examples.{cost_and_size, kind, trial, test, line_table, mass_tree, plane_table, gradient, laplacian_tree, constant_table, powered_tree, position_table, position, position_weight}

pub mass : cost_and_size 1 line_table mass_tree ≡ record { cost = 4; size = 384 }
unfolding gcd
mass = refl

pub laplacian : cost_and_size 2 plane_table laplacian_tree ≡ record { cost = 72; size = 20736 }
unfolding gcd
laplacian = refl

symmetric : Function → Typed
symmetric f = one (kind Triangle (2 ∷ 2 ∷ [])) Sym (gradient Triangle (2 ∷ []) (2 ∷ 2 ∷ []) f)

-- inner(sym(grad(u)), sym(grad(v))), vectors of degree 2 on a triangle
elasticity : cost_and_size 2 (vector (scalar Lagrange Triangle 2) 2 ∷ []) (two (kind Triangle []) Inner (symmetric trial) (symmetric test))
    ≡ record { cost = 2304; size = 521838526464 }
unfolding gcd symmetric
elasticity = refl

-- dot(w, grad(u)) * v, degree 1 on a tetrahedron
convection : cost_and_size 3 (scalar Lagrange Tetrahedron 1 ∷ vector (scalar Lagrange Tetrahedron 1) 3 ∷ [])
    (two (kind Tetrahedron []) Product
    (two (kind Tetrahedron []) Dot (function (kind Tetrahedron (3 ∷ [])) (record { role = Coefficient 0; element = 1 })) (gradient Tetrahedron [] (3 ∷ []) trial))
    (function (kind Tetrahedron []) test))
    ≡ record { cost = 576; size = 13271040 }
unfolding gcd
convection = refl

label : Typed
label = variable (kind Triangle (2 ∷ 2 ∷ [])) 0 (function (kind Triangle (2 ∷ 2 ∷ [])) (record { role = Coefficient 0; element = 0 }))

-- diff(inner(s, s), s)[0, 0] of a labelled matrix s of degree 0 on a triangle
derivative : cost_and_size 2 (tensor (scalar Dg Triangle 0) 2 2 ∷ [])
    (index (kind Triangle []) (diff (kind Triangle (2 ∷ 2 ∷ [])) 0 (2 ∷ 2 ∷ []) (two (kind Triangle []) Inner label label)) (Fixed 0 ∷ Fixed 0 ∷ []))
    ≡ record { cost = 24; size = 288 }
unfolding gcd label
derivative = refl

pub heavy : cost_and_size 1 constant_table (powered_tree 20) ≡ record { cost = 1048576; size = 1099511627776 }
unfolding gcd
heavy = refl

pub too_heavy : weight_refusal 1 (weight_with kept constant_table (powered_tree 21)) ≡ Some Cost
unfolding gcd
too_heavy = refl

pub position_is : (c : Cell) → function_weight (position_table c) position ≡ position_weight c
unfolding gcd
position_is Interval = refl
position_is Triangle = refl
position_is Tetrahedron = refl
