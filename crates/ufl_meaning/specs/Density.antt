-- The meaning of forms: the polynomial that is integrated over each cell. Source: M. Alnaes and others, Unified Form Language, ACM TOMS 40 (2014), sections 3 and 5
use Rattle.std.specs.Prelude.{ℕ, Bool, true, [], ◌==◌, if◌then◌else◌}
use Rattle.ratio.specs.Value.{fraction_of}
use Rattle.calculus.specs.Polynomial.{Polynomial, nil, plus, times, negative, constant, coefficient_of}
use Rattle.ufl_tree.specs.declared.function.Role.TheVariants.{Trial}
use Rattle.ufl_tree.specs.declared.function.On.{On}
use Rattle.ufl_tree.specs.declared.function.On.TheVariants.{All, Marked}
use Rattle.ufl_tree.specs.FormTerm.{FormTerm, integral, sum, scale, left, right, action, adjoint, derivative}
use Rattle.ufl_tree.specs.Indices.{Names}
use Rattle.ufl_tree.specs.Places.{Table}
use Rattle.ufl_meaning.specs.Environment.{Environment, parameter_number, turned, scaled, with_function, exchanged}
use Rattle.ufl_meaning.specs.Value.{value}

-- an integrand has no free index
abbrev pub no_names : Names
no_names i = 0

-- is a cell with this marker one of those that an integral is over?
abbrev pub covers : On → ℕ → Bool
covers All m = true
covers (Marked k) m = k == m

-- in each of left, right and derivative t is a parameter that isn't in use
abbrev pub density : Table → FormTerm → Environment → Polynomial
-- on the other cells there is nothing to integrate
density elements (integral on e) env = if covers on env.marker then value elements e env [] no_names else nil
density elements (sum f g) env = plus (density elements f env) (density elements g env)
density elements (scale c f) env = times (constant (fraction_of c)) (density elements f env)
-- the part linear in the trial function, and minus the part without it
density elements (left f) env = coefficient_of (parameter_number env.used) 1 (density elements f (scaled Trial env))
density elements (right f) env = negative (coefficient_of (parameter_number env.used) 0 (density elements f (scaled Trial env)))
density elements (action f last g) env = density elements f (with_function last g.role env)
density elements (adjoint f) env = density elements f (exchanged env)
-- the linear part in w, along du
density elements (derivative f w du) env = coefficient_of (parameter_number env.used) 1 (density elements f (turned w.role du.role env))
