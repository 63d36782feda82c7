-- The integrands of a form, in index notation, and the polynomial that they integrate over a cell
use Rattle.std.specs.Prelude.{List, [], ◌∷◌, map, if◌then◌else◌}
use Rattle.calculus.specs.Polynomial.{Polynomial, nil, plus}
use Rattle.ufl_tree.specs.declared.function.On.{On}
use Rattle.ufl_tree.specs.Places.{Table}
use Rattle.ufl_tree.specs.Reading.{term_of}
use Rattle.ufl_tree.specs.Term.{Term}
use Rattle.ufl_meaning.specs.Density.{covers}
use Rattle.ufl_meaning.specs.Prelude.{Environment, meaning, no_names}
use Rattle.integrands.specs.declared.integrand.Integrand.{Integrand}

-- what is integrated over some cells
pub record IntegrandTerm : Type 0 where
  pub on : On
  pub body : Term

-- the code's integrand, read as data
abbrev pub integrand_of : Integrand → IntegrandTerm
integrand_of p = record { on = p.on; body = term_of p.body }

abbrev pub integrands_of : List Integrand → List IntegrandTerm
integrands_of = map integrand_of

-- on the other cells there is nothing to integrate
abbrev pub integrand_value : Table → IntegrandTerm → Environment → Polynomial
integrand_value elements p env = if covers p.on env.marker then meaning elements p.body env no_names else nil

abbrev pub integrands_value : Table → List IntegrandTerm → Environment → Polynomial
integrands_value elements [] env = nil
integrands_value elements (p ∷ ps) env = plus (integrand_value elements p env) (integrands_value elements ps env)

-- on the same cells
abbrev pub with_body : (Term → Term) → IntegrandTerm → IntegrandTerm
with_body h p = record { on = p.on; body = h p.body }
