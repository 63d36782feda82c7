-- What the integrands of a form keep of it
use Rattle.std.specs.Prelude.{◌≡◌, Bool, true, false, List, [], ◌∷◌}
use Rattle.ratio.specs.Value.{fraction_of}
use Rattle.calculus.specs.Polynomial.{Polynomial, times, negative, constant, coefficient_of}
use Rattle.ufl_tree.specs.declared.function.Role.TheVariants.{Trial}
use Rattle.ufl_tree.specs.FormTerm.{FormTerm}
use Rattle.ufl_tree.specs.Places.{Table}
use Rattle.ufl_meaning.specs.Environment.{parameter_number}
use Rattle.ufl_meaning.specs.Prelude.{Environment, HasOnlyUsed, turned, scaled, with_function, exchanged, density}
use Rattle.monos.specs.declared.weight.Weight.{Weight}
use Rattle.weigh.specs.Prelude.{Bounds, exact, term_weight}
use Rattle.weigh.specs.Weighing.{plus_weight, form_weight}
use Rattle.derivatives.specs.Expanded.{IsExpanded}
use Rattle.integrands.specs.declared.operator.Operator.{Operator}
use Rattle.integrands.specs.declared.operator.Operator.TheVariants.{Scale, Left, Right, Action, Adjoint, Derivative}
use Rattle.integrands.specs.Integrands.{IntegrandTerm, integrand_value, integrands_value, with_body}
use Rattle.integrands.specs.Flattening.{under}

-- ---- operators
-- what an operator makes of a density, by the environments that it takes it in
abbrev pub acted : Operator → (Environment → Polynomial) → Environment → Polynomial
acted (Scale c) d env = times (constant (fraction_of c)) (d env)
acted Left d env = coefficient_of (parameter_number env.used) 1 (d (scaled Trial env))
acted Right d env = negative (coefficient_of (parameter_number env.used) 0 (d (scaled Trial env)))
acted (Action last by) d env = d (with_function last by env)
acted Adjoint d env = d (exchanged env)
acted (Derivative w du) d env = coefficient_of (parameter_number env.used) 1 (d (turned w du env))

-- q has what the operator makes of the density of p, for all elements and functions
abbrev pub IsUnder : Operator → IntegrandTerm → IntegrandTerm → Type 0
IsUnder op p q =
    (elements : Table) (env : Environment) → HasOnlyUsed env
    → integrand_value elements q env ≡ acted op (integrand_value elements p) env

-- what an operator makes of an integrand
pub record IsApplied (op : Operator) (p q : IntegrandTerm) : Type 0 where
  pub tree : q ≡ with_body (under op) p
  pub expanded : IsExpanded p.body → IsExpanded q.body
  pub density : IsExpanded p.body → IsUnder op p q

-- ---- forms
abbrev pub AreExpanded : List IntegrandTerm → Type 0
AreExpanded [] = Unit {0}
AreExpanded (p ∷ ps) = IsExpanded p.body × AreExpanded ps

-- the integrands add up to the density of the form
abbrev pub HaveDensity : Table → FormTerm → List IntegrandTerm → Type 0
HaveDensity elements f ps =
    (env : Environment) → HasOnlyUsed env → integrands_value elements ps env ≡ density elements f env

-- those that are chosen, in order
abbrev pub chosen : List Bool → List IntegrandTerm → List IntegrandTerm
chosen (true ∷ bs) (p ∷ ps) = p ∷ chosen bs ps
chosen (false ∷ bs) (p ∷ ps) = chosen bs ps
chosen _ _ = []

-- the weight of the sum of the bodies, which does not depend on the order in which they are added
abbrev pub total_weight : Table → IntegrandTerm → List IntegrandTerm → Weight
total_weight elements p [] = term_weight elements p.body
total_weight elements p (q ∷ ps) = plus_weight exact (term_weight elements p.body) (total_weight elements q ps)

-- w bounds that of the sum, if there is any body
abbrev pub BoundsTotal : Table → Weight → List IntegrandTerm → Type 0
BoundsTotal elements w [] = Unit {0}
BoundsTotal elements w (p ∷ ps) = Bounds w (total_weight elements p ps)

-- the weight of the form bounds the sum of the bodies of each choice of integrands
abbrev pub HaveWeight : Table → FormTerm → List IntegrandTerm → Type 0
HaveWeight elements f ps = (bs : List Bool) → BoundsTotal elements (form_weight exact elements f) (chosen bs ps)
