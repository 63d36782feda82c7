-- A form as the list of its integrands, its operators carried out
use Rattle.std.specs.Prelude.{List, [], ◌∷◌, ◌++◌, map}
use Rattle.ufl_tree.specs.declared.function.Ix.TheVariants.{Named}
use Rattle.ufl_tree.specs.FormTerm.{FormTerm, integral, sum, scale, left, right, action, adjoint, derivative}
use Rattle.ufl_tree.specs.Places.{Table}
use Rattle.ufl_tree.specs.Term as t
use Rattle.ufl_tree.specs.Term.{Term}
use Rattle.ufl_tree.specs.Typed.{Typed}
use Rattle.lower.specs.Lowering.{lower}
use Rattle.lower.specs.Shares.{share_of}
use Rattle.passes.specs.Component.{first_name}
use Rattle.perturb.specs.Expanding.{linear}
use Rattle.derivatives.specs.Expanded.{expanded}
use Rattle.integrands.specs.declared.operator.Operator.{Operator}
use Rattle.integrands.specs.declared.operator.Operator.TheVariants.{Scale, Left, Right, Action, Adjoint, Derivative}
use Rattle.integrands.specs.declared.substitution.Substitution.TheVariants.{Replaced, Exchanged}
use Rattle.integrands.specs.Integrands.{IntegrandTerm, with_body}
use Rattle.integrands.specs.Sides.{left_side, right_side}
use Rattle.integrands.specs.Substitution.{substituted}

-- an operator on the body of an integrand
abbrev pub under : Operator → Term → Term
under (Scale c) e = t.prod (t.num c) e
under Left e = left_side e
under Right e = right_side e
under (Action last by) e = substituted (Replaced last by) e
under Adjoint e = substituted Exchanged e
under (Derivative w d) e = linear w d e

-- an integrand in index notation, without derivatives by variables and by functions
abbrev pub integrand_term : Table → Typed → Term
integrand_term elements e = expanded (lower share_of elements e Named [] (first_name e []))

-- one for each integral, from left to right
abbrev pub flattened : Table → FormTerm → List IntegrandTerm
flattened elements (integral on e) = record { on = on; body = integrand_term elements e } ∷ []
flattened elements (sum f g) = flattened elements f ++ flattened elements g
flattened elements (scale c f) = map (with_body (under (Scale c))) (flattened elements f)
flattened elements (left f) = map (with_body (under Left)) (flattened elements f)
flattened elements (right f) = map (with_body (under Right)) (flattened elements f)
flattened elements (action f last g) = map (with_body (under (Action last g.role))) (flattened elements f)
flattened elements (adjoint f) = map (with_body (under Adjoint)) (flattened elements f)
flattened elements (derivative f w du) = map (with_body (under (Derivative w.role du.role))) (flattened elements f)
