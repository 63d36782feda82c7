-- The derivative of a tree that has no derivatives by variables and by functions
use Rattle.ufl_tree.specs.Term.{Term}
use Rattle.perturb.specs.Expanding.{by_variable, linear}
use Rattle.derivatives.specs.declared.derivation.Derivation.{Derivation}
use Rattle.derivatives.specs.declared.derivation.Derivation.TheVariants.{Variable, Function}

unfoldable pub derivative_of : Derivation → Term → Term
derivative_of (Variable l at) e = by_variable l at e
derivative_of (Function w d) e = linear w d e
