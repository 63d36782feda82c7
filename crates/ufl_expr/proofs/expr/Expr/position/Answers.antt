use Rattle.std.proofs.Common.{subst}
use Rattle.ufl_tree.specs.Places.{table_of}
use Rattle.ufl_expr.specs.Answer.{Gives}
use Rattle.ufl_expr.proofs.FitLaws.{position_built}
use Rattle.ufl_expr.proofs.expr.Expr.position.Goals as goal

pub returns : goal.returns
returns c =
    subst (λ x. Gives c.function.result x) (position_built (table_of c.args.elements.now) c.args.cell c.in-Some.element c.in-Some.ensures) c.function.ensures
