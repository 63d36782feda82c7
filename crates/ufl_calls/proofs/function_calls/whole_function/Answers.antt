use Rattle.std.proofs.Common.{sym, ap, ◌∙◌}
use Rattle.ufl_tree.specs.declared.tree.Tree.{Tree}
use Rattle.ufl_tree.specs.Reading.{typed_of, kind_of, tree_with}
use Rattle.ufl_calls.specs.Functions.{function_at, whole_function}
use Rattle.ufl_calls.proofs.function_calls.whole_function.Goals as goal

pub returns-in-Expr : goal.returns-in-Expr
returns-in-Expr c =
    c.function_at.ensures (kind_of c.in-Expr.e)
    ∙ ap (λ (t : Tree). function_at (typed_of (tree_with t.node (kind_of c.in-Expr.e)))) c.tree.ensures.same
    ∙ ap whole_function (sym c.in-Expr.is)
