use Rattle.std.proofs.Common.{◌≡◌, List, Result, Ok, sym, subst}
use Rattle.ufl_tree.specs.declared.function.Ix.{Ix}
use Rattle.ufl_tree.specs.declared.tree.Tree.{Tree}
use Rattle.ufl_tree.specs.declared.tree.Node.TheVariants as n
use Rattle.ufl_tree.specs.Reading.{kind_of}
use Rattle.ufl_expr.specs.Building.{built}
use Rattle.ufl_expr.specs.Table.{index_kind}
use Rattle.ufl_values.specs.declared.refusal.Reason.{Reason}
use Rattle.ufl_values.specs.declared.value.Value.{Value}
use Rattle.ufl_values.specs.declared.value.Value.TheVariants as v
use Rattle.ufl_values.specs.Answer.{Answers, typed_as}
use Rattle.ufl_values.specs.Operators.{component_of}
use Rattle.ufl_values.proofs.operators.component.Goals as goal

found_then : (base : Tree) (at : List Ix) (found want : Result (List Ix) Reason) (out : Result Value Reason) → found ≡ Ok at → Answers found want
    → Answers out (typed_as v.Expr (built (index_kind (kind_of base) at) (n.Index base at))) → Answers out (component_of base want)
found_then base at found want out e h a =
    let w : want ≡ Ok at = subst (λ f. Answers f want) e h in
    subst (λ r. Answers out (component_of base r)) (sym w) a

pub returns-in-Ok : goal.returns-in-Ok
returns-in-Ok c = λ want h.
    found_then c.args.base c.in-Ok.at c.args.at want c.expressed.result c.in-Ok.is h
    (subst (λ (l : List Ix). Answers c.expressed.result (typed_as v.Expr (built (index_kind (kind_of c.args.base) l) (n.Index c.args.base l)))) c.as_slice.ensures (c.expressed.ensures _ c.index.ensures))
