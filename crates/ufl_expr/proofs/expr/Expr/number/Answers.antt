use Rattle.std.proofs.Common.{◌≡◌, ap, ap₂, ◌∙◌, None, Ok}
use Rattle.ufl_tree.specs.declared.tree.Node.TheVariants as v
use Rattle.ufl_tree.specs.Typed.{Kind}
use Rattle.ufl_expr.specs.Table.{plain_kind}
use Rattle.ufl_expr.specs.Building.{built}
use Rattle.ufl_expr.proofs.BuildingLaws.{counted_number, gives_same}
use Rattle.ufl_expr.proofs.expr.Expr.number.Goals as goal

pub finish-requires : goal.finish-requires
finish-requires c =
    let k : Kind = record { shape = c.new.result; free = c.new-2.result; cell = None } in
    let e : k ≡ plain_kind = ap₂ (λ s f. record { shape = s; free = f; cell = None }) c.new.ensures c.new-2.ensures in
    let C = counted_number c.args.c k e in
    record { typed = C.typed; count = C.count; depth = C.depth }

pub returns : goal.returns
returns c =
    let k : Kind = record { shape = c.new.result; free = c.new-2.result; cell = None } in
    let e : k ≡ plain_kind = ap₂ (λ s f. record { shape = s; free = f; cell = None }) c.new.ensures c.new-2.ensures in
    gives_same _ _ (c.finish.ensures ∙ ap (λ x. built (Ok x) (v.Number c.args.c)) e)
