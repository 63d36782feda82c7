use Rattle.std.proofs.Common.{ap, ◌∙◌, ◌+◌}
use Rattle.ufl_tree.specs.declared.tree.Tree.{Tree}
use Rattle.ufl_tree.specs.declared.tree.Node.TheVariants as v
use Rattle.ufl_tree.specs.Reading.{kind_of}
use Rattle.ufl_expr.specs.Table.{two_kind}
use Rattle.ufl_expr.specs.Signatures.{kind_in}
use Rattle.ufl_expr.proofs.BuildingLaws.{moved, same_kinds, counted_two, built_as_two, refused_as_two, gives_same, gives_passed}
use Rattle.ufl_expr.proofs.expr.Expr.two.Goals as goal

pub finish-requires : goal.finish-requires
finish-requires c =
    let a = c.a.inside in
    let b = c.b.inside in
    let p = c.in_ok-new.field-0 in
    let q = c.in_ok-new-2.field-0 in
    let C = counted_two c.args.op p q (kind_in c.in_ok-signature.signature) a.nodes b.nodes a.height b.height
    (same_kinds (λ s t. two_kind c.args.op (kind_of s) (kind_of t)) p q a.tree b.tree _ c.in_ok-new.ensures c.in_ok-new-2.ensures c.in_ok-signature.ensures)
    (moved p a.tree a.nodes a.height c.in_ok-new.ensures (record { typed = c.a.invariant.typed; count = c.a.invariant.count; depth = c.a.invariant.depth }))
    (moved q b.tree b.nodes b.height c.in_ok-new-2.ensures (record { typed = c.b.invariant.typed; count = c.b.invariant.count; depth = c.b.invariant.depth })) in
    record { typed = C.typed; count = C.count; depth = ap (λ x. x + 1) c.max.ensures ∙ C.depth }

pub returns : goal.returns
returns c =
    let V = λ (s : Tree) (t : Tree). two_kind c.args.op (kind_of s) (kind_of t) in
    let p = c.in_ok-new.field-0 in
    let q = c.in_ok-new-2.field-0 in
    gives_same _ _
    (c.finish.ensures
    ∙ built_as_two V (λ s t. v.Two c.args.op s t) p q c.args.a c.args.b _
    (same_kinds V p q c.a.inside.tree c.b.inside.tree _ c.in_ok-new.ensures c.in_ok-new-2.ensures c.in_ok-signature.ensures)
    (c.in_ok-new.ensures ∙ c.a.view_is) (c.in_ok-new-2.ensures ∙ c.b.view_is))

pub returns-in_err-signature : goal.returns-in_err-signature
returns-in_err-signature c =
    gives_passed c.from_residual.result _ c.in_err-signature.field-0.0 c.from_residual.ensures.0 c.from_residual.ensures.1
    (refused_as_two (λ s t. two_kind c.args.op (kind_of s) (kind_of t)) (λ s t. v.Two c.args.op s t) c.a.inside.tree c.b.inside.tree c.args.a c.args.b
    c.in_err-signature.field-0.0 c.in_err-signature.ensures c.a.view_is c.b.view_is)
