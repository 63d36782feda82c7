use Rattle.std.proofs.Common.{sym, ◌∙◌}
use Rattle.ufl_tree.specs.Reading.{kind_of}
use Rattle.ufl_expr.specs.Signatures.{kind_in}
use Rattle.ufl_expr.proofs.BuildingLaws.{moved, counted_diff, built_diff, refused_diff, no_variable, same_kind, gives_same, gives_passed, gives_memory}
use Rattle.ufl_expr.specs.Table.{diff_kind}
use Rattle.ufl_expr.proofs.expr.Expr.diff.Goals as goal

pub finish-requires : goal.finish-requires
finish-requires c =
    let a = c.f.inside in
    let w = c.tree-variable.result.now in
    let p = c.in_ok-body.body in
    let C = counted_diff c.in_ok-label.label c.in_ok-by.by p (kind_of w) (kind_in c.in_ok-signature.signature) a.nodes a.height
    (same_kind (λ t. diff_kind (kind_of t) (kind_of w)) p a.tree _ c.in_ok-body.ensures c.in_ok-signature.ensures) (c.in_ok-by.ensures ∙ c.as_slice.ensures)
    (moved p a.tree a.nodes a.height c.in_ok-body.ensures (record { typed = c.f.invariant.typed; count = c.f.invariant.count; depth = c.f.invariant.depth })) in
    record { typed = C.typed; count = C.count; depth = C.depth }

pub returns : goal.returns
returns c =
    gives_same _ _
    (c.finish.ensures
    ∙ built_diff c.in_ok-body.body c.f.inside.tree c.args.f c.tree-variable.result.now c.args.v.now c.in_ok-by.by c.in_ok-label.label _
    c.in_ok-signature.ensures c.in_ok-body.ensures c.f.view_is c.tree-variable.ensures.same (c.in_ok-by.ensures ∙ c.as_slice.ensures)
    (sym c.label_of.ensures ∙ c.in_ok-label.was))

pub returns-in_err-signature : goal.returns-in_err-signature
returns-in_err-signature c =
    gives_passed c.from_residual-in_err-signature.result _ c.in_err-signature.field-0.0 c.from_residual-in_err-signature.ensures.0 c.from_residual-in_err-signature.ensures.1
    (refused_diff c.f.inside.tree c.args.f c.tree-variable.result.now c.args.v.now c.in_ok-label.label c.in_err-signature.field-0.0
    c.in_err-signature.ensures c.f.view_is c.tree-variable.ensures.same
    (sym c.label_of.ensures ∙ c.in_ok-label.was))

pub returns-in_err-label : goal.returns-in_err-label
returns-in_err-label c =
    gives_passed c.from_residual.result _ c.in_err-label.field-0.0 c.from_residual.ensures.0 c.from_residual.ensures.1
    (no_variable c.args.f c.tree-variable.result.now c.args.v.now c.in_err-label.field-0.0 c.tree-variable.ensures.same (sym c.in_err-label.ensures))

pub returns-in_err-by : goal.returns-in_err-by
returns-in_err-by c = gives_memory _ _ c.from_residual-in_err-by.ensures.0 c.from_residual-in_err-by.ensures.1

pub returns-in_err-body : goal.returns-in_err-body
returns-in_err-body c = gives_memory _ _ c.from_residual-in_err-body.ensures.0 c.from_residual-in_err-body.ensures.1
