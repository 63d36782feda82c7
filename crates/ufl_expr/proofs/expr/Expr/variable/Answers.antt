use Rattle.std.proofs.Common.{◌∙◌}
use Rattle.ufl_tree.specs.declared.tree.Tree.{Tree}
use Rattle.ufl_tree.specs.declared.tree.Node.TheVariants as v
use Rattle.ufl_tree.specs.Reading.{kind_of, typed_of}
use Rattle.ufl_expr.specs.Table.{variable_kind, has_argument}
use Rattle.ufl_expr.specs.Signatures.{kind_in}
use Rattle.ufl_expr.proofs.BuildingLaws.{moved, same_kind, counted_variable, built_as, refused_as, gives_same, gives_passed, gives_memory}
use Rattle.ufl_expr.proofs.expr.Expr.variable.Goals as goal

pub finish-requires : goal.finish-requires
finish-requires c =
    let a = c.a.inside in
    let p = c.in_ok-new.field-0 in
    let C = counted_variable c.args.label p (kind_in c.in_ok-signature.signature) a.nodes a.height
    (same_kind (λ t. variable_kind (has_argument (typed_of t)) (kind_of t)) p a.tree _ c.in_ok-new.ensures c.in_ok-signature.ensures)
    (moved p a.tree a.nodes a.height c.in_ok-new.ensures (record { typed = c.a.invariant.typed; count = c.a.invariant.count; depth = c.a.invariant.depth })) in
    record { typed = C.typed; count = C.count; depth = C.depth }

pub returns : goal.returns
returns c =
    let V = λ (t : Tree). variable_kind (has_argument (typed_of t)) (kind_of t) in
    let p = c.in_ok-new.field-0 in
    gives_same _ _
    (c.finish.ensures
    ∙ built_as V (λ t. v.Variable c.args.label t) p c.args.a _ (same_kind V p c.a.inside.tree _ c.in_ok-new.ensures c.in_ok-signature.ensures) (c.in_ok-new.ensures ∙ c.a.view_is))

pub returns-in_err-signature : goal.returns-in_err-signature
returns-in_err-signature c =
    gives_passed c.from_residual.result _ c.in_err-signature.field-0.0 c.from_residual.ensures.0 c.from_residual.ensures.1
    (refused_as (λ t. variable_kind (has_argument (typed_of t)) (kind_of t)) (λ t. v.Variable c.args.label t) c.a.inside.tree c.args.a c.in_err-signature.field-0.0 c.in_err-signature.ensures c.a.view_is)

pub returns-in_err-new : goal.returns-in_err-new
returns-in_err-new c = gives_memory _ _ c.from_residual-in_err-new.ensures.0 c.from_residual-in_err-new.ensures.1
