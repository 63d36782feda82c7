use Rattle.std.proofs.Common.{List, ◌∙◌}
use Rattle.ufl_tree.specs.declared.function.Ix.{Ix}
use Rattle.ufl_tree.specs.declared.tree.Tree.{Tree}
use Rattle.ufl_tree.specs.declared.tree.Node.TheVariants as v
use Rattle.ufl_tree.specs.Reading.{kind_of}
use Rattle.ufl_expr.specs.Table.{index_kind}
use Rattle.ufl_expr.specs.Signatures.{kind_in}
use Rattle.ufl_expr.proofs.BuildingLaws.{moved, same_kinds, counted_index, built_as_two, refused_as, gives_same, gives_passed, gives_memory}
use Rattle.ufl_expr.proofs.expr.Expr.index.Goals as goal

pub finish-requires : goal.finish-requires
finish-requires c =
    let a = c.a.inside in
    let p = c.in_ok-new.field-0 in
    let xs = c.in_ok-from_slice.field-0 in
    let C = counted_index p xs (kind_in c.in_ok-signature.signature) a.nodes a.height
    (same_kinds (λ t x. index_kind (kind_of t) x) p xs a.tree c.args.at.now _ c.in_ok-new.ensures c.in_ok-from_slice.ensures c.in_ok-signature.ensures)
    (moved p a.tree a.nodes a.height c.in_ok-new.ensures (record { typed = c.a.invariant.typed; count = c.a.invariant.count; depth = c.a.invariant.depth })) in
    record { typed = C.typed; count = C.count; depth = C.depth }

pub returns : goal.returns
returns c =
    let V = λ (t : Tree) (x : List Ix). index_kind (kind_of t) x in
    let p = c.in_ok-new.field-0 in
    let xs = c.in_ok-from_slice.field-0 in
    gives_same _ _
    (c.finish.ensures
    ∙ built_as_two V (λ t x. v.Index t x) p xs c.args.a c.args.at.now _
    (same_kinds V p xs c.a.inside.tree c.args.at.now _ c.in_ok-new.ensures c.in_ok-from_slice.ensures c.in_ok-signature.ensures)
    (c.in_ok-new.ensures ∙ c.a.view_is) c.in_ok-from_slice.ensures)

pub returns-in_err-signature : goal.returns-in_err-signature
returns-in_err-signature c =
    gives_passed c.from_residual.result _ c.in_err-signature.field-0.0 c.from_residual.ensures.0 c.from_residual.ensures.1
    (refused_as (λ t. index_kind (kind_of t) c.args.at.now) (λ t. v.Index t c.args.at.now) c.a.inside.tree c.args.a c.in_err-signature.field-0.0 c.in_err-signature.ensures c.a.view_is)

pub returns-in_err-new : goal.returns-in_err-new
returns-in_err-new c = gives_memory _ _ c.from_residual-in_err-new.ensures.0 c.from_residual-in_err-new.ensures.1

pub returns-in_err-from_slice : goal.returns-in_err-from_slice
returns-in_err-from_slice c = gives_memory _ _ c.from_residual-in_err-from_slice.ensures.0 c.from_residual-in_err-from_slice.ensures.1
