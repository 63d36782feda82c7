use Rattle.std.proofs.Common.{◌≡◌, List, map, ap, sym, ◌∙◌, subst, Ok, Err}
use Rattle.ufl_tree.specs.declared.tree.Tree.{Tree}
use Rattle.ufl_tree.specs.declared.tree.Node.TheVariants as v
use Rattle.ufl_tree.specs.Reading.{kind_of}
use Rattle.ufl_expr.specs.Answer.{Gives}
use Rattle.ufl_expr.specs.Extent.{IsExtent}
use Rattle.ufl_expr.specs.Table.{list_kind}
use Rattle.ufl_expr.specs.Signatures.{kind_in}
use Rattle.ufl_expr.specs.Building.{built}
use Rattle.ufl_expr.proofs.ListLaws.{listed, counted_list, list_length}
use Rattle.ufl_expr.proofs.BuildingLaws.{refused_built, gives_same, gives_passed, gives_memory}
use Rattle.ufl_expr.proofs.expr.Expr.list.Goals as goal

pub extent_of-nodes-requires : goal.extent_of-nodes-requires
extent_of-nodes-requires c = list_length c.as_slice.result.now c.as_slice-2.result.now _ (c.as_slice.ensures.value ∙ sym c.as_slice-2.ensures.value) c.in_ok-signature.ensures

pub finish-requires : goal.finish-requires
finish-requires c =
    let ts = c.in_ok-trees.trees in
    let C = counted_list ts (kind_in c.in_ok-signature.signature) c.extent_of-nodes.result.nodes c.extent_of-nodes.result.height
    (ap (λ (x : List Tree). list_kind (map kind_of x)) (c.in_ok-trees.ensures ∙ sym c.as_slice.ensures.value) ∙ c.in_ok-signature.ensures)
    (subst (λ x. IsExtent (listed x) c.extent_of-nodes.result.nodes c.extent_of-nodes.result.height) (c.as_slice-2.ensures.value ∙ sym c.in_ok-trees.ensures) c.extent_of-nodes.ensures.extent) in
    record { typed = C.typed; count = C.count; depth = C.depth }

pub returns : goal.returns
returns c =
    let k = kind_in c.in_ok-signature.signature in
    let e : list_kind (map kind_of c.args.items.items) ≡ Ok k = ap (λ (x : List Tree). list_kind (map kind_of x)) (sym c.as_slice.ensures.value) ∙ c.in_ok-signature.ensures in
    gives_same _ _ (c.finish.ensures ∙ ap (λ (x : List Tree). built (Ok k) (v.List x)) c.in_ok-trees.ensures ∙ ap (λ w. built w (v.List c.args.items.items)) (sym e))

pub returns-in_err-signature : goal.returns-in_err-signature
returns-in_err-signature c =
    gives_passed c.from_residual.result _ c.in_err-signature.field-0.0 c.from_residual.ensures.0 c.from_residual.ensures.1
    (subst (λ x. Gives (Err c.in_err-signature.field-0.0) (built (list_kind (map kind_of x)) (v.List c.args.items.items))) c.as_slice.ensures.value
    (refused_built _ (v.List c.args.items.items) c.in_err-signature.field-0.0 c.in_err-signature.ensures))

pub returns-in_err-trees : goal.returns-in_err-trees
returns-in_err-trees c = gives_memory _ _ c.from_residual-in_err-trees.ensures.0 c.from_residual-in_err-trees.ensures.1
