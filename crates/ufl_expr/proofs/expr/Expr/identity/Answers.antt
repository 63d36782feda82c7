use Rattle.std.proofs.Common.{ap, ◌∙◌, sym}
use Rattle.ufl_tree.specs.declared.tree.Node.TheVariants as v
use Rattle.ufl_expr.specs.Building.{built}
use Rattle.ufl_expr.specs.Signatures.{kind_in}
use Rattle.ufl_expr.proofs.BuildingLaws.{counted_identity, gives_same, gives_passed, refused_built}
use Rattle.ufl_expr.proofs.expr.Expr.identity.Goals as goal

pub finish-requires : goal.finish-requires
finish-requires c =
    let C = counted_identity c.args.n (kind_in c.in_ok-signature.signature) c.in_ok-signature.ensures in
    record { typed = C.typed; count = C.count; depth = C.depth }

pub returns : goal.returns
returns c = gives_same _ _ (c.finish.ensures ∙ ap (λ x. built x (v.Identity c.args.n)) (sym c.in_ok-signature.ensures))

pub returns-in_err-signature : goal.returns-in_err-signature
returns-in_err-signature c =
    gives_passed c.from_residual.result _ c.in_err-signature.field-0.0 c.from_residual.ensures.0 c.from_residual.ensures.1
    (refused_built _ (v.Identity c.args.n) c.in_err-signature.field-0.0 c.in_err-signature.ensures)
