use Rattle.std.proofs.Common.{ap, ◌∙◌, sym}
use Rattle.ufl_tree.specs.declared.tree.Node.TheVariants as v
use Rattle.ufl_expr.specs.Building.{built}
use Rattle.ufl_tree.specs.Places.{table_of}
use Rattle.ufl_expr.specs.Signatures.{kind_in}
use Rattle.ufl_expr.proofs.BuildingLaws.{gives_same, gives_passed, refused_built}
use Rattle.ufl_expr.proofs.FunctionLaws.{counted_piece}
use Rattle.ufl_expr.proofs.expr.Expr.piece.Goals as goal

pub finish-requires : goal.finish-requires
finish-requires c =
    let C = counted_piece c.args.f c.args.which (table_of c.args.elements.now) (kind_in c.in_ok-signature.signature) c.in_ok-signature.ensures in
    record { typed = C.typed; count = C.count; depth = C.depth }

pub returns : goal.returns
returns c = gives_same _ _ (c.finish.ensures ∙ ap (λ x. built x (v.Piece c.args.f c.args.which)) (sym c.in_ok-signature.ensures))

pub returns-in_err-signature : goal.returns-in_err-signature
returns-in_err-signature c =
    gives_passed c.from_residual.result _ c.in_err-signature.field-0.0 c.from_residual.ensures.0 c.from_residual.ensures.1
    (refused_built _ (v.Piece c.args.f c.args.which) c.in_err-signature.field-0.0 c.in_err-signature.ensures)
