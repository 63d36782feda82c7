use Rattle.std.proofs.Common.{◌∙◌, sym}
use Rattle.tree_values.specs.PolyValue.{value_of}
use Rattle.tree_values.proofs.ResultLaws.{ok_as}
use Rattle.tree_values.proofs.ValueLaws.{piece_at, no_piece}
use Rattle.tree_values.proofs.leaf.piece.Goals as goal

pub returns-in-Some : goal.returns-in-Some
returns-in-Some c =
    ok_as value_of c.component.result _ _ (piece_at c.args.scene.now c.args.f c.args.which c.args.at.now c.in-Some.n (sym c.in_ok-n.ensures ∙ c.in-Some.is)) c.component.ensures

pub returns-in-None : goal.returns-in-None
returns-in-None c = c.zero.ensures ∙ no_piece c.args.scene.now c.args.f c.args.which c.args.at.now (sym c.in_ok-n.ensures ∙ c.in-None.is)
