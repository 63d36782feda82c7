use Rattle.tree_values.proofs.ResultLaws.{ok_then}
use Rattle.tree_values.proofs.OperandLaws.{dot_first, combines_dot}
use Rattle.std.proofs.Common.{◌∙◌, ap, [], ◌∷◌}
use Rattle.ufl_tree.specs.Indices.{followed_by}
use Rattle.tree_values.specs.Scene.{gathered}
use Rattle.tree_values.proofs.operands.of_dot.Goals as goal

pub returns-in_default : goal.returns-in_default
returns-in_default c = ok_then c.pair.result (λ w h. dot_first c.args.shape.now c.args.at.now w.left w.right c.in_default.ensures.cases h.0 h.1) c.pair.ensures

pub returns : goal.returns
returns c =
    combines_dot c.args.shape.now c.in-Some.outer.now c.args.at.now c.in-Some.field-0-0.now c.last_size-size.result _ _ c.in-Some.ensures.cases.0 c.last_size-size.ensures
    (c.in_ok-behind_each.ensures ∙ ap (λ b. gathered c.last_size-size.result (λ k. followed_by b k ∷ [])) c.first_part.ensures)
    (c.in_ok-before_each.ensures ∙ ap (λ b. gathered c.last_size-size.result (λ k. (k ∷ b) ∷ [])) c.last_part.ensures)
