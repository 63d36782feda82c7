use Rattle.std.proofs.Common.{◌∙◌, ap, [], ◌∷◌}
use Rattle.ufl_tree.specs.declared.tree.Op2.TheVariants.{Sum, Inner, Outer}
use Rattle.tree_values.proofs.ResultLaws.{ok_then}
use Rattle.tree_values.proofs.OperandLaws.{combines_as, combines_pair, combines_inner, sum_one, products_one}
use Rattle.tree_values.proofs.operands.wanted.Goals as goal

pub returns-in-Sum : goal.returns-in-Sum
returns-in-Sum c =
    let b = c.args.at.now in
    ok_then c.pair.result (λ w h. combines_as _ Sum c.args.shape.now c.args.other.now b w.left w.right c.in-Sum.is (combines_pair Sum c.args.shape.now c.args.other.now b b b w.left w.right h.0 h.1 (λ f g. sum_one (f b) (g b)))) c.pair.ensures

pub returns-in-Inner : goal.returns-in-Inner
returns-in-Inner c =
    ok_then c.of_inner.result (λ w h. combines_as _ Inner c.args.shape.now c.args.other.now c.args.at.now w.left w.right c.in-Inner.is (combines_inner c.args.shape.now c.args.other.now c.args.at.now w.left w.right h.0 h.1)) c.of_inner.ensures

pub returns-in-Outer : goal.returns-in-Outer
returns-in-Outer c =
    let l = c.first_part.result.now in
    let r = c.last_part.result.now in
    ok_then c.pair-in-Outer.result (λ w h. combines_as _ Outer c.args.shape.now c.args.other.now c.args.at.now w.left w.right c.in-Outer.is
    (combines_pair Outer c.args.shape.now c.args.other.now c.args.at.now _ _ w.left w.right (h.0 ∙ ap (λ x. x ∷ []) c.first_part.ensures) (h.1 ∙ ap (λ x. x ∷ []) c.last_part.ensures) (λ f g. products_one (f _) (g _)))) c.pair-in-Outer.ensures
