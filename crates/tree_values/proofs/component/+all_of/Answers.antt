use Rattle.std.proofs.Common.{◌≡◌, ◌∙◌, ap, ◌∷◌, map, arith}
use Rattle.tree_values.specs.Scene.{gathered}
use Rattle.tree_values.proofs.SceneLaws.{gathered_more}
use Rattle.tree_values.proofs.ComponentLaws.{listed_is}
use Rattle.tree_values.proofs.component.+all_of.Goals as goal

pub loop-k-preserved : goal.loop-k-preserved
loop-k-preserved t c =
    gathered_more c.loop-k.k (λ k. map (λ b. k ∷ b) c.in_ok-behind.behind) c.loop-k.all c.append.new.self c.in_ok-all_before.field-0 c.loop-k.invariant
    (c.in_ok-all_before.ensures ∙ ap (map (λ b. c.loop-k.k ∷ b)) c.as_slice.ensures) c.in_ok-append.ensures

pub returns : goal.returns
returns t c =
    let last : c.loop-k.k ≡ c.in-Some.first.now = omega arith in
    listed_is c.args.shape.now c.in-Some.first.now c.in-Some.rest.now c.in_ok-behind.behind c.loop-k.all c.in-Some.ensures.cases.0 c.in_ok-behind.ensures
    (c.loop-k.invariant ∙ ap (λ n. gathered n (λ k. map (λ b. k ∷ b) c.in_ok-behind.behind)) last)
