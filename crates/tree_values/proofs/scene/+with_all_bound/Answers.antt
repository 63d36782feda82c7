use Rattle.std.proofs.Common.{◌∙◌}
use Rattle.tree_values.proofs.SceneLaws.{bound_further}
use Rattle.tree_values.proofs.scene.+with_all_bound.Goals as goal

pub returns : goal.returns
returns t c =
    bound_further c.with_all_bound.result _ _ c.in-Some.by.now c.in-Some-split_first.at.now c.in-Some.index.now c.in-Some-split_first.value.now c.args.names.now c.as_slice.result.now
    c.in-Some.ensures.cases.0 c.in-Some-split_first.ensures.cases.0 (c.as_slice.ensures ∙ c.in_ok-more.ensures) c.with_all_bound.ensures
