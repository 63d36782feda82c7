use Rattle.std.proofs.Common.{◌≡◌, ◌+◌, ◌==◌, ◌∷◌, ◌++◌, if◌then◌else◌, sym, ◌∙◌, ap, subst}
use Rattle.ufl_tree.specs.Indices.{repeated}
use Rattle.weigh.specs.Weighing.{kept, index_weight, names_weight}
use Rattle.admit.proofs.NameLaws.{first_summed}
use Rattle.admit.proofs.trees.+over_common.Goals as goal

pub returns-clause-value : goal.returns-clause-value
returns-clause-value t c =
    let whole : c.args.left.now ≡ c.in-Some.first.now ∷ c.in-Some.rest.now = c.in-Some.ensures.cases.0 in
    c.over_one.ensures.value
    ∙ ap (λ b. if b then index_weight kept c.in-Some.first.now.dim c.over_common-all.result else c.over_common-all.result) c.is_once-is.ensures
    ∙ first_summed c.in-Some.first.now c.in-Some.rest.now c.args.right.now c.count.result c.count-2.result c.args.a c.over_common-all.result c.count.ensures.value c.count-2.ensures.value
    c.over_common-all.ensures.value
    ∙ ap (λ xs. names_weight kept (repeated (xs ++ c.args.right.now)) c.args.a) (sym whole)
