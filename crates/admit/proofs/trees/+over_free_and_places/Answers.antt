use Rattle.std.proofs.Common.{◌≡◌, ◌+◌, ◌==◌, ◌∷◌, ◌++◌, if◌then◌else◌, sym, ◌∙◌, ap, subst}
use Rattle.ufl_tree.specs.Indices.{named, repeated}
use Rattle.weigh.specs.Weighing.{kept, index_weight, names_weight}
use Rattle.admit.proofs.NameLaws.{first_summed}
use Rattle.admit.proofs.trees.+over_free_and_places.Goals as goal

pub returns-clause-value : goal.returns-clause-value
returns-clause-value t c =
    let more = named c.args.at.now c.args.shape.now in
    let whole : c.args.free.now ≡ c.in-Some.first.now ∷ c.in-Some.free.now = c.in-Some.ensures.cases.0 in
    c.over_one.ensures.value
    ∙ ap (λ b. if b then index_weight kept c.in-Some.first.now.dim c.over_free_and_places-rest.result else c.over_free_and_places-rest.result) c.is_once-is.ensures
    ∙ first_summed c.in-Some.first.now c.in-Some.free.now more c.count.result c.count_at.result c.args.a c.over_free_and_places-rest.result c.count.ensures.value c.count_at.ensures.value
    c.over_free_and_places-rest.ensures.value
    ∙ ap (λ xs. names_weight kept (repeated (xs ++ more)) c.args.a) (sym whole)
