use Rattle.std.proofs.Common.{◌≡◌, ◌∙◌, ap, subst, max, sym}
use Rattle.weigh.specs.Weighing.{kept}
use Rattle.admit.specs.Put.{put_by}
use Rattle.admit.proofs.steps.put_together.Goals as goal

pub returns-in-Either : goal.returns-in-Either
returns-in-Either c = subst (λ how. c.kept.result ≡ kept (put_by how c.args.a c.args.b)) (sym c.in-Either.is) (c.kept.ensures ∙ ap kept c.max.ensures)
