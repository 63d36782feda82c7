use Rattle.std.proofs.Common.{refl, subst, sym, ap, ◌∙◌, ◌<◌, ◌^◌, neg_ℤ, unsigned_abs}
use Rattle.ratio.proofs.SignLaws.{negative_value}
use Rattle.ratio.proofs.ProductLaws.{plain_integer}
use Rattle.ratio.proofs.reduced.Ratio.neg.Goals as goal

pub returns : goal.returns
returns c =
    let plain = plain_integer c.args.self.n c.args.self.fits in
    negative_value _ c.args.self
    (plain_integer c.negated.result (subst (λ k. k < 2 ^ 127) (sym (c.negated.ensures.size ∙ ap unsigned_abs plain)) c.args.self.fits) ∙ c.negated.ensures.value ∙ ap neg_ℤ plain)
    refl
