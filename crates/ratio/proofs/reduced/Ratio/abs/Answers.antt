use Rattle.std.proofs.Common.{sym, ◌∙◌, true, false, ap}
use Rattle.ratio.proofs.SignLaws.{absolute_is}
use Rattle.ratio.proofs.ProductLaws.{plain_integer}
use Rattle.algebra.specs.Sign.{is_negative}
use Rattle.ratio.proofs.reduced.Ratio.abs.Goals as goal

pub returns-then-negative : goal.returns-then-negative
returns-then-negative c =
    c.neg.ensures
    ∙ absolute_is c.args.self true (sym (ap is_negative (plain_integer c.args.self.n c.args.self.fits)) ∙ sym c.negative.ensures ∙ c.if-negative.true)

pub returns-else-negative : goal.returns-else-negative
returns-else-negative c =
    absolute_is c.args.self false (sym (ap is_negative (plain_integer c.args.self.n c.args.self.fits)) ∙ sym c.negative.ensures ∙ c.if-negative.false)
