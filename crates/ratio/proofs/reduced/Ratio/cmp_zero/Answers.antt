use Rattle.std.proofs.Common.{◌∙◌}
use Rattle.ratio.proofs.SignLaws.{compares}
use Rattle.ratio.proofs.reduced.Ratio.cmp_zero.Goals as goal

pub returns : goal.returns
returns c = c.cmp.ensures ∙ compares c.args.self
