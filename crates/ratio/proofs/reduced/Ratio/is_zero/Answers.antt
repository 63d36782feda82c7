use Rattle.std.proofs.Common.{◌∙◌}
use Rattle.ratio.proofs.SignLaws.{word_is_nought, nought_of}
use Rattle.ratio.proofs.reduced.Ratio.is_zero.Goals as goal

pub returns : goal.returns
returns c = word_is_nought c.args.self.n c.args.self.fits ∙ nought_of c.args.self
