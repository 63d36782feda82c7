use Rattle.std.proofs.Common.{sym, ◌∙◌}
use Rattle.ratio.proofs.Reading.{top_reads}
use Rattle.ratio.proofs.ProductLaws.{plain_integer}
use Rattle.ratio.proofs.reduced.Ratio.num.Goals as goal

pub returns : goal.returns
returns c = plain_integer c.args.self.n c.args.self.fits ∙ sym (top_reads c.args.self)
