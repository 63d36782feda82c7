use Rattle.std.proofs.Common.{◌∙◌, ap}
use Rattle.ratio.specs.Value.{fraction_of}
use Rattle.algebra.specs.Steps.{sum, difference}
use Rattle.ratio.proofs.reduced.Ratio.sub.Goals as goal

pub returns : goal.returns
unfolding difference
returns c = c.add.ensures ∙ ap (sum (fraction_of c.args.self)) c.neg.ensures
