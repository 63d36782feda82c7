use Rattle.algebra.specs.Fraction.{add}
use Rattle.ratio.specs.Value.{fraction_of}
use Rattle.algebra.specs.Steps.{sum}
use Rattle.ratio.proofs.Reading.{answered, sum_does}
use Rattle.ratio.proofs.reduced.Ratio.add.Goals as goal

pub returns : goal.returns
unfolding sum
returns c = answered _ c.reduced_sum_with.result (add (fraction_of c.args.self) (fraction_of c.args.o)) _ c.reduced_sum_with.ensures.passes (sum_does c.args.self c.args.o) c.reduced_sum_with.ensures.value
