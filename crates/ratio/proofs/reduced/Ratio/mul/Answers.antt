use Rattle.algebra.specs.Fraction.{mul}
use Rattle.ratio.specs.Value.{fraction_of}
use Rattle.algebra.specs.Steps.{product}
use Rattle.ratio.proofs.Reading.{answered, product_fits}
use Rattle.ratio.proofs.reduced.Ratio.mul.Goals as goal

pub returns : goal.returns
unfolding product
returns c = answered _ c.reduced_product_with.result (mul (fraction_of c.args.self) (fraction_of c.args.o)) _ c.reduced_product_with.ensures.passes (product_fits c.args.self c.args.o) c.reduced_product_with.ensures.value
