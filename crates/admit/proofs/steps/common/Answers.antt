use Rattle.admit.proofs.StepLaws.{kept_multiple}
use Rattle.admit.proofs.steps.common.Goals as goal

pub returns-clause-denominators : goal.returns-clause-denominators
returns-clause-denominators c = record {
  den = kept_multiple c.args.a.den c.args.b.den c.greatest_common_divisor-divisor.result c.product.result c.requires.left.den c.requires.right.den c.greatest_common_divisor-divisor.ensures c.product.ensures;
  fac = kept_multiple c.args.a.fac c.args.b.fac c.greatest_common_divisor-part.result c.product-2.result c.requires.left.fac c.requires.right.fac c.greatest_common_divisor-part.ensures c.product-2.ensures;
}
