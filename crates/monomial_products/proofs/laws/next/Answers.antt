use Rattle.monomial_products.proofs.NextLaws.{next_products, next_sizes}
use Rattle.monomial_products.proofs.laws.next.Goals as goal

pub returns-clause-products : goal.returns-clause-products
returns-clause-products c = next_products

pub returns-clause-sizes : goal.returns-clause-sizes
returns-clause-sizes c = next_sizes
