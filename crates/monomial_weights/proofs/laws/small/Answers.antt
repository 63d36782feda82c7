use Rattle.monomial_weights.proofs.SmallLaws.{is_small, number_over, small_products, small_integrals}
use Rattle.monomial_weights.proofs.laws.small.Goals as goal

pub returns-clause-atoms : goal.returns-clause-atoms
returns-clause-atoms c = is_small

pub returns-clause-number : goal.returns-clause-number
returns-clause-number c = number_over

pub returns-clause-products : goal.returns-clause-products
returns-clause-products c = λ l w m lawful a h. small_products l w m a h lawful

pub returns-clause-integrals : goal.returns-clause-integrals
returns-clause-integrals c = λ l w m lawful a h. small_integrals l w m a h lawful
