use Rattle.ufl_form.proofs.PairLaws.{product_has, product_least}
use Rattle.ufl_form.proofs.laws.product.Goals as goal

pub returns : goal.returns
returns c = λ a b. record { has = product_has a b; least = product_least a b }
