use Rattle.form_values.proofs.TriplesLaws.{at_nodes}
use Rattle.form_values.proofs.laws.local_nodes.Goals as goal

pub returns : goal.returns
returns g = λ p o fits linear k at whole a b g h row col. at_nodes p o k a b g h fits linear at whole row col
