use Rattle.form_values.proofs.TriplesLaws.{sums_are_triples, cell_triples}
use Rattle.form_values.proofs.laws.triples.Goals as goal

pub returns-clause-sums : goal.returns-clause-sums
returns-clause-sums g = λ p o fits linear tensor have triples sums. sums_are_triples p o tensor triples fits linear have sums

pub returns-clause-cells : goal.returns-clause-cells
returns-clause-cells g = λ p o fits linear tensor have k at triples sums. cell_triples p o tensor fits linear have k at triples sums
