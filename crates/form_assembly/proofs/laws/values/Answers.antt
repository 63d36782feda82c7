use Rattle.form_assembly.proofs.CellRuns.{sums_are_values, has_values}
use Rattle.form_assembly.proofs.laws.values.Goals as goal

pub returns : goal.returns
returns c = record {
  triples = λ p o w s is good triples sums. sums_are_values p o w s is good triples sums;
  whole = λ p o w s is few good triples sums. has_values p o w s is few good triples sums;
}
