use Rattle.ufl_meaning.proofs.Freshness.{value_fresh, meaning_fresh, density_fresh}
use Rattle.ufl_meaning.proofs.laws.freshness.Goals as goal

pub returns : goal.returns
returns c = record {
  value = λ elements e env b v only. value_fresh elements e env only b v;
  meaning = λ elements e env v only. meaning_fresh elements e env only v;
  density = λ elements f env only. density_fresh elements f env only;
}
