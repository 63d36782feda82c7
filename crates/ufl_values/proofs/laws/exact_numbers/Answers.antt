use Rattle.ufl_values.proofs.ExactLaws.{exact_value, exact_at, exact_fits}
use Rattle.ufl_values.proofs.laws.exact_numbers.Goals as goal

pub returns : goal.returns
returns c = record { value = exact_value; own = exact_at; fitting = exact_fits }
