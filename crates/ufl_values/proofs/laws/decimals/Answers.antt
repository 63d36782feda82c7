use Rattle.ufl_values.proofs.ArithmeticLaws.{decimal_exact}
use Rattle.ufl_values.proofs.laws.decimals.Goals as goal

pub returns : goal.returns
returns c = decimal_exact
