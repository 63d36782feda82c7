use Rattle.calculus.proofs.LocalFunctions.{local_function_law}
use Rattle.calculus.proofs.laws.local_functions.Goals as goal

pub returns : goal.returns
returns c = local_function_law
