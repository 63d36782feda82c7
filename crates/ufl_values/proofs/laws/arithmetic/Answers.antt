use Rattle.ufl_values.proofs.ArithmeticLaws.{sum_exact, difference_exact, product_exact, quotient_exact}
use Rattle.ufl_values.proofs.laws.arithmetic.Goals as goal

pub returns : goal.returns
returns c = record { sum = sum_exact; difference = difference_exact; product = product_exact; quotient = quotient_exact }
