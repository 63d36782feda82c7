use Rattle.ufl_values.proofs.operators.operator_of_one.Goals as goal

pub returns : goal.returns
returns c = rw c.in_ok-operand.ensures (c.expressed.ensures _ c.one.ensures)
