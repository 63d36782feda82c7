use Rattle.ufl_expr.proofs.CellLaws as laws
use Rattle.ufl_expr.proofs.laws.one_cell.Goals as goal

pub returns : goal.returns
returns c = laws.tree_on
