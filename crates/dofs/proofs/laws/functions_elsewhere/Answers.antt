use Rattle.dofs.proofs.LocalNodeLaws.{on_other_cell, without_vertex, only_local_rows}
use Rattle.dofs.proofs.laws.functions_elsewhere.Goals as goal

pub returns-clause-other_cell : goal.returns-clause-other_cell
returns-clause-other_cell c = on_other_cell

pub returns-clause-other_vertex : goal.returns-clause-other_vertex
returns-clause-other_vertex c = without_vertex

pub returns-clause-only_local : goal.returns-clause-only_local
returns-clause-only_local c = only_local_rows
