use Rattle.planner.proofs.WorkedTable.{mass_table}
use Rattle.planner.proofs.laws.worked_table.Goals as goal

pub returns : goal.returns
returns c = mass_table
