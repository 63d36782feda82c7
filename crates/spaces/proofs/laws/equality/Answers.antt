use Rattle.spaces.proofs.EqualityLaws.{cells_equal, spaces_equal}
use Rattle.spaces.proofs.laws.equality.Goals as goal

pub returns-clause-cells : goal.returns-clause-cells
returns-clause-cells c = cells_equal

pub returns-clause-spaces : goal.returns-clause-spaces
returns-clause-spaces c = spaces_equal
