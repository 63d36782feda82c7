use Rattle.ufl_read.proofs.Outcome.{within_file}
use Rattle.ufl_read.proofs.laws.cuts.Goals as goal

pub returns : goal.returns
returns c = within_file
