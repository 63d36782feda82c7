use Rattle.refint.proofs.LocalLaws.{local_above, local_only_used, local_no_offset}
use Rattle.refint.proofs.laws.environment.Goals as goal

pub returns : goal.returns
returns c = record { above = local_above; parameters = local_only_used; offsets = local_no_offset }
