use Rattle.c_text.specs.Layout.{canonical}
use Rattle.c_text.proofs.LayoutApart.{canonical_spells}
use Rattle.c_text.proofs.UnitWords.{unit_read}
use Rattle.c_text.proofs.laws.round_trip.Goals as goal

pub returns-clause-spelled : goal.returns-clause-spelled
returns-clause-spelled c = canonical_spells

pub returns-clause-read : goal.returns-clause-read
returns-clause-read c = λ u keeps short. unit_read u (canonical u) keeps (canonical_spells u keeps) short
