use Rattle.weigh.proofs.TermLaws.{term_sound}
use Rattle.weigh.proofs.WeighLaws.{tree_sound, form_sound}
use Rattle.weigh.proofs.laws.sound_law.Goals as goal

pub returns : goal.returns
returns c = record { trees = tree_sound; forms = form_sound; terms = term_sound }
