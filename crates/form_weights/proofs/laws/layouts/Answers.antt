use Rattle.form_weights.proofs.PlaceLaws.{has_its_parts}
use Rattle.form_weights.proofs.laws.layouts.Goals as goal

pub returns : goal.returns
returns c = has_its_parts
