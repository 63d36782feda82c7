use Rattle.slices.specs.FormTokens.{form_begins}
use Rattle.slices.proofs.FormScan.{same_scan}
use Rattle.slices.proofs.laws.one_scan.Goals as goal

pub returns : goal.returns
returns c = λ text ts us d e s z. same_scan (form_begins text) ts us d e s z
