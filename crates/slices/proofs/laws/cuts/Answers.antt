use Rattle.std.proofs.Common.{arith}
use Rattle.slices.specs.FormTokens.{form_begins}
use Rattle.slices.proofs.FormScan.{cut_tokens}
use Rattle.slices.proofs.laws.cuts.Goals as goal

pub returns : goal.returns
returns c = λ text ts e s. cut_tokens (form_begins text) ts e (omega arith) s
