use Rattle.std.proofs.Common.{subst}
use Rattle.assembly.specs.Sums.{AreSums}
use Rattle.assembly.specs.Assembly.{tensor_on}
use Rattle.form_values.proofs.ByNumber.{assembled}
use Rattle.form_values.proofs.TriplesLaws.{sums_are_triples}
use Rattle.form_values.proofs.laws.assembly.Goals as goal

pub returns : goal.returns
returns g = λ p o fits linear s is have triples sums.
    sums_are_triples p o (λ k. tensor_on s.runs k.number) triples fits linear have (subst (λ es. AreSums es triples) (assembled p s fits.test fits.trial is) sums)
