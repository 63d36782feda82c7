use Rattle.reference.proofs.Monomials.{constant_term_of}
use Rattle.reference.proofs.term.Term.constant.Goals as goal

pub returns : goal.returns
returns c = constant_term_of _
