use Rattle.ufl_elab.proofs.LiteralLaws.{literal_at, literal_lawful}
use Rattle.ufl_elab.proofs.laws.literals.Goals as goal

pub returns : goal.returns
returns c = record { value = literal_at; lawful = literal_lawful }
