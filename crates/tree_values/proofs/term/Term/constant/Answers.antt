use Rattle.tree_values.proofs.Monomials.{constant_term}
use Rattle.tree_values.proofs.term.Term.constant.Goals as goal

pub returns : goal.returns
returns c = constant_term _
