use Rattle.ufl_tree.specs.Reading.{term_of}
use Rattle.passes.proofs.ResultLaws.{ok_as}
use Rattle.derivatives.proofs.DerivationLaws.{of-Function}
use Rattle.derivatives.proofs.expanding.turned.Goals as goal

pub returns : goal.returns
returns c = ok_as term_of c.derivative.result _ _ (of-Function c.args.coef c.args.dir (term_of c.args.body)) c.derivative.ensures
