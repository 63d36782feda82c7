use Rattle.ufl_tree.specs.Reading.{term_of}
use Rattle.integrands.proofs.OperatorLaws.{applied}
use Rattle.integrands.proofs.integrand.Integrand.under.Goals as goal

pub returns : goal.returns
returns c = applied c.args.operator c.args.self.on (term_of c.args.self.body) (term_of c.in_ok-body.body) c.in_ok-body.ensures
