use Rattle.ufl_tree.specs.Reading.{term_of}
use Rattle.integrands.specs.declared.operator.Operator.TheVariants as v
use Rattle.integrands.proofs.OperatorLaws.{applied}
use Rattle.integrands.proofs.integrand.Integrand.right.Goals as goal

pub returns : goal.returns
returns c = applied v.Right c.args.self.now.on (term_of c.args.self.now.body) (term_of c.in_ok-body.body) c.in_ok-body.ensures
