use Rattle.std.proofs.Common.{sym, ◌∙◌, ap}
use Rattle.ufl_tree.specs.Reading.{term_of}
use Rattle.passes.proofs.ResultLaws.{ok_as}
use Rattle.derivatives.proofs.DerivationLaws.{of-Function}
use Rattle.integrands.specs.Flattening.{under}
use Rattle.integrands.proofs.operator.under.Goals as goal

pub returns-in-Derivative : goal.returns-in-Derivative
returns-in-Derivative c =
    ok_as term_of c.derivative.result _ _
    (of-Function c.in-Derivative.coef c.in-Derivative.dir (term_of c.args.e) ∙ sym (ap (λ op. under op (term_of c.args.e)) c.in-Derivative.is)) c.derivative.ensures
