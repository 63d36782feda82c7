use Rattle.std.proofs.Common.{◌∙◌, ap}
use Rattle.ufl_tree.specs.Reading.{term_of}
use Rattle.perturb.specs.Expanding.{by_variable}
use Rattle.passes.proofs.ResultLaws.{ok_as}
use Rattle.derivatives.proofs.DerivationLaws.{of-Variable}
use Rattle.derivatives.proofs.ListLaws.{none_behind}
use Rattle.derivatives.proofs.expanding.raised.Goals as goal

pub returns : goal.returns
returns c =
    ok_as term_of c.derivative.result _ _
    (of-Variable c.args.label c.in_ok-at.at (term_of c.args.body) ∙ ap (λ b. by_variable c.args.label b (term_of c.args.body)) (c.in_ok-at.ensures ∙ none_behind _))
    c.derivative.ensures
