use Rattle.std.proofs.Common.{◌∙◌, ap₂}
use Rattle.ufl_tree.specs.Reading.{term_of}
use Rattle.ufl_tree.specs.Term.{mark}
use Rattle.ufl_tree.proofs.ReadingLaws.{term_of-Mark}
use Rattle.derivatives.proofs.ListLaws.{none_behind}
use Rattle.derivatives.proofs.expanding.mark.Goals as goal

pub returns : goal.returns
returns c =
    term_of-Mark c.args.label c.in_ok-at.at c.in_ok-body.body ∙ ap₂ (λ b x. mark c.args.label b (term_of x)) (c.in_ok-at.ensures ∙ none_behind _) c.in_ok-body.ensures
