use Rattle.std.proofs.Common.{◌∙◌, ap}
use Rattle.ufl_tree.specs.Term.{fun}
use Rattle.ufl_tree.proofs.ReadingLaws.{term_of-Fun}
use Rattle.derivatives.proofs.ListLaws.{none_behind}
use Rattle.derivatives.proofs.expanding.function.Goals as goal

pub returns : goal.returns
returns c = term_of-Fun c.args.f c.in_ok-at.at ∙ ap (fun c.args.f) (c.in_ok-at.ensures ∙ none_behind _)
