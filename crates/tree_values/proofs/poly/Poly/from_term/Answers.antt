use Rattle.std.proofs.Common.{◌∙◌, ap, ◌++◌, [], ◌∷◌}
use Rattle.tree_values.specs.TermValue.{sum_of}
use Rattle.tree_values.proofs.Sums.{sum_of-one}
use Rattle.tree_values.proofs.poly.Poly.from_term.Goals as goal

pub returns : goal.returns
returns c = ap sum_of (c.in_ok-push.ensures.ok ∙ ap (λ ts. ts ++ c.args.t ∷ []) c.new-terms.ensures) ∙ sum_of-one c.args.t
