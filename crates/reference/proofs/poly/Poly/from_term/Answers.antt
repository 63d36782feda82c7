use Rattle.std.proofs.Common.{◌∙◌, ap, ◌++◌, [], ◌∷◌}
use Rattle.reference.specs.TermValue.{sum_of}
use Rattle.reference.proofs.Monomials.{sum_of-one}
use Rattle.reference.proofs.poly.Poly.from_term.Goals as goal

pub returns : goal.returns
returns c = ap sum_of (c.in_ok-push.ensures.items ∙ ap (λ ts. ts ++ c.args.t ∷ []) c.new-terms.ensures.items) ∙ sum_of-one c.args.t
