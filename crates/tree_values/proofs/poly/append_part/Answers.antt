use Rattle.std.proofs.Common.{◌∙◌, sym, ap}
use Rattle.calculus.specs.Polynomial.{plus, plus-nil}
use Rattle.tree_values.specs.TermValue.{part_value, sum_of}
use Rattle.tree_values.proofs.Sums.{sum_of-push}
use Rattle.tree_values.proofs.poly.append_part.Goals as goal

pub returns-in_ok-push-in-Some : goal.returns-in_ok-push-in-Some
returns-in_ok-push-in-Some c =
    ap sum_of c.in_ok-push-in-Some.ensures.ok ∙ sum_of-push c.args.out.now c.in-Some.u ∙ ap (λ o. plus (sum_of c.args.out.now) (part_value o)) (sym c.in-Some.is)

pub returns-in-None : goal.returns-in-None
returns-in-None c = sym (plus-nil _) ∙ ap (λ o. plus (sum_of c.args.out.now) (part_value o)) (sym c.in-None.is)
