use Rattle.std.proofs.Common.{◌≡◌, max, arith}
use Rattle.lower.specs.Keeping.{all_above}
use Rattle.ufl_tree.specs.Reading.{term_of}
use Rattle.ufl_tree.specs.Term.{raise}
use Rattle.derivatives.specs.Naming.{term_above}
use Rattle.derivatives.proofs.ExpansionLaws.{expands, tree_of_raise}
use Rattle.derivatives.proofs.expanding.by_variable.Goals as goal

pub returns : goal.returns
returns c =
    let e : c.max-next.result ≡ max (all_above c.args.at.now) (term_above (term_of c.args.e.now)) = omega arith in
    expands term_of c.raised.result (raise c.args.label c.args.at.now (term_of c.args.e.now)) _
    (tree_of_raise c.args.label c.args.at.now (term_of c.args.e.now) _ _ e c.in_ok-body.ensures) c.raised.ensures
