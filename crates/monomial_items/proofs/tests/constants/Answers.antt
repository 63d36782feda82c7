use Rattle.std.proofs.Common.{sym, subst}
use Rattle.std.specs.List.{AllByRecursion}
use Rattle.polyalg.specs.Prelude.{VariablesBelow}
use Rattle.basis_products.proofs.Lists.{all_pushed}
use Rattle.monomial_items.proofs.tests.constants.Goals as goal

pub returns : goal.returns
returns c =
    all_pushed (VariablesBelow 2) c.push.new.self.items c.push-2.new.self.items c.in_ok-two.two c.in_ok-push-2.ensures.items
    (all_pushed (VariablesBelow 2) c.new-all.result.items c.push.new.self.items c.in_ok-one.one c.in_ok-push.ensures.items
    (subst (AllByRecursion (VariablesBelow 2)) (sym c.new-all.ensures.items) tt) (c.in_ok-one.ensures.variables 2))
    (c.in_ok-two.ensures.variables 2 (c.in_ok-one.ensures.variables 2) (c.in_ok-one.ensures.variables 2))
