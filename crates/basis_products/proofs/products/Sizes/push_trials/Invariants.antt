use Rattle.std.proofs.Common.{◌≡◌, ◌++◌}
use Rattle.std.specs.List.{flat_map}
use Rattle.refint.specs.Local.{numbers_below}
use Rattle.basis_products.specs.Order.{pairs_at}
use Rattle.basis_products.proofs.products.Sizes.push_trials.Given as goal

abbrev pub invariant-loop-trial : goal.invariant-loop-trial
invariant-loop-trial l = l.pairs.items ≡ l.fn.pairs.items ++ flat_map (pairs_at l.self l.factor.source l.factor.nodes l.test) (numbers_below l.trial)
