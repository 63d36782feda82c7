use Rattle.std.proofs.Common.{◌≡◌}
use Rattle.std.specs.List.{flat_map}
use Rattle.refint.specs.Local.{numbers_below}
use Rattle.basis_products.specs.Order.{pairs_at}
use Rattle.basis_products.proofs.products.Sizes.pairs.Given as goal

abbrev pub invariant-loop-test : goal.invariant-loop-test
invariant-loop-test l = l.pairs.items ≡ flat_map (λ t. flat_map (pairs_at l.self l.factor.source l.factor.nodes t) (numbers_below l.after.trials)) (numbers_below l.test)
