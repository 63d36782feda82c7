use Rattle.std.proofs.Common.{◌≡◌, ◌+◌, ◌++◌, map}
use Rattle.std.specs.List.{flat_map}
use Rattle.refint.specs.Local.{numbers_below}
use Rattle.basis_products.proofs.products.Sizes.push_pairs.Given as goal

abbrev pub invariant-loop-row : goal.invariant-loop-row
invariant-loop-row l =
    l.pairs.items ≡ l.fn.pairs.items ++ flat_map (λ i. map (λ k. record { row = l.first + i; block = l.start + k }) (numbers_below l.self.nodes)) (numbers_below l.row)
