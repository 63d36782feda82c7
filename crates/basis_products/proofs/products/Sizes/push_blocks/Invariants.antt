use Rattle.std.proofs.Common.{◌≡◌, ◌+◌, ◌++◌, map}
use Rattle.refint.specs.Local.{numbers_below}
use Rattle.basis_products.proofs.products.Sizes.push_blocks.Given as goal

abbrev pub invariant-loop-block : goal.invariant-loop-block
invariant-loop-block l = l.pairs.items ≡ l.fn.pairs.items ++ map (λ k. record { row = l.row; block = l.start + k }) (numbers_below l.block)
