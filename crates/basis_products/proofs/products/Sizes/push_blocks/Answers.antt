use Rattle.std.proofs.Common.{◌≡◌, ◌+◌, ◌++◌, map, arith, ap, ◌∙◌}
use Rattle.refint.specs.Local.{numbers_below}
use Rattle.basis_products.proofs.Lists.{more_counted}
use Rattle.basis_products.proofs.products.Sizes.push_blocks.Goals as goal

pub loop-block-preserved : goal.loop-block-preserved
loop-block-preserved c =
    more_counted (λ k. record { row = c.args.row; block = c.args.start + k }) c.loop-block.block c.args.pairs.now.items c.loop-block.pairs.items _ c.loop-block.invariant c.in_ok-push.ensures.items

pub returns : goal.returns
returns c =
    let all : c.loop-block.block ≡ c.args.self.nodes = omega arith in
    c.loop-block.invariant ∙ ap (λ n. c.args.pairs.now.items ++ map (λ k. record { row = c.args.row; block = c.args.start + k }) (numbers_below n)) all
