use Rattle.std.proofs.Common.{◌≡◌, ◌+◌, ◌++◌, map, arith, ap, ap₂, ◌∙◌}
use Rattle.std.specs.List.{flat_map}
use Rattle.refint.specs.Local.{numbers_below}
use Rattle.basis_products.specs.Order.{row_count}
use Rattle.basis_products.proofs.Lists.{more_numbers}
use Rattle.basis_products.proofs.OrderLaws.{start_few, first_most, count_most}
use Rattle.basis_products.proofs.products.Sizes.push_pairs.Goals as goal

pub overflow_add-first : goal.overflow_add-first
overflow_add-first c =
    omega (arith, first_most c.args.factor.now.source c.args.test c.args.trial, count_most c.args.factor.now.source c.args.factor.now.nodes, c.first_row-first.ensures, c.row_count-row-end.ensures)

pub push_blocks-requires : goal.push_blocks-requires
push_blocks-requires c =
    omega (arith, start_few c.args.self c.args.test c.args.trial c.requires.arguments.0 c.requires.arguments.1 c.requires.few.0 c.requires.few.1, c.start-start.ensures, c.requires.few.1)

pub loop-row-preserved : goal.loop-row-preserved
loop-row-preserved c =
    more_numbers (λ i. map (λ k. record { row = c.first_row-first.result + i; block = c.start-start.result + k }) (numbers_below c.args.self.nodes)) c.loop-row.row
    c.args.pairs.now.items _ _ c.loop-row.invariant c.in_ok-push_blocks.ensures

pub returns : goal.returns
returns c =
    let all : c.loop-row.row ≡ c.row_count-row-end.result = omega arith in
    c.loop-row.invariant
    ∙ ap (λ n. c.args.pairs.now.items ++ flat_map (λ i. map (λ k. record { row = c.first_row-first.result + i; block = c.start-start.result + k }) (numbers_below c.args.self.nodes)) (numbers_below n)) (all ∙ c.row_count-row-end.ensures)
    ∙ ap₂ (λ r s. c.args.pairs.now.items ++ flat_map (λ i. map (λ k. record { row = r + i; block = s + k }) (numbers_below c.args.self.nodes)) (numbers_below (row_count c.args.factor.now.source c.args.factor.now.nodes))) c.first_row-first.ensures c.start-start.ensures
