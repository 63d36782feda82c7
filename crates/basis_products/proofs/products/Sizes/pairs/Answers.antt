use Rattle.std.proofs.Common.{◌≡◌, [], arith, ap, ◌∙◌}
use Rattle.std.specs.List.{flat_map}
use Rattle.refint.specs.Local.{numbers_below}
use Rattle.basis_products.specs.Order.{pairs_at}
use Rattle.basis_products.proofs.Lists.{more_numbers}
use Rattle.basis_products.proofs.OrderLaws.{sizes_few, sum_nodes_few}
use Rattle.basis_products.specs.declared.products.Sizes.{Sizes}
use Rattle.basis_products.proofs.products.Sizes.pairs.Goals as goal

pub with-after-requires-clause-nodes : goal.with-after-requires-clause-nodes
with-after-requires-clause-nodes c = sum_nodes_few c.args.factor.now.nodes c.args.self.nodes c.requires.factor c.requires.nodes

pub push_trials-requires-clause-arguments : goal.push_trials-requires-clause-arguments
push_trials-requires-clause-arguments c =
    let few = sizes_few c.args.self c.args.factor.now.source c.args.factor.now.nodes c.args.factor.now.directions c.requires.tests c.requires.trials c.requires.factor in
    (omega (arith, few.0, ap (λ (s : Sizes). s.tests) c.with-after.ensures), omega (arith, few.1, ap (λ (s : Sizes). s.trials) c.with-after.ensures))

pub loop-test-preserved : goal.loop-test-preserved
loop-test-preserved c =
    more_numbers (λ t. flat_map (pairs_at c.args.self c.args.factor.now.source c.args.factor.now.nodes t) (numbers_below c.with-after.result.trials)) c.loop-test.test [] _ _ c.loop-test.invariant c.in_ok-push_trials.ensures

pub returns : goal.returns
returns c =
    let all : c.loop-test.test ≡ c.with-after.result.tests = omega arith in
    c.loop-test.invariant
    ∙ ap (λ n. flat_map (λ t. flat_map (pairs_at c.args.self c.args.factor.now.source c.args.factor.now.nodes t) (numbers_below c.with-after.result.trials)) (numbers_below n)) all
    ∙ ap (λ (s : Sizes). flat_map (λ t. flat_map (pairs_at c.args.self c.args.factor.now.source c.args.factor.now.nodes t) (numbers_below s.trials)) (numbers_below s.tests)) c.with-after.ensures
