use Rattle.std.proofs.Common.{◌≡◌, ◌++◌, arith, ap, ◌∙◌}
use Rattle.std.specs.List.{flat_map}
use Rattle.refint.specs.Local.{numbers_below}
use Rattle.basis_products.specs.Order.{pairs_at}
use Rattle.basis_products.proofs.Lists.{more_numbers}
use Rattle.basis_products.proofs.products.Sizes.push_trials.Goals as goal

pub loop-trial-preserved : goal.loop-trial-preserved
loop-trial-preserved c =
    more_numbers (pairs_at c.args.self c.args.factor.now.source c.args.factor.now.nodes c.args.test) c.loop-trial.trial c.args.pairs.now.items _ _ c.loop-trial.invariant c.in_ok-push_pairs.ensures

pub returns : goal.returns
returns c =
    let all : c.loop-trial.trial ≡ c.args.trials = omega arith in
    c.loop-trial.invariant ∙ ap (λ n. c.args.pairs.now.items ++ flat_map (pairs_at c.args.self c.args.factor.now.source c.args.factor.now.nodes c.args.test) (numbers_below n)) all
