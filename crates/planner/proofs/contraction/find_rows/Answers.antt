use Rattle.std.proofs.Common.{◌≡◌, ◌-◌, ◌*◌, ◌+◌, ◌++◌, [], map, get_or, refl, sym, ap, ◌∙◌, subst, add-one, arith}
use native.Mathlib.Nat as N
use Rattle.ratio.specs.Value.{fraction_of}
use Rattle.kernel_statements.specs.Counted.{standing, standing_of, counted_with}
use Rattle.kernel_statements.specs.Found.{HaveQuotients, IsFound}
use Rattle.kernel_statements.specs.Placed.{placed_one}
use Rattle.planner.proofs.WalkLaws.{Walked, line_turns, next_walked, place_below, turns_below, walk_counted, walk_done, walk_ends, walk_few, walk_from, walk_own, walk_past, walk_steps, walk_to, walk_weakens}
use Rattle.planner.proofs.contraction.find_rows.Goals as goal

pub loop-test-init : goal.loop-test-init
loop-test-init c = record {
  walked =
      subst (λ es. Walked c.args.tensor.now es c.args.counted.now c.args.counted.now.width (c.args.tests.from * c.args.cols) ((c.args.tests.from - c.args.tests.from) * (c.args.trials.to - c.args.trials.from)))
      (sym c.new-entries.ensures.items)
      (walk_from c.args.tensor.now c.args.cols c.args.tests c.args.trials c.requires.nodes c.args.counted.now c.args.counted.now.width
      ((c.args.tests.from - c.args.tests.from) * (c.args.trials.to - c.args.trials.from)) c.requires.none refl);
  from = N.le_refl c.args.tests.from;
  to = c.requires.nodes.test_order;
}

pub loop-trial-init : goal.loop-trial-init
loop-trial-init c = record {
  walked =
      walk_weakens c.args.tensor.now c.loop-test.entries.items c.loop-test.counted c.args.counted.now.width (c.loop-test.test * c.args.cols + c.args.trials.from)
      ((c.loop-test.test - c.args.tests.from) * (c.args.trials.to - c.args.trials.from))
      ((c.loop-test.test - c.args.tests.from) * (c.args.trials.to - c.args.trials.from) + (c.args.trials.from - c.args.trials.from)) (omega arith)
      (walk_to c.args.tensor.now c.args.cols c.args.tests c.args.trials c.requires.nodes c.loop-test.entries.items c.loop-test.counted c.args.counted.now.width c.loop-test.test
      ((c.loop-test.test - c.args.tests.from) * (c.args.trials.to - c.args.trials.from)) (omega (arith, c.loop-test-test.true)) c.loop-test.invariant.walked);
  from = N.le_refl c.args.trials.from;
  to = c.requires.nodes.trial_order;
}

pub stand-requires-clause-few : goal.stand-requires-clause-few
stand-requires-clause-few c =
    let from = c.loop-test.invariant.from in
    let start = c.loop-trial.invariant.from in
    walk_few c.args.tensor.now c.loop-trial.entries.items c.loop-trial.counted c.args.counted.now.width (c.loop-test.test * c.args.cols + c.loop-trial.trial)
    ((c.loop-test.test - c.args.tests.from) * (c.args.trials.to - c.args.trials.from) + (c.loop-trial.trial - c.args.trials.from)) c.loop-trial.invariant.walked
    (place_below c.args.tensor.now c.args.cols c.args.tests c.args.trials c.requires.nodes c.loop-test.test c.loop-trial.trial (omega (arith, c.loop-test-test.true)) (omega (arith, c.loop-trial-test.true)))
    1048576
    (turns_below (c.loop-test.test - c.args.tests.from) (c.loop-trial.trial - c.args.trials.from) (c.args.tests.to - c.args.tests.from) (c.args.trials.to - c.args.trials.from) 1048576
    (omega (arith, c.loop-test-test.true)) (omega (arith, c.loop-trial-test.true)) c.requires.nodes.few)

pub stand-requires-clause-own : goal.stand-requires-clause-own
stand-requires-clause-own c =
    subst (λ row. HaveQuotients row c.loop-trial.counted.leading.items) (sym c.row.ensures)
    (walk_own c.args.tensor.now c.loop-trial.entries.items c.loop-trial.counted c.args.counted.now.width (c.loop-test.test * c.args.cols + c.loop-trial.trial)
    ((c.loop-test.test - c.args.tests.from) * (c.args.trials.to - c.args.trials.from) + (c.loop-trial.trial - c.args.trials.from)) c.loop-trial.invariant.walked
    (place_below c.args.tensor.now c.args.cols c.args.tests c.args.trials c.requires.nodes c.loop-test.test c.loop-trial.trial (omega (arith, c.loop-test-test.true)) (omega (arith, c.loop-trial-test.true))))

pub loop-trial-preserved : goal.loop-trial-preserved
loop-trial-preserved c =
    let k = c.loop-test.test * c.args.cols + c.loop-trial.trial in
    let t = (c.loop-test.test - c.args.tests.from) * (c.args.trials.to - c.args.trials.from) in
    let row = c.row.result.now in
    let walked = c.loop-trial.invariant.walked in
    let stands : standing_of c.in_ok-stands.stands ≡ standing walked.found (map fraction_of (get_or c.args.tensor.now k [])) =
    c.in_ok-stands.ensures.value walked.found walked.kept ∙ ap (λ r. standing walked.found (map fraction_of r)) c.row.ensures in
    let found : IsFound (counted_with walked.found (map fraction_of (get_or c.args.tensor.now k []))) c.stand.new.self =
    subst (λ r. IsFound (counted_with walked.found (map fraction_of r)) c.stand.new.self) c.row.ensures (c.in_ok-stands.ensures.found walked.found walked.kept) in
    let one : Walked c.args.tensor.now (c.loop-trial.entries.items ++ placed_one k c.in_ok-stands.stands) c.stand.new.self c.args.counted.now.width (k + 1) (t + (c.loop-trial.trial - c.args.trials.from) + 1) =
    walk_steps c.args.tensor.now c.loop-trial.entries.items c.loop-trial.counted c.args.counted.now.width k (t + (c.loop-trial.trial - c.args.trials.from)) walked
    (place_below c.args.tensor.now c.args.cols c.args.tests c.args.trials c.requires.nodes c.loop-test.test c.loop-trial.trial (omega (arith, c.loop-test-test.true)) (omega (arith, c.loop-trial-test.true)))
    c.in_ok-stands.stands c.stand.new.self c.requires.quotients stands found (c.in_ok-stands.ensures.width ∙ walked.wide) in
    record {
      walked =
          next_walked c.args.tensor.now c.place.new.entries.items c.stand.new.self c.args.counted.now.width c.loop-test.test c.args.cols c.loop-trial.trial t c.loop-trial.trial c.args.trials.from c.loop-trial.invariant.from
          (subst (λ es. Walked c.args.tensor.now es c.stand.new.self c.args.counted.now.width (k + 1) (t + (c.loop-trial.trial - c.args.trials.from) + 1)) (sym c.in_ok-place.ensures) one);
      from = omega (arith, c.loop-trial.invariant.from);
      to = omega (arith, c.loop-trial-test.true);
    }

pub loop-test-preserved : goal.loop-test-preserved
loop-test-preserved c =
    let end : c.loop-trial.trial ≡ c.args.trials.to = omega (arith, c.loop-trial-test.false, c.loop-trial.invariant.to) in
    let walked =
    subst (λ b. Walked c.args.tensor.now c.loop-trial.entries.items c.loop-trial.counted c.args.counted.now.width (c.loop-test.test * c.args.cols + b)
    ((c.loop-test.test - c.args.tests.from) * (c.args.trials.to - c.args.trials.from) + (b - c.args.trials.from))) end c.loop-trial.invariant.walked in
    record {
      walked =
          subst (λ n. Walked c.args.tensor.now c.loop-trial.entries.items c.loop-trial.counted c.args.counted.now.width (n * c.args.cols) ((c.loop-test.test + 1 - c.args.tests.from) * (c.args.trials.to - c.args.trials.from)))
          (sym (add-one c.loop-test.test))
          (walk_past c.args.tensor.now c.args.cols c.args.tests c.args.trials c.requires.nodes c.loop-trial.entries.items c.loop-trial.counted c.args.counted.now.width c.loop-test.test
          ((c.loop-test.test + 1 - c.args.tests.from) * (c.args.trials.to - c.args.trials.from)) (omega (arith, c.loop-test-test.true))
          (walk_weakens c.args.tensor.now c.loop-trial.entries.items c.loop-trial.counted c.args.counted.now.width (c.loop-test.test * c.args.cols + c.args.trials.to)
          ((c.loop-test.test - c.args.tests.from) * (c.args.trials.to - c.args.trials.from) + (c.args.trials.to - c.args.trials.from))
          ((c.loop-test.test + 1 - c.args.tests.from) * (c.args.trials.to - c.args.trials.from))
          (line_turns c.loop-test.test c.args.tests.from c.args.trials.from c.args.trials.to c.args.trials.to c.loop-test.invariant.from (N.le_refl c.args.trials.to)) walked));
      from = omega (arith, c.loop-test.invariant.from);
      to = omega (arith, c.loop-test-test.true);
    }

pub returns-clause-entries : goal.returns-clause-entries
returns-clause-entries c =
    let end : c.loop-test.test ≡ c.args.tests.to = omega (arith, c.loop-test-test.false, c.loop-test.invariant.to) in
    walk_done c.args.tensor.now c.loop-test.entries.items c.loop-test.counted c.args.counted.now.width ((c.loop-test.test - c.args.tests.from) * (c.args.trials.to - c.args.trials.from))
    (walk_ends c.args.tensor.now c.args.cols c.args.tests c.args.trials c.requires.nodes c.loop-test.entries.items c.loop-test.counted c.args.counted.now.width c.requires.nodes.full.0
    ((c.loop-test.test - c.args.tests.from) * (c.args.trials.to - c.args.trials.from)) c.requires.nodes.full.1
    (subst (λ n. Walked c.args.tensor.now c.loop-test.entries.items c.loop-test.counted c.args.counted.now.width (n * c.args.cols) ((c.loop-test.test - c.args.tests.from) * (c.args.trials.to - c.args.trials.from))) end c.loop-test.invariant.walked))

pub returns-clause-rows : goal.returns-clause-rows
returns-clause-rows c =
    let end : c.loop-test.test ≡ c.args.tests.to = omega (arith, c.loop-test-test.false, c.loop-test.invariant.to) in
    walk_counted c.args.tensor.now c.loop-test.entries.items c.loop-test.counted c.args.counted.now.width ((c.loop-test.test - c.args.tests.from) * (c.args.trials.to - c.args.trials.from))
    (walk_ends c.args.tensor.now c.args.cols c.args.tests c.args.trials c.requires.nodes c.loop-test.entries.items c.loop-test.counted c.args.counted.now.width c.requires.nodes.full.0
    ((c.loop-test.test - c.args.tests.from) * (c.args.trials.to - c.args.trials.from)) c.requires.nodes.full.1
    (subst (λ n. Walked c.args.tensor.now c.loop-test.entries.items c.loop-test.counted c.args.counted.now.width (n * c.args.cols) ((c.loop-test.test - c.args.tests.from) * (c.args.trials.to - c.args.trials.from))) end c.loop-test.invariant.walked))
