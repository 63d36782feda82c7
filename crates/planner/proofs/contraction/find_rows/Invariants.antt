use Rattle.std.proofs.Common.{◌-◌, ◌*◌, ◌+◌, ◌≤◌}
use Rattle.planner.proofs.WalkLaws.{Walked}
use Rattle.planner.proofs.contraction.find_rows.Given as goal

-- all rows before the next node
abbrev pub invariant-loop-trial : goal.invariant-loop-trial
invariant-loop-trial l = record {
  walked : Walked l.tensor l.entries.items l.counted l.fn.counted.width (l.test * l.cols + l.trial) ((l.test - l.fn.tests.from) * (l.fn.trials.to - l.fn.trials.from) + (l.trial - l.fn.trials.from));
  from : l.fn.trials.from ≤ l.trial;
  to : l.trial ≤ l.fn.trials.to;
}

-- all lines before the next node
abbrev pub invariant-loop-test : goal.invariant-loop-test
invariant-loop-test l = record {
  walked : Walked l.tensor l.entries.items l.counted l.fn.counted.width (l.test * l.cols) ((l.test - l.fn.tests.from) * (l.fn.trials.to - l.fn.trials.from));
  from : l.fn.tests.from ≤ l.test;
  to : l.test ≤ l.fn.tests.to;
}
