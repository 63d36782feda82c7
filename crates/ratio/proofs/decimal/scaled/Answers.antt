use Rattle.std.proofs.Common.{sym, ◌∙◌, ap}
use native.Mathlib.Nat as N
use Rattle.algebra.specs.Steps.{fitting}
use Rattle.ratio.specs.NumberText.{scaled_by_tens}
use Rattle.ratio.proofs.FitLaws.{fitting_of}
use Rattle.ratio.proofs.Tens.{scaled_zero, scaled_up, scaled_down}
use Rattle.ratio.proofs.decimal.scaled.Goals as goal

pub returns-then-m-eq0 : goal.returns-then-m-eq0
returns-then-m-eq0 c =
    fitting_of c.zero.result (scaled_by_tens c.args.m c.args.up c.args.down)
    (c.zero.ensures ∙ scaled_zero c.args.up c.args.down ∙ ap (λ m. scaled_by_tens m c.args.up c.args.down) (sym c.if-m-eq0.true))

pub returns-then-up-down : goal.returns-then-up-down
returns-then-up-down c = c.raised.ensures ∙ ap fitting (scaled_up c.args.m c.args.up c.args.down c.if-up-down.true)

pub returns-else-up-down : goal.returns-else-up-down
returns-else-up-down c = c.lowered.ensures ∙ ap fitting (scaled_down c.args.m c.args.up c.args.down (N.le_of_lt c.if-up-down.false))
