use Rattle.std.proofs.Common.{◌*◌, ◌^◌, refl, ap, ◌∙◌, arith}
use native.Mathlib.Nat as N
use Rattle.tensors.proofs.ColumnLaws.{power_next}
use Rattle.tensors.proofs.tests.spread_by.Goals as goal

pub loop-preserved : goal.loop-preserved
loop-preserved c = (
  ap (λ n. n * c.args.factor) c.loop.invariant.0
      ∙ N.mul_assoc c.args.spread (c.args.factor ^ c.loop.counter) c.args.factor
      ∙ ap (λ n. c.args.spread * n) (power_next c.args.factor c.loop.counter (c.args.factor ^ c.loop.counter) refl),
  omega arith,
)
