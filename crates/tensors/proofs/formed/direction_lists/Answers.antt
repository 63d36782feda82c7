use Rattle.std.proofs.Common.{arith, sym}
use Rattle.std.proofs.Math.Nat.{pow-zero}
use Rattle.tensors.proofs.ColumnLaws.{power_fits, power_next}
use Rattle.tensors.proofs.formed.direction_lists.Goals as goal

pub overflow_mul-lists : goal.overflow_mul-lists
overflow_mul-lists c = omega (arith, power_fits c.args.d c.loop.counter c.args.count c.loop.lists c.requires.some (omega arith) (omega arith) c.requires.few c.loop.invariant)

pub loop-preserved : goal.loop-preserved
loop-preserved c = power_next c.args.d c.loop.counter c.loop.lists c.loop.invariant

pub loop-init : goal.loop-init
loop-init c = sym (pow-zero c.args.d)
