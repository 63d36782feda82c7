use Rattle.std.proofs.Common.{◌*◌, ◌^◌, ◌≤◌, arith, ap, sym}
use Rattle.std.proofs.Math.Nat.{pow-zero}
use Rattle.basis_products.proofs.FunctionLaws.{power_few, power_next}
use Rattle.basis_products.proofs.factor.power.Goals as goal

pub overflow_mul-power : goal.overflow_mul-power
overflow_mul-power c =
    let few : c.args.d ^ c.loop.counter * c.args.d ≤ 27 = power_few c.args.d c.loop.counter (omega arith) (omega arith) in
    omega (arith, ap (λ p. p * c.args.d) c.loop.invariant)

pub loop-preserved : goal.loop-preserved
loop-preserved c = power_next c.args.d c.loop.counter c.loop.power c.loop.invariant

pub loop-init : goal.loop-init
loop-init c = sym (pow-zero c.args.d)
