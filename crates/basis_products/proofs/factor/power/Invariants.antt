use Rattle.std.proofs.Common.{◌≡◌, ◌^◌}
use Rattle.basis_products.proofs.factor.power.Given as goal

abbrev pub invariant-loop : goal.invariant-loop
invariant-loop l = l.power ≡ l.d ^ l.counter
