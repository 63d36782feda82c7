use Rattle.std.proofs.Common.{◌≡◌, ◌+◌, ◌%◌}
use Rattle.algebra.specs.Gcd.{gcd}
use Rattle.ratio.proofs.gcd.odd_divisor.Given as goal

abbrev pub invariant-loop-y : goal.invariant-loop-y
invariant-loop-y l = record { odd : l.x % 2 ≡ 1; same : gcd l.x l.y ≡ gcd l.a l.b }

abbrev pub decreases-loop-y : goal.decreases-loop-y
decreases-loop-y l = l.x + l.y
