use Rattle.std.proofs.Common.{sym, ◌∙◌, ◌≤◌, ◌<◌, arith, ℕ}
use Rattle.std.specs.Int.{w128}
use Rattle.algebra.specs.GcdLaws.{gcd-zero}
use Rattle.ratio.proofs.Twos.{gcd_comm, lowest_one, zeros_below}
use Rattle.ratio.proofs.gcd.binary_divisor.Goals as goal

le : {i j : ℕ} → i < j → i ≤ j
le h = omega arith

pub returns-then-a-eq0 : goal.returns-then-a-eq0
returns-then-a-eq0 c = sym (gcd_comm c.args.a c.args.b ∙ gcd-zero c.args.b c.args.a c.if-a-eq0.true)

pub returns-then-b-eq0 : goal.returns-then-b-eq0
returns-then-b-eq0 c = sym (gcd-zero c.args.a c.args.b c.if-b-eq0.true)

pub shifted_divisor-requires-clause-odd : goal.shifted_divisor-requires-clause-odd
shifted_divisor-requires-clause-odd c = let some : 0 < c.args.a = omega arith in (lowest_one w128 c.args.a some c.ranges.a.fits).0

pub shifted_divisor-requires-clause-first : goal.shifted_divisor-requires-clause-first
shifted_divisor-requires-clause-first c = let some : 0 < c.args.a = omega arith in (lowest_one w128 c.args.a some c.ranges.a.fits).1

pub shifted_divisor-requires-clause-second : goal.shifted_divisor-requires-clause-second
shifted_divisor-requires-clause-second c = let some : 0 < c.args.b = omega arith in zeros_below w128 _ c.args.b some c.ranges.b.fits c.if-i-j.true

pub shifted_divisor-requires-else-i-j-clause-odd : goal.shifted_divisor-requires-else-i-j-clause-odd
shifted_divisor-requires-else-i-j-clause-odd c = let some : 0 < c.args.b = omega arith in (lowest_one w128 c.args.b some c.ranges.b.fits).0

pub shifted_divisor-requires-else-i-j-clause-first : goal.shifted_divisor-requires-else-i-j-clause-first
shifted_divisor-requires-else-i-j-clause-first c = let some : 0 < c.args.b = omega arith in (lowest_one w128 c.args.b some c.ranges.b.fits).1

pub shifted_divisor-requires-else-i-j-clause-second : goal.shifted_divisor-requires-else-i-j-clause-second
shifted_divisor-requires-else-i-j-clause-second c = let some : 0 < c.args.a = omega arith in zeros_below w128 _ c.args.a some c.ranges.a.fits (le c.if-i-j.false)

pub returns-else-i-j : goal.returns-else-i-j
returns-else-i-j c = c.shifted_divisor-else-i-j.ensures ∙ gcd_comm c.args.b c.args.a
