use Rattle.std.proofs.Common.{sym, ◌∙◌, ◌≤◌, arith}
use Rattle.algebra.specs.GcdLaws.{gcd-zero}
use Rattle.ratio.proofs.Twos.{gcd_difference, gcd_comm}
use Rattle.ratio.proofs.gcd.wide_odd_divisor.Goals as goal

pub loop-y-preserved-then-z-x : goal.loop-y-preserved-then-z-x
loop-y-preserved-then-z-x c =
    let below : c.wide_odd_part-z.result ≤ c.loop-y.x = omega arith in
    record {
      odd = c.wide_odd_part-z.ensures.odd;
      same = gcd_difference c.loop-y.x c.wide_odd_part-z.result below ∙ c.wide_odd_part-z.ensures.same c.loop-y.x c.loop-y.invariant.odd ∙ c.loop-y.invariant.same;
    }

pub loop-y-preserved : goal.loop-y-preserved
loop-y-preserved c =
    let below : c.loop-y.x ≤ c.wide_odd_part-z.result = omega arith in
    record {
      odd = c.loop-y.invariant.odd;
      same =
          gcd_difference c.wide_odd_part-z.result c.loop-y.x below ∙ gcd_comm c.wide_odd_part-z.result c.loop-y.x ∙ c.wide_odd_part-z.ensures.same c.loop-y.x c.loop-y.invariant.odd ∙ c.loop-y.invariant.same;
    }

pub returns : goal.returns
returns c = sym (gcd-zero c.loop-y.x c.loop-y.y c.loop-y-test.false) ∙ c.loop-y.invariant.same
