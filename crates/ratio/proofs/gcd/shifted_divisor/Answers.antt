use Rattle.ratio.proofs.Twos.{shifted}
use Rattle.ratio.proofs.gcd.shifted_divisor.Goals as goal

pub returns : goal.returns
returns c = shifted c.wide_odd_divisor.result c.args.i c.args.a c.args.b c.wide_odd_divisor.ensures c.requires.first c.requires.second c.requires.some c.ranges.a.fits
