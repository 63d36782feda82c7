use Rattle.std.specs.Int.{w64}
use Rattle.ratio.proofs.Twos.{lowest_one, odd_gcd}
use Rattle.ratio.proofs.gcd.odd_part.Goals as goal

pub returns-clause-odd : goal.returns-clause-odd
returns-clause-odd c = (lowest_one w64 c.args.n c.requires c.ranges.n.fits).0

pub returns-clause-same : goal.returns-clause-same
returns-clause-same c = λ o h. odd_gcd o c.args.n _ h (lowest_one w64 c.args.n c.requires c.ranges.n.fits).1
