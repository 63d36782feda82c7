use native.Mathlib.Nat as N
use Rattle.std.proofs.Common.{◌<◌, ◌^◌, lit<, subst, sym}
use Rattle.ratio.proofs.Tens.{power_below}
use Rattle.ratio.proofs.decimal.power_of_ten.Goals as goal

pub pow-requires : goal.pow-requires
pow-requires c = N.lt_trans (power_below c.args.k c.requires) (lit< tt)

pub returns-clause-fits : goal.returns-clause-fits
returns-clause-fits c = subst (λ n. n < 2 ^ 127) (sym c.pow.ensures) (power_below c.args.k c.requires)
