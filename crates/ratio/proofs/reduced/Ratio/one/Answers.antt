use Rattle.std.proofs.Common.{refl, lit<, pos}
use Rattle.algebra.specs.Gcd.{gcd}
use Rattle.ratio.proofs.SignLaws.{has_value}
use Rattle.algebra.specs.Fraction.{whole, one_fraction}
use Rattle.ratio.proofs.reduced.Ratio.one.Goals as goal

pub invariant_of-result : goal.invariant_of-result
unfolding gcd
invariant_of-result c = record { positive = lit< tt; small = lit< tt; fits = lit< tt; lowest = refl }

pub returns : goal.returns
unfolding one_fraction
returns c = has_value _ (whole (pos 1)) refl refl
