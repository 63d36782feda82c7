use Rattle.std.proofs.Common.{pos, lit<, refl, sym, ◌∙◌}
use native.Mathlib.Nat as N
use Rattle.algebra.specs.GcdLaws.{IsGcd-gcd}
use Rattle.ratio.proofs.SignLaws.{has_value}
use Rattle.ratio.proofs.Tens.{inverse_of_whole}
use Rattle.ratio.proofs.reduced.Ratio.one_over.Goals as goal

pub invariant_of-result : goal.invariant_of-result
invariant_of-result c = record {
  positive = c.requires.positive;
  small = c.requires.fits;
  fits = lit< tt;
  lowest = N.dvd-one.0 (IsGcd-gcd 1 c.args.d).0;
}

pub returns : goal.returns
returns c = has_value _ (record { num = pos 1; den = c.args.d; positive = c.requires.positive }) refl refl ∙ sym (inverse_of_whole c.args.d c.requires.positive)
