use Rattle.std.proofs.Common.{pos, ◌<◌, ◌^◌, unsigned_abs, to_z, lit<, refl, sym, subst}
use Rattle.std.specs.Int.{w128}
use Rattle.std.proofs.lemmas.Int.{to_z_pos}
use native.Mathlib.Nat as N
use Rattle.algebra.specs.Fraction.{whole, of_integer}
use Rattle.algebra.specs.GcdLaws.{IsGcd-gcd}
use Rattle.ratio.proofs.SignLaws.{has_value}
use Rattle.ratio.proofs.reduced.Ratio.whole.Goals as goal

pub invariant_of-result : goal.invariant_of-result
invariant_of-result c = record {
  positive = lit< tt;
  small = lit< tt;
  fits = subst (λ z. unsigned_abs z < 2 ^ 127) (sym (to_z_pos w128 c.args.n c.requires)) c.requires;
  lowest = N.dvd-one.0 (IsGcd-gcd (unsigned_abs (to_z w128 c.args.n)) 1).1;
}

pub returns : goal.returns
unfolding of_integer
returns c = has_value _ (whole (pos c.args.n)) (to_z_pos w128 c.args.n c.requires) refl
