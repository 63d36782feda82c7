-- A weight that was worked out by hand, and its monomial
use Rattle.std.proofs.Common.{lit≤, lit<}
use native.Mathlib.Nat as N
use Rattle.algebra.specs.Fraction.{one_fraction}
use Rattle.algebra.specs.Gcd.{gcd}
use Rattle.algebra.specs.LowestTerms.{top, bottom}
use Rattle.refint.specs.Examples.{mass_layout, mass_monomial}
use Rattle.weigh.specs.Admitted.{IsAdmitted}
use Rattle.weigh.specs.Examples.{line_table, mass_tree}
use Rattle.weigh.specs.Weighing.{exact, weight_with}
use Rattle.monomial_weights.specs.Weighed.{IsWithin}

pub mass_admitted : IsAdmitted 1 (weight_with exact line_table mass_tree)
unfolding gcd
mass_admitted = record {
  cost = lit≤ tt;
  factors = lit≤ tt;
  size = lit< tt;
  one_cost = lit< tt;
  one_den = lit< tt;
  one_fac = lit< tt;
  one_s = lit< tt;
  parts = lit≤ tt;
  functions = lit≤ tt;
  derivatives = lit≤ tt;
}

pub mass_within : IsWithin mass_layout (weight_with exact line_table mass_tree) mass_monomial
unfolding gcd top bottom one_fraction
mass_within = record {
  weighed = record { over = (N.dvd_refl 1, tt); sum = lit≤ tt; total = lit≤ tt };
  functions = lit≤ tt;
  least = lit≤ tt;
  greatest = lit≤ tt;
  degrees = lit≤ tt;
  fac = N.dvd_refl 1;
  s = lit≤ tt;
}
