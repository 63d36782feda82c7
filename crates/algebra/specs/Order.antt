-- The order of fractions: by the sign of a difference
use Rattle.std.specs.Prelude.{◌≡◌, Bool, true, false, if◌then◌else◌}
use Rattle.std.specs.declared.cmp.Ordering.{Ordering}
use Rattle.std.specs.declared.cmp.Ordering.TheVariants.{Less, Equal, Greater}
use Rattle.algebra.specs.Fraction.{Fraction, add, negative, is_zero_fraction, is_below_zero}

-- how a fraction compares with 0
unfoldable pub compare_to_zero : Fraction → Ordering
compare_to_zero x = if is_zero_fraction x then Equal else if is_below_zero x then Less else Greater

-- a < b, as a test
abbrev pub is_below : Fraction → Fraction → Bool
is_below a b = is_below_zero (add a (negative b))

-- a < b
abbrev pub Below : Fraction → Fraction → Type 0
Below a b = is_below a b ≡ true

-- a ≤ b: b is not below a
abbrev pub AtMost : Fraction → Fraction → Type 0
AtMost a b = is_below b a ≡ false
