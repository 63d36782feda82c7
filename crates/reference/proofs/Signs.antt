-- A comparison with zero tells whether a fraction is below it
use Rattle.std.proofs.Common.{◌≡◌, Bool, true, false, refl, ◌∙◌, ap, cond}
use Rattle.std.specs.declared.cmp.Ordering.TheVariants.{Less, Equal, Greater}
use Rattle.algebra.specs.Fraction.{Fraction, is_zero_fraction, is_below_zero}
use Rattle.algebra.specs.Order.{compare_to_zero}
use Rattle.algebra.proofs.OrderLaws.{zero_from_test, zero_not_below}

pub less_below : (x : Fraction) → compare_to_zero x ≡ Less → is_below_zero x ≡ true
unfolding compare_to_zero
less_below x h = go (is_zero_fraction x) (is_below_zero x) h
  where
    go : (z b : Bool) → cond z Equal (cond b Less Greater) ≡ Less → b ≡ true
    go true b h = cc
    go false true h = refl
    go false false h = cc

pub greater_not_below : (x : Fraction) → compare_to_zero x ≡ Greater → is_below_zero x ≡ false
unfolding compare_to_zero
greater_not_below x h = go (is_zero_fraction x) (is_below_zero x) h
  where
    go : (z b : Bool) → cond z Equal (cond b Less Greater) ≡ Greater → b ≡ false
    go true b h = cc
    go false true h = cc
    go false false h = refl

pub equal_not_below : (x : Fraction) → compare_to_zero x ≡ Equal → is_below_zero x ≡ false
unfolding compare_to_zero
equal_not_below x h = ap is_below_zero (zero_from_test x (go (is_zero_fraction x) (is_below_zero x) h)) ∙ zero_not_below
  where
    go : (z b : Bool) → cond z Equal (cond b Less Greater) ≡ Equal → z ≡ true
    go true b h = refl
    go false true h = cc
    go false false h = cc
