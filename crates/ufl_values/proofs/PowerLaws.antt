-- Powers of numbers, one factor after the other
use Rattle.std.proofs.Common.{◌≡◌, ℕ, suc, ◌+◌, ◌-◌, ◌<◌, ◌≤◌, Option, None, Some, sym, ap, ◌∙◌, arith}
use Rattle.algebra.specs.Fraction.{Fraction, one_fraction}
use Rattle.algebra.specs.Steps.{product}
use Rattle.ufl_values.specs.Numbers.{power_from, power_of}

one_more : (n i : ℕ) → i < n → n - i ≡ suc (n - (i + 1))
one_more n i h = omega arith

pub power_step : (n i : ℕ) (x y : Fraction) (w : Option Fraction) → i < n → w ≡ product y x → power_from (n - i) x (Some y) ≡ power_from (n - (i + 1)) x w
power_step n i x y w h e = ap (λ k. power_from k x (Some y)) (one_more n i h) ∙ ap (power_from (n - (i + 1)) x) (sym e)

pub power_none : (n i : ℕ) (x y : Fraction) → i < n → None ≡ product y x → power_from (n - i) x (Some y) ≡ None
power_none n i x y h e = power_step n i x y None h e

pub power_done : (n i : ℕ) (x y : Fraction) → n ≤ i → power_from (n - i) x (Some y) ≡ Some y
power_done n i x y h = let e : n - i ≡ 0 = omega arith in ap (λ k. power_from k x (Some y)) e

pub power_start : (x y : Fraction) (n : ℕ) → y ≡ one_fraction → power_of x n ≡ power_from (n - 0) x (Some y)
unfolding power_of
power_start x y n e = let m : n ≡ n - 0 = omega arith in ap (λ k. power_from k x (Some one_fraction)) m ∙ ap (λ z. power_from (n - 0) x (Some z)) (sym e)
