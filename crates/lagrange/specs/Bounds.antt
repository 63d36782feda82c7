-- Bounds on the coefficients of basis functions
use Rattle.std.specs.Prelude.{ℕ, zero, suc}

-- for degree q: q! times each coefficient is a whole number, and the absolute values of these numbers add up to at most this
abbrev pub basis_bound : ℕ → ℕ
basis_bound zero = 1
basis_bound (suc zero) = 4
basis_bound (suc (suc zero)) = 128
basis_bound (suc (suc (suc q))) = 10368
