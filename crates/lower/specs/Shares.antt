-- 1/n as a number of a tree
use Rattle.std.specs.Prelude.{◌≡◌, ℕ, pos, ◌<◌, ◌^◌, Bool, true, false, nat_lt}
use Rattle.std.proofs.Common.{refl, ltb-true}
use Rattle.algebra.specs.GcdLaws.{gcd_from_coprime}
use Rattle.ratio.specs.declared.reduced.Ratio.{Ratio}

abbrev pub small_share : (n : ℕ) → 0 < n → n < 2 ^ 127 → Ratio
small_share n p h = record { n = pos 1; d = n; positive = p; small = h; fits = ltb-true 1 (2 ^ 127) refl; lowest = gcd_from_coprime 1 n (λ c x y. x) }

-- 1 where no `Ratio` is 1/n
abbrev pub decided_share : (n : ℕ) (t u : Bool) → nat_lt 0 n ≡ t → nat_lt n (2 ^ 127) ≡ u → Ratio
decided_share n true true e g = small_share n (ltb-true 0 n e) (ltb-true n (2 ^ 127) g)
decided_share n true false e g = small_share 1 (ltb-true 0 1 refl) (ltb-true 1 (2 ^ 127) refl)
decided_share n false u e g = small_share 1 (ltb-true 0 1 refl) (ltb-true 1 (2 ^ 127) refl)

abbrev pub share_of : ℕ → Ratio
share_of n = decided_share n (nat_lt 0 n) (nat_lt n (2 ^ 127)) refl refl
