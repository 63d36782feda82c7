-- The room of the sums of an entry
use Rattle.std.specs.Prelude.{ℕ, ◌+◌, ◌*◌, ◌/◌, max, List, [], ◌∷◌, map}
use Rattle.algebra.specs.Fraction.{Fraction, zero_fraction}
use Rattle.algebra.specs.Over.{Over}
use Rattle.weigh.specs.Steps.{lcm}
use Rattle.room.specs.Adding.{Adding, Term, onto}

-- the share of a cell in an entry: over `den` its numerator is at most `most`
pub record Share : Type 0 where
  pub value : Fraction
  pub den : ℕ
  pub most : ℕ

abbrev pub IsOver : Share → Type 0
IsOver x = Over x.den x.most x.value

abbrev pub common_den : List Share → ℕ
common_den [] = 1
common_den (x ∷ xs) = lcm x.den (common_den xs)

-- the numerators over l, added up
abbrev pub lifted_most : ℕ → List Share → ℕ
lifted_most l [] = 0
lifted_most l (x ∷ xs) = x.most * l / x.den + lifted_most l xs

unfoldable pub sum_room : List Share → ℕ
sum_room xs = 1024 * max (common_den xs) (lifted_most (common_den xs) xs)

-- the shares in order, from 0 on
abbrev pub share_sum : List Share → Adding
share_sum xs = onto (Term zero_fraction) (map (λ x. x.value) xs)
