-- Sums of lists
use Rattle.std.specs.Prelude.{List, [], ◌∷◌}
use Rattle.algebra.specs.Group.{Group}
use Rattle.algebra.specs.Ring.{additive}
use Rattle.algebra.specs.Fraction.{Fraction, fractions}

-- the sum of a list in a commutative group, the last element added first
abbrev pub total_in : {A : Type 0} → Group A → List A → A
total_in G [] = G.zero
total_in G (x ∷ xs) = G.add x (total_in G xs)

-- the sum of a list of fractions
abbrev pub total : List Fraction → Fraction
total xs = total_in (additive fractions) xs
