-- The share of an interval in the mass form: its length over 3 for a node with itself, over 6 for its two nodes
use Rattle.std.specs.Prelude.{ℕ, zero, suc, List, [], ◌∷◌}
use Rattle.algebra.specs.Ring.{natural}
use Rattle.algebra.specs.Fraction.{Fraction, fractions, inverse}
use Rattle.calculus.specs.Polynomial.{Polynomial, times}
use Rattle.calculus.specs.Simplex.{Simplex}
use Rattle.calculus.specs.LocalFunction.{local_function}

abbrev pub third : Fraction
third = inverse (natural fractions 3)

abbrev pub sixth : Fraction
sixth = inverse (natural fractions 6)

-- the weights of the linear node at vertex 0, and at vertex 1
abbrev pub end_node : ℕ → List ℕ
end_node zero = 1 ∷ 0 ∷ []
end_node (suc k) = 0 ∷ 1 ∷ []

abbrev pub mass_factor : ℕ → ℕ → Fraction
mass_factor zero zero = third
mass_factor zero (suc k) = sixth
mass_factor (suc j) zero = sixth
mass_factor (suc j) (suc k) = third

-- the product of the linear functions of nodes j and k
abbrev pub mass_density : Simplex → ℕ → ℕ → Polynomial
mass_density v j k = times (local_function v (end_node j)) (local_function v (end_node k))
