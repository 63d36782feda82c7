-- Sums over nodes
use Rattle.std.specs.Prelude.{ℕ, List, [], ◌∷◌}
use Rattle.calculus.specs.Polynomial.{Polynomial, nil, plus}

abbrev pub sum_over : (List ℕ → Polynomial) → List (List ℕ) → Polynomial
sum_over f [] = nil
sum_over f (w ∷ ws) = plus (f w) (sum_over f ws)
