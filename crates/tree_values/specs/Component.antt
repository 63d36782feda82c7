-- Components by their lengths, and all components of a shape
use Rattle.std.specs.Prelude.{ℕ, List, [], ◌∷◌, map}
use Rattle.calculus.specs.Polynomial.{Polynomial, nil, plus}
use Rattle.ufl_meaning.specs.Operators.{Components}
use Rattle.tree_values.specs.Scene.{gathered}
use Rattle.tree_values.specs.declared.component.Spot.{Spot}
use Rattle.tree_values.specs.declared.component.Spot.TheVariants.{Scalar, Vector, Matrix, Longer}

abbrev pub spot_of : List ℕ → Spot
spot_of [] = Scalar
spot_of (i ∷ []) = Vector i
spot_of (i ∷ j ∷ []) = Matrix i j
spot_of (i ∷ j ∷ k ∷ b) = Longer

abbrev pub listed : List ℕ → List (List ℕ)
listed [] = [] ∷ []
listed (d ∷ ds) = gathered d (λ k. map (λ b. k ∷ b) (listed ds))

abbrev pub sum_at : List (List ℕ) → Components → Polynomial
sum_at [] f = nil
sum_at (b ∷ bs) f = plus (f b) (sum_at bs f)
