-- What the operators on matrices and vectors are at a component, by its length
use Rattle.std.proofs.Common.{◌≡◌, ℕ, refl, List, [], ◌∷◌}
use Rattle.calculus.specs.Polynomial.{Polynomial, nil}
use Rattle.ufl_meaning.specs.Operators.{identity_value, unit_or_nil, matrix_value}
use Rattle.tree_values.specs.Component.{spot_of}
use Rattle.tree_values.specs.declared.component.Spot.{Spot}
use Rattle.tree_values.specs.declared.component.Spot.TheVariants.{Scalar, Vector, Matrix, Longer}

abbrev pub matrix_at : (ℕ → ℕ → Polynomial) → Spot → Polynomial
matrix_at f (Matrix i j) = f i j
matrix_at f Scalar = nil
matrix_at f (Vector i) = nil
matrix_at f Longer = nil

pub matrix_value-at : (f : ℕ → ℕ → Polynomial) (b : List ℕ) → matrix_value f b ≡ matrix_at f (spot_of b)
matrix_value-at f [] = refl
matrix_value-at f (i ∷ []) = refl
matrix_value-at f (i ∷ j ∷ []) = refl
matrix_value-at f (i ∷ j ∷ k ∷ b) = refl

pub identity_value-at : (b : List ℕ) → identity_value b ≡ matrix_at unit_or_nil (spot_of b)
identity_value-at [] = refl
identity_value-at (i ∷ []) = refl
identity_value-at (i ∷ j ∷ []) = refl
identity_value-at (i ∷ j ∷ k ∷ b) = refl

pub ruleset spots = (matrix_value-at, identity_value-at)
