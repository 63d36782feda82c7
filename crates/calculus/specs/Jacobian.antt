-- The Jacobian of the affine map, its cofactors, and its inverse
use Rattle.std.specs.Prelude.{ℕ, zero, suc, [], ◌∷◌}
use Rattle.algebra.specs.Fraction.{Fraction, one_fraction, add, mul, negative, inverse}
use Rattle.calculus.specs.Point.{Point}
use Rattle.calculus.specs.Simplex.{Simplex, dimension, along_axis, origin, volume}

-- vertex k
abbrev pub vertex_at : Simplex → ℕ → Point Fraction
vertex_at [] k = origin
vertex_at (v ∷ vs) zero = v
vertex_at (v ∷ vs) (suc k) = vertex_at vs k

-- row i and column a: coordinate i of v_(a+1) - v_0
abbrev pub jacobian : Simplex → ℕ → ℕ → Fraction
jacobian v i a = add (along_axis i (vertex_at v (suc a))) (negative (along_axis i (vertex_at v 0)))

-- 0 to 1, 1 to 2, 2 to 0
abbrev pub next_axis : ℕ → ℕ
next_axis zero = 1
next_axis (suc zero) = 2
next_axis (suc (suc i)) = 0

-- the cofactor of row i and column a of a matrix with d rows; row i of them in space is the cross product of the two rows after i
abbrev pub cofactor_in : ℕ → (ℕ → ℕ → Fraction) → ℕ → ℕ → Fraction
cofactor_in zero j i a = one_fraction
cofactor_in (suc zero) j i a = one_fraction
cofactor_in (suc (suc zero)) j zero zero = j 1 1
cofactor_in (suc (suc zero)) j zero (suc a) = negative (j 1 0)
cofactor_in (suc (suc zero)) j (suc i) zero = negative (j 0 1)
cofactor_in (suc (suc zero)) j (suc i) (suc a) = j 0 0
cofactor_in (suc (suc (suc d))) j i a =
    add
    (mul (j (next_axis i) (next_axis a)) (j (next_axis (next_axis i)) (next_axis (next_axis a))))
    (negative (mul (j (next_axis i) (next_axis (next_axis a))) (j (next_axis (next_axis i)) (next_axis a))))

unfoldable pub cofactor : Simplex → ℕ → ℕ → Fraction
cofactor v i a = cofactor_in (dimension v) (jacobian v) i a

-- row a and column i of the inverse: how reference coordinate a grows along axis i
unfoldable pub inverse_jacobian : Simplex → ℕ → ℕ → Fraction
inverse_jacobian v a i = mul (cofactor v i a) (inverse (volume v))
