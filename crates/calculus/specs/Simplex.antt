-- Simplices as lists of vertices: volume factor, barycentric coordinates, the reference cell and the affine map from it
use Rattle.std.specs.Prelude.{ℕ, zero, suc, Bool, true, false, List, [], ◌∷◌}
use Rattle.algebra.specs.Ring.{Ring}
use Rattle.algebra.specs.Fraction.{Fraction, fractions, zero_fraction, one_fraction, add, negative as minus_fraction, inverse}
use Rattle.calculus.specs.Point.{Point}
use Rattle.calculus.specs.Polynomial.{Polynomial, nil, plus, times, constant, coordinate, polynomials}

-- the vertices in order: 2 of an interval, 3 of a triangle, 4 of a tetrahedron
abbrev pub Simplex : Type 0
Simplex = List (Point Fraction)

-- one less than the number of vertices
abbrev pub dimension : Simplex → ℕ
dimension [] = 0
dimension (v ∷ []) = 0
dimension (v ∷ w ∷ ws) = suc (dimension (w ∷ ws))

-- an interval, a triangle or a tetrahedron
abbrev pub IsCell : Simplex → Type 0
IsCell [] = ⊥
IsCell (a ∷ []) = ⊥
IsCell (a ∷ b ∷ []) = Unit {0}
IsCell (a ∷ b ∷ c ∷ []) = Unit {0}
IsCell (a ∷ b ∷ c ∷ e ∷ []) = Unit {0}
IsCell (a ∷ b ∷ c ∷ e ∷ f ∷ vs) = ⊥

-- the point of written-out coordinates; what is not written is 0
abbrev pub coordinate_in : List Fraction → ℕ → Fraction
coordinate_in [] i = zero_fraction
coordinate_in (x ∷ xs) zero = x
coordinate_in (x ∷ xs) (suc i) = coordinate_in xs i

abbrev pub point_of : List Fraction → Point Fraction
point_of xs = record { x = coordinate_in xs 0; y = coordinate_in xs 1; z = coordinate_in xs 2 }

-- coordinate i of a point
abbrev pub along_axis : ℕ → Point Fraction → Fraction
along_axis zero v = v.x
along_axis (suc zero) v = v.y
along_axis (suc (suc i)) v = v.z

-- ---- the signed volume factor: d! times the volume of a simplex of dimension d
-- over any ring, since a vertex may be the point (x, y, z) of polynomials
abbrev pub volume_in : {R : Type 0} → Ring R → List (Point R) → R
volume_in K [] = K.one
volume_in K (a ∷ []) = K.one
volume_in K (a ∷ b ∷ []) = K.add b.x (K.neg a.x)
volume_in K (a ∷ b ∷ c ∷ []) =
    K.add
    (K.mul (K.add b.x (K.neg a.x)) (K.add c.y (K.neg a.y)))
    (K.neg (K.mul (K.add c.x (K.neg a.x)) (K.add b.y (K.neg a.y))))
volume_in K (a ∷ b ∷ c ∷ e ∷ []) =
    K.add
    (K.add
    (K.mul (K.add b.x (K.neg a.x)) (K.add (K.mul (K.add c.y (K.neg a.y)) (K.add e.z (K.neg a.z))) (K.neg (K.mul (K.add e.y (K.neg a.y)) (K.add c.z (K.neg a.z))))))
    (K.neg (K.mul (K.add c.x (K.neg a.x)) (K.add (K.mul (K.add b.y (K.neg a.y)) (K.add e.z (K.neg a.z))) (K.neg (K.mul (K.add e.y (K.neg a.y)) (K.add b.z (K.neg a.z))))))))
    (K.mul (K.add e.x (K.neg a.x)) (K.add (K.mul (K.add b.y (K.neg a.y)) (K.add c.z (K.neg a.z))) (K.neg (K.mul (K.add c.y (K.neg a.y)) (K.add b.z (K.neg a.z))))))
volume_in K (a ∷ b ∷ c ∷ e ∷ f ∷ vs) = K.zero

unfoldable pub volume : Simplex → Fraction
volume v = volume_in fractions v

-- ---- barycentric coordinates
abbrev pub constant_point : Point Fraction → Point Polynomial
constant_point v = record { x = constant v.x; y = constant v.y; z = constant v.z }

abbrev pub constant_points : Simplex → List (Point Polynomial)
constant_points [] = []
constant_points (v ∷ vs) = constant_point v ∷ constant_points vs

-- the point whose coordinates are the variables of space
abbrev pub moving_point : Point Polynomial
moving_point = record { x = coordinate 0; y = coordinate 1; z = coordinate 2 }

-- the vertices as constants, with the point x in place of vertex j
abbrev pub with_vertex : Point Polynomial → ℕ → Simplex → List (Point Polynomial)
with_vertex x j [] = []
with_vertex x zero (v ∷ vs) = x ∷ constant_points vs
with_vertex x (suc j) (v ∷ vs) = constant_point v ∷ with_vertex x j vs

-- coordinate j at x: the volume factor with vertex j replaced by x, over that of the simplex, which is not 0
unfoldable pub barycentric : Simplex → ℕ → Polynomial
barycentric v j = times (constant (inverse (volume v))) (volume_in polynomials (with_vertex moving_point j v))

-- ---- the reference cells: corner 0 and the unit points, in order
abbrev pub origin : Point Fraction
origin = record { x = zero_fraction; y = zero_fraction; z = zero_fraction }

abbrev pub first_unit : Point Fraction
first_unit = record { x = one_fraction; y = zero_fraction; z = zero_fraction }

abbrev pub second_unit : Point Fraction
second_unit = record { x = zero_fraction; y = one_fraction; z = zero_fraction }

abbrev pub third_unit : Point Fraction
third_unit = record { x = zero_fraction; y = zero_fraction; z = one_fraction }

abbrev pub reference : ℕ → Simplex
reference zero = origin ∷ []
reference (suc zero) = origin ∷ first_unit ∷ []
reference (suc (suc zero)) = origin ∷ first_unit ∷ second_unit ∷ []
reference (suc (suc (suc d))) = origin ∷ first_unit ∷ second_unit ∷ third_unit ∷ []

-- ---- the affine map that takes the reference cell to the simplex
-- the edges from vertex u, each times its variable, from variable k on: their coordinate i
abbrev pub edges : ℕ → Point Fraction → ℕ → Simplex → Polynomial
edges i u k [] = nil
edges i u k (v ∷ vs) = plus (times (coordinate k) (constant (add (along_axis i v) (minus_fraction (along_axis i u))))) (edges i u (suc k) vs)

-- coordinate i of v0 plus the sum of X_k times (v_(k+1) - v0)
abbrev pub image : Simplex → ℕ → Polynomial
image [] i = coordinate i
image (u ∷ vs) i = plus (constant (along_axis i u)) (edges i u 0 vs)

abbrev pub is_less : ℕ → ℕ → Bool
is_less m zero = false
is_less zero (suc n) = true
is_less (suc m) (suc n) = is_less m n

-- the coordinates below the dimension by the map; each other variable stands for itself
unfoldable pub affine : Simplex → ℕ → Polynomial
affine v i = elim (is_less i (dimension v)) [ true ↦ image v i | false ↦ coordinate i ]
