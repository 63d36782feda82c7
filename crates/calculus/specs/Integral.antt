-- The shadow integral of a polynomial over a simplex: iterated antiderivatives, with the boundary taken facet by facet
use Rattle.std.specs.Prelude.{◌≡◌, ℕ, zero, suc, ◌+◌, true, false, [], ◌∷◌}
use Rattle.algebra.specs.Fraction.{Fraction, is_zero_fraction, is_below_zero, absolute}
use Rattle.calculus.specs.Point.{Point}
use Rattle.calculus.specs.Polynomial.{Polynomial, nil, plus, times, negative, constant, coordinate, antiderivative, composed, constant_term}
use Rattle.calculus.specs.Simplex.{Simplex, dimension, along_axis, volume, barycentric, reference, affine, is_less}

-- (-1)^n times p
abbrev pub signed : ℕ → Polynomial → Polynomial
signed zero p = p
signed (suc zero) p = negative p
signed (suc (suc n)) p = signed n p

-- f 0 + .. + f (n - 1)
abbrev pub sum_below : ℕ → (ℕ → Polynomial) → Polynomial
sum_below zero f = nil
sum_below (suc n) f = plus (sum_below n f) (f n)

-- facet k of a simplex: its vertices without number k, in order
abbrev pub facet_of : ℕ → Simplex → Simplex
facet_of k [] = []
facet_of zero (v ∷ vs) = vs
facet_of (suc k) (v ∷ vs) = v ∷ facet_of k vs

-- the shadow in direction i leaves coordinate i out of each vertex, and the others move up
abbrev pub shadow_point : ℕ → Point Fraction → Point Fraction
shadow_point zero v = record { x = v.y; y = v.z; z = v.z }
shadow_point (suc zero) v = record { x = v.x; y = v.z; z = v.z }
shadow_point (suc (suc i)) v = v

abbrev pub shadow : ℕ → Simplex → Simplex
shadow i [] = []
shadow i (v ∷ vs) = shadow_point i v ∷ shadow i vs

-- the sum over vertices of coordinate i times the barycentric coordinate of the shadow s, from number j on
abbrev pub weighted : ℕ → Simplex → ℕ → Simplex → Polynomial
weighted i s j [] = nil
weighted i s j (v ∷ vs) = plus (times (constant (along_axis i v)) (barycentric s j)) (weighted i s (suc j) vs)

-- coordinate i along a facet w, as a polynomial in the coordinates of its shadow; along a point it is the coordinate itself
abbrev pub height : ℕ → Simplex → Polynomial
height i [] = nil
height i (v ∷ []) = constant (along_axis i v)
height i (v ∷ u ∷ vs) = weighted i (shadow i (v ∷ u ∷ vs)) 0 (v ∷ u ∷ vs)

-- h for variable i, and the variables after it, up to the last coordinate e, numbered one lower; all others stand for themselves
abbrev pub lowered : ℕ → ℕ → Polynomial → ℕ → Polynomial
lowered e i h j =
    elim (is_less i j) [
      | true ↦ elim (is_less e j) [ true ↦ coordinate j | false ↦ coordinate (before j) ]
      | false ↦ elim (is_less j i) [ true ↦ coordinate j | false ↦ h ]
    ]
  where
    before : ℕ → ℕ
    before zero = 0
    before (suc n) = n

-- what facet w of a simplex with last coordinate e gives in direction i, by the integral I over its shadow; a flat shadow gives 0
abbrev pub over_shadow : (Simplex → Polynomial → Polynomial) → ℕ → ℕ → Simplex → Polynomial → Polynomial
over_shadow I e i w q =
    elim (is_zero_fraction (volume (shadow i w))) [
      | true ↦ nil
      | false ↦ I (shadow i w) (composed (lowered e i (height i w)) q)
    ]

-- the term of facet k in direction i
abbrev pub facet_term : (Simplex → Polynomial → Polynomial) → ℕ → Simplex → ℕ → ℕ → Polynomial → Polynomial
facet_term I e v k i q = signed (k + i) (over_shadow I e i (facet_of k v) q)

-- the integral over a simplex of dimension d: the antiderivative in the last coordinate, on all facets in that direction.
-- Variables at or above d, parameters among them, are constants
unfoldable pub shadow_integral : ℕ → Simplex → Polynomial → Polynomial
shadow_integral zero v p = p
shadow_integral (suc e) v p = sum_below (suc (suc e)) (λ k. facet_term (λ w q. shadow_integral e w q) e v k e (antiderivative e p))

-- the term of facet k of a simplex in direction i, for any direction: for i the last one, a summand of the shadow integral
unfoldable pub part : Simplex → ℕ → ℕ → Polynomial → Polynomial
part v k i q = facet_part (dimension v)
  where
    facet_part : ℕ → Polynomial
    facet_part zero = nil
    facet_part (suc e) = facet_term (λ w q. shadow_integral e w q) e v k i q

-- p where the volume factor is above 0, its negative where that is below
abbrev pub oriented : Simplex → Polynomial → Polynomial
oriented v p = elim (is_below_zero (volume v)) [ true ↦ negative p | false ↦ p ]

-- the integral over a cell, which doesn't depend on the order of its vertices
unfoldable pub cell_integral : Simplex → Polynomial → Polynomial
cell_integral v p = oriented v (shadow_integral (dimension v) v p)

-- the cell integral as a textbook has it: over the reference cell, of the polynomial after the affine map
unfoldable pub pulled_back_integral : Simplex → Polynomial → Polynomial
pulled_back_integral v p =
    times (constant (absolute (volume v))) (shadow_integral (dimension v) (reference (dimension v)) (composed (affine v) p))

-- variable i where it is below d, else 0
abbrev pub below : ℕ → ℕ → Polynomial
below d i = elim (is_less i d) [ true ↦ coordinate i | false ↦ nil ]

-- a polynomial in the variables below d: with 0 for all others, parameters among them, it stays the same
abbrev pub HasOnlyBelow : ℕ → Polynomial → Type 0
HasOnlyBelow d p = composed (below d) p ≡ p

-- the integral as a number: its term without a variable, and all of it where the polynomial has only coordinates below the dimension
abbrev pub integral_value : Simplex → Polynomial → Fraction
integral_value v p = constant_term (cell_integral v p)
