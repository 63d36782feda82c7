-- The vertices of a cell with the moving point in place of one of them
use Rattle.std.proofs.Common.{◌≡◌, ℕ, zero, suc, nat_eq, false, refl, ap, ap₂, [], ◌∷◌, ◌<◌, arith}
use Rattle.calculus.specs.Point as P
use Rattle.calculus.specs.Polynomial.{Polynomial}
use Rattle.calculus.specs.Simplex.{with_vertex, moving_point, constant_point}
use Rattle.reference.specs.declared.point.Point.{Point}
use Rattle.reference.specs.PointValue.{point_of, vertex_or_moving}

abbrev chosen : ℕ → ℕ → Point → P.Point Polynomial
chosen j k v = vertex_or_moving (nat_eq j k) v

far : (m n : ℕ) → n < m → nat_eq m n ≡ false
far m n h = grind arith

fixed : (j k : ℕ) → k < j → (v : Point) → chosen j k v ≡ constant_point (point_of v)
fixed j k h v = ap (λ b. vertex_or_moving b v) (far j k h)

pub two_vertices : (j : ℕ) (a b : Point) → chosen j 0 a ∷ chosen j 1 b ∷ [] ≡ with_vertex moving_point j (point_of a ∷ point_of b ∷ [])
two_vertices zero a b = refl
two_vertices (suc zero) a b = refl
two_vertices (suc (suc j)) a b = ap₂ (λ a b. a ∷ b ∷ []) (fixed (suc (suc j)) 0 (omega arith) a) (fixed (suc (suc j)) 1 (omega arith) b)

pub three_vertices : (j : ℕ) (a b c : Point) → chosen j 0 a ∷ chosen j 1 b ∷ chosen j 2 c ∷ [] ≡ with_vertex moving_point j (point_of a ∷ point_of b ∷ point_of c ∷ [])
three_vertices zero a b c = refl
three_vertices (suc zero) a b c = refl
three_vertices (suc (suc zero)) a b c = refl
three_vertices (suc (suc (suc j))) a b c =
    ap₂ (λ a w. a ∷ w) (fixed (suc (suc (suc j))) 0 (omega arith) a)
    (ap₂ (λ b c. b ∷ c ∷ []) (fixed (suc (suc (suc j))) 1 (omega arith) b) (fixed (suc (suc (suc j))) 2 (omega arith) c))

pub four_vertices : (j : ℕ) (a b c e : Point) → chosen j 0 a ∷ chosen j 1 b ∷ chosen j 2 c ∷ chosen j 3 e ∷ [] ≡ with_vertex moving_point j (point_of a ∷ point_of b ∷ point_of c ∷ point_of e ∷ [])
four_vertices zero a b c e = refl
four_vertices (suc zero) a b c e = refl
four_vertices (suc (suc zero)) a b c e = refl
four_vertices (suc (suc (suc zero))) a b c e = refl
four_vertices (suc (suc (suc (suc j)))) a b c e =
    ap₂ (λ a w. a ∷ w) (fixed (suc (suc (suc (suc j)))) 0 (omega arith) a)
    (ap₂ (λ b w. b ∷ w) (fixed (suc (suc (suc (suc j)))) 1 (omega arith) b)
    (ap₂ (λ c e. c ∷ e ∷ []) (fixed (suc (suc (suc (suc j)))) 2 (omega arith) c) (fixed (suc (suc (suc (suc j)))) 3 (omega arith) e)))
