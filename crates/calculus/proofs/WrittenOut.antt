-- The shadow integral over any field, written out for each dimension: the form that the laws are proved for
use Rattle.std.specs.Prelude.{ℕ, zero, suc, true, false}
use Rattle.algebra.specs.Ring.{Ring}
use Rattle.calculus.specs.OverRing.{Polynomial, ring, constant, coordinate, replaced, antiderivative, instead}
use Rattle.calculus.specs.Field.{Field}
use Rattle.calculus.specs.Point.{Point}

module _ {R : Type 0} (K : Ring R) (Q : Field K) where
  abbrev pub minus : R → R → R
  minus a b = K.add a (K.neg b)

  abbrev pub difference : Polynomial K → Polynomial K → Polynomial K
  difference p q = (ring K).add p ((ring K).neg q)

  abbrev pub length_of : R → R → R
  length_of a b = minus b a

  abbrev pub area_of : Point R → Point R → Point R → R
  area_of a b c = minus (K.mul (minus b.x a.x) (minus c.y a.y)) (K.mul (minus c.x a.x) (minus b.y a.y))

  abbrev pub at_value : R → Polynomial K → Polynomial K
  at_value a p = replaced K (instead K 0 (constant K a)) p

  -- d = 1
  unfoldable pub interval : R → R → Polynomial K → Polynomial K
  interval a b p = difference (at_value b (antiderivative K Q.division 0 p)) (at_value a (antiderivative K Q.division 0 p))

  -- the last coordinate along a facet, as a polynomial in the shadow's coordinate
  abbrev pub height : Point R → Point R → Polynomial K
  height u w =
      (ring K).add
      ((ring K).mul (constant K u.y) ((ring K).mul (constant K (Q.inverse (minus w.x u.x))) (difference (constant K w.x) (coordinate K 0))))
      ((ring K).mul (constant K w.y) ((ring K).mul (constant K (Q.inverse (minus w.x u.x))) (difference (coordinate K 0) (constant K u.x))))

  -- a facet over its shadow, which gives 0 where the shadow has length 0
  unfoldable pub facet : Point R → Point R → Polynomial K → Polynomial K
  facet u w p =
      elim (Q.is_nought (minus w.x u.x)) [
        | true ↦ (ring K).zero
        | false ↦ interval u.x w.x (replaced K (instead K 1 (height u w)) p)
      ]

  -- d = 2
  unfoldable pub triangle : Point R → Point R → Point R → Polynomial K → Polynomial K
  triangle a b c p =
      let P = antiderivative K Q.division 1 p in
      (ring K).add ((ring K).neg (facet b c P)) ((ring K).add (facet a c P) ((ring K).neg (facet a b P)))

  -- the affine map of the reference cell: corner a, and the unit points to b (and c)
  abbrev pub along : R → R → ℕ → Polynomial K
  along a b = instead K 0 ((ring K).add (constant K a) ((ring K).mul (coordinate K 0) (constant K (minus b a))))

  abbrev pub across : Point R → Point R → Point R → ℕ → Polynomial K
  across a b c zero = (ring K).add (constant K a.x) ((ring K).add ((ring K).mul (coordinate K 0) (constant K (minus b.x a.x))) ((ring K).mul (coordinate K 1) (constant K (minus c.x a.x))))
  across a b c (suc zero) = (ring K).add (constant K a.y) ((ring K).add ((ring K).mul (coordinate K 0) (constant K (minus b.y a.y))) ((ring K).mul (coordinate K 1) (constant K (minus c.y a.y))))
  across a b c (suc (suc j)) = coordinate K (suc (suc j))

  -- the reference triangle
  abbrev pub corner : Point R
  corner = record { x = K.zero; y = K.zero; z = K.zero }

  abbrev pub first_unit : Point R
  first_unit = record { x = K.one; y = K.zero; z = K.zero }

  abbrev pub second_unit : Point R
  second_unit = record { x = K.zero; y = K.one; z = K.zero }

  abbrev pub third_unit : Point R
  third_unit = record { x = K.zero; y = K.zero; z = K.one }

  -- ---- d = 3
  abbrev pub volume_of : Point R → Point R → Point R → Point R → R
  volume_of a b c e =
      K.add
      (minus (K.mul (minus b.x a.x) (minus (K.mul (minus c.y a.y) (minus e.z a.z)) (K.mul (minus e.y a.y) (minus c.z a.z))))
      (K.mul (minus c.x a.x) (minus (K.mul (minus b.y a.y) (minus e.z a.z)) (K.mul (minus e.y a.y) (minus b.z a.z)))))
      (K.mul (minus e.x a.x) (minus (K.mul (minus b.y a.y) (minus c.z a.z)) (K.mul (minus c.y a.y) (minus b.z a.z))))

  -- the area of a triangle whose corners are polynomials
  abbrev pub polynomial_area : (ux uy vx vy wx wy : Polynomial K) → Polynomial K
  polynomial_area ux uy vx vy wx wy =
      difference ((ring K).mul (difference vx ux) (difference wy uy)) ((ring K).mul (difference wx ux) (difference vy uy))

  -- the last coordinate along a facet: each corner's, times its barycentric coordinate in the shadow
  abbrev pub height_of_three : Point R → Point R → Point R → Polynomial K
  height_of_three u v w =
      let over = constant K (Q.inverse (area_of u v w)) in
      let c = constant K in
      (ring K).add
      ((ring K).mul (c u.z) ((ring K).mul over (polynomial_area (coordinate K 0) (coordinate K 1) (c v.x) (c v.y) (c w.x) (c w.y))))
      ((ring K).add
      ((ring K).mul (c v.z) ((ring K).mul over (polynomial_area (c u.x) (c u.y) (coordinate K 0) (coordinate K 1) (c w.x) (c w.y))))
      ((ring K).mul (c w.z) ((ring K).mul over (polynomial_area (c u.x) (c u.y) (c v.x) (c v.y) (coordinate K 0) (coordinate K 1)))))

  unfoldable pub facet_of_three : Point R → Point R → Point R → Polynomial K → Polynomial K
  facet_of_three u v w p =
      elim (Q.is_nought (area_of u v w)) [
        | true ↦ (ring K).zero
        | false ↦ triangle u v w (replaced K (instead K 2 (height_of_three u v w)) p)
      ]

  unfoldable pub tetrahedron : Point R → Point R → Point R → Point R → Polynomial K → Polynomial K
  tetrahedron a b c e p =
      let P = antiderivative K Q.division 2 p in
      (ring K).add (facet_of_three b c e P)
      ((ring K).add ((ring K).neg (facet_of_three a c e P)) ((ring K).add (facet_of_three a b e P) ((ring K).neg (facet_of_three a b c P))))

  -- the affine map from the reference tetrahedron
  abbrev pub image : R → R → R → R → Polynomial K
  image u v w s =
      (ring K).add (constant K u)
      ((ring K).add ((ring K).mul (coordinate K 0) (constant K (minus v u)))
      ((ring K).add ((ring K).mul (coordinate K 1) (constant K (minus w u))) ((ring K).mul (coordinate K 2) (constant K (minus s u)))))

  abbrev pub through : Point R → Point R → Point R → Point R → ℕ → Polynomial K
  through a b c e zero = image a.x b.x c.x e.x
  through a b c e (suc zero) = image a.y b.y c.y e.y
  through a b c e (suc (suc zero)) = image a.z b.z c.z e.z
  through a b c e (suc (suc (suc j))) = coordinate K (suc (suc (suc j)))
