-- The points that points of the program are
use Rattle.std.specs.Prelude.{Bool, true, false, List, [], ◌∷◌}
use Rattle.algebra.specs.Fraction.{Fraction}
use Rattle.ratio.specs.Value.{fraction_of}
use Rattle.calculus.specs.Point as P
use Rattle.calculus.specs.Polynomial.{Polynomial}
use Rattle.calculus.specs.Simplex.{Simplex, moving_point, constant_point}
use Rattle.reference.specs.PolyValue.{value_of}
use Rattle.reference.specs.declared.point.Point.{Point}
use Rattle.reference.specs.declared.point.MovingPoint.{MovingPoint}

abbrev pub point_of : Point → P.Point Fraction
point_of p = record { x = fraction_of p.x; y = fraction_of p.y; z = fraction_of p.z }

abbrev pub simplex_of : List Point → Simplex
simplex_of [] = []
simplex_of (p ∷ ps) = point_of p ∷ simplex_of ps

abbrev pub moving_of : MovingPoint → P.Point Polynomial
moving_of p = record { x = value_of p.x; y = value_of p.y; z = value_of p.z }

-- the moving point, or vertex v
abbrev pub vertex_or_moving : Bool → Point → P.Point Polynomial
vertex_or_moving true v = moving_point
vertex_or_moving false v = constant_point (point_of v)
