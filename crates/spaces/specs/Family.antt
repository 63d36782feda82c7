-- Which degrees a family has, and how many local nodes an element has
use Rattle.std.specs.Prelude.{ℕ, ◌+◌, ◌*◌, ◌/◌, Bool, ◌==◌, ◌&&◌, nat_le}
use Rattle.spaces.specs.declared.cell.Cell.{Cell}
use Rattle.spaces.specs.declared.cell.Cell.TheVariants.{Interval, Triangle, Tetrahedron}
use Rattle.spaces.specs.declared.family.Family.{Family}
use Rattle.spaces.specs.declared.family.Family.TheVariants.{Lagrange, Dg, Real}

abbrev pub has_degree : Family → ℕ → Bool
has_degree Lagrange q = nat_le 1 q && nat_le q 3
has_degree Dg q = nat_le q 3
has_degree Real q = q == 0

-- the points with barycentric coordinates in multiples of 1/q: q + d choose d
abbrev pub node_count : Cell → ℕ → ℕ
node_count Interval q = q + 1
node_count Triangle q = (q + 1) * (q + 2) / 2
node_count Tetrahedron q = (q + 1) * (q + 2) * (q + 3) / 6
