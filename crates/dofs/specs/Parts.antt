-- What is true of each scalar part of an element
use Rattle.std.specs.Prelude.{◌≡◌, ◌≤◌}
use Rattle.spaces.specs.declared.cell.Cell.{Cell}
use Rattle.spaces.specs.Family.{node_count}
use Rattle.spaces.specs.Scalar.{Scalar}

pub record IsOn (kind : Cell) (s : Scalar) : Type 0 where
  pub degree : s.degree ≤ 3
  pub nodes : s.nodes ≡ node_count kind s.degree
