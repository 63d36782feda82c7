-- The dimension and the name of a cell, and equal cells
use Rattle.std.specs.Prelude.{ℕ, Bool, true, false, List, codes}
use Rattle.spaces.specs.declared.cell.Cell.{Cell}
use Rattle.spaces.specs.declared.cell.Cell.TheVariants.{Interval, Triangle, Tetrahedron}

-- how many coordinates a point has
abbrev pub dimension : Cell → ℕ
dimension Interval = 1
dimension Triangle = 2
dimension Tetrahedron = 3

-- the bytes of the name
abbrev pub cell_name : Cell → List ℕ
cell_name Interval = codes "interval"
cell_name Triangle = codes "triangle"
cell_name Tetrahedron = codes "tetrahedron"

abbrev pub same_cell : Cell → Cell → Bool
same_cell Interval Interval = true
same_cell Triangle Triangle = true
same_cell Tetrahedron Tetrahedron = true
same_cell _ _ = false
