-- Elements as data that recursion goes over, and what they mean: the flat list of scalar parts
use Rattle.std.specs.Prelude.{◌≡◌, ℕ, ◌+◌, ◌*◌, ◌<◌, ◌≤◌, max, Bool, true, false, ◌&&◌, List, [], ◌∷◌, ◌++◌, length}
use Rattle.spaces.specs.declared.cell.Cell.{Cell}
use Rattle.spaces.specs.declared.cell.Cell.TheVariants.{Interval}
use Rattle.spaces.specs.declared.family.Family.{Family}
use Rattle.spaces.specs.Family.{has_degree, node_count}
use Rattle.spaces.specs.Cell.{same_cell}
use Rattle.spaces.specs.Scalar.{Scalar, repeated}

mutual
  pub data Space : Type 0 where
    scalar : Family → Cell → ℕ → Space
    vector : Space → ℕ → Space
    tensor : Space → ℕ → ℕ → Space
    mixed : Spaces → Space

  pub data Spaces : Type 0 where
    no_spaces : Spaces
    space : Space → Spaces → Spaces

-- the scalar parts in order: a vector by component, a tensor by row and column, a list by part
abbrev mutual
  pub scalars : Space → List Scalar
  scalars (scalar f c q) = record { family = f; degree = q; nodes = node_count c q } ∷ []
  scalars (vector s n) = repeated n (scalars s)
  scalars (tensor s m n) = repeated (m * n) (scalars s)
  scalars (mixed ss) = scalars_of ss

  pub scalars_of : Spaces → List Scalar
  scalars_of no_spaces = []
  scalars_of (space s ss) = scalars s ++ scalars_of ss

-- a scalar element is nested 1 deep, any other one deeper than its deepest part
abbrev mutual
  pub depth_of : Space → ℕ
  depth_of (scalar f c q) = 1
  depth_of (vector s n) = depth_of s + 1
  depth_of (tensor s m n) = depth_of s + 1
  depth_of (mixed ss) = greatest_depth ss + 1

  pub greatest_depth : Spaces → ℕ
  greatest_depth no_spaces = 0
  greatest_depth (space s ss) = max (depth_of s) (greatest_depth ss)

-- the cell of the first part (a list without parts, which no `Element` has, counts as on the interval)
abbrev mutual
  pub cell_of : Space → Cell
  cell_of (scalar f c q) = c
  cell_of (vector s n) = cell_of s
  cell_of (tensor s m n) = cell_of s
  cell_of (mixed ss) = first_cell ss

  pub first_cell : Spaces → Cell
  first_cell no_spaces = Interval
  first_cell (space s ss) = cell_of s

abbrev pub is_scalar : Space → Bool
is_scalar (scalar f c q) = true
is_scalar (vector s n) = false
is_scalar (tensor s m n) = false
is_scalar (mixed ss) = false

-- each element of a list is on this cell
abbrev pub same_cells : Cell → Spaces → Bool
same_cells c no_spaces = true
same_cells c (space s ss) = same_cell (cell_of s) c && same_cells c ss

-- what every `Element` keeps
abbrev mutual
  pub IsLawful : Space → Type 0
  IsLawful (scalar f c q) = has_degree f q ≡ true
  IsLawful (vector s n) = IsLawful s × (is_scalar s ≡ true) × (0 < n) × (n ≤ 64)
  IsLawful (tensor s m n) = IsLawful s × (is_scalar s ≡ true) × (0 < m * n) × (m * n ≤ 64)
  IsLawful (mixed ss) = AreLawful ss × (same_cells (first_cell ss) ss ≡ true) × (0 < length (scalars_of ss)) × (length (scalars_of ss) ≤ 64) × (greatest_depth ss ≤ 63)

  pub AreLawful : Spaces → Type 0
  AreLawful no_spaces = Unit {0}
  AreLawful (space s ss) = IsLawful s × AreLawful ss
