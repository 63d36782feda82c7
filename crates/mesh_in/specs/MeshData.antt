-- What a mesh is: its points, and its cells as lists of vertex numbers, each with a marker
use Rattle.std.specs.Prelude.{◌≡◌, ℕ, zero, suc, ◌+◌, ◌≤◌, ◌==◌, ◌&&◌, Bool, true, not, nat_lt, List, [], ◌∷◌, length, map, take, drop}
use Rattle.std.specs.List.{list_any, list_all, AllByRecursion}
use Rattle.algebra.specs.Fraction.{Fraction}
use Rattle.ratio.specs.declared.reduced.Ratio.{Ratio}
use Rattle.ratio.specs.Value.{fraction_of}
use Rattle.mesh_in.specs.declared.read.TheConstants.{MOST}
use Rattle.spaces.specs.Cell.{dimension}
use Rattle.spaces.specs.declared.cell.Cell.{Cell}

-- with coordinates in A
pub record MeshData (A : Type 0) : Type 0 where
  pub kind : Cell
  -- the coordinates of each vertex
  pub points : List (List A)
  -- the vertices of each cell
  pub cells : List (List ℕ)
  -- the marker of each cell
  pub markers : List ℕ

-- the same mesh in the values of its coordinates
abbrev pub fractions : MeshData Ratio → MeshData Fraction
fractions m = record { kind = m.kind; points = map (map fraction_of) m.points; cells = m.cells; markers = m.markers }

-- no number occurs twice
abbrev pub is_distinct : List ℕ → Bool
is_distinct [] = true
is_distinct (x ∷ xs) = not (list_any (λ y. y == x) xs) && is_distinct xs

abbrev pub are_below : ℕ → List ℕ → Bool
are_below limit xs = list_all (λ x. nat_lt x limit) xs

-- d + 1 vertices of so many, each another
pub record IsCell (d count : ℕ) (vertices : List ℕ) : Type 0 where
  pub size : length vertices ≡ d + 1
  pub in_range : are_below count vertices ≡ true
  pub distinct : is_distinct vertices ≡ true

-- the most points, and the most cells
abbrev pub most : ℕ
most = MOST

-- each point has its coordinates, and each cell its vertices and a marker; there are not too many of either
pub record IsMesh {A : Type 0} (m : MeshData A) : Type 0 where
  pub points : AllByRecursion (λ p. length p ≡ dimension m.kind) m.points
  pub cells : AllByRecursion (IsCell (dimension m.kind) (length m.points)) m.cells
  pub markers : length m.markers ≡ length m.cells
  pub few_points : length m.points ≤ most
  pub few_cells : length m.cells ≤ most

-- the first count rows of width numbers each
unfoldable pub rows : {A : Type 0} → ℕ → ℕ → List A → List (List A)
rows width zero xs = []
rows width (suc count) xs = take width xs ∷ rows width count (drop width xs)
