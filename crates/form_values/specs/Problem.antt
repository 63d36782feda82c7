-- What the values of a form depend on: the form with its elements, a mesh, and the values of its coefficients
use Rattle.std.specs.Prelude.{◌≡◌, ℕ, List, [], map, length, Option, None, Some, slice_get, slice_index_or}
use Rattle.algebra.specs.Fraction.{Fraction}
use Rattle.calculus.specs.Simplex.{Simplex, point_of}
use Rattle.spaces.specs.Space.{Space}
use Rattle.mesh_in.specs.MeshData.{MeshData}
use Rattle.dofs.specs.Basis.{CellOf}
use Rattle.dofs.specs.Label.{Label}
use Rattle.dofs.specs.Rows.{numbering}
use Rattle.ufl_tree.specs.FormTerm.{FormTerm}
use Rattle.ufl_tree.specs.Places.{Table}

pub record Problem : Type 0 where
  -- the elements that the form's functions name by number
  pub elements : Table
  -- the number of each coefficient's element
  pub coefficients : List ℕ
  -- those of the test and the trial function, where the form has them
  pub test : Option ℕ
  pub trial : Option ℕ
  pub form : FormTerm
  pub mesh : MeshData Fraction
  -- the values of each coefficient, one for each of its rows
  pub values : ℕ → List Fraction

-- ---- cells
abbrev pub corners_of : MeshData Fraction → List ℕ → Simplex
corners_of m vertices = map (λ v. point_of (slice_index_or m.points v [])) vertices

-- cell n, which has these vertices
abbrev pub cell_of_mesh : MeshData Fraction → ℕ → List ℕ → CellOf
cell_of_mesh m n vertices = record { number = n; vertices = vertices; corners = corners_of m vertices }

-- k is a cell of the mesh
pub record IsIn (k : CellOf) (p : Problem) : Type 0 where
  pub vertices : slice_get p.mesh.cells k.number ≡ Some k.vertices
  pub corners : k.corners ≡ corners_of p.mesh k.vertices

-- the marker of cell n
abbrev pub marker_of : MeshData Fraction → ℕ → ℕ
marker_of m n = slice_index_or m.markers n 0

-- ---- rows
-- the element of this number
abbrev pub space_in : Problem → Option ℕ → Option Space
space_in p None = None
space_in p (Some e) = slice_get p.elements e

-- the labels of an element's rows on the mesh
abbrev pub labels_in : MeshData Fraction → Option Space → List Label
labels_in m None = []
labels_in m (Some s) = (numbering m s).labels

abbrev pub labels_of : Problem → Option ℕ → List Label
labels_of p e = labels_in p.mesh (space_in p e)

-- how many rows an argument has; one that the form doesn't have counts as one row, number 0
abbrev pub row_count : Problem → Option ℕ → ℕ
row_count p None = 1
row_count p (Some e) = length (labels_of p (Some e))
