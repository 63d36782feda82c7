-- A problem by local nodes: the layout of a form's local values, and the rows and the coefficient values of a cell
use Rattle.std.specs.Prelude.{◌≡◌, ℕ, ◌+◌, ◌==◌, Bool, true, false, List, [], ◌∷◌, map, Option, None, Some, slice_get, slice_index_or, if◌then◌else◌}
use Rattle.std.specs.List.{flat_map, AllByRecursion}
use Rattle.algebra.specs.Fraction.{Fraction, zero_fraction}
use Rattle.spaces.specs.declared.parts.Parts.{Parts}
use Rattle.spaces.specs.Cell.{dimension}
use Rattle.spaces.specs.Scalar.{laid_out}
use Rattle.spaces.specs.Space.{Space, IsLawful, cell_of, scalars}
use Rattle.mesh_in.specs.MeshData.{MeshData, IsMesh}
use Rattle.monos.specs.declared.layout.CoefPlace.{CoefPlace}
use Rattle.monos.specs.declared.layout.Layout.{Layout}
use Rattle.monos.specs.Layout.{position_parts}
use Rattle.dofs.specs.Basis.{CellOf}
use Rattle.dofs.specs.Label.{Label}
use Rattle.dofs.specs.Order.{label_cmp, place}
use Rattle.dofs.specs.Rows.{local_labels}
use Rattle.form_values.specs.Problem.{Problem, space_in, labels_in}

-- the functions beside its arguments that occur in a form
pub record Occurring : Type 0 where
  -- the numbers of the coefficients
  pub coefficients : List ℕ
  -- does the coordinate of space occur?
  pub position : Bool

-- ---- the layout
abbrev pub parts_of : Option Space → Parts
parts_of None = laid_out []
parts_of (Some s) = laid_out (scalars s)

-- the element of a coefficient
abbrev pub coefficient_space : Problem → ℕ → Option Space
coefficient_space p n = space_in p (slice_get p.coefficients n)

-- the values of one coefficient behind those of the one before, the first at this offset
abbrev pub places_from : Problem → ℕ → List ℕ → List CoefPlace
places_from p offset [] = []
places_from p offset (n ∷ ns) =
    record { number = n; offset = offset; parts = parts_of (coefficient_space p n) }
    ∷ places_from p (offset + (parts_of (coefficient_space p n)).local) ns

abbrev pub layout_of : Problem → Occurring → Layout
layout_of p o = record {
  d = dimension p.mesh.kind;
  rows = parts_of (space_in p p.test);
  cols = parts_of (space_in p p.trial);
  coefs = places_from p 0 o.coefficients;
  position = if o.position then Some (position_parts p.mesh.kind) else None;
}

-- ---- the rows of a cell
-- the labels of the local nodes: parts in order, nodes in order
abbrev pub labels_on : MeshData Fraction → Option Space → CellOf → List Label
labels_on m None k = []
labels_on m (Some s) k = local_labels m.kind 0 (scalars s) k.number k.vertices

abbrev pub rows_on : MeshData Fraction → Option Space → CellOf → List ℕ
rows_on m s k = map (λ l. place label_cmp l (labels_in m s)) (labels_on m s k)

-- those of an argument; one that the form doesn't have has row 0 alone
abbrev pub argument_rows : Problem → Option ℕ → CellOf → List ℕ
argument_rows p None k = 0 ∷ []
argument_rows p (Some e) k = rows_on p.mesh (space_in p (Some e)) k

-- ---- the values of the coefficients on a cell
abbrev pub coefficient_values : Problem → CellOf → ℕ → List Fraction
coefficient_values p k n =
    map (λ r. slice_index_or (p.values n) r zero_fraction) (rows_on p.mesh (coefficient_space p n) k)

-- of those that occur, in the order of the layout
abbrev pub values_on : Problem → List ℕ → CellOf → List Fraction
values_on p ns k = flat_map (coefficient_values p k) ns

-- ---- what is true of a form, a mesh and data that were accepted
-- the element is in the table, and on the mesh's cells
pub record IsElement (p : Problem) (e : ℕ) : Type 0 where
  pub space : Space
  pub found : slice_get p.elements e ≡ Some space
  pub lawful : IsLawful space
  pub cell : cell_of space ≡ p.mesh.kind

abbrev pub IsElementOf : Problem → Option ℕ → Type 0
IsElementOf p None = Unit {0}
IsElementOf p (Some e) = IsElement p e

abbrev pub is_among : List ℕ → ℕ → Bool
is_among [] n = false
is_among (m ∷ ms) n = if m == n then true else is_among ms n

-- a coefficient that doesn't occur has no values
abbrev pub HasOnly : Problem → List ℕ → Type 0
HasOnly p ns = (n : ℕ) → is_among ns n ≡ false → p.values n ≡ []

-- the elements of the functions that occur
pub record Fits (p : Problem) (o : Occurring) : Type 0 where
  pub mesh : IsMesh p.mesh
  pub test : IsElementOf p p.test
  pub trial : IsElementOf p p.trial
  pub coefficients : AllByRecursion (λ n. IsElementOf p (slice_get p.coefficients n)) o.coefficients
  pub only : HasOnly p o.coefficients
