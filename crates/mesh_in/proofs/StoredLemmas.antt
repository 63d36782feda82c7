-- The mesh of two lists
use Rattle.std.proofs.Common.{◌≡◌, ℕ, zero, suc, ◌+◌, ◌*◌, ◌<◌, ◌≤◌, List, [], ◌∷◌, length, take, drop, Some, sym, ap, subst, ◌∙◌, arith}
use Rattle.std.proofs.lemmas.List.{length-take-le, length-drop, length-map}
use Rattle.std.specs.Prelude.{map, slice_get}
use Rattle.std.specs.List.{AllByRecursion}
use Rattle.ratio.specs.declared.reduced.Ratio.{Ratio}
use Rattle.spaces.specs.Cell.{dimension}
use Rattle.mesh_in.specs.declared.header.Header.{Header}
use Rattle.mesh_in.specs.CellLine.{cell_size, vertices_in, marker_in, IsCellLine}
use Rattle.mesh_in.specs.MeshData.{MeshData, IsCell, IsMesh, rows}
use Rattle.mesh_in.specs.Storage.{stored, IsStored}
use Rattle.mesh_in.proofs.RowLemmas.{length-rows, row_at, of_row, row_inside, whole_rows}

-- each has the vertices of a cell
cells_of_lines : (h : Header) (count : ℕ) (lines : List (List ℕ)) → count ≡ h.vertices → AllByRecursion (IsCellLine h) lines → AllByRecursion (IsCell (dimension h.kind) count) (map (vertices_in h.kind) lines)
cells_of_lines h count [] same all = tt
cells_of_lines h count (line ∷ lines) same all = (rw same all.0.cell, cells_of_lines h count lines same all.1)

length-cells : (h : Header) (numbers : List ℕ) (A : Type 0) (f : List ℕ → A) → length (map f (rows (cell_size h) h.cells numbers)) ≡ h.cells
length-cells h numbers A f = length-map (rows (cell_size h) h.cells numbers) f ∙ length-rows (cell_size h) h.cells numbers

pub is_mesh : (h : Header) (coordinates : List Ratio) (numbers : List ℕ) → IsStored h coordinates numbers → IsMesh (stored h coordinates numbers)
is_mesh h coordinates numbers fits = record {
  points = whole_rows (dimension h.kind) h.vertices coordinates fits.all_coordinates;
  cells = cells_of_lines h (length (rows (dimension h.kind) h.vertices coordinates)) (rows (cell_size h) h.cells numbers) (length-rows (dimension h.kind) h.vertices coordinates) fits.all_cells;
  markers = length-cells h numbers ℕ (marker_in h.kind) ∙ sym (length-cells h numbers (List ℕ) (vertices_in h.kind));
  few_points = omega (arith, length-rows (dimension h.kind) h.vertices coordinates, fits.few_vertices);
  few_cells = omega (arith, length-cells h numbers (List ℕ) (vertices_in h.kind), fits.few_cells);
}

-- the two lists, and the mesh that they are
pub record Stores (h : Header) (coordinates : List Ratio) (numbers : List ℕ) (m : MeshData Ratio) : Type 0 where
  pub fits : IsStored h coordinates numbers
  pub is : stored h coordinates numbers ≡ m

pub cell_count : (h : Header) (coordinates : List Ratio) (numbers : List ℕ) (m : MeshData Ratio) → Stores h coordinates numbers m → h.cells ≡ length m.cells
cell_count h coordinates numbers m s = sym (length-cells h numbers (List ℕ) (vertices_in h.kind)) ∙ ap (λ (n : MeshData Ratio). length n.cells) s.is

pub point_count : (h : Header) (coordinates : List Ratio) (numbers : List ℕ) (m : MeshData Ratio) → Stores h coordinates numbers m → h.vertices ≡ length m.points
point_count h coordinates numbers m s = sym (length-rows (dimension h.kind) h.vertices coordinates) ∙ ap (λ (n : MeshData Ratio). length n.points) s.is

below_cells : (h : Header) (coordinates : List Ratio) (numbers : List ℕ) (m : MeshData Ratio) (k : ℕ) → Stores h coordinates numbers m → k < length m.cells → k < h.cells
below_cells h coordinates numbers m k s lt = omega (arith, cell_count h coordinates numbers m s)

below_points : (h : Header) (coordinates : List Ratio) (numbers : List ℕ) (m : MeshData Ratio) (v : ℕ) → Stores h coordinates numbers m → v < length m.points → v < h.vertices
below_points h coordinates numbers m v s lt = omega (arith, point_count h coordinates numbers m s)

-- the numbers of the cell
abbrev pub line_at : Header → List ℕ → ℕ → List ℕ
line_at h numbers k = take (cell_size h) (drop (k * cell_size h) numbers)

pub cell_inside : (h : Header) (coordinates : List Ratio) (numbers : List ℕ) (m : MeshData Ratio) (k : ℕ) → Stores h coordinates numbers m → k < length m.cells → k * cell_size h + cell_size h ≤ length numbers
cell_inside h coordinates numbers m k s lt = rw s.fits.all_numbers (row_inside (cell_size h) h.cells k (below_cells h coordinates numbers m k s lt))

pub length-line : (h : Header) (coordinates : List Ratio) (numbers : List ℕ) (m : MeshData Ratio) (k : ℕ) → Stores h coordinates numbers m → k < length m.cells → length (line_at h numbers k) ≡ cell_size h
length-line h coordinates numbers m k s lt =
    length-take-le (cell_size h) (drop (k * cell_size h) numbers) (omega (arith, cell_inside h coordinates numbers m k s lt, length-drop (k * cell_size h) numbers))

get-map : {A B : Type 0} (f : A → B) (xs : List A) (k : ℕ) (x : A) → slice_get xs k ≡ Some x → slice_get (map f xs) k ≡ Some (f x)
get-map f [] k x e = absurd cc
get-map f (y ∷ ys) zero x e = let same : y ≡ x = cc in ap (λ z. Some (f z)) same
get-map f (y ∷ ys) (suc k) x e = get-map f ys k x e

line_is : (h : Header) (coordinates : List Ratio) (numbers : List ℕ) (m : MeshData Ratio) (k : ℕ) → Stores h coordinates numbers m → k < length m.cells → slice_get (rows (cell_size h) h.cells numbers) k ≡ Some (line_at h numbers k)
line_is h coordinates numbers m k s lt = row_at (cell_size h) h.cells numbers k (below_cells h coordinates numbers m k s lt)

pub cell_at : (h : Header) (coordinates : List Ratio) (numbers : List ℕ) (m : MeshData Ratio) (k : ℕ) → Stores h coordinates numbers m → k < length m.cells → slice_get m.cells k ≡ Some (vertices_in h.kind (line_at h numbers k))
cell_at h coordinates numbers m k s lt =
    ap (λ (n : MeshData Ratio). slice_get n.cells k) (sym s.is) ∙ get-map (vertices_in h.kind) (rows (cell_size h) h.cells numbers) k (line_at h numbers k) (line_is h coordinates numbers m k s lt)

pub marker_at : (h : Header) (coordinates : List Ratio) (numbers : List ℕ) (m : MeshData Ratio) (k : ℕ) → Stores h coordinates numbers m → k < length m.cells → slice_get m.markers k ≡ Some (marker_in h.kind (line_at h numbers k))
marker_at h coordinates numbers m k s lt =
    ap (λ (n : MeshData Ratio). slice_get n.markers k) (sym s.is) ∙ get-map (marker_in h.kind) (rows (cell_size h) h.cells numbers) k (line_at h numbers k) (line_is h coordinates numbers m k s lt)

pub cell_lawful : (h : Header) (coordinates : List Ratio) (numbers : List ℕ) (m : MeshData Ratio) (k : ℕ) → Stores h coordinates numbers m → k < length m.cells → IsCell (dimension m.kind) (length m.points) (vertices_in h.kind (line_at h numbers k))
cell_lawful h coordinates numbers m k s lt =
    subst (λ (n : MeshData Ratio). IsCell (dimension n.kind) (length n.points) (vertices_in h.kind (line_at h numbers k))) s.is
    (subst (λ n. IsCell (dimension h.kind) n (vertices_in h.kind (line_at h numbers k))) (sym (length-rows (dimension h.kind) h.vertices coordinates))
    (of_row (IsCellLine h) (cell_size h) h.cells numbers k (below_cells h coordinates numbers m k s lt) s.fits.all_cells).cell)

pub point_inside : (h : Header) (coordinates : List Ratio) (numbers : List ℕ) (m : MeshData Ratio) (v : ℕ) → Stores h coordinates numbers m → v < length m.points → v * dimension h.kind + dimension h.kind ≤ length coordinates
point_inside h coordinates numbers m v s lt =
    rw s.fits.all_coordinates (row_inside (dimension h.kind) h.vertices v (below_points h coordinates numbers m v s lt))

pub point_at : (h : Header) (coordinates : List Ratio) (numbers : List ℕ) (m : MeshData Ratio) (v : ℕ) → Stores h coordinates numbers m → v < length m.points → slice_get m.points v ≡ Some (take (dimension h.kind) (drop (v * dimension h.kind) coordinates))
point_at h coordinates numbers m v s lt =
    ap (λ (n : MeshData Ratio). slice_get n.points v) (sym s.is) ∙ row_at (dimension h.kind) h.vertices coordinates v (below_points h coordinates numbers m v s lt)

pub length-point : (h : Header) (coordinates : List Ratio) (numbers : List ℕ) (m : MeshData Ratio) (v : ℕ) → Stores h coordinates numbers m → v < length m.points → length (take (dimension h.kind) (drop (v * dimension h.kind) coordinates)) ≡ dimension m.kind
length-point h coordinates numbers m v s lt =
    length-take-le (dimension h.kind) (drop (v * dimension h.kind) coordinates) (omega (arith, point_inside h coordinates numbers m v s lt, length-drop (v * dimension h.kind) coordinates))
    ∙ ap (λ (n : MeshData Ratio). dimension n.kind) s.is
