-- The shares of the cells add up to the values of the form by hat functions
use Rattle.std.proofs.Common.{◌≡◌, ◌≢◌, ℕ, ◌<◌, ◌⊎◌, inl, inr, Bool, true, false, ◌||◌, ◌&&◌, refl, sym, ◌∙◌, ap, ap₂, List, [], ◌∷◌, length, Option, None, Some, if◌then◌else◌}
use Rattle.std.specs.Prelude.{slice_get, ◌==◌}
use Rattle.std.specs.List.{flat_map, AllByRecursion}
use Rattle.std.proofs.Math.Dec.{eqb}
use Rattle.std.proofs.lemmas.Bool.{eqb-true, eq-eqb}
use Rattle.std.proofs.lemmas.Bool.Decides.{eqb_tells}
use Rattle.algebra.specs.Ring.{additive}
use Rattle.algebra.specs.RingLaws as L
use Rattle.algebra.specs.Fraction.{Fraction, fractions, zero_fraction, add, add_zero}
use Rattle.algebra.specs.Sums.{total}
use Rattle.algebra.proofs.SumLaws.{total_in-append}
use Rattle.calculus.specs.Polynomial.{Polynomial, nil, times, constant, polynomials, times_comm}
use Rattle.calculus.specs.Simplex.{Simplex}
use Rattle.calculus.specs.Integral.{integral_value}
use Rattle.calculus.specs.LocalFunction.{local_function}
use Rattle.calculus.specs.Mass.{end_node, mass_density}
use Rattle.kernel.specs.MassShare.{mass_share}
use Rattle.mesh_in.specs.MeshData.{MeshData, IsCell}
use Rattle.dofs.proofs.Lists.{same_some}
use Rattle.assembly.specs.Sums.{Entry, values_at}
use Rattle.refint.proofs.SharesLaw.{integral_nil}
use Rattle.form_values.specs.HatFunctions.{has_vertex, occurs, row_vertices, weights_at, hat_function, hat_of_row, hat_density, hat_value_over, hat_value}
use Rattle.form_values.specs.Problem.{corners_of}
use Rattle.form_values.specs.MassMatrix.{end_of}
use Rattle.form_values.proofs.VertexEntries.{vertex_entries_on, vertex_entries}
use Rattle.form_values.proofs.EntrySums.{values_at-append}
use Rattle.form_values.proofs.IntervalMeshes.{OnLine, simplex_is, IsMember, or_right, all_members, both, by_ends}
use Rattle.form_values.proofs.RowLaws.{row_of, row_found, row_is}

-- ---- integrals of what is a multiple of the mass density, or nothing
nothing_left : (v : Simplex) (c : Fraction) (p : Polynomial) → integral_value v (times (constant c) (times nil p)) ≡ zero_fraction
nothing_left v c p = ap (integral_value v) (ap (times (constant c)) (L.zero-mul polynomials p) ∙ L.mul-zero polynomials (constant c)) ∙ integral_nil v

nothing_right : (v : Simplex) (c : Fraction) (p : Polynomial) → integral_value v (times (constant c) (times p nil)) ≡ zero_fraction
nothing_right v c p = ap (integral_value v) (ap (times (constant c)) (L.mul-zero polynomials p) ∙ L.mul-zero polynomials (constant c)) ∙ integral_nil v

-- ---- one cell
-- v where t, before what follows
abbrev picked : Bool → Fraction → List Fraction → List Fraction
picked t v rest = if t then v ∷ rest else rest

-- the linear function of a corner, or nothing: at the first, at the second, at none
abbrev at_corner : Simplex → Bool → Bool → Polynomial
at_corner v true second = local_function v (end_node 0)
at_corner v false true = local_function v (end_node 1)
at_corner v false false = nil

-- the value of nodes j, of the row, and k, of the column
abbrev pub node_value : Simplex → Fraction → ℕ → ℕ → Fraction
node_value v c j k = integral_value v (times (constant c) (mass_density v k j))

four_values : (v : Simplex) (c : Fraction) (a b p q : Bool) → (a ≡ true → b ≡ true → ⊥) → (p ≡ true → q ≡ true → ⊥)
    → total (picked (a && p) (node_value v c 0 0) (picked (a && q) (node_value v c 0 1) (picked (b && p) (node_value v c 1 0) (picked (b && q) (node_value v c 1 1) []))))
    ≡ integral_value v (times (constant c) (times (at_corner v p q) (at_corner v a b)))
four_values v c true true p q one other = absurd (one refl refl)
four_values v c true false true true one other = absurd (other refl refl)
four_values v c true false true false one other = add_zero (node_value v c 0 0)
four_values v c true false false true one other = add_zero (node_value v c 0 1)
four_values v c true false false false one other = sym (nothing_left v c (local_function v (end_node 0)))
four_values v c false true true true one other = absurd (other refl refl)
four_values v c false true true false one other = add_zero (node_value v c 1 0)
four_values v c false true false true one other = add_zero (node_value v c 1 1)
four_values v c false true false false one other = sym (nothing_left v c (local_function v (end_node 1)))
four_values v c false false p q one other = sym (nothing_right v c (at_corner v p q))

eqb-same : (n : ℕ) → eqb n n ≡ true
eqb-same n = eq-eqb n n refl

eqb-apart : (n k : ℕ) → n ≢ k → eqb n k ≡ false
eqb-apart n k h = go (eqb_tells n k)
  where
    go : ((eqb n k ≡ true) × (n ≡ k)) ⊎ ((eqb n k ≡ false) × (n ≢ k)) → eqb n k ≡ false
    go (inl (t, e)) = absurd (h e)
    go (inr (t, e)) = t

-- a cell of two vertices that occur in the mesh and are apart
module _ (m : MeshData Fraction) (c : Fraction) (a b : ℕ) (apart : a ≢ b) (in_range : a < length m.points) (in_range' : b < length m.points)
    (first : occurs m.cells a ≡ true) (second : occurs m.cells b ≡ true) where
  abbrev S : Simplex
  S = corners_of m (a ∷ b ∷ [])

  abbrev cell : List ℕ
  cell = a ∷ b ∷ []

  with_test : (v : ℕ) (t : Bool) → has_vertex v cell ≡ t → hat_function m v cell ≡ (if t then local_function S (weights_at v cell) else nil)
  with_test v t h = ap (λ t. if t then local_function S (weights_at v cell) else nil) h

  function_first : hat_function m a cell ≡ local_function S (end_node 0)
  function_first =
      with_test a true (ap (λ t. t || ((b == a) || false)) (eqb-same a))
      ∙ ap₂ (λ s t. local_function S ((if s then 1 else 0) ∷ (if t then 1 else 0) ∷ [])) (eqb-same a) (eqb-apart b a (λ e. apart (sym e)))

  function_second : hat_function m b cell ≡ local_function S (end_node 1)
  function_second =
      with_test b true (ap₂ (λ s t. s || (t || false)) (eqb-apart a b apart) (eqb-same b))
      ∙ ap₂ (λ s t. local_function S ((if s then 1 else 0) ∷ (if t then 1 else 0) ∷ [])) (eqb-apart a b apart) (eqb-same b)

  function_other : (v : ℕ) → a ≢ v → b ≢ v → hat_function m v cell ≡ nil
  function_other v n n' = with_test v false (ap₂ (λ s t. s || (t || false)) (eqb-apart a v n) (eqb-apart b v n'))

  found_first : slice_get (row_vertices m) (row_of m.cells a) ≡ Some a
  found_first = row_found m.cells (length m.points) a in_range first

  found_second : slice_get (row_vertices m) (row_of m.cells b) ≡ Some b
  found_second = row_found m.cells (length m.points) b in_range' second

  rows_apart : (r : ℕ) → eqb (row_of m.cells a) r ≡ true → eqb (row_of m.cells b) r ≡ true → ⊥
  rows_apart r h h' =
      apart (same_some a b (sym found_first ∙ ap (slice_get (row_vertices m)) (eqb-true _ r h ∙ sym (eqb-true _ r h')) ∙ found_second))

  -- the basis function of a row or column on the cell
  function_of : (r : ℕ) → hat_of_row m (slice_get (row_vertices m) r) cell ≡ at_corner S (eqb (row_of m.cells a) r) (eqb (row_of m.cells b) r)
  function_of r = go (eqb_tells (row_of m.cells a) r) (eqb_tells (row_of m.cells b) r)
    where
      neither : (o : Option ℕ) → ((v : ℕ) → o ≡ Some v → (a ≢ v) × (b ≢ v)) → hat_of_row m o cell ≡ nil
      neither None h = refl
      neither (Some v) h = let n = h v refl in function_other v n.0 n.1

      go : ((eqb (row_of m.cells a) r ≡ true) × (row_of m.cells a ≡ r)) ⊎ ((eqb (row_of m.cells a) r ≡ false) × (row_of m.cells a ≢ r))
          → ((eqb (row_of m.cells b) r ≡ true) × (row_of m.cells b ≡ r)) ⊎ ((eqb (row_of m.cells b) r ≡ false) × (row_of m.cells b ≢ r))
          → hat_of_row m (slice_get (row_vertices m) r) cell ≡ at_corner S (eqb (row_of m.cells a) r) (eqb (row_of m.cells b) r)
      go (inl (t, e)) other =
          ap (λ o. hat_of_row m o cell) (ap (slice_get (row_vertices m)) (sym e) ∙ found_first) ∙ function_first
          ∙ sym (ap (λ t. at_corner S t (eqb (row_of m.cells b) r)) t)
      go (inr (t, e)) (inl (t', e')) =
          ap (λ o. hat_of_row m o cell) (ap (slice_get (row_vertices m)) (sym e') ∙ found_second) ∙ function_second
          ∙ sym (ap₂ (at_corner S) t t')
      go (inr (t, e)) (inr (t', e')) =
          neither (slice_get (row_vertices m) r) (λ v h.
          (λ k. e (ap (row_of m.cells) k ∙ sym (row_is m.cells (length m.points) r v h)), λ k. e' (ap (row_of m.cells) k ∙ sym (row_is m.cells (length m.points) r v h))))
          ∙ sym (ap₂ (at_corner S) t t')

  -- what the cell adds at a row and a column is the integral over it
  pub cell_sum : (entries : List Entry)
      → entries ≡ record { row = row_of m.cells a; col = row_of m.cells a; value = node_value S c 0 0 }
      ∷ record { row = row_of m.cells a; col = row_of m.cells b; value = node_value S c 0 1 }
      ∷ record { row = row_of m.cells b; col = row_of m.cells a; value = node_value S c 1 0 }
      ∷ record { row = row_of m.cells b; col = row_of m.cells b; value = node_value S c 1 1 } ∷ []
      → (r s : ℕ) → total (values_at entries r s) ≡ integral_value S (hat_density m c (slice_get (row_vertices m) r) (slice_get (row_vertices m) s) cell)
  cell_sum entries e r s =
      ap (λ es. total (values_at es r s)) e
      ∙ four_values S c (eqb (row_of m.cells a) r) (eqb (row_of m.cells b) r) (eqb (row_of m.cells a) s) (eqb (row_of m.cells b) s) (rows_apart r) (rows_apart s)
      ∙ sym (ap₂ (λ p q. integral_value S (times (constant c) (times p q))) (function_of s) (function_of r))

-- ---- all cells
-- what each cell adds has the integrals over it as its sums
abbrev pub AddsIntegrals : MeshData Fraction → Fraction → (List ℕ → List Entry) → List ℕ → Type 0
AddsIntegrals m c entries cell =
    (r s : ℕ) → total (values_at (entries cell) r s) ≡ integral_value (corners_of m cell) (hat_density m c (slice_get (row_vertices m) r) (slice_get (row_vertices m) s) cell)

pub all_cells_sum : (m : MeshData Fraction) (c : Fraction) (entries : List ℕ → List Entry) (cells : List (List ℕ)) → AllByRecursion (AddsIntegrals m c entries) cells
    → (r s : ℕ) → total (values_at (flat_map entries cells) r s) ≡ hat_value_over m c (slice_get (row_vertices m) r) (slice_get (row_vertices m) s) cells
all_cells_sum m c entries [] h r s = refl
all_cells_sum m c entries (cell ∷ cells) h r s =
    ap total (values_at-append (entries cell) (flat_map entries cells) r s)
    ∙ total_in-append (additive fractions) (values_at (entries cell) r s) (values_at (flat_map entries cells) r s)
    ∙ ap₂ add (h.0 r s) (all_cells_sum m c entries cells h.1 r s)

-- ---- the shares
-- a share is the value at two nodes
share_is : (mesh : MeshData Fraction) (c : Fraction) (a b j k : ℕ) → OnLine mesh → a < length mesh.points → b < length mesh.points
    → mass_share c (end_of mesh (a ∷ b ∷ []) 0) (end_of mesh (a ∷ b ∷ []) 1) j k ≡ node_value (corners_of mesh (a ∷ b ∷ [])) c j k
share_is mesh c a b j k line h i =
    ap (λ s. integral_value s (times (constant c) (mass_density s j k))) (sym (simplex_is mesh a b line h i))
    ∙ ap (λ p. integral_value (corners_of mesh (a ∷ b ∷ [])) (times (constant c) p)) (times_comm _ _)

abbrev four_entries : ℕ → ℕ → Fraction → Fraction → Fraction → Fraction → List Entry
four_entries r s p q t u =
    record { row = r; col = r; value = p } ∷ record { row = r; col = s; value = q } ∷ record { row = s; col = r; value = t } ∷ record { row = s; col = s; value = u } ∷ []

shares_at : (mesh : MeshData Fraction) (c : Fraction) (a b : ℕ) → OnLine mesh → a < length mesh.points → b < length mesh.points
    → vertex_entries_on mesh c (a ∷ b ∷ [])
    ≡ four_entries (row_of mesh.cells a) (row_of mesh.cells b) (node_value (corners_of mesh (a ∷ b ∷ [])) c 0 0) (node_value (corners_of mesh (a ∷ b ∷ [])) c 0 1)
    (node_value (corners_of mesh (a ∷ b ∷ [])) c 1 0) (node_value (corners_of mesh (a ∷ b ∷ [])) c 1 1)
shares_at mesh c a b line h k =
    ap₂ (λ p q. four_entries (row_of mesh.cells a) (row_of mesh.cells b) p q (share 1 0) (share 1 1)) (share_is mesh c a b 0 0 line h k) (share_is mesh c a b 0 1 line h k)
    ∙ ap₂ (λ p q. four_entries (row_of mesh.cells a) (row_of mesh.cells b) (node_value (corners_of mesh (a ∷ b ∷ [])) c 0 0) (node_value (corners_of mesh (a ∷ b ∷ [])) c 0 1) p q)
    (share_is mesh c a b 1 0 line h k) (share_is mesh c a b 1 1 line h k)
  where
    share : ℕ → ℕ → Fraction
    share j k = mass_share c (end_of mesh (a ∷ b ∷ []) 0) (end_of mesh (a ∷ b ∷ []) 1) j k

adds_integrals : (mesh : MeshData Fraction) (c : Fraction) → OnLine mesh → (cell : List ℕ) → IsCell 1 (length mesh.points) cell → IsMember mesh.cells cell → AddsIntegrals mesh c (vertex_entries_on mesh c) cell
adds_integrals mesh c line cell is member =
    by_ends (λ cell. IsMember mesh.cells cell → AddsIntegrals mesh c (vertex_entries_on mesh c) cell) (length mesh.points)
    (λ a b apart h k member. cell_sum mesh c a b apart h k
    (member (has_vertex a) (ap (λ t. t || ((b == a) || false)) (eq-eqb a a refl)))
    (member (has_vertex b) (or_right (a == b) ((b == b) || false) (ap (λ t. t || false) (eq-eqb b b refl))))
    (vertex_entries_on mesh c (a ∷ b ∷ [])) (shares_at mesh c a b line h k))
    cell is member

-- the shares of the cells add up to the values of the form
pub share_values : (mesh : MeshData Fraction) (c : Fraction) → OnLine mesh → AllByRecursion (IsCell 1 (length mesh.points)) mesh.cells
    → (row col : ℕ) → total (values_at (vertex_entries mesh c) row col) ≡ hat_value mesh c row col
unfolding hat_value
share_values mesh c line cells row col =
    all_cells_sum mesh c (vertex_entries_on mesh c) mesh.cells (both (IsCell 1 (length mesh.points)) (IsMember mesh.cells) (AddsIntegrals mesh c (vertex_entries_on mesh c)) mesh.cells (adds_integrals mesh c line) cells (all_members mesh.cells)) row col
