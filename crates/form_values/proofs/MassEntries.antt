-- The shares of the mass form on intervals, at the rows of vertices, are those of its problem
use Rattle.std.proofs.Common.{◌≡◌, ℕ, suc, ◌<◌, ◌||◌, true, false, List, [], ◌∷◌, ◌++◌, length, map, refl, ap, ap₂, ◌∙◌, eq-eqb}
use Rattle.std.specs.Prelude.{◌==◌}
use Rattle.std.specs.List.{flat_map, AllByRecursion}
use Rattle.algebra.specs.Solver.{at, ◌⊗◌}
use Rattle.algebra.specs.Sound as Solve
use Rattle.algebra.specs.Fraction.{Fraction}
use Rattle.calculus.specs.Integral.{integral_value}
use Rattle.calculus.specs.LocalFunction.{local_function}
use Rattle.calculus.specs.Mass.{end_node, mass_density}
use Rattle.calculus.specs.Polynomial.{times, constant, polynomials}
use Rattle.calculus.specs.Simplex.{Simplex}
use Rattle.ratio.specs.declared.reduced.Ratio.{Ratio}
use Rattle.ratio.specs.Value.{fraction_of}
use Rattle.spaces.specs.declared.cell.Cell.TheVariants.{Interval}
use Rattle.mesh_in.specs.MeshData.{MeshData, IsCell}
use Rattle.dofs.specs.Order.{label_cmp, place}
use Rattle.dofs.specs.Rows.{local_labels, rows_of, numbering}
use Rattle.dofs.specs.Basis.{CellOf}
use Rattle.kernel.specs.MassShare.{mass_share, mass_shares}
use Rattle.refint.specs.Local.{local_shares}
use Rattle.assembly.specs.Local.{local_entries}
use Rattle.form_values.specs.CellLayout.{argument_rows}
use Rattle.form_values.specs.CellShares.{shares_on, cell_entries, entries_from, tensor_entries}
use Rattle.form_values.specs.HatFunctions.{has_vertex, occurs}
use Rattle.form_values.specs.Mass.{mass_problem, no_others}
use Rattle.form_values.specs.Problem.{corners_of, cell_of_mesh}
use Rattle.form_values.specs.MassMatrix.{end_of}
use Rattle.form_values.proofs.VertexEntries.{vertex_entries_on, vertex_entries}
use Rattle.form_values.proofs.MassRows.{line_parts, row_is_place}
use Rattle.form_values.proofs.RowLaws.{row_of}
use Rattle.form_values.proofs.IntervalMeshes.{OnLine, IsMember, all_members, by_ends, simplex_is, or_right}

-- ---- the rows of a cell
vertex_rows : (c : Ratio) (m : MeshData Fraction) (k a b : ℕ) → m.kind ≡ Interval → AllByRecursion (IsCell 1 (length m.points)) m.cells
    → a < length m.points → b < length m.points → occurs m.cells a ≡ true → occurs m.cells b ≡ true
    → argument_rows (mass_problem c m) (mass_problem c m).test (cell_of_mesh m k (a ∷ b ∷ [])) ≡ row_of m.cells a ∷ row_of m.cells b ∷ []
unfolding numbering
vertex_rows c m k a b kind is in_range in_range' first second =
    ap (λ q. map (λ l. place label_cmp l (rows_of q line_parts m.cells)) (local_labels q 0 line_parts k (a ∷ b ∷ []))) kind
    ∙ ap₂ (λ r s. r ∷ s ∷ []) (row_is_place m.cells (length m.points) is a in_range first) (row_is_place m.cells (length m.points) is b in_range' second)

-- ---- the shares of a cell
-- of the test function of node j and the trial function of node k
abbrev node_value : Simplex → Fraction → ℕ → ℕ → Fraction
node_value v c j k = integral_value v (times (times (constant c) (local_function v (end_node k))) (local_function v (end_node j)))

node_share : (v : Simplex) (c : Fraction) (j k : ℕ) → node_value v c j k ≡ integral_value v (times (constant c) (mass_density v j k))
node_share v c j k =
    ap (integral_value v)
    (Solve.ring polynomials (constant c ∷ local_function v (end_node k) ∷ local_function v (end_node j) ∷ []) (at 0 ⊗ at 1 ⊗ at 2) (at 0 ⊗ (at 2 ⊗ at 1)) refl)

shares_at : (c : Ratio) (m : MeshData Fraction) (k : CellOf) → m.kind ≡ Interval
    → shares_on (mass_problem c m) no_others k
    ≡ node_value k.corners (fraction_of c) 0 0 ∷ node_value k.corners (fraction_of c) 0 1 ∷ node_value k.corners (fraction_of c) 1 0 ∷ node_value k.corners (fraction_of c) 1 1 ∷ []
unfolding local_shares
shares_at c m k kind = ap (λ q. shares_on (mass_problem c (record m { kind = q })) no_others k) kind

same_share : (c : Ratio) (m : MeshData Fraction) (a b : ℕ) → OnLine m → a < length m.points → b < length m.points → (i j : ℕ)
    → node_value (corners_of m (a ∷ b ∷ [])) (fraction_of c) i j ≡ mass_share (fraction_of c) (end_of m (a ∷ b ∷ []) 0) (end_of m (a ∷ b ∷ []) 1) i j
same_share c m a b line h k i j =
    node_share (corners_of m (a ∷ b ∷ [])) (fraction_of c) i j ∙ ap (λ v. integral_value v (times (constant (fraction_of c)) (mass_density v i j))) (simplex_is m a b line h k)

four : (a b d e a' b' d' e' : Fraction) → a ≡ a' → b ≡ b' → d ≡ d' → e ≡ e' → a ∷ b ∷ d ∷ e ∷ [] ≡ a' ∷ b' ∷ d' ∷ e' ∷ []
four a b d e a' b' d' e' p q r s = ap₂ (λ x y. x ∷ y ∷ d ∷ e ∷ []) p q ∙ ap₂ (λ x y. a' ∷ b' ∷ x ∷ y ∷ []) r s

pub mass_shares_are : (c : Ratio) (m : MeshData Fraction) (k a b : ℕ) → m.kind ≡ Interval → OnLine m → a < length m.points → b < length m.points
    → shares_on (mass_problem c m) no_others (cell_of_mesh m k (a ∷ b ∷ [])) ≡ mass_shares (fraction_of c) (end_of m (a ∷ b ∷ []) 0) (end_of m (a ∷ b ∷ []) 1)
mass_shares_are c m k a b kind line h i =
    let same = same_share c m a b line h i in
    shares_at c m (cell_of_mesh m k (a ∷ b ∷ [])) kind ∙ four _ _ _ _ _ _ _ _ (same 0 0) (same 0 1) (same 1 0) (same 1 1)

-- ---- all cells
module _ (c : Ratio) (m : MeshData Fraction) (kind : m.kind ≡ Interval) (line : OnLine m) (is : AllByRecursion (IsCell 1 (length m.points)) m.cells) where
  cell_entries_are : (k : ℕ) (cell : List ℕ) → IsCell 1 (length m.points) cell → IsMember m.cells cell
      → cell_entries (mass_problem c m) (shares_on (mass_problem c m) no_others) (cell_of_mesh m k cell) ≡ vertex_entries_on m (fraction_of c) cell
  cell_entries_are k cell is_cell member =
      by_ends (λ cell. IsMember m.cells cell → cell_entries (mass_problem c m) (shares_on (mass_problem c m) no_others) (cell_of_mesh m k cell) ≡ vertex_entries_on m (fraction_of c) cell) (length m.points)
      (λ a b apart h i member.
      let rows = vertex_rows c m k a b kind is h i
      (member (has_vertex a) (ap (λ t. t || ((b == a) || false)) (eq-eqb a a refl)))
      (member (has_vertex b) (or_right (a == b) ((b == b) || false) (ap (λ t. t || false) (eq-eqb b b refl)))) in
      ap₂ (λ rs xs. local_entries rs rs xs) rows (mass_shares_are c m k a b kind line h i))
      cell is_cell member

  entries_are : (k : ℕ) (cells : List (List ℕ)) → AllByRecursion (IsCell 1 (length m.points)) cells → AllByRecursion (IsMember m.cells) cells
      → entries_from (mass_problem c m) (shares_on (mass_problem c m) no_others) k cells ≡ flat_map (vertex_entries_on m (fraction_of c)) cells
  entries_are k [] are members = refl
  entries_are k (cell ∷ cells) are members = ap₂ (λ es fs. es ++ fs) (cell_entries_are k cell are.0 members.0) (entries_are (suc k) cells are.1 members.1)

  pub mass_entries : tensor_entries (mass_problem c m) (shares_on (mass_problem c m) no_others) ≡ vertex_entries m (fraction_of c)
  mass_entries = entries_are 0 m.cells is (all_members m.cells)
