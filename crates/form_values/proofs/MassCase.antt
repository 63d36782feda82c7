-- The values of the form c*u*v*dx for linear functions on intervals are a case of the values of any form
use Rattle.std.proofs.Common.{◌≡◌, ℕ, List, length, refl, sym, ap, ◌∙◌}
use Rattle.algebra.specs.Fraction.{Fraction}
use Rattle.algebra.specs.Sums.{total}
use Rattle.ratio.specs.declared.reduced.Ratio.{Ratio}
use Rattle.ratio.specs.Value.{fraction_of}
use Rattle.spaces.specs.declared.cell.Cell.TheVariants.{Interval}
use Rattle.mesh_in.specs.MeshData.{MeshData, IsMesh}
use Rattle.std.proofs.lemmas.List.{length-map}
use Rattle.dofs.specs.Rows.{numbering, rows_of}
use Rattle.form_values.specs.Problem.{row_count}
use Rattle.assembly.specs.Sums.{Entry, AreSums, values_at}
use Rattle.form_values.specs.HatFunctions.{rows_below, row_vertices, hat_value}
use Rattle.form_values.specs.MassMatrix.{share_entries}
use Rattle.form_values.specs.FormValue.{form_value, AreTriples}
use Rattle.form_values.specs.CellShares.{shares_on}
use Rattle.form_values.specs.Mass.{mass_problem, no_others}
use Rattle.form_values.proofs.MassEntries.{mass_entries}
use Rattle.form_values.proofs.MassLaws.{mass_fits, mass_is_multilinear}
use Rattle.form_values.proofs.HatLaws.{share_values}
use Rattle.form_values.proofs.IntervalMeshes.{line_of_mesh, ends_of_mesh}
use Rattle.form_values.proofs.MassRows.{line_parts, vertex_label, labels_are}
use Rattle.form_values.proofs.TriplesLaws.{form_value_law, sums_are_triples}

pub mass_case : (c : Ratio) (m : MeshData Fraction) → m.kind ≡ Interval → IsMesh m → (row col : ℕ) → hat_value m (fraction_of c) row col ≡ form_value (mass_problem c m) row col
mass_case c m kind is row col =
    let line = line_of_mesh m kind is in
    let cells = ends_of_mesh m kind is in
    sym (share_values m (fraction_of c) line cells row col)
    ∙ ap (λ es. total (values_at es row col)) (sym (mass_entries c m kind line cells))
    ∙ form_value_law (mass_problem c m) no_others (mass_fits c m kind is) (mass_is_multilinear (mass_problem c m) no_others Interval c 0 refl) (λ k at e. cc) row col

-- the sums of the shares are the values of the form
pub mass_triples : (c : Ratio) (m : MeshData Fraction) → m.kind ≡ Interval → IsMesh m → (triples : List Entry) → AreSums (share_entries m c) triples → AreTriples (mass_problem c m) triples
mass_triples c m kind is triples sums =
    sums_are_triples (mass_problem c m) no_others (shares_on (mass_problem c m) no_others) triples (mass_fits c m kind is) (mass_is_multilinear (mass_problem c m) no_others Interval c 0 refl)
    (λ k at. record { whole = λ e. cc; shares = refl }) sums

-- the rows are the vertices that occur
pub mass_rows : (c : Ratio) (m : MeshData Fraction) → m.kind ≡ Interval → IsMesh m → row_count (mass_problem c m) (mass_problem c m).test ≡ length (row_vertices m)
unfolding numbering
mass_rows c m kind is =
    ap (λ q. length (rows_of q line_parts m.cells)) kind
    ∙ ap length (labels_are m.cells (length m.points) (ends_of_mesh m kind is))
    ∙ length-map (rows_below m.cells (length m.points)) vertex_label
