-- From the runs of the planned function on the cells to the matrix of the mass form
use Rattle.std.proofs.Common.{◌≡◌, ℕ, zero, suc, ◌*◌, ◌<◌, ◌≤◌, Bool, true, false, refl, sym, ◌∙◌, ap, ap₂, subst, arith, List, [], ◌∷◌, length, Option, Some, None, if◌then◌else◌}
use Rattle.std.specs.Prelude.{slice_get, slice_index_or, IsSome}
use Rattle.algebra.specs.Fraction.{Fraction, absolute, is_zero_fraction}
use Rattle.algebra.specs.Steps.{difference}
use Rattle.c_unit.specs.declared.unit.CFun.{CFun}
use Rattle.c_unit.specs.declared.unit.Op.{Op}
use Rattle.c_unit.specs.Meaning as m
use Rattle.c_unit.specs.Meaning.{End, ran}
use Rattle.c_run.specs.Answer.{answer}
use Rattle.kernel.specs.MassShare.{Outcome, Shares, Passes, Flat, outcome, mass_outcome, mass_shares, share_fits}
use Rattle.kernel.specs.MassShare as M
use Rattle.ratio.specs.declared.reduced.Ratio.{Ratio}
use Rattle.ratio.specs.Value.{fraction_of}
use Rattle.mesh_in.specs.MeshData.{MeshData, IsCell, fractions, most}
use Rattle.dofs.specs.Rows.{Numbering, numbering}
use Rattle.assembly.specs.Sums.{Entry, AreSums, PassesFirst, added, values_at, entry_at}
use Rattle.assembly.specs.Run.{coordinates_of, tensor_of, is_good}
use Rattle.assembly.specs.Assembly.{AreGood, IsGoodOn, Refused, StopsFirst, StopsFor, answer_on, marked_fun, marker_of, most_entries, run_entries, tensor_on}
use Rattle.assembly.specs.declared.funs.Funs.{Funs}
use Rattle.assembly.specs.declared.run_refusal.RunRefusal.{RunRefusal}
use Rattle.assembly.specs.declared.run_refusal.RunRefusal.TheVariants as refusal
use Rattle.form_values.specs.Assembled.{IsAssemblyOf}
use Rattle.form_values.specs.CellShares.{HaveShares, shares_on}
use Rattle.form_values.specs.FormValue.{AreTriples}
use Rattle.form_values.specs.Mass.{mass_problem, no_others}
use Rattle.form_values.specs.MassMatrix.{end_of, outcome_on, cell_outcome, has_shares, IsFine, BecomesFirst, share_entries, HasMatrix, SumPasses, Refuses}
use Rattle.form_values.specs.MassRuns.{IsPlanned, mass_runs, mass_assembly, IsMassAssembly}
use Rattle.form_values.specs.Problem.{cell_of_mesh}
use Rattle.form_values.proofs.ByNumber.{item_at, assembled}
use Rattle.form_values.proofs.IntervalMeshes.{OnLine, ends_are, by_ends, item_of, on_line, cells_in, mesh_of_values}
use Rattle.form_values.proofs.MassCase.{mass_triples}
use Rattle.form_values.proofs.MassEntries.{mass_shares_are}
use Rattle.form_values.proofs.MassLaws.{mass_fits}
use Rattle.form_values.proofs.TriplesLaws.{from_start, same_entries}

-- ---- answers and outcomes
good_shares : (e : End) → is_good (answer e) ≡ true → outcome e ≡ Shares (tensor_of (answer e))
good_shares (m.Going s) h = refl
good_shares (m.Passed at op l r s) h = cc
good_shares (m.Zero at s) h = cc

stops_flat : (e : End) (cell at : ℕ) → StopsFor (answer e) (refusal.Zero cell at) → outcome e ≡ Flat
stops_flat (m.Going s) cell at h = absurd h
stops_flat (m.Passed n op l r s) cell at h = absurd h
stops_flat (m.Zero n s) cell at h = refl

stops_passes : (e : End) (cell at : ℕ) (op : Op) (l r : Ratio) → StopsFor (answer e) (refusal.CellPassed cell at op l r) → outcome e ≡ Passes
stops_passes (m.Going s) cell at op l r h = absurd h
stops_passes (m.Passed n o x y s) cell at op l r h = refl
stops_passes (m.Zero n s) cell at op l r h = absurd h

-- ---- what a good cell gives
same_shares : (xs ys : List Fraction) → Shares xs ≡ Shares ys → xs ≡ ys
same_shares xs ys e = cc

-- the outcome is the shares
shares_are : (c x y : Fraction) → has_shares (mass_outcome c x y) ≡ true → mass_outcome c x y ≡ Shares (mass_shares c x y)
shares_are c x y h = go (difference y x) h
  where
    fit : (z : Bool) (s : Bool) → has_shares (if z then Flat else if s then Shares (mass_shares c x y) else Passes) ≡ true
        → (if z then Flat else if s then Shares (mass_shares c x y) else Passes) ≡ Shares (mass_shares c x y)
    fit true s h = cc
    fit false true h = refl
    fit false false h = cc

    go : (o : Option Fraction) → has_shares (M.difference_outcome o c (mass_shares c x y)) ≡ true
        → M.difference_outcome o c (mass_shares c x y) ≡ Shares (mass_shares c x y)
    go None h = cc
    go (Some v) h = fit (is_zero_fraction v) (share_fits c (absolute v)) h

-- ---- runs on a mesh of intervals
outcome_at : (f : CFun) (c : Fraction) → IsPlanned f c → (mesh : MeshData Fraction) (a b : ℕ) → OnLine mesh → a < length mesh.points → b < length mesh.points
    → outcome (ran f (coordinates_of mesh (a ∷ b ∷ [])) []) ≡ outcome_on mesh c (a ∷ b ∷ [])
outcome_at f c planned mesh a b line h k = ap (λ xs. outcome (ran f xs [])) (ends_are mesh a b line h k) ∙ planned _ _

-- what a run gives on a cell is what becomes of the cell
run_outcome : (f : CFun) (c : Fraction) → IsPlanned f c → (mesh : MeshData Fraction) → OnLine mesh → (cell : List ℕ) → IsCell 1 (length mesh.points) cell
    → outcome (ran f (coordinates_of mesh cell) []) ≡ outcome_on mesh c cell
run_outcome f c planned mesh line =
    by_ends (λ cell. outcome (ran f (coordinates_of mesh cell) []) ≡ outcome_on mesh c cell) (length mesh.points)
    (λ a b apart h k. outcome_at f c planned mesh a b line h k)

-- what the one function answers on a cell
answer_is : (funs : Funs) (mesh : MeshData Ratio) (k : ℕ) → funs.marked.items ≡ []
    → answer_on (mass_runs funs mesh) k ≡ answer (ran funs.plain (coordinates_of (fractions mesh) (slice_index_or mesh.cells k [])) [])
unfolding answer_on
answer_is funs mesh k e = ap (λ ms. answer (ran (marked_fun ms (marker_of mesh k) funs.plain) (coordinates_of (fractions mesh) (slice_index_or mesh.cells k [])) [])) e

some_is : (o : Option Fraction) (x : Fraction) → o ≡ Some x → IsSome o
some_is None x e = cc
some_is (Some y) x e = refl

within : {A : Type 0} (xs : List A) (n : ℕ) (x : A) → slice_get xs n ≡ Some x → n < length xs
within [] n x h = cc
within (y ∷ xs) zero x h = omega arith
within (y ∷ xs) (suc n) x h = let k = within xs n x h in omega (arith, k)

-- a mesh has too few cells for a refusal
not_too_many : (n size : ℕ) → n ≤ most → size ≡ 4 → most_entries < n * size → ⊥
not_too_many n size few e h = let k : most_entries < n * 4 = subst (λ s. most_entries < n * s) e h in omega (arith, few, k)

-- ---- the assembly of the form
module _ (c : Ratio) (mesh : MeshData Ratio) (funs : Funs) (rows : Numbering) (is : IsMassAssembly c mesh funs rows) where
  abbrev cell_at : ℕ → List ℕ
  cell_at k = slice_index_or mesh.cells k []

  abbrev end_on : ℕ → End
  end_on k = ran funs.plain (coordinates_of (fractions mesh) (cell_at k)) []

  is_cell : (k : ℕ) → k < length mesh.cells → IsCell 1 (length (fractions mesh).points) (cell_at k)
  is_cell k h = item_of (IsCell 1 (length (fractions mesh).points)) mesh.cells k [] h (cells_in mesh is.mesh)

  becomes : (k : ℕ) → k < length mesh.cells → outcome (end_on k) ≡ cell_outcome (fractions mesh) c k
  becomes k h = run_outcome funs.plain (fraction_of c) is.planned (fractions mesh) (on_line mesh is.mesh) (cell_at k) (is_cell k h)

  good_end : (k : ℕ) → IsGoodOn (mass_runs funs mesh) k → outcome (end_on k) ≡ Shares (tensor_of (answer (end_on k)))
  good_end k good = good_shares (end_on k) (ap is_good (sym (answer_is funs mesh k is.plain)) ∙ good)

  is_fine : (k : ℕ) → k < length mesh.cells → IsGoodOn (mass_runs funs mesh) k → IsFine (fractions mesh) c k
  is_fine k h good = ap has_shares (sym (becomes k h) ∙ good_end k good)

  -- the local tensor is the shares of the cell
  tensor_is : (k : ℕ) → k < length mesh.cells → IsGoodOn (mass_runs funs mesh) k
      → tensor_on (mass_runs funs mesh) k ≡ mass_shares (fraction_of c) (end_of (fractions mesh) (cell_at k) 0) (end_of (fractions mesh) (cell_at k) 1)
  tensor_is k h good =
      ap tensor_of (answer_is funs mesh k is.plain)
      ∙ same_shares _ _ (sym (good_end k good) ∙ becomes k h ∙ shares_are (fraction_of c) (end_of (fractions mesh) (cell_at k) 0) (end_of (fractions mesh) (cell_at k) 1) (is_fine k h good))

  abbrev cell_shares : ℕ → List ℕ → List Fraction
  cell_shares n vs = shares_on (mass_problem c (fractions mesh)) no_others (cell_of_mesh (fractions mesh) n vs)

  cell_shares_are : (n : ℕ) (vs : List ℕ) → IsCell 1 (length (fractions mesh).points) vs
      → cell_shares n vs ≡ mass_shares (fraction_of c) (end_of (fractions mesh) vs 0) (end_of (fractions mesh) vs 1)
  cell_shares_are n vs =
      by_ends (λ vs. cell_shares n vs ≡ mass_shares (fraction_of c) (end_of (fractions mesh) vs 0) (end_of (fractions mesh) vs 1)) (length (fractions mesh).points)
      (λ a b apart h i. mass_shares_are c (fractions mesh) n a b is.mesh.0 (on_line mesh is.mesh) h i) vs

  -- of each cell of the problem
  pub have_shares : AreGood (mass_runs funs mesh) → HaveShares (mass_problem c (fractions mesh)) no_others (λ k. tensor_on (mass_runs funs mesh) k.number)
  have_shares good k at =
      let h : k.number < length mesh.cells = within mesh.cells k.number k.vertices at.vertices in
      let here : cell_at k.number ≡ k.vertices = item_at mesh.cells k.number k.vertices [] at.vertices in
      record {
        whole = λ e. cc;
        shares =
            tensor_is k.number h (good k.number h) ∙ sym (cell_shares_are k.number (cell_at k.number) (is_cell k.number h))
            ∙ ap (cell_shares k.number) here ∙ ap (λ s. shares_on (mass_problem c (fractions mesh)) no_others (record k { corners = s })) (sym at.corners);
      }

  is_assembly : IsAssemblyOf (mass_problem c (fractions mesh)) (mass_assembly funs mesh rows)
  unfolding numbering
  is_assembly = record { cells = refl; rows = ap Some is.rows; cols = ap Some is.rows }

  entries_are : AreGood (mass_runs funs mesh) → run_entries (mass_assembly funs mesh rows) ≡ share_entries (fractions mesh) c
  entries_are good =
      let p = mass_problem c (fractions mesh) in
      let fits = mass_fits c (fractions mesh) is.mesh.0 (mesh_of_values mesh is.mesh.1) in
      assembled p (mass_assembly funs mesh rows) fits.test fits.trial is_assembly
      ∙ same_entries p (λ k. tensor_on (mass_runs funs mesh) k.number) (shares_on p no_others) (λ k at. (have_shares good k at).shares) 0 p.mesh.cells (from_start p)

  same_sums : AreGood (mass_runs funs mesh) → (triples : List Entry) → AreSums (run_entries (mass_assembly funs mesh rows)) triples → AreSums (share_entries (fractions mesh) c) triples
  same_sums good triples sums = subst (λ es. AreSums es triples) (entries_are good) sums

  pub sums_are_values : AreGood (mass_runs funs mesh) → (triples : List Entry) → AreSums (run_entries (mass_assembly funs mesh rows)) triples → AreTriples (mass_problem c (fractions mesh)) triples
  sums_are_values good triples sums = mass_triples c (fractions mesh) is.mesh.0 (mesh_of_values mesh is.mesh.1) triples (same_sums good triples sums)

  all_fine : AreGood (mass_runs funs mesh) → (k : ℕ) → k < length mesh.cells → IsFine (fractions mesh) c k
  all_fine good k h = is_fine k h (good k h)

  -- no cell and no sum passes
  pub has_matrix : AreGood (mass_runs funs mesh) → (triples : List Entry) → AreSums (run_entries (mass_assembly funs mesh rows)) triples → HasMatrix (fractions mesh) c
  has_matrix good triples sums = record {
    cells = all_fine good;
    sums = λ row col. some_is (added (values_at (share_entries (fractions mesh) c) row col)) (entry_at triples row col) ((same_sums good triples sums).exact row col);
  }

  becomes_first : (k : ℕ) (e : RunRefusal) (o : Outcome) → StopsFirst (mass_runs funs mesh) k e
      → (StopsFor (answer (end_on k)) e → outcome (end_on k) ≡ o) → BecomesFirst (fractions mesh) c k o
  becomes_first k e o first is_outcome = record {
    cell = first.cell;
    earlier = λ j h. is_fine j (omega (arith, h, first.cell)) (first.earlier j h);
    becomes = sym (becomes k first.cell) ∙ is_outcome (subst (λ a. StopsFor a e) (answer_is funs mesh k is.plain) first.stops);
  }

  -- where it refuses, there is no matrix
  pub refuses : (e : RunRefusal) → Refused (mass_assembly funs mesh rows) e → Refuses (fractions mesh) c e
  refuses refusal.TooManyEntries r = not_too_many (length mesh.cells) funs.plain.a is.mesh.1.few_cells is.size r
  refuses (refusal.Zero cell at) r = becomes_first cell (refusal.Zero cell at) Flat r (stops_flat (end_on cell) cell at)
  refuses (refusal.CellPassed cell at op left right) r = becomes_first cell (refusal.CellPassed cell at op left right) Passes r (stops_passes (end_on cell) cell at op left right)
  refuses (refusal.SumPassed row col) r = record { cells = all_fine r.1; passes = subst (λ es. PassesFirst es row col) (entries_are r.1) r.2 }
  refuses refusal.Memory r = tt

-- ---- a mesh with a matrix
no_other : (o p : Outcome) → has_shares o ≡ true → has_shares p ≡ false → o ≡ p → ⊥
no_other o p h k e = clash (sym h ∙ ap has_shares e ∙ k)
  where
    clash : true ≡ false → ⊥
    clash x = cc

becomes_none : (m : MeshData Fraction) (c : Ratio) (k : ℕ) (o : Outcome) → HasMatrix m c → has_shares o ≡ false → BecomesFirst m c k o → ⊥
becomes_none m c k o whole h first = no_other (cell_outcome m c k) o (whole.cells k first.cell) h first.becomes

none_is : (o : Option Fraction) → IsSome o → o ≡ None → ⊥
none_is None h e = cc
none_is (Some x) h e = cc

-- where there is a matrix, memory alone may be wanting
pub only_memory : (m : MeshData Fraction) (c : Ratio) (e : RunRefusal) → HasMatrix m c → Refuses m c e → e ≡ refusal.Memory
only_memory m c refusal.TooManyEntries h r = absurd r
only_memory m c (refusal.Zero cell at) h r = absurd (becomes_none m c cell Flat h refl r)
only_memory m c (refusal.CellPassed cell at op left right) h r = absurd (becomes_none m c cell Passes h refl r)
only_memory m c (refusal.SumPassed row col) h r = absurd (none_is (added (values_at (share_entries m c) row col)) (h.sums row col) r.passes.passes)
only_memory m c refusal.Memory h r = refl
