-- From the runs of a form's functions on the cells to the values of the form
use Rattle.std.proofs.Common.{◌≡◌, ℕ, zero, suc, ◌+◌, ◌*◌, ◌<◌, ◌≤◌, ◌^◌, Bool, true, false, refl, sym, ◌∙◌, ap, ap₂, subst, arith, List, [], ◌∷◌, ◌++◌, length, take, Option, Some, None}
use Rattle.std.specs.Prelude.{slice_get, slice_index_or, IsSome, nat_lt}
use Rattle.std.specs.List.{AllByRecursion, flat_map}
use Rattle.std.proofs.lemmas.Bool.{and_parts}
use Rattle.algebra.specs.Fraction.{Fraction, is_zero_fraction}
use Rattle.calculus.specs.Simplex.{IsCell, dimension, point_of, volume}
use Rattle.spaces.specs.Cell.{dimension as cell_dimension}
use Rattle.spaces.specs.declared.cell.Cell.{Cell}
use Rattle.spaces.specs.declared.cell.Cell.TheVariants.{Interval, Triangle, Tetrahedron}
use Rattle.mesh_in.specs.MeshData.{MeshData, IsCell as IsMeshCell, are_below, fractions}
use Rattle.monos.specs.declared.weight.Weight.{Weight}
use Rattle.c_unit.specs.declared.unit.Op.{Op}
use Rattle.c_unit.specs.Meaning as m
use Rattle.c_unit.specs.Meaning.{End, Slots, ran}
use Rattle.c_run.specs.Answer.{answer}
use Rattle.kernel.specs.Ends.{Ends}
use Rattle.kernel_runs.specs.Preamble.{coordinates}
use Rattle.ratio.specs.declared.reduced.Ratio.{Ratio}
use Rattle.dofs.specs.Basis.{CellOf}
use Rattle.assembly.specs.Sums.{Entry, AreSums, PassesFirst, added, values_at, entry_at}
use Rattle.assembly.specs.Run.{coordinates_of, tensor_of, is_good}
use Rattle.assembly.specs.Assembly.{Assembly, AreGood, IsGoodOn, Refused, StopsFirst, StopsFor, answer_on, coefficient_values, fun_on, marker_of as run_marker, most_entries, run_entries, tensor_on, entry_count}
use Rattle.assembly.specs.Assembly as A
use Rattle.assembly.specs.declared.run_refusal.RunRefusal.{RunRefusal}
use Rattle.assembly.specs.declared.run_refusal.RunRefusal.TheVariants as refusal
use Rattle.form_values.specs.CellLayout.{Occurring, layout_of, values_on}
use Rattle.form_values.specs.CellShares.{HaveShares, density_on, shares_on}
use Rattle.form_values.specs.FormValue.{AreTriples}
use Rattle.form_values.specs.Problem.{Problem, IsIn, corners_of, marker_of}
use Rattle.form_values.proofs.ByNumber.{item_at, assembled}
use Rattle.form_values.proofs.Cells.{corners_are, below}
use Rattle.form_values.proofs.IntervalMeshes.{item_of}
use Rattle.form_values.proofs.TriplesLaws.{from_start, same_entries, sums_are_triples}
use Rattle.planner.specs.Kernels.{GivesShares}
use Rattle.form_kernels.specs.Kernels.{room_of}
use Rattle.form_assembly.specs.Assembled.{IsFormAssembly, cell_count, cell_at, IsSolid, AreSolid, cell_room, IsFew, share_entries, HasValues, IsFirstFlat, IsTooLarge, Refuses}

-- ---- what an end says of a run
abbrev pub Reached : (Slots → Type 0) → End → Type 0
Reached P e = (s : Slots) × (tensor_of (answer e) ≡ s.a) × P s

good_ends : (Q Z : Type 0) (P : Slots → Type 0) (e : End) → Ends Q Z P e → is_good (answer e) ≡ true → Reached P e
good_ends Q Z P (m.Going s) h g = (s, refl, h)
good_ends Q Z P (m.Passed at op l r s) h g = cc
good_ends Q Z P (m.Zero at s) h g = cc

zero_ends : (Q Z : Type 0) (P : Slots → Type 0) (e : End) (cell at : ℕ) → Ends Q Z P e → StopsFor (answer e) (refusal.Zero cell at) → Z
zero_ends Q Z P (m.Going s) cell at h g = absurd g
zero_ends Q Z P (m.Passed n op l r s) cell at h g = absurd g
zero_ends Q Z P (m.Zero n s) cell at h g = h

passed_ends : (Q Z : Type 0) (P : Slots → Type 0) (e : End) (cell at : ℕ) (op : Op) (l r : Ratio) → Ends Q Z P e → StopsFor (answer e) (refusal.CellPassed cell at op l r) → Q
passed_ends Q Z P (m.Going s) cell at op l r h g = absurd g
passed_ends Q Z P (m.Passed n o x y s) cell at op l r h g = h
passed_ends Q Z P (m.Zero n s) cell at op l r h g = absurd g

not_less : (a b : ℕ) → (a < b → ⊥) → b ≤ a
not_less a b h = omega (arith, h)

-- ---- the coordinates of a cell of a mesh
point_is : (d : ℕ) (xs : List Fraction) → length xs ≡ d → d ≤ 3 → take d ((point_of xs).x ∷ (point_of xs).y ∷ (point_of xs).z ∷ []) ≡ xs
point_is zero [] h few = refl
point_is zero (x ∷ xs) h few = absurd (omega (arith, h))
point_is (suc d) [] h few = absurd (omega (arith, h))
point_is (suc zero) (x ∷ []) h few = refl
point_is (suc zero) (x ∷ y ∷ xs) h few = absurd (omega (arith, h))
point_is (suc (suc d)) (x ∷ []) h few = absurd (omega (arith, h))
point_is (suc (suc zero)) (x ∷ y ∷ []) h few = refl
point_is (suc (suc zero)) (x ∷ y ∷ z ∷ xs) h few = absurd (omega (arith, h))
point_is (suc (suc (suc d))) (x ∷ y ∷ []) h few = absurd (omega (arith, h))
point_is (suc (suc (suc zero))) (x ∷ y ∷ z ∷ []) h few = refl
point_is (suc (suc (suc zero))) (x ∷ y ∷ z ∷ w ∷ xs) h few = absurd (omega (arith, h))
point_is (suc (suc (suc (suc d)))) (x ∷ y ∷ z ∷ xs) h few = absurd (omega (arith, few))

coordinates_are : (mesh : MeshData Fraction) (d : ℕ) → d ≤ 3 → AllByRecursion (λ p. length p ≡ d) mesh.points → (vs : List ℕ) → are_below (length mesh.points) vs ≡ true
    → coordinates d (corners_of mesh vs) ≡ coordinates_of mesh vs
coordinates_are mesh d few points [] h = refl
coordinates_are mesh d few points (v ∷ vs) h =
    let parts = and_parts (nat_lt v (length mesh.points)) (are_below (length mesh.points) vs) h in
    ap₂ (λ a b. a ++ b)
    (point_is d (slice_index_or mesh.points v []) (item_of (λ (p : List Fraction). length p ≡ d) mesh.points v [] (below v (length mesh.points) parts.0) points) few)
    (coordinates_are mesh d few points vs parts.1)

few_dimensions : (c : Cell) → cell_dimension c ≤ 3
few_dimensions Interval = omega arith
few_dimensions Triangle = omega arith
few_dimensions Tetrahedron = omega arith

within : {A : Type 0} (xs : List A) (n : ℕ) (x : A) → slice_get xs n ≡ Some x → n < length xs
within [] n x h = cc
within (y ∷ xs) zero x h = omega arith
within (y ∷ xs) (suc n) x h = let k = within xs n x h in omega (arith, k)

there : {A : Type 0} (xs : List A) (n : ℕ) (d : A) → n < length xs → slice_get xs n ≡ Some (slice_index_or xs n d)
there [] n d h = absurd (omega (arith, h))
there (x ∷ xs) zero d h = refl
there (x ∷ xs) (suc n) d h = there xs n d (omega (arith, h))

some_is : (o : Option Fraction) (x : Fraction) → o ≡ Some x → IsSome o
some_is None x e = cc
some_is (Some y) x e = refl

none_is : (o : Option Fraction) → IsSome o → o ≡ None → ⊥
none_is None h e = cc
none_is (Some x) h e = cc

not_both : (b : Bool) → b ≡ false → b ≡ true → ⊥
not_both true h k = cc
not_both false h k = cc

-- ---- an assembly of a form
module _ (p : Problem) (o : Occurring) (weight : Weight) (s : Assembly) (is : IsFormAssembly p o weight s) where
  abbrev mesh_of : MeshData Fraction
  mesh_of = fractions s.runs.mesh

  cell_in : (k : ℕ) → k < cell_count p → IsIn (cell_at p k) p
  cell_in k h = record { vertices = there p.mesh.cells k [] h; corners = refl }

  -- the run on a cell, with the coordinates and the values that the form's shares are of
  abbrev end_on : CellOf → End
  end_on k =
      ran (fun_on s.runs.funs (marker_of p.mesh k.number)) (coordinates (cell_dimension p.mesh.kind) k.corners) (values_on p o.coefficients k)

  coordinates_on : (k : CellOf) → IsIn k p → coordinates_of p.mesh k.vertices ≡ coordinates (cell_dimension p.mesh.kind) k.corners
  coordinates_on k at =
      let mesh = is.fits.mesh in
      let cell = item_of (IsMeshCell (cell_dimension p.mesh.kind) (length p.mesh.points)) p.mesh.cells k.number [] (within p.mesh.cells k.number k.vertices at.vertices) mesh.cells in
      let here = item_at p.mesh.cells k.number k.vertices [] at.vertices in
      let inside : are_below (length p.mesh.points) k.vertices ≡ true = ap (are_below (length p.mesh.points)) (sym here) ∙ cell.in_range in
      sym (coordinates_are p.mesh (cell_dimension p.mesh.kind) (few_dimensions p.mesh.kind) mesh.points k.vertices inside)
      ∙ ap (coordinates (cell_dimension p.mesh.kind)) (sym at.corners)

  same_run : (mesh : MeshData Fraction) → mesh ≡ p.mesh → (k : CellOf) → IsIn k p → (xs : List Fraction) → xs ≡ values_on p o.coefficients k
      → answer (ran (fun_on s.runs.funs (run_marker mesh k.number)) (coordinates_of mesh (slice_index_or mesh.cells k.number [])) xs) ≡ answer (end_on k)
  same_run mesh e k at xs w =
      ap (λ (n : MeshData Fraction). answer (ran (fun_on s.runs.funs (run_marker n k.number)) (coordinates_of n (slice_index_or n.cells k.number [])) xs)) e
      ∙ ap₂ (λ vs ys. answer (ran (fun_on s.runs.funs (marker_of p.mesh k.number)) (coordinates_of p.mesh vs) ys)) (item_at p.mesh.cells k.number k.vertices [] at.vertices) w
      ∙ ap (λ xs. answer (ran (fun_on s.runs.funs (marker_of p.mesh k.number)) xs (values_on p o.coefficients k))) (coordinates_on k at)

  answer_is : (k : CellOf) → IsIn k p → answer_on s.runs k.number ≡ answer (end_on k)
  unfolding answer_on
  answer_is k at = same_run (fractions s.runs.mesh) is.mesh k at (flat_map (coefficient_values k.number) s.runs.coefs) (is.values k at)

  shares_at : (k : CellOf) → IsIn k p → GivesShares (Unit {0}) (density_on p (marker_of p.mesh k.number)) (layout_of p o) k.corners (values_on p o.coefficients k) (end_on k)
  shares_at k at =
      let cell = corners_are p k is.fits.mesh at in
      (is.runs (marker_of p.mesh k.number)).shares k.corners (values_on p o.coefficients k) cell.cell cell.dimension

  within_at : (k : CellOf) → IsIn k p → room_of p o weight k.corners (values_on p o.coefficients k) < 2 ^ 127
      → GivesShares ⊥ (density_on p (marker_of p.mesh k.number)) (layout_of p o) k.corners (values_on p o.coefficients k) (end_on k)
  within_at k at small =
      let cell = corners_are p k is.fits.mesh at in
      (is.runs (marker_of p.mesh k.number)).within k.corners (values_on p o.coefficients k) cell.cell cell.dimension small

  -- ---- a run that goes to its end
  reached : (k : CellOf) → IsIn k p → IsGoodOn s.runs k.number
      → Reached (λ t. (is_zero_fraction (volume k.corners) ≡ false) × (t.a ≡ shares_on p o k)) (end_on k)
  reached k at good = good_ends (Unit {0}) _ _ (end_on k) (shares_at k at) (ap is_good (sym (answer_is k at)) ∙ good)

  pub have_shares : AreGood s.runs → HaveShares p o (λ k. tensor_on s.runs k.number)
  have_shares good k at =
      let g : IsGoodOn s.runs k.number = good k.number (subst (λ n. k.number < n) (sym is.assembly.cells) (within p.mesh.cells k.number k.vertices at.vertices)) in
      let r = reached k at g in
      record { whole = λ e. r.2.0; shares = ap tensor_of (answer_is k at) ∙ r.1 ∙ r.2.1 }

  solid_at : (k : ℕ) → k < cell_count p → IsGoodOn s.runs k → IsSolid p k
  solid_at k h good = (reached (cell_at p k) (cell_in k h) good).2.0

  all_solid : AreGood s.runs → AreSolid p
  all_solid good k h = solid_at k h (good k (subst (λ n. k < n) (sym is.assembly.cells) h))

  pub entries_are : AreGood s.runs → run_entries s ≡ share_entries p o
  entries_are good =
      assembled p s is.fits.test is.fits.trial is.assembly
      ∙ same_entries p (λ k. tensor_on s.runs k.number) (shares_on p o) (λ k at. (have_shares good k at).shares) 0 p.mesh.cells (from_start p)

  same_count : A.cell_count s.runs * s.runs.funs.plain.a ≡ cell_count p * entry_count (layout_of p o)
  same_count = ap₂ (λ a b. a * b) is.assembly.cells is.size

  is_few : A.IsFew s.runs → IsFew p o
  is_few h = subst (λ n. n ≤ most_entries) same_count h

  pub sums_are_values : AreGood s.runs → (triples : List Entry) → AreSums (run_entries s) triples → AreTriples p triples
  sums_are_values good triples sums =
      sums_are_triples p o (λ k. tensor_on s.runs k.number) triples is.fits is.linear (have_shares good)
      (subst (λ es. AreSums es triples) (assembled p s is.fits.test is.fits.trial is.assembly) sums)

  pub has_values : A.IsFew s.runs → AreGood s.runs → (triples : List Entry) → AreSums (run_entries s) triples → HasValues p o
  has_values few good triples sums = record {
    few = is_few few;
    solid = all_solid good;
    sums = λ row col. some_is (added (values_at (share_entries p o) row col)) (entry_at triples row col)
        (ap (λ es. added (values_at es row col)) (sym (entries_are good)) ∙ sums.exact row col);
  }

  -- ---- a run that stops
  abbrev in_problem : (k : ℕ) → k < A.cell_count s.runs → k < cell_count p
  in_problem k h = subst (λ n. k < n) is.assembly.cells h

  stops_at : (k : ℕ) (e : RunRefusal) → k < cell_count p → StopsFor (answer_on s.runs k) e → StopsFor (answer (end_on (cell_at p k))) e
  stops_at k e h stops = subst (λ a. StopsFor a e) (answer_is (cell_at p k) (cell_in k h)) stops

  earlier_solid : (k : ℕ) → k < cell_count p → ((j : ℕ) → j < k → IsGoodOn s.runs j) → (j : ℕ) → j < k → IsSolid p j
  earlier_solid k h good j i = solid_at j (omega (arith, h, i)) (good j i)

  first_flat : (k at : ℕ) → StopsFirst s.runs k (refusal.Zero k at) → IsFirstFlat p o k
  first_flat k at first =
      let h = in_problem k first.cell in
      record {
        few = is_few first.few;
        cell = h;
        earlier = earlier_solid k h first.earlier;
        flat = zero_ends (Unit {0}) _ _ (end_on (cell_at p k)) k at (shares_at (cell_at p k) (cell_in k h)) (stops_at k (refusal.Zero k at) h first.stops);
      }

  first_large : (k at : ℕ) (op : Op) (l r : Ratio) → StopsFirst s.runs k (refusal.CellPassed k at op l r) → IsTooLarge p o weight k
  first_large k at op l r first =
      let h = in_problem k first.cell in
      record {
        few = is_few first.few;
        cell = h;
        earlier = earlier_solid k h first.earlier;
        large = not_less (cell_room p o weight k) (2 ^ 127) (λ small. passed_ends ⊥ _ _ (end_on (cell_at p k)) k at op l r (within_at (cell_at p k) (cell_in k h) small)
            (stops_at k (refusal.CellPassed k at op l r) h first.stops));
      }

  pub refuses : (e : RunRefusal) → Refused s e → Refuses p o weight e
  refuses refusal.TooManyEntries r = subst (λ n. most_entries < n) same_count r
  refuses (refusal.Zero cell at) r = first_flat cell at r
  refuses (refusal.CellPassed cell at op left right) r = first_large cell at op left right r
  refuses (refusal.SumPassed row col) r = record { few = is_few r.0; solid = all_solid r.1; passes = subst (λ es. PassesFirst es row col) (entries_are r.1) r.2 }
  refuses refusal.Memory r = tt

-- ---- where there are values, and all rooms are small, memory alone may be wanting
pub only_memory : (p : Problem) (o : Occurring) (weight : Weight) → HasValues p o → ((k : ℕ) → k < cell_count p → cell_room p o weight k < 2 ^ 127)
    → (e : RunRefusal) → Refuses p o weight e → e ≡ refusal.Memory
only_memory p o weight h small refusal.TooManyEntries r = absurd (clash _ _ h.few r)
  where
    clash : (a b : ℕ) → a ≤ b → b < a → ⊥
    clash a b x y = omega (arith, x, y)
only_memory p o weight h small (refusal.Zero cell at) r = absurd (not_both (is_zero_fraction (volume (cell_at p cell).corners)) (h.solid cell r.cell) r.flat)
only_memory p o weight h small (refusal.CellPassed cell at op left right) r = absurd (clash (cell_room p o weight cell) (2 ^ 127) (small cell r.cell) r.large)
  where
    clash : (a b : ℕ) → a < b → b ≤ a → ⊥
    clash a b x y = omega (arith, x, y)
only_memory p o weight h small (refusal.SumPassed row col) r = absurd (none_is (added (values_at (share_entries p o) row col)) (h.sums row col) r.passes.passes)
only_memory p o weight h small refusal.Memory r = refl
