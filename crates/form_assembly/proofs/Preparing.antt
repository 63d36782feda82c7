-- From what an assembly of a form is made of to the assembly
use Rattle.std.proofs.Common.{◌≡◌, ℕ, zero, suc, ◌*◌, ◌<◌, refl, sym, ◌∙◌, ap, ap₂, subst, arith, List, [], ◌∷◌, length, map, Option, Some, None}
use Rattle.std.specs.Prelude.{slice_get, slice_index_or}
use Rattle.std.specs.List.{AllByRecursion, AllPairs}
use Rattle.std.specs.List.Sorted.{IsStrictlyIncreasing}
use Rattle.std.proofs.lemmas.List.{length-map}
use Rattle.std.proofs.lemmas.List.Kept.{AllPairs-from_increasing}
use Rattle.algebra.specs.Fraction.{Fraction}
use Rattle.c_unit.specs.declared.unit.CFun.{CFun}
use Rattle.ratio.specs.declared.reduced.Ratio.{Ratio}
use Rattle.spaces.specs.declared.cell.Cell.{Cell}
use Rattle.spaces.specs.declared.parts.Part.{Part}
use Rattle.spaces.specs.declared.parts.Parts.{Parts}
use Rattle.spaces.specs.Scalar.{Scalar, local_size, laid_out}
use Rattle.spaces.specs.Space.{Space, scalars}
use Rattle.spaces.proofs.SpaceLaws.{lawful_some}
use Rattle.mesh_in.specs.MeshData.{MeshData, fractions}
use Rattle.dofs.specs.Label.{Label}
use Rattle.dofs.specs.Order.{label_cmp, place}
use Rattle.dofs.specs.Parts.{IsOn}
use Rattle.dofs.specs.Rows.{Numbering, cell_rows, local_labels, numbering}
use Rattle.dofs.proofs.TableLaws.{length_local}
use Rattle.monos.specs.declared.layout.Layout.{Layout}
use Rattle.monos.specs.declared.weight.Weight.{Weight}
use Rattle.refint.specs.Local.{count_in, entries_of}
use Rattle.assembly.specs.Assembly as A
use Rattle.assembly.specs.Assembly.{AreRising, IsDataOf, IsMapOf, assembly_of, entry_count, width_in, width_of}
use Rattle.assembly.specs.declared.coef_data.CoefData.{CoefData}
use Rattle.assembly.specs.declared.funs.Funs.{Funs}
use Rattle.assembly.specs.declared.funs.MarkedFun.{MarkedFun}
use Rattle.form_values.specs.Assembled.{argument_numbering, numbering_of}
use Rattle.form_values.specs.CellLayout.{Occurring, Fits, IsElement, IsElementOf, layout_of, parts_of}
use Rattle.form_values.specs.Problem.{Problem, space_in}
use Rattle.form_values.proofs.Elements.{OnMesh, on_mesh}
use Rattle.form_values.proofs.Starts.{parts_on}
use Rattle.form_kernels.specs.Kernels.{IsFunction, marked_name, plain_name}
use Rattle.form_assembly.specs.Assembled.{IsFormAssembly}
use Rattle.form_assembly.specs.Prepared.{IsPrepared, HaveValues}

-- ---- the rows of an argument
many_rows : (c : Cell) (ss : List Scalar) (ls : List Label) (k : ℕ) (cells : List (List ℕ)) → length (cell_rows c ss ls k cells) ≡ length cells
many_rows c ss ls k [] = refl
many_rows c ss ls k (vs ∷ cells) = ap suc (many_rows c ss ls (suc k) cells)

wide_rows : (c : Cell) (ss : List Scalar) (ls : List Label) (k : ℕ) (cells : List (List ℕ)) → AllByRecursion (IsOn c) ss
    → AllByRecursion (λ (rows : List ℕ). length rows ≡ local_size ss) (cell_rows c ss ls k cells)
wide_rows c ss ls k [] on = tt
wide_rows c ss ls k (vs ∷ cells) on = (
  length-map (local_labels c zero ss k vs) (λ l. place label_cmp l ls) ∙ length_local c zero ss k vs on,
  wide_rows c ss ls (suc k) cells on,
)

-- a list of parts that isn't empty has as many rows as it has nodes
width_is : (ss : List Scalar) → 0 < length ss → width_of (laid_out ss) ≡ local_size ss
width_is [] h = absurd (omega (arith, h))
width_is (s ∷ ss) h = refl

found_map : (p : Problem) (s : Space) → 0 < length (scalars s) → OnMesh p (Some s) → IsMapOf (length p.mesh.cells) (width_of (laid_out (scalars s))) (Some (numbering p.mesh s))
unfolding numbering
found_map p s some on = (
  many_rows p.mesh.kind (scalars s) _ 0 p.mesh.cells,
  subst (λ w. AllByRecursion (λ (rows : List ℕ). length rows ≡ w) (numbering p.mesh s).cells) (sym (width_is (scalars s) some))
      (wide_rows p.mesh.kind (scalars s) _ 0 p.mesh.cells (parts_on p.mesh.kind (scalars s) (on s refl))),
)

element_map : (p : Problem) (e : ℕ) → IsElement p e → OnMesh p (slice_get p.elements e)
    → IsMapOf (length p.mesh.cells) (width_of (parts_of (slice_get p.elements e))) (numbering_of p (slice_get p.elements e))
element_map p e is on =
    subst (λ o. IsMapOf (length p.mesh.cells) (width_of (parts_of o)) (numbering_of p o)) (sym is.found)
    (found_map p is.space (lawful_some is.space is.lawful) (subst (OnMesh p) is.found on))

argument_map : (p : Problem) (e : Option ℕ) → IsElementOf p e → IsMapOf (length p.mesh.cells) (width_of (parts_of (space_in p e))) (argument_numbering p e)
argument_map p None is = refl
argument_map p (Some e) is = element_map p e is (on_mesh p (Some e) is)

-- ---- the functions
rising_above : (m : MarkedFun) (ms : List MarkedFun) → ((j : ℕ) → j < length ms → (d : ℕ) → m.marker < slice_index_or (map (λ (x : MarkedFun). x.marker) ms) j d)
    → AllByRecursion (λ (later : MarkedFun). m.marker < later.marker) ms
rising_above m [] h = tt
rising_above m (x ∷ ms) h = (h 0 (omega arith) 0, rising_above m ms (λ j lt d. h (suc j) (omega (arith, lt)) d))

are_rising : (ms : List MarkedFun) → AllPairs (λ (a b : ℕ). a < b) (map (λ (x : MarkedFun). x.marker) ms) → AreRising ms
are_rising [] h = tt
are_rising (m ∷ ms) h = (
  rising_above m ms (λ j lt d. h 0 (suc j) d (omega arith) (omega (arith, lt, length-map ms (λ (x : MarkedFun). x.marker)))),
  are_rising ms (λ i j d lt below. h (suc i) (suc j) d (omega (arith, lt)) (omega (arith, below))),
)

pub functions_rise : (funs : Funs) (markers : List ℕ) → map (λ (x : MarkedFun). x.marker) funs.marked.items ≡ markers → IsStrictlyIncreasing markers
    → AreRising funs.marked.items
functions_rise funs markers are rising =
    are_rising funs.marked.items
    (AllPairs-from_increasing (map (λ (x : MarkedFun). x.marker) funs.marked.items) (subst IsStrictlyIncreasing (sym are) rising))

-- as many entries by the parts of either crate
same_count : (ps : List Part) (n : ℕ) → count_in ps n ≡ width_in ps n
same_count [] n = refl
same_count (p ∷ ps) n = refl

same_width : (l : Layout) → entries_of l.rows * entries_of l.cols ≡ entry_count l
same_width l = ap₂ (λ a b. a * b) (same_count l.rows.items l.rows.local) (same_count l.cols.items l.cols.local)

module _ (p : Problem) (o : Occurring) (weight : Weight) (name : List ℕ) (l : Layout) (funs : Funs) (test trial : Option Numbering)
    (is : IsPrepared p o weight name l funs test trial) (m : MeshData Ratio) (mesh : fractions m ≡ p.mesh) (coefs : List CoefData) where
  size_is : (n : List ℕ) (f : CFun) → IsFunction p o weight n f → f.a ≡ entry_count l
  size_is n f h = h.sizes.a ∙ same_width (layout_of p o) ∙ ap entry_count (sym is.layout)

  sizes_are : (ms : List MarkedFun) → AllByRecursion (λ (x : MarkedFun). IsFunction p o weight (marked_name x.marker name) x.fun) ms
      → AllByRecursion (λ (x : MarkedFun). x.fun.a ≡ entry_count l) ms
  sizes_are [] h = tt
  sizes_are (x ∷ ms) h = (size_is (marked_name x.marker name) x.fun h.0, sizes_are ms h.1)

  cells_are : length m.cells ≡ length p.mesh.cells
  cells_are = ap (λ (n : MeshData Fraction). length n.cells) mesh

  map_of : (e : Option ℕ) (n : Option Numbering) (ps : Parts) → n ≡ argument_numbering p e → ps ≡ parts_of (space_in p e) → IsElementOf p e
      → IsMapOf (length m.cells) (width_of ps) n
  map_of e n ps rows parts element =
      subst (λ k. IsMapOf k (width_of ps) n) (sym cells_are)
      (subst (λ q. IsMapOf (length p.mesh.cells) (width_of q) n) (sym parts)
      (subst (λ r. IsMapOf (length p.mesh.cells) (width_of (parts_of (space_in p e))) r) (sym rows) (argument_map p e element)))

  pub assembly_fits : AllByRecursion (IsDataOf (length m.cells)) coefs → A.Fits l (assembly_of funs m test trial coefs)
  assembly_fits fit = record {
    runs = record {
      plain = size_is (plain_name name) funs.plain is.functions.plain;
      marked = sizes_are funs.marked.items is.functions.marked;
      rising = functions_rise funs is.markers is.functions.markers is.are_markers.rising;
      coefs = fit;
    };
    rows = map_of p.test test l.rows is.test_rows (ap (λ (k : Layout). k.rows) is.layout) is.fits.test;
    cols = map_of p.trial trial l.cols is.trial_rows (ap (λ (k : Layout). k.cols) is.layout) is.fits.trial;
  }

  pub assembly_is : HaveValues p o coefs → IsFormAssembly p o weight (assembly_of funs m test trial coefs)
  assembly_is values = record {
    fits = is.fits;
    linear = is.linear;
    mesh = mesh;
    assembly = record { cells = cells_are; rows = is.test_rows; cols = is.trial_rows };
    size = is.functions.plain.sizes.a ∙ same_width (layout_of p o);
    values = values;
    runs = is.functions.runs;
  }
