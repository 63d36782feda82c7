-- What is made of an admitted form on a mesh of its cell
use Rattle.std.proofs.Common.{◌≡◌, ℕ, zero, suc, ◌≤◌, ◌⊎◌, inl, inr, Bool, true, false, refl, sym, ◌∙◌, ap, subst, List, [], ◌∷◌, Option, Some, None, Result, Ok, Err, if◌then◌else◌, arith}
use Rattle.std.specs.Prelude.{nat_le, nat_lt, slice_get}
use Rattle.std.specs.List.{AllByRecursion}
use Rattle.std.proofs.lemmas.Bool.{leb-true}
use Rattle.std.proofs.lemmas.Bool.Decides.{nat_tests}
use Rattle.algebra.specs.Fraction.{Fraction}
use Rattle.ratio.specs.declared.reduced.Ratio.{Ratio}
use Rattle.spaces.specs.declared.cell.Cell.{Cell}
use Rattle.spaces.specs.Cell.{dimension}
use Rattle.spaces.specs.declared.element_tree.ElementTree.{ElementTree}
use Rattle.spaces.specs.Reading.{space_of}
use Rattle.spaces.specs.Space.{Space, cell_of}
use Rattle.mesh_in.specs.MeshData.{MeshData, IsMesh, fractions}
use Rattle.dofs.specs.Rows.{Numbering, numbering}
use Rattle.dofs.proofs.Lists.{same_some}
use Rattle.monos.specs.declared.layout.Layout.{Layout}
use Rattle.monos.specs.declared.weight.Weight.{Weight}
use Rattle.ufl_tree.specs.FormTerm.{FormTerm}
use Rattle.ufl_tree.specs.Places.{IsLawfulTable, Table, table_of}
use Rattle.ufl_form.specs.declared.table.FormKind.{FormKind}
use Rattle.ufl_form.specs.Fits.{FormFits}
use Rattle.ufl_form.specs.Table.{AreTyped, form_kind, form_patterns}
use Rattle.weigh.specs.declared.refusal.WeightRefusal.{WeightRefusal}
use Rattle.weigh.specs.declared.refusal.WeightRefusal.TheVariants.{Arity}
use Rattle.weigh.specs.Weighing.{exact}
use Rattle.admit.specs.Admission.{admission, has_arity, rank_of}
use Rattle.typing.specs.Parts.{ArePartsFitting}
use Rattle.assembly.specs.declared.funs.Funs.{Funs}
use Rattle.assembly.specs.declared.funs.MarkedFun.{MarkedFun}
use Rattle.form_values.specs.Assembled.{argument_numbering}
use Rattle.form_values.specs.CellLayout.{Fits, IsElementOf, Occurring, layout_of}
use Rattle.form_values.specs.Problem.{Problem}
use Rattle.form_layouts.specs.Layouts.{element_at}
use Rattle.form_layouts.proofs.FitLaws.{form_fits}
use Rattle.form_layouts.specs.Problems.{arguments_of, form_problem, ranked}
use Rattle.arity.specs.Ranks.{HasItsRank}
use Rattle.arity.proofs.Multilinear.{admitted_multilinear}
use Rattle.form_kernels.specs.Admitted.{IsAdmittedForm, HasFormFunctions, HasFormLayout, occurring_in, problem_on}
use Rattle.form_kernels.specs.Kernels.{AreFunctions, IsFunction, marked_name, plain_name}
use Rattle.form_assembly.specs.Prepared.{AreRowsOf, IsPreparedForm}

pub not_above : (m n : ℕ) (b : Bool) → b ≡ nat_lt m n → b ≡ false → n ≤ m
not_above m n b is other = grind (arith, nat_tests)

-- ---- the rank
ranked_test : (n : ℕ) (e : Option ℕ) (b : Bool) → nat_le 1 n ≡ b → (ranked b e ≡ None) ⊎ (1 ≤ n)
ranked_test n e true h = inr (leb-true 1 n h)
ranked_test n e false h = inl refl

ranked_trial : (n : ℕ) (e : Option ℕ) (b : Bool) → nat_le 2 n ≡ b → (ranked b e ≡ None) ⊎ (2 ≤ n)
ranked_trial n e true h = inr (leb-true 2 n h)
ranked_trial n e false h = inl refl

pub has_its_rank : (elements : Table) (numbers : List ℕ) (f : FormTerm) (m : MeshData Fraction) (values : ℕ → List Fraction)
    → HasItsRank (form_problem elements numbers f m values)
has_its_rank elements numbers f m values = record {
  test = ranked_test (rank_of (form_patterns f)) _ (nat_le 1 (rank_of (form_patterns f))) refl;
  trial = ranked_trial (rank_of (form_patterns f)) _ (nat_le 2 (rank_of (form_patterns f))) refl;
}

pub admitted_arity : (d : ℕ) (elements : Table) (f : FormTerm) (w : Weight) → admission exact d elements f ≡ Ok w → has_arity (form_patterns f) ≡ true
admitted_arity d elements f w h = go (has_arity (form_patterns f)) _ h
  where
    go : (b : Bool) (r : Result Weight WeightRefusal) → (if b then r else Err Arity) ≡ Ok w → b ≡ true
    go true r h = refl
    go false r h = cc

-- ---- the functions, which don't ask for the cells of the mesh
module _ (elements : Table) (numbers : List ℕ) (f : FormTerm) (o : Occurring) (weight : Weight) (name : List ℕ) (m : MeshData Fraction) (values : ℕ → List Fraction) where
  abbrev here : Problem
  here = form_problem elements numbers f m values

  abbrev there : Problem
  there = problem_on elements numbers f m.kind

  function_here : (n : List ℕ) (g : _) → IsFunction there o weight n g → IsFunction here o weight n g
  function_here n g is =
      record { name_is = is.name_is; sizes = record { x = is.sizes.x; w = is.sizes.w; t = is.sizes.t; a = is.sizes.a }; lawful = is.lawful; bound = is.bound }

  marked_here : (gs : List MarkedFun) → AllByRecursion (λ (g : MarkedFun). IsFunction there o weight (marked_name g.marker name) g.fun) gs
      → AllByRecursion (λ (g : MarkedFun). IsFunction here o weight (marked_name g.marker name) g.fun) gs
  marked_here [] are = tt
  marked_here (g ∷ gs) are = (function_here (marked_name g.marker name) g.fun are.0, marked_here gs are.1)

  functions_here : (markers : List ℕ) (funs : Funs) → AreFunctions there o weight name markers funs → AreFunctions here o weight name markers funs
  functions_here markers funs are = record {
    plain = function_here (plain_name name) funs.plain are.plain;
    marked = marked_here funs.marked.items are.marked;
    markers = are.markers;
    small = are.small;
    runs = λ marker. record { shares = (are.runs marker).shares; within = (are.runs marker).within };
  }

pub functions_on : (elements : Table) (numbers : List ℕ) (f : FormTerm) (c : Cell) (o : Occurring) (weight : Weight) (name markers : List ℕ) (funs : Funs)
    (m : MeshData Fraction) (values : ℕ → List Fraction) → m.kind ≡ c
    → AreFunctions (problem_on elements numbers f c) o weight name markers funs → AreFunctions (form_problem elements numbers f m values) o weight name markers funs
functions_on elements numbers f c o weight name markers funs m values e are =
    functions_here elements numbers f o weight name m values markers funs (subst (λ k. AreFunctions (problem_on elements numbers f k) o weight name markers funs) (sym e) are)

-- ---- the rows
pub same_rows : (m : MeshData Ratio) (s : Space) (rows : Numbering) → rows ≡ numbering m s → AreRowsOf (Some s) (fractions m) (Some rows)
unfolding numbering
same_rows m s rows is p mesh = ap Some is ∙ ap (λ (n : MeshData Fraction). Some (numbering n s)) (sym mesh)

space_at : (es : List ElementTree) (n : ℕ) (e : ElementTree) → Some e ≡ slice_get es n → slice_get (table_of es) n ≡ Some (space_of e)
space_at [] n e h = cc
space_at (x ∷ es) zero e h = ap (λ t. Some (space_of t)) (same_some x e (sym h))
space_at (x ∷ es) (suc n) e h = space_at es n e h

pub found_rows : (es : List ElementTree) (n : ℕ) (e : ElementTree) (m : MeshData Ratio) (rows : Numbering) → Some e ≡ slice_get es n → rows ≡ numbering m (space_of e)
    → AreRowsOf (element_at (table_of es) (Some n)) (fractions m) (Some rows)
found_rows es n e m rows at is = subst (λ s. AreRowsOf s (fractions m) (Some rows)) (sym (space_at es n e at)) (same_rows m (space_of e) rows is)

-- an argument's element is on the mesh's cell
element_cell : (p : Problem) (e : Option ℕ) → IsElementOf p e → (s : Space) → element_at p.elements e ≡ Some s → p.mesh.kind ≡ cell_of s
element_cell p None is s at = cc
element_cell p (Some e) is s at = sym is.cell ∙ ap cell_of (same_some is.space s (sym is.found ∙ at))

-- those of a form's arguments
pub record AreOnItsCell (elements : Table) (f : FormTerm) (m : MeshData Fraction) : Type 0 where
  pub test : (s : Space) → element_at elements (ranked (nat_le 1 (rank_of (form_patterns f))) (arguments_of f).test) ≡ Some s → m.kind ≡ cell_of s
  pub trial : (s : Space) → element_at elements (ranked (nat_le 2 (rank_of (form_patterns f))) (arguments_of f).trial) ≡ Some s → m.kind ≡ cell_of s

pub argument_cells : (elements : Table) (numbers : List ℕ) (f : FormTerm) (k : FormKind) (w : Weight) (m : MeshData Fraction) → IsLawfulTable elements → AreTyped f → IsMesh m
    → IsAdmittedForm elements numbers f k w → m.kind ≡ k.cell → AreOnItsCell elements f m
argument_cells elements numbers f k w m lawful typed mesh is same =
    let p = form_problem elements numbers f m (λ n. []) in
    let fits = form_fits elements numbers f k m (λ n. []) (record { elements_lawful = lawful; typed = typed; fits = is.fits; numbered = is.numbered }) is.kind same mesh (λ n out. refl) in
    record { test = λ s at. element_cell p p.test fits.test s at; trial = λ s at. element_cell p p.trial fits.trial s at }

pub same_kind : (f : FormTerm) (j k : FormKind) (c : Cell) → form_kind f ≡ Ok j → c ≡ j.cell → form_kind f ≡ Ok k → c ≡ k.cell
same_kind f j k c h same is = let e : j ≡ k = cc in same ∙ ap (λ (x : FormKind). x.cell) e

-- ---- all of it
-- what a form and its table say of themselves, and what was made of them
pub record IsMade (elements : Table) (numbers : List ℕ) (f : FormTerm) (m : MeshData Fraction) (name : List ℕ) (l : Layout) (funs : Funs) (test trial : Option Numbering) : Type 0 where
  pub lawful : IsLawfulTable elements
  pub typed : AreTyped f
  pub fitting : FormFits elements f → ArePartsFitting elements f
  pub mesh : IsMesh m
  pub cell : (k : FormKind) → form_kind f ≡ Ok k → m.kind ≡ k.cell
  pub layout : (k : FormKind) (w : Weight) → IsAdmittedForm elements numbers f k w → HasFormLayout elements numbers f k.cell l
  pub functions : (k : FormKind) (w : Weight) → IsAdmittedForm elements numbers f k w → HasFormFunctions elements numbers f k.cell w name funs
  pub test_rows : AreRowsOf (element_at elements (form_problem elements numbers f m (λ n. [])).test) m test
  pub trial_rows : AreRowsOf (element_at elements (form_problem elements numbers f m (λ n. [])).trial) m trial

rows_are : (p : Problem) (e : Option ℕ) (rows : Option Numbering) → AreRowsOf (element_at p.elements e) p.mesh rows → rows ≡ argument_numbering p e
rows_are p None rows are = are p refl
rows_are p (Some e) rows are = are p refl

layout_moves : (elements : Table) (numbers : List ℕ) (f : FormTerm) (c : Cell) (o : Occurring) (m : MeshData Fraction) (values : ℕ → List Fraction) → m.kind ≡ c
    → layout_of (problem_on elements numbers f c) o ≡ layout_of (form_problem elements numbers f m values) o
layout_moves elements numbers f c o m values e = sym (ap (λ k. layout_of (problem_on elements numbers f k) o) e)

pub prepared : (elements : Table) (numbers : List ℕ) (f : FormTerm) (m : MeshData Fraction) (name : List ℕ) (l : Layout) (funs : Funs) (test trial : Option Numbering)
    → IsMade elements numbers f m name l funs test trial → IsPreparedForm elements numbers f m name l funs test trial
prepared elements numbers f m name l funs test trial made k w values is only =
    let p = form_problem elements numbers f m values in
    let o = occurring_in numbers f in
    let same = made.cell k is.kind in
    let functions = made.functions k w is in
    record {
      fits = form_fits elements numbers f k m values (record { elements_lawful = made.lawful; typed = made.typed; fits = is.fits; numbered = is.numbered }) is.kind same made.mesh only;
      linear = admitted_multilinear p o k (λ e. e) made.lawful made.typed is.fits is.numbered (made.fitting is.fits) is.kind
          (admitted_arity (dimension k.cell) elements f w is.admitted) (has_its_rank elements numbers f m values);
      layout = (made.layout k w is).is ∙ layout_moves elements numbers f k.cell o m values same;
      markers = functions.markers;
      are_markers = functions.are_markers;
      functions = functions_on elements numbers f k.cell o w name functions.markers funs m values same functions.functions;
      test_rows = rows_are p p.test test made.test_rows;
      trial_rows = rows_are p p.trial trial made.trial_rows;
    }
