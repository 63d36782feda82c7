-- The elements of a table as the code finds them, their parts, and the places of coefficients
use Rattle.std.proofs.Common.{◌≡◌, ℕ, zero, suc, ◌+◌, ◌-◌, ◌<◌, ◌≤◌, ◌^◌, List, [], ◌∷◌, ◌++◌, length, drop, get_or, if◌then◌else◌, Option, None, Some, slice_get, Ok, Err, IfOk, IsOk, refl, sym, ap, ◌∙◌, arith, subst, add-one, drop-cons, append_assoc}
use Rattle.std.proofs.lemmas.Option.{slice_get-map}
use Rattle.std.proofs.lemmas.List.{append-nil, drop_all}
use Rattle.std.specs.Option.{option_map}
use Rattle.spaces.specs.declared.element_tree.ElementTree.{ElementTree}
use Rattle.spaces.specs.declared.parts.Part.{Part}
use Rattle.spaces.specs.declared.parts.Parts.{Parts}
use Rattle.spaces.specs.declared.cell.Cell.{Cell}
use Rattle.spaces.specs.Cell.{dimension}
use Rattle.spaces.specs.Reading.{space_of}
use Rattle.spaces.specs.Scalar.{Scalar, placed, local_size, laid_out, part_at}
use Rattle.spaces.specs.Space.{Space, scalars, IsLawful}
use Rattle.spaces.proofs.SpaceLaws.{local_size_few, lawful_some}
use Rattle.monos.specs.declared.layout.CoefPlace.{CoefPlace}
use Rattle.monos.specs.declared.layout.Layout.{Layout}
use Rattle.monos.specs.Layout.{value_count, position_parts}
use Rattle.ufl_tree.specs.FormTerm.{FormTerm}
use Rattle.ufl_tree.specs.Places.{Table, table_of}
use Rattle.ufl_form.specs.declared.table.FormKind.{FormKind}
use Rattle.ufl_form.specs.Table.{Verdict, form_kind}
use Rattle.algebra.specs.Fraction.{Fraction}
use Rattle.mesh_in.specs.MeshData.{MeshData}
use Rattle.assembly.specs.Assembly.{entry_count, width_of}
use Rattle.form_values.specs.CellLayout.{Occurring, coefficient_space, layout_of, parts_of, places_from}
use Rattle.form_values.specs.Problem.{Problem, space_in}
use Rattle.form_layouts.specs.Layouts.{element_at, IsLayoutOf}
use Rattle.form_layouts.specs.Occurring.{occurring}
use Rattle.form_layouts.specs.Problems.{arguments_by, form_problem, no_cells}

-- ---- elements by their numbers
pub element_found : (es : List ElementTree) (n : ℕ) (e : ElementTree) → slice_get es n ≡ Some e → element_at (table_of es) (Some n) ≡ Some (space_of e)
element_found es n e at = slice_get-map space_of es n ∙ ap (option_map space_of) at

pub element_missing : (es : List ElementTree) (n : ℕ) → slice_get es n ≡ None → element_at (table_of es) (Some n) ≡ None
element_missing es n at = slice_get-map space_of es n ∙ ap (option_map space_of) at

pub element_in : (p : Problem) (e : Option ℕ) → space_in p e ≡ element_at p.elements e
element_in p None = refl
element_in p (Some e) = refl

-- ---- the elements of the arguments
pub test_is : (v : Verdict) (e : Option ℕ) → IsOk v → IfOk v (λ (k : FormKind). k.arguments.test ≡ e) → e ≡ (arguments_by v).test
test_is (Ok k) e ok h = sym h
test_is (Err r) e ok h = cc

pub trial_is : (v : Verdict) (e : Option ℕ) → IsOk v → IfOk v (λ (k : FormKind). k.arguments.trial ≡ e) → e ≡ (arguments_by v).trial
trial_is (Ok k) e ok h = sym h
trial_is (Err r) e ok h = cc

-- ---- local values
-- behind the last part no local value stands
last_placed : (n : ℕ) (s : Scalar) (ss : List Scalar) (k : ℕ) (p : Part) → k ≡ length ss → slice_get (placed n (s ∷ ss)) k ≡ Some p → p.offset + p.nodes ≡ n + local_size (s ∷ ss)
last_placed n s [] zero p e at = let same : part_at n s ≡ p = cc in omega (arith, ap (λ (x : Part). x.offset + x.nodes) same)
last_placed n s [] (suc k) p e at = absurd (omega arith)
last_placed n s (t ∷ ss) zero p e at = absurd (omega arith)
last_placed n s (t ∷ ss) (suc k) p e at = omega (arith, last_placed (n + s.nodes) t ss k p (omega arith) at)

last_of_all : (ss : List Scalar) (k : ℕ) (p : Part) → 0 < length ss → k ≡ length ss - 1 → slice_get (placed 0 ss) k ≡ Some p → p.offset + p.nodes ≡ local_size ss
last_of_all [] k p some e at = absurd (omega arith)
last_of_all (s ∷ ss) k p some e at = omega (arith, last_placed 0 s ss k p (omega arith) at)

width_laid : (ss : List Scalar) → 0 < length ss → width_of (laid_out ss) ≡ local_size ss
width_laid [] some = absurd (omega arith)
width_laid (s ∷ ss) some = refl

pub last_width : (s : Space) (k : ℕ) (p : Part) → 0 < length (scalars s) → k ≡ length (scalars s) - 1 → slice_get (placed 0 (scalars s)) k ≡ Some p
    → p.offset + p.nodes ≡ width_of (laid_out (scalars s))
last_width s k p some e at = last_of_all (scalars s) k p some e at ∙ sym (width_laid (scalars s) some)

pub width_few : (s : Space) → IsLawful s → length (scalars s) ≤ 64 → width_of (laid_out (scalars s)) ≤ 1280
width_few s lawful few = omega (arith, width_laid (scalars s) (lawful_some s lawful), local_size_few s lawful)

part_here : (n : ℕ) (ss : List Scalar) (k : ℕ) → k < length ss → slice_get (placed n ss) k ≡ None → ⊥
part_here n [] k h at = omega arith
part_here n (s ∷ ss) zero h at = cc
part_here n (s ∷ ss) (suc k) h at = part_here (n + s.nodes) ss k (omega arith) at

pub last_is : (s : Space) (k : ℕ) → 0 < length (scalars s) → k ≡ length (scalars s) - 1 → slice_get (placed 0 (scalars s)) k ≡ None → ⊥
last_is s k some e at = part_here 0 (scalars s) k (omega arith) at

-- ---- places
pub value_count-append : (cs : List CoefPlace) (c : CoefPlace) → value_count (cs ++ c ∷ []) ≡ value_count cs + c.parts.local
value_count-append [] c = omega arith
value_count-append (b ∷ cs) c = omega (arith, value_count-append cs c)

-- the places of the numbers from i on, behind those of the numbers before
pub next_place : (p : Problem) (ns : List ℕ) (i n offset : ℕ) (parts : Parts) (all before : List CoefPlace) → i < length ns → n ≡ get_or ns i 0
    → parts ≡ parts_of (coefficient_space p n) → all ≡ before ++ places_from p offset (drop i ns)
    → all ≡ (before ++ record { number = n; offset = offset; parts = parts } ∷ []) ++ places_from p (offset + parts.local) (drop (i + 1) ns)
next_place p ns i n offset parts all before within at are so_far =
    so_far
    ∙ ap (λ ms. before ++ places_from p offset ms) (drop-cons ns i 0 within ∙ ap (λ m. m ∷ drop (suc i) ns) (sym at) ∙ ap (λ j. n ∷ drop j ns) (sym (add-one i)))
    ∙ ap (λ (ps : Parts). before ++ (record { number = n; offset = offset; parts = ps } ∷ places_from p (offset + ps.local) (drop (i + 1) ns))) (sym are)
    ∙ sym (append_assoc before (record { number = n; offset = offset; parts = parts } ∷ []) (places_from p (offset + parts.local) (drop (i + 1) ns)))

-- ---- the layout
pub kind_cell : (v : Verdict) (k : FormKind) (c : Cell) → v ≡ Ok k → IfOk v (λ (k : FormKind). k.cell ≡ c) → k.cell ≡ c
kind_cell (Ok a) k c is h = let same : a ≡ k = cc in ap (λ (x : FormKind). x.cell) (sym same) ∙ h
kind_cell (Err r) k c is h = cc

-- what the code puts together, part by part
pub record HasParts (p : Problem) (o : Occurring) (l : Layout) : Type 0 where
  pub cell : Cell
  pub kind : p.mesh.kind ≡ cell
  pub d : l.d ≡ dimension cell
  pub rows : l.rows ≡ parts_of (element_at p.elements p.test)
  pub cols : l.cols ≡ parts_of (element_at p.elements p.trial)
  pub coefs : l.coefs ≡ places_from p 0 o.coefficients
  pub position : l.position ≡ (if o.position then Some (position_parts cell) else None)

pub layout_is : (p : Problem) (o : Occurring) (l : Layout) → HasParts p o l → l ≡ layout_of p o
layout_is p o l h =
    let cell = sym h.kind in
    let d : l.d ≡ (layout_of p o).d = h.d ∙ ap dimension cell in
    let rows : l.rows ≡ (layout_of p o).rows = h.rows ∙ ap parts_of (sym (element_in p p.test)) in
    let cols : l.cols ≡ (layout_of p o).cols = h.cols ∙ ap parts_of (sym (element_in p p.trial)) in
    let position : l.position ≡ (layout_of p o).position = h.position ∙ ap (λ c. if o.position then Some (position_parts c) else None) cell in
    ap (λ x. let r : Layout = record { d = x; rows = l.rows; cols = l.cols; coefs = l.coefs; position = l.position } in r) d
    ∙ ap (λ x. let r : Layout = record { d = (layout_of p o).d; rows = x; cols = l.cols; coefs = l.coefs; position = l.position } in r) rows
    ∙ ap (λ x. let r : Layout = record { d = (layout_of p o).d; rows = (layout_of p o).rows; cols = x; coefs = l.coefs; position = l.position } in r) cols
    ∙ ap (λ x. let r : Layout = record { d = (layout_of p o).d; rows = (layout_of p o).rows; cols = (layout_of p o).cols; coefs = x; position = l.position } in r) h.coefs
    ∙ ap (λ x. let r : Layout = record { d = (layout_of p o).d; rows = (layout_of p o).rows; cols = (layout_of p o).cols; coefs = (layout_of p o).coefs; position = x } in r) position

-- ---- what the code puts together
pub coefficient_parts : (p : Problem) (es : List ElementTree) (ns : List ℕ) (n : ℕ) (e : Option ℕ) (parts : Parts) → p.elements ≡ table_of es → p.coefficients ≡ ns → e ≡ slice_get ns n
    → parts ≡ parts_of (element_at (table_of es) e) → parts ≡ parts_of (coefficient_space p n)
coefficient_parts p es ns n e parts same_elements same_numbers at are =
    are
    ∙ ap (λ o. parts_of (element_at (table_of es) o)) (at ∙ ap (λ ms. slice_get ms n) (sym same_numbers))
    ∙ ap (λ t. parts_of (element_at t (slice_get p.coefficients n))) (sym same_elements)
    ∙ ap parts_of (sym (element_in p (slice_get p.coefficients n)))

pub all_places : (p : Problem) (ns : List ℕ) (i offset : ℕ) (all before : List CoefPlace) → length ns ≤ i → all ≡ before ++ places_from p offset (drop i ns) → before ≡ all
all_places p ns i offset all before past so_far = sym (so_far ∙ ap (λ ms. before ++ places_from p offset ms) (drop_all i ns past) ∙ append-nil before)

pub given_layout : (t : Table) (ns : List ℕ) (f : FormTerm) (l : Layout)
    → ((k : FormKind) (m : MeshData Fraction) (values : ℕ → List Fraction) → form_kind f ≡ Ok k → m.kind ≡ k.cell → HasParts (form_problem t ns f m values) (occurring (length ns) f) l)
    → IsLayoutOf t ns f l
given_layout t ns f l has = record { layout = λ k m values is kind. layout_is (form_problem t ns f m values) (occurring (length ns) f) l (has k m values is kind) }

-- the layout on a mesh without cells
pub layout_here : (t : Table) (ns : List ℕ) (f : FormTerm) (k : FormKind) (l : Layout) → IsLayoutOf t ns f l → form_kind f ≡ Ok k
    → l ≡ layout_of (form_problem t ns f (no_cells k.cell) (λ n. [])) (occurring (length ns) f)
layout_here t ns f k l is kind = is.layout k (no_cells k.cell) (λ n. []) kind refl

pub few_entries : (t : Table) (ns : List ℕ) (f : FormTerm) (l : Layout) (count : ℕ) → IsLayoutOf t ns f l → IsOk (form_kind f) → count ≤ 2 ^ 24
    → ((ns : List ℕ) (m : MeshData Fraction) (values : ℕ → List Fraction) (o : Occurring) → count ≡ entry_count (layout_of (form_problem t ns f m values) o)) → entry_count l ≤ 2 ^ 24
few_entries t ns f l count is ok few counts = by_kind (form_kind f) refl ok
  where
    by_kind : (v : Verdict) → form_kind f ≡ v → IsOk v → entry_count l ≤ 2 ^ 24
    by_kind (Ok k) kind ok =
        subst (λ n. n ≤ 2 ^ 24) (counts ns (no_cells k.cell) (λ n. []) (occurring (length ns) f) ∙ ap entry_count (sym (layout_here t ns f k l is kind))) few
    by_kind (Err r) kind ok = cc
