-- The builders of forms keep what holds at each integrand and at each function that they name
use Rattle.std.proofs.Common.{◌≡◌, true≢false, ℕ, zero, suc, ◌++◌, ◌==◌, ◌&&◌, List, [], ◌∷◌, Option, None, Some, slice_get, Bool, true, false, if◌then◌else◌, refl, sym, ap, ◌∙◌, subst, Ok, Err}
use Rattle.std.proofs.lemmas.Bool.{eqb-true}
use Rattle.ratio.specs.declared.reduced.Ratio.{Ratio}
use Rattle.spaces.specs.declared.cell.Cell.{Cell}
use Rattle.spaces.specs.Space.{Space, cell_of}
use Rattle.ufl_tree.specs.declared.function.Function.{Function}
use Rattle.ufl_tree.specs.declared.function.Role.{Role}
use Rattle.ufl_tree.specs.declared.tree.Tree.{Tree}
use Rattle.ufl_tree.specs.FormTerm.{FormTerm, integral, sum, scale, left, right, action, adjoint, derivative}
use Rattle.ufl_tree.specs.Functions.{EachPart}
use Rattle.ufl_tree.specs.Reading.{typed_of}
use Rattle.ufl_tree.specs.Typed.{Typed}
use Rattle.ufl_tree.specs.Places.{Table}
use Rattle.ufl_tree.proofs.FunctionLaws.{part_weaker}
use Rattle.ufl_expr.specs.declared.refusal.TypeRefusal.{TypeRefusal}
use Rattle.ufl_expr.specs.declared.refusal.TypeRefusal.TheVariants.{Nodes, Kind as OfKind}
use Rattle.ufl_expr.specs.Elements.{IsSpaceOn, IsOn}
use Rattle.ufl_expr.specs.Fits.{FitsTable}
use Rattle.ufl_expr.specs.Numbered.{HasItsElement, IsNumbered}
use Rattle.spaces.specs.Cell.{same_cell}
use Rattle.spaces.proofs.EqualityLaws.{cell_true}
use Rattle.ufl_expr.proofs.FitLaws.{fits_longer, element_longer, numbered_longer}
use Rattle.ufl_form.specs.declared.form_tree.FormTree.{FormTree}
use Rattle.ufl_form.specs.declared.form_tree.FormTree.TheVariants as v
use Rattle.ufl_form.specs.declared.arguments.Arguments.{Arguments}
use Rattle.ufl_form.specs.declared.table.FormKind.{FormKind}
use Rattle.ufl_form.specs.Arguments.{argument, joined}
use Rattle.ufl_form.specs.Reading.{form_of}
use Rattle.ufl_form.specs.Table.{Verdict, AreTyped, form_kind, verdict_cell, form_cell, further, element_of, has_element, dropped, is_coefficient, is_direction, action_kind, is_last, last_kind, last_of, form_patterns, derivative_kind, with_arguments, is_constant, varies_on, turned_kind}
use Rattle.ufl_form.specs.Building.{fits, checked, formed, derived_from, derived, BuildersKeep}
use Rattle.ufl_form.specs.Fits.{IsOnForm, FormFits, Fits, BuildersFit}
use Rattle.ufl_form.specs.Numbered.{FormIsNumbered, Numbered, BuildersNumber}
use Rattle.ufl_form.proofs.CellLaws.{argument_on}
use Rattle.ufl_form.proofs.FormReadings.{form_of-Integral, form_of-Sum, form_of-Scale, form_of-Left, form_of-Right, form_of-Action, form_of-Adjoint, form_of-Derivative}

choice_same : (b : Bool) (s t : FormTree) → (if b then Ok s else Err Nodes) ≡ Ok t → s ≡ t
choice_same true s t h = cc
choice_same false s t h = cc

checked_same : (w : Verdict) (s t : FormTree) → checked w s ≡ Ok t → s ≡ t
unfolding checked
checked_same (Err r) s t h = cc
checked_same (Ok k) s t h = choice_same (fits (form_of s)) s t h

-- what is built is the tree that was asked for
formed_same : (s t : FormTree) → formed s ≡ Ok t → s ≡ t
unfolding formed
formed_same s t h = checked_same (form_kind (form_of s)) s t h

-- what is built is lawful
record IsLawful (t : FormTree) : Type 0 where
  kind : FormKind
  is : form_kind (form_of t) ≡ Ok kind

checked_lawful : (w : Verdict) (s t : FormTree) → form_kind (form_of s) ≡ w → checked w s ≡ Ok t → IsLawful s
unfolding checked
checked_lawful (Err r) s t e h = cc
checked_lawful (Ok k) s t e h = record { kind = k; is = e }

formed_lawful : (s t : FormTree) → formed s ≡ Ok t → IsLawful s
unfolding formed
formed_lawful s t h = checked_lawful (form_kind (form_of s)) s t refl h

read_keeps : (R : FormTerm → Type 0) (s t : FormTree) (f : FormTerm) → formed s ≡ Ok t → form_of s ≡ f → R f → R (form_of t)
read_keeps R s t f h e r = subst R (sym e ∙ ap form_of (formed_same s t h)) r

-- E of integrands and N of named functions
abbrev PartIn : (Typed → Type 0) → (FormTerm → Function → Type 0) → FormTree → Type 0
PartIn E N t = EachPart E N (form_of t)

builders_keep : (E : Typed → Type 0) (N : FormTerm → Function → Type 0) → BuildersKeep (λ e. E (typed_of e)) (PartIn E N)
builders_keep E N = record {
  of_integral = λ m e t h p. read_keeps (EachPart E N) (v.Integral m e) t _ h (form_of-Integral m e) p;
  of_sum = λ f g t h p q. read_keeps (EachPart E N) (v.Sum f g) t _ h (form_of-Sum f g) (p, q);
  of_scale = λ c f t h p. read_keeps (EachPart E N) (v.Scale c f) t _ h (form_of-Scale c f) p;
  of_left = λ f t h p. read_keeps (EachPart E N) (v.Left f) t _ h (form_of-Left f) p;
  of_right = λ f t h p. read_keeps (EachPart E N) (v.Right f) t _ h (form_of-Right f) p;
  of_adjoint = λ f t h p. read_keeps (EachPart E N) (v.Adjoint f) t _ h (form_of-Adjoint f) p;
}

keeps_action : (E : Typed → Type 0) (N : FormTerm → Function → Type 0) (f : FormTree) (last : Role) (g : Function) (t : FormTree) → formed (v.Action f last g) ≡ Ok t
    → PartIn E N f → N (form_of f) g → PartIn E N t
keeps_action E N f last g t h p q = read_keeps (EachPart E N) (v.Action f last g) t _ h (form_of-Action f last g) (p, q)

keeps_derivative : (E : Typed → Type 0) (N : FormTerm → Function → Type 0) (f : FormTree) (w du : Function) (t : FormTree) → formed (v.Derivative f w du) ≡ Ok t
    → PartIn E N f → N (form_of f) w → N (form_of f) du → PartIn E N t
keeps_derivative E N f w du t h p q r = read_keeps (EachPart E N) (v.Derivative f w du) t _ h (form_of-Derivative f w du) (p, q, r)

-- ---- actions
-- f's kind, and what replaces the last argument has that argument's element
record Acts (v : Verdict) (last : Role) (g : Function) : Type 0 where
  kind : FormKind
  is : v ≡ Ok kind
  same : element_of last kind.arguments ≡ Some g.element

has_some : (x : Option ℕ) (e : ℕ) → has_element x e ≡ true → x ≡ Some e
has_some None e h = absurd (true≢false (sym h))
has_some (Some a) e h = ap Some (eqb-true a e h)

action_tests : (b c : Bool) (w : Verdict) (j : FormKind) → (if b then (if c then w else Err OfKind) else Err OfKind) ≡ Ok j → c ≡ true
action_tests true true w j h = refl
action_tests true false w j h = cc
action_tests false c w j h = cc

last_tests : (b : Bool) (w : Verdict) (j : FormKind) → last_kind b w ≡ Ok j → w ≡ Ok j
last_tests true w j h = h
last_tests false w j h = cc

acts_from : (w : Verdict) (b : Bool) (last : Role) (g : Function) (j : FormKind) → further w (λ a. last_kind b (action_kind a last g)) ≡ Ok j → Acts w last g
acts_from (Err r) b last g j h = cc
acts_from (Ok k) b last g j h =
    record {
      kind = k;
      is = refl;
      same =
          has_some (element_of last k.arguments) g.element
          (action_tests (is_coefficient g.role) (has_element (element_of last k.arguments) g.element)
          (Ok (record { cell = k.cell; arguments = dropped last k.arguments })) j (last_tests b (action_kind k last g) j h));
    }

acts : (f : FormTree) (last : Role) (g : Function) (t : FormTree) → formed (v.Action f last g) ≡ Ok t → Acts (form_kind (form_of f)) last g
unfolding form_kind
acts f last g t h =
    let L = formed_lawful (v.Action f last g) t h in
    acts_from (form_kind (form_of f)) (is_last last (last_of (form_patterns (form_of f)))) last g L.kind (sym (ap form_kind (form_of-Action f last g)) ∙ L.is)

action_on : (table : Table) (f : FormTree) (last : Role) (g : Function) (t : FormTree) → formed (v.Action f last g) ≡ Ok t → AreTyped (form_of f) → Fits table f
    → IsOnForm table (form_of f) g
action_on table f last g t h typed F =
    let A = acts f last g t h in
    subst (λ x. IsSpaceOn (verdict_cell x) (slice_get table g.element)) (sym A.is) (argument_on table (form_of f) A.kind typed F A.is last g.element A.same)

-- ---- derivatives
same_from : (v : Verdict) (w du : Function) (j : FormKind) → further v (λ a. derivative_kind a w du) ≡ Ok j → w.element ≡ du.element
same_from (Err r) w du j h = cc
same_from (Ok k) w du j h = eqb-true w.element du.element (action_tests (is_coefficient w.role && is_direction du.role) (w.element == du.element)
    (with_arguments k.cell (joined k.arguments (argument du))) j h)

same_elements : (f : FormTree) (w du : Function) (t : FormTree) → formed (v.Derivative f w du) ≡ Ok t → w.element ≡ du.element
unfolding form_kind
same_elements f w du t h =
    let L = formed_lawful (v.Derivative f w du) t h in
    same_from (form_kind (form_of f)) w du L.kind (sym (ap form_kind (form_of-Derivative f w du)) ∙ L.is)

fits_derivative : (table : Table) (f : FormTree) (w du : Function) (t : FormTree) → formed (v.Derivative f w du) ≡ Ok t → Fits table f → IsOnForm table (form_of f) w → Fits table t
unfolding FormFits
fits_derivative table f w du t h F on =
    keeps_derivative (FitsTable table) (IsOnForm table) f w du t h F on
    (subst (λ n. IsSpaceOn (form_cell (form_of f)) (slice_get table n)) (same_elements f w du t h) on)

-- a derivative of the table's own elements is formed, and w is on the form's cell
record IsDerived (table : Table) (f : FormTree) (w du : Function) (t : FormTree) : Type 0 where
  builds : formed (v.Derivative f w du) ≡ Ok t
  on : IsOnForm table (form_of f) w

varies_choice : (b : Bool) (s : Space) (c : Cell) → (if b then false else same_cell (cell_of s) c) ≡ true → cell_of s ≡ c
varies_choice true s c h = absurd (true≢false (sym h))
varies_choice false s c h = cell_true (cell_of s) c h

varies_there : (s : Option Space) (c : Cell) → varies_on s c ≡ true → IsSpaceOn (Some c) s
varies_there None c h = absurd (true≢false (sym h))
varies_there (Some s) c h = varies_choice (is_constant s) s c h

turned_tests : (b : Bool) (w : Verdict) (j : FormKind) → (if b then w else Err OfKind) ≡ Ok j → b ≡ true
turned_tests true w j h = refl
turned_tests false w j h = cc

turned_on : (table : Table) (v : Verdict) (w du : Function) (j : FormKind) → further v (λ a. turned_kind table a w du) ≡ Ok j
    → IsSpaceOn (verdict_cell v) (slice_get table w.element)
turned_on table (Err r) w du j h = cc
turned_on table (Ok k) w du j h = varies_there (slice_get table w.element) k.cell (turned_tests (varies_on (slice_get table w.element) k.cell) (derivative_kind k w du) j h)

is_derived_from : (table : Table) (f : FormTree) (w du : Function) (t : FormTree) (x : Verdict) → further (form_kind (form_of f)) (λ a. turned_kind table a w du) ≡ x
    → derived_from x f w du ≡ Ok t → IsDerived table f w du t
is_derived_from table f w du t (Err r) e h = cc
is_derived_from table f w du t (Ok j) e h = record { builds = h; on = turned_on table (form_kind (form_of f)) w du j e }

fits_derived : (table : Table) (f : FormTree) (w du : Function) (t : FormTree) → derived table f w du ≡ Ok t → Fits table f → Fits table t
fits_derived table f w du t h F =
    let D = is_derived_from table f w du t (further (form_kind (form_of f)) (λ a. turned_kind table a w du)) refl h in
    fits_derivative table f w du t D.builds F D.on

-- ---- longer tables
on_longer : (table more : Table) (c : Option Cell) (n : ℕ) → IsSpaceOn c (slice_get table n) → IsSpaceOn c (slice_get (table ++ more) n)
on_longer [] more (Some c) n h = absurd h
on_longer [] more None n h = absurd h
on_longer (s ∷ table) more c zero h = h
on_longer (s ∷ table) more c (suc n) h = on_longer table more c n h

form_longer : (table more : Table) (f : FormTerm) → FormFits table f → FormFits (table ++ more) f
unfolding FormFits
form_longer table more f h =
    part_weaker (FitsTable table) (FitsTable (table ++ more)) (IsOnForm table) (IsOnForm (table ++ more)) (fits_longer table more)
    (λ f g. on_longer table more (form_cell f) g.element) f h

pub builders_fit : (table : Table) → BuildersFit table
unfolding FormFits
builders_fit table = record {
  of_action = λ f last g t h typed F. keeps_action (FitsTable table) (IsOnForm table) f last g t h F (action_on table f last g t h typed F);
  of_derivative = fits_derived table;
  of_other_derivative = fits_derivative table;
  of_others = builders_keep (FitsTable table) (IsOnForm table);
  of_longer = λ t more h. form_longer table more (form_of t) h;
}

-- ---- numbers of elements
part_longer : (numbers more : List ℕ) (f : FormTerm) → FormIsNumbered numbers f → FormIsNumbered (numbers ++ more) f
unfolding FormIsNumbered
part_longer numbers more f h =
    part_weaker (IsNumbered numbers) (IsNumbered (numbers ++ more)) (λ f g. HasItsElement numbers g) (λ f g. HasItsElement (numbers ++ more) g)
    (numbered_longer numbers more) (λ f g. element_longer numbers more g.role g.element) f h

pub builders_number : (numbers : List ℕ) → BuildersNumber numbers
unfolding FormIsNumbered
builders_number numbers = record {
  of_action = λ f last g t h p q. keeps_action (IsNumbered numbers) (λ x y. HasItsElement numbers y) f last g t h p q;
  of_derivative = λ f w du t h p q r. keeps_derivative (IsNumbered numbers) (λ x y. HasItsElement numbers y) f w du t h p q r;
  of_others = builders_keep (IsNumbered numbers) (λ x y. HasItsElement numbers y);
  of_longer = λ t more h. part_longer numbers more (form_of t) h;
}
