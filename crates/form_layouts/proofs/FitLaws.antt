-- The problem of a sound form has the elements of the functions that occur, all of the mesh's cell
use Rattle.std.proofs.Common.{◌≡◌, ◌≤◌, ◌^◌, ℕ, zero, suc, Bool, true, false, List, [], ◌∷◌, length, Option, None, Some, slice_get, Ok, nat_le, refl, sym, ap, ◌∙◌, subst, arith}
use Rattle.std.proofs.lemmas.Bool.Decides.{nat_tests}
use Rattle.algebra.specs.Fraction.{Fraction}
use Rattle.spaces.specs.declared.cell.Cell.{Cell}
use Rattle.spaces.specs.Space.{Space, IsLawful}
use Rattle.mesh_in.specs.MeshData.{MeshData, IsMesh}
use Rattle.ufl_tree.specs.declared.function.Role.{Role}
use Rattle.ufl_tree.specs.declared.function.Role.TheVariants.{Test, Trial, Position, Coefficient}
use Rattle.ufl_tree.specs.FormTerm.{FormTerm}
use Rattle.ufl_tree.specs.Places.{Table, IsLawfulTable}
use Rattle.ufl_expr.specs.Elements.{IsSpaceOn, IsOn}
use Rattle.ufl_expr.specs.Numbered.{IsNumbered, HasItsElement, IsElementOf as HasNumber}
use Rattle.ufl_form.specs.declared.table.FormKind.{FormKind}
use Rattle.ufl_form.specs.Numbered.{FormIsNumbered}
use Rattle.ufl_form.specs.Table.{form_kind, form_patterns}
use Rattle.ufl_form.proofs.CellLaws.{form_on}
use Rattle.ufl_tree.specs.Functions.{Each, EachPart}
use Rattle.ufl_meaning.specs.Environment.{same_role}
use Rattle.admit.specs.Admission.{rank_of}
use Rattle.monos.specs.Layout.{IsLawfulOn, value_count}
use Rattle.monos.specs.declared.layout.Layout.{Layout}
use Rattle.form_values.specs.CellLayout.{Fits, HasOnly, IsElement, IsElementOf, layout_of}
use Rattle.form_values.specs.Problem.{Problem}
use Rattle.form_values.proofs.Layouts.{layout_lawful}
use Rattle.form_layouts.specs.Layouts.{IsSoundForm}
use Rattle.form_layouts.specs.Occurring.{occurring}
use Rattle.form_layouts.specs.Problems.{arguments_by, form_problem, ranked, no_cells}
use Rattle.form_layouts.proofs.OccurringLaws.{Found, found, all_coefficients, coefficients_rise}

lawful_at : (ss : Table) (n : ℕ) (s : Space) → IsLawfulTable ss → slice_get ss n ≡ Some s → IsLawful s
lawful_at [] n s all at = cc
lawful_at (x ∷ ss) zero s all at = let same : x ≡ s = cc in subst IsLawful same all.0
lawful_at (x ∷ ss) (suc n) s all at = lawful_at ss n s all.1 at

-- ---- an element on the mesh's cells
found_on : (p : Problem) (c : Cell) (e : ℕ) (o : Option Space) → slice_get p.elements e ≡ o → IsLawfulTable p.elements → p.mesh.kind ≡ c → IsSpaceOn (Some c) o → IsElement p e
found_on p c e None at lawful kind on = absurd on
found_on p c e (Some s) at lawful kind on = record { space = s; found = at; lawful = lawful_at p.elements e s lawful at; cell = on ∙ sym kind }

is_element : (p : Problem) (c : Cell) (e : ℕ) → IsLawfulTable p.elements → p.mesh.kind ≡ c → IsSpaceOn (Some c) (slice_get p.elements e) → IsElement p e
is_element p c e lawful kind on = found_on p c e (slice_get p.elements e) refl lawful kind on

-- ---- those of the arguments
argument_fits : (p : Problem) (c : Cell) (a : Option ℕ) (b : Bool) → IsLawfulTable p.elements → p.mesh.kind ≡ c
    → ((e : ℕ) → a ≡ Some e → IsSpaceOn (Some c) (slice_get p.elements e)) → IsElementOf p (ranked b a)
argument_fits p c a false lawful kind on = tt
argument_fits p c None true lawful kind on = tt
argument_fits p c (Some e) true lawful kind on = is_element p c e lawful kind (on e refl)

-- ---- those of the coefficients
has_number : (ns : List ℕ) (r : Role) (n e : ℕ) → same_role r (Coefficient n) ≡ true → HasNumber ns r e → slice_get ns n ≡ Some e
has_number ns Test n e same h = cc
has_number ns Trial n e same h = cc
has_number ns Position n e same h = cc
has_number ns (Coefficient m) n e same h = let number : m ≡ n = grind (arith, nat_tests) in subst (λ j. slice_get ns j ≡ Some e) number h

element_is : (p : Problem) (o : Option ℕ) (e : ℕ) → o ≡ Some e → IsElement p e → IsElementOf p o
element_is p o e same is = subst (IsElementOf p) (sym same) is

coefficient_fits : (p : Problem) (c : Cell) (n : ℕ) → IsLawfulTable p.elements → p.mesh.kind ≡ c
    → Found (IsOn p.elements (Some c)) (HasItsElement p.coefficients) (Coefficient n) → IsElementOf p (slice_get p.coefficients n)
coefficient_fits p c n lawful kind g =
    element_is p (slice_get p.coefficients n) g.found.element (has_number p.coefficients g.found.role n g.found.element g.role g.second)
    (is_element p c g.found.element lawful kind g.first)

numbered_parts : (ns : List ℕ) (f : FormTerm) → FormIsNumbered ns f → EachPart (Each (HasItsElement ns)) (λ f g. HasItsElement ns g) f
unfolding FormIsNumbered IsNumbered
numbered_parts ns f h = h

-- ---- all
module _ (elements : Table) (coefficients : List ℕ) (f : FormTerm) (k : FormKind) (m : MeshData Fraction) (values : ℕ → List Fraction) where
  abbrev problem : Problem
  problem = form_problem elements coefficients f m values

  pub form_fits : IsSoundForm elements coefficients f → form_kind f ≡ Ok k → m.kind ≡ k.cell → IsMesh m → HasOnly problem (occurring (length coefficients) f).coefficients
      → Fits problem (occurring (length coefficients) f)
  form_fits sound is kind mesh only =
      let on = form_on elements f k sound.typed sound.fits is in
      let test_in : (e : ℕ) → (arguments_by (form_kind f)).test ≡ Some e → IsSpaceOn (Some k.cell) (slice_get elements e) =
      λ e at. on.arguments (record { role = Test; element = e }) (ap (λ v. (arguments_by v).test) (sym is) ∙ at) in
      let trial_in : (e : ℕ) → (arguments_by (form_kind f)).trial ≡ Some e → IsSpaceOn (Some k.cell) (slice_get elements e) =
      λ e at. on.arguments (record { role = Trial; element = e }) (ap (λ v. (arguments_by v).trial) (sym is) ∙ at) in
      record {
        mesh = mesh;
        test = argument_fits problem k.cell (arguments_by (form_kind f)).test (nat_le 1 (rank_of (form_patterns f))) sound.elements_lawful kind test_in;
        trial = argument_fits problem k.cell (arguments_by (form_kind f)).trial (nat_le 2 (rank_of (form_patterns f))) sound.elements_lawful kind trial_in;
        coefficients = all_coefficients (λ n. IsElementOf problem (slice_get coefficients n)) f
            (λ n h. coefficient_fits problem k.cell n sound.elements_lawful kind
            (found (IsOn elements (Some k.cell)) (HasItsElement coefficients) (Coefficient n) f on.functions (numbered_parts coefficients f sound.numbered) h)) 0 (length coefficients);
        only = only;
      }

-- ---- the layout on a mesh without cells, whose values are few
no_mesh : (c : Cell) → IsMesh (no_cells c)
no_mesh c = record { points = tt; cells = tt; markers = refl; few_points = omega arith; few_cells = omega arith }

pub lawful_here : (elements : Table) (coefficients : List ℕ) (f : FormTerm) (k : FormKind) (l : Layout) → IsSoundForm elements coefficients f → form_kind f ≡ Ok k
    → l ≡ layout_of (form_problem elements coefficients f (no_cells k.cell) (λ n. [])) (occurring (length coefficients) f) → value_count l.coefs ≤ 2 ^ 24 → IsLawfulOn k.cell l
lawful_here elements coefficients f k l sound is same few =
    let p = form_problem elements coefficients f (no_cells k.cell) (λ n. []) in
    let o = occurring (length coefficients) f in
    subst (IsLawfulOn k.cell) (sym same)
    (layout_lawful p o (form_fits elements coefficients f k (no_cells k.cell) (λ n. []) sound is refl (no_mesh k.cell) (λ n out. refl))
    (coefficients_rise p f (length coefficients)) (subst (λ (x : Layout). value_count x.coefs ≤ 2 ^ 24) same few))
