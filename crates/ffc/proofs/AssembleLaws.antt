-- The values of the form of a name on a mesh, and why there are none, from what is known of the form and of the mesh
use Rattle.std.proofs.Common.{◌≡◌, ℕ, List, Option, Result, Ok, inl, inr, sym, ap, ◌∙◌, subst}
use Rattle.std.specs.Prelude.{IfOk}
use Rattle.algebra.specs.Fraction.{Fraction}
use Rattle.ends.specs.Held.{Held}
use Rattle.spaces.specs.declared.cell.Cell.{Cell}
use Rattle.mesh_in.specs.MeshData.{MeshData}
use Rattle.monos.specs.declared.weight.Weight.{Weight}
use Rattle.assembly.specs.declared.run_refusal.RunRefusal.{RunRefusal}
use Rattle.ufl_expr.specs.declared.refusal.TypeRefusal.{TypeRefusal}
use Rattle.ufl_form.specs.declared.table.FormKind.{FormKind}
use Rattle.ufl_form.specs.Table.{form_kind}
use Rattle.form_assembly.specs.Assembled.{HasValues, Refuses}
use Rattle.ufl_elab.specs.declared.program.Named.{Named}
use Rattle.ufl_elab.specs.declared.program.UflProgram.{UflProgram}
use Rattle.form_files.specs.Admissions.{IsFileOf}
use Rattle.answers.specs.Outcome.{run_outcome}
use Rattle.answers.specs.declared.outcome.Outcome.{Outcome}
use Rattle.ffc.specs.Assemble.{AssembleCause, HasForm, IsAssembledText, IsValuesText}
use Rattle.ffc.specs.Forms.{HasWeight, IsAdmitted, IsNamed, NamedCause, NamedOrMemory, occurring_of, problem_of, term_of}
use Rattle.ffc.specs.Inputs.{Loads, HasMesh, MeshCause}

-- a form of this kind has this cell
abbrev pub HasCell : Named → Cell → Type 0
HasCell n c = IfOk (form_kind (term_of n)) (λ kind. kind.cell ≡ c)

same_cell : (n : Named) (c : Cell) (k : FormKind) → form_kind (term_of n) ≡ Ok k → HasCell n c → k.cell ≡ c
same_cell n c k e h = subst (λ (r : Result FormKind TypeRefusal). IfOk r (λ kind. kind.cell ≡ c)) e h

module _ (file name : List ℕ) (p : UflProgram) (says : IsFileOf file (Ok p)) where
  pub named_cause : (bytes : List ℕ) (o : Outcome) → bytes ≡ name → NamedOrMemory file p bytes o → NamedCause file name o
  named_cause bytes o same (inl memory) = inl (inl memory)
  named_cause bytes o same (inr h) = subst (λ x. NamedCause file x o) same (inr (p, says, h))

module _ (file name bytes : List ℕ) (p : UflProgram) (n : Named) (c : Cell) (same : bytes ≡ name) (says : IsFileOf file (Ok p)) (is : IsNamed file p bytes n) (cell : HasCell n c) where
  pub has_form : (k : FormKind) (w : Weight) → IsAdmitted p n k w → HasForm file name p n k w
  has_form k w admitted = record { says = says; is_named = subst (λ x. IsNamed file p x n) same is; admitted = admitted }

  pub cell_of_form : (k : FormKind) (w : Weight) → IsAdmitted p n k w → k.cell ≡ c
  cell_of_form k w admitted = same_cell n c k admitted.kind cell

  -- what the values are asked of
  pub on_cell : (m : MeshData Fraction) → HasWeight p n → m.kind ≡ c → (k : FormKind) × (w : Weight) × IsAdmitted p n k w × (m.kind ≡ k.cell)
  on_cell m (k, w, admitted) kind = (k, w, admitted, kind ∙ sym (cell_of_form k w admitted))

  pub mesh_cause : (l : Loads) (mesh : List ℕ) (o : Outcome) → HasWeight p n → MeshCause l mesh c o → AssembleCause l file name mesh o
  mesh_cause l mesh o (k, w, admitted) h =
      inr (p, n, k, w, has_form k w admitted, inl (subst (λ x. MeshCause l mesh x o) (sym (cell_of_form k w admitted)) h))

  pub run_cause : (l : Loads) (mesh : List ℕ) (m : MeshData Fraction) (e : RunRefusal) (o : Outcome) → HasWeight p n → HasMesh l.content mesh c m → o ≡ run_outcome e
      → ((k : FormKind) (w : Weight) → IsAdmitted p n k w → Refuses (problem_of p n m) (occurring_of p n) w e) → AssembleCause l file name mesh o
  run_cause l mesh m e o (k, w, admitted) has gives h = inr (
    p,
    n,
    k,
    w,
    has_form k w admitted,
    inr (m, subst (λ x. HasMesh l.content mesh x m) (sym (cell_of_form k w admitted)) has, (e, gives, h k w admitted)),
  )

  pub assembled : (content : Option (List Held)) (mesh : List ℕ) (m : MeshData Fraction) (text : List ℕ) → HasWeight p n → HasMesh content mesh c m
      → HasValues (problem_of p n m) (occurring_of p n) → IsValuesText bytes (problem_of p n m) text → IsAssembledText content file name mesh text
  assembled content mesh m text (k, w, admitted) has values is_text = record {
    program = p;
    form = n;
    kind = k;
    weight = w;
    mesh_data = m;
    has_form = has_form k w admitted;
    has_mesh = subst (λ x. HasMesh content mesh x m) (sym (cell_of_form k w admitted)) has;
    has_values = values;
    values = subst (λ x. IsValuesText x (problem_of p n m) text) same is_text;
  }
