-- The values of a form on a mesh, and why there are none
use Rattle.std.specs.Prelude.{◌≡◌, ◌⊎◌, ℕ, List, Option, Ok}
use Rattle.algebra.specs.Fraction.{Fraction}
use Rattle.ends.specs.Held.{Held}
use Rattle.mesh_in.specs.MeshData.{MeshData}
use Rattle.monos.specs.declared.weight.Weight.{Weight}
use Rattle.assembly.specs.Sums.{Entry}
use Rattle.assembly.specs.declared.run_refusal.RunRefusal.{RunRefusal}
use Rattle.ufl_form.specs.declared.table.FormKind.{FormKind}
use Rattle.ufl_form.specs.Table.{form_patterns}
use Rattle.admit.specs.Admission.{rank_of}
use Rattle.form_values.specs.FormValue.{AreTriples}
use Rattle.form_values.specs.Problem.{Problem, row_count}
use Rattle.form_assembly.specs.Assembled.{HasValues, Refuses}
use Rattle.ufl_elab.specs.declared.program.Named.{Named}
use Rattle.ufl_elab.specs.declared.program.UflProgram.{UflProgram}
use Rattle.form_files.specs.Admissions.{IsFileOf}
use Rattle.ffc.specs.Forms.{problem_of, occurring_of, IsAdmitted, IsNamed, NamedCause}
use Rattle.ffc.specs.Inputs.{Loads, HasMesh, MeshCause}
use Rattle.answers.specs.Outcome.{run_outcome}
use Rattle.answers.specs.ValuesText.{values_text}
use Rattle.answers.specs.declared.outcome.Outcome.{Outcome}

-- with the rank of the form, and as many rows and columns as its arguments have
abbrev pub text_of_values : List ℕ → Problem → List Entry → List ℕ
text_of_values name p entries =
    values_text name (rank_of (form_patterns p.form)) (row_count p p.test) (row_count p p.trial) entries

-- the text of the values of a form that are not 0
abbrev pub IsValuesText : List ℕ → Problem → List ℕ → Type 0
IsValuesText name p text = (entries : List Entry) × AreTriples p entries × (text ≡ text_of_values name p entries)

-- the exported form of the name, admitted with a weight
pub record HasForm (file name : List ℕ) (p : UflProgram) (n : Named) (k : FormKind) (w : Weight) : Type 0 where
  pub says : IsFileOf file (Ok p)
  pub is_named : IsNamed file p name n
  pub admitted : IsAdmitted p n k w

-- the text of the values: the form and the mesh are accepted, no cell is flat, no sum passes, and these are the values of
-- the form that are not 0
pub record IsAssembledText (content : Option (List Held)) (file name mesh text : List ℕ) : Type 0 where
  pub program : UflProgram
  pub form : Named
  pub kind : FormKind
  pub weight : Weight
  pub mesh_data : MeshData Fraction
  pub has_form : HasForm file name program form kind weight
  pub has_mesh : HasMesh content mesh kind.cell mesh_data
  pub has_values : HasValues (problem_of program form mesh_data) (occurring_of program form)
  pub values : IsValuesText name (problem_of program form mesh_data) text

-- why the form has no values on the mesh: there are too many entries; or the first flat cell, or a cell whose room is too
-- large behind cells that aren't flat; or else the first entry whose sum passes
abbrev pub RunCause : UflProgram → Named → Weight → MeshData Fraction → Outcome → Type 0
RunCause p n w m o = (e : RunRefusal) × (o ≡ run_outcome e) × Refuses (problem_of p n m) (occurring_of p n) w e

-- why there is no answer: the form is refused; or it is accepted, and the mesh is refused; or both are accepted, and a
-- run or a sum stops
abbrev pub AssembleCause : Loads → List ℕ → List ℕ → List ℕ → Outcome → Type 0
AssembleCause l file name mesh o =
    NamedCause file name o
    ⊎ ((p : UflProgram) × (n : Named) × (k : FormKind) × (w : Weight) × HasForm file name p n k w
    × (MeshCause l mesh k.cell o ⊎ ((m : MeshData Fraction) × HasMesh l.content mesh k.cell m × RunCause p n w m o)))
