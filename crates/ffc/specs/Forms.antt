-- The exported forms that a command asks for, and why there are none
use Rattle.std.specs.Prelude.{◌≡◌, ◌≢◌, ◌⊎◌, ℕ, List, [], ◌∷◌, Option, None, Some, Ok, Err, if◌then◌else◌}
use Rattle.std.specs.Str.{bytes_eq}
use Rattle.algebra.specs.Fraction.{Fraction}
use Rattle.mesh_in.specs.MeshData.{MeshData}
use Rattle.monos.specs.declared.weight.Weight.{Weight}
use Rattle.ufl_tree.specs.FormTerm.{FormTerm}
use Rattle.ufl_tree.specs.Places.{table_of}
use Rattle.ufl_form.specs.declared.table.FormKind.{FormKind as KindOfForm}
use Rattle.ufl_form.specs.Reading.{form_of}
use Rattle.ufl_read.specs.declared.refusal.FormKind.TheVariants.{NoForm}
use Rattle.ufl_read.specs.declared.refusal.FormRefusal.{FormRefusal}
use Rattle.ufl_read.specs.Refusals.{wordless}
use Rattle.ufl_elab.specs.declared.program.Named.{Named}
use Rattle.ufl_elab.specs.declared.program.UflProgram.{UflProgram}
use Rattle.form_files.specs.Admissions.{IsFileOf, dimension_of}
use Rattle.ufl_program.specs.Names.{name_of}
use Rattle.ufl_program.specs.Sound.{SoundForm}
use Rattle.weigh.specs.Weighing.{exact}
use Rattle.admit.specs.Admission.{admission}
use Rattle.form_values.specs.CellLayout.{Occurring}
use Rattle.form_values.specs.Problem.{Problem}
use Rattle.form_layouts.specs.Problems.{form_problem}
use Rattle.form_kernels.specs.Admitted.{IsAdmittedForm, occurring_in}
use Rattle.answers.specs.declared.outcome.Outcome.{Outcome}
use Rattle.answers.specs.declared.outcome.Outcome.TheVariants.{Form, NotYet, Memory}
use Rattle.answers.specs.Outcome.{form_outcome}

-- the first of the forms that has the name
abbrev pub form_named : List ℕ → List Named → List ℕ → Option Named
form_named file [] name = None
form_named file (n ∷ ns) name = if bytes_eq (name_of file n) name then Some n else form_named file ns name

-- ---- a form of a file
abbrev pub term_of : Named → FormTerm
term_of n = form_of n.form

-- it is admitted with this weight
abbrev pub IsAdmitted : UflProgram → Named → KindOfForm → Weight → Type 0
IsAdmitted p n k w = IsAdmittedForm (table_of p.elements) p.coefficients (term_of n) k w

-- the form is admitted with some weight
abbrev pub HasWeight : UflProgram → Named → Type 0
HasWeight p n = (k : KindOfForm) × (w : Weight) × IsAdmitted p n k w

-- an exported form: it obeys the table of forms, fits the elements of its file, numbers the coefficients, and is admitted
pub record IsExported (p : UflProgram) (n : Named) : Type 0 where
  pub sound : SoundForm (table_of p.elements) p.coefficients n.form
  pub weight : Weight
  pub admitted : admission exact (dimension_of (term_of n)) (table_of p.elements) (term_of n) ≡ Ok weight

-- the functions beside its arguments that occur in it
abbrev pub occurring_of : UflProgram → Named → Occurring
occurring_of p n = occurring_in p.coefficients (term_of n)

-- on a mesh, with the elements and the coefficients of its file, and no values of these
abbrev pub problem_of : UflProgram → Named → MeshData Fraction → Problem
problem_of p n m = form_problem (table_of p.elements) p.coefficients (term_of n) m (λ k. [])

-- the form of a name, in which no coefficient occurs
pub record IsNamed (file : List ℕ) (p : UflProgram) (name : List ℕ) (n : Named) : Type 0 where
  pub named : form_named file p.forms name ≡ Some n
  pub without : (occurring_of p n).coefficients ≡ []

-- ---- refusals
abbrev pub no_form : Outcome
no_form = Form (wordless NoForm 0)

abbrev pub not_yet : Named → Outcome
not_yet n = NotYet (record { line = n.line; from = n.from; len = n.len })

-- why a file says no program, or one with a form that isn't admitted; or memory was wanting
abbrev pub ProgramCause : List ℕ → Outcome → Type 0
ProgramCause file o = (o ≡ Memory) ⊎ ((e : FormRefusal) × IsFileOf file (Err e) × (o ≡ form_outcome e))

-- no exported form has the name; or a coefficient occurs in the one that has it
abbrev pub NamedRefused : List ℕ → UflProgram → List ℕ → Outcome → Type 0
NamedRefused file p name o =
    ((form_named file p.forms name ≡ None) × (o ≡ no_form))
    ⊎ ((n : Named) × (form_named file p.forms name ≡ Some n) × ((occurring_of p n).coefficients ≢ []) × (o ≡ not_yet n))

-- or memory was wanting
abbrev pub NamedOrMemory : List ℕ → UflProgram → List ℕ → Outcome → Type 0
NamedOrMemory file p name o = (o ≡ Memory) ⊎ NamedRefused file p name o

-- why a command has no form of a name
abbrev pub NamedCause : List ℕ → List ℕ → Outcome → Type 0
NamedCause file name o =
    ProgramCause file o ⊎ ((p : UflProgram) × IsFileOf file (Ok p) × NamedRefused file p name o)

-- why the forms of a file aren't compiled: there is no program, or it exports none
abbrev pub CompileCause : List ℕ → Outcome → Type 0
CompileCause file o = ProgramCause file o ⊎ ((p : UflProgram) × IsFileOf file (Ok p) × (p.forms ≡ []) × (o ≡ no_form))
