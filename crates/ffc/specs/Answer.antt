-- What a run leaves in its files and sinks
use Rattle.std.specs.Prelude.{◌≡◌, ◌≢◌, ◌⊎◌, ◌+◌, ◌<◌, ◌^◌, ℕ, List, [], length, take, Option, Some, Ok, Err}
use Rattle.algebra.specs.Fraction.{Fraction}
use Rattle.ends.specs.Count.{Rises}
use Rattle.ends.specs.Held.{Held, bytes_of}
use Rattle.ends.specs.Told.{appended, TakesPrefix}
use Rattle.slices.specs.declared.form_toks.TheConstants.{FORM_LIMIT}
use Rattle.mesh_in.specs.MeshData.{MeshData}
use Rattle.monos.specs.declared.weight.Weight.{Weight}
use Rattle.ufl_form.specs.declared.table.FormKind.{FormKind}
use Rattle.form_assembly.specs.Assembled.{HasValues, cell_room}
use Rattle.ufl_read.specs.declared.refusal.FormRefusal.{FormRefusal}
use Rattle.ufl_elab.specs.declared.program.Named.{Named}
use Rattle.ufl_elab.specs.declared.program.UflProgram.{UflProgram}
use Rattle.form_files.specs.Admissions.{IsFileOf}
use Rattle.form_files.specs.Checks.{IsCheck}
use Rattle.answers.specs.Lines.{Says}
use Rattle.answers.specs.Outcome.{form_outcome}
use Rattle.answers.specs.declared.outcome.Outcome.{Outcome}
use Rattle.answers.specs.declared.outcome.Outcome.TheVariants.{Done, Usage, Form, NotYet, WriteFault, Memory}
use Rattle.ffc.specs.Assemble.{AssembleCause, HasForm, IsAssembledText}
use Rattle.ffc.specs.Compile.{IsUnitText}
use Rattle.ffc.specs.Forms.{CompileCause, problem_of, occurring_of}
use Rattle.ffc.specs.Inputs.{Loads, IsText, LoadCause, IsMeshText}
use Rattle.ffc.specs.declared.command.Command.{Command}
use Rattle.ffc.specs.declared.command.Command.TheVariants.{Compile, Check, Assemble}
use Rattle.ffc.specs.Words.{compile_words, assemble_words, check_words}

-- ---- answers

-- the form file has a text of which this holds
abbrev pub OfFile : Option (List Held) → List ℕ → (List ℕ → Type 0) → Type 0
OfFile content form Holds = (file : List ℕ) × IsText content form file × Holds file

-- the lines of the forms that a file exports
abbrev pub IsCheckText : List ℕ → List ℕ → Type 0
IsCheckText file text = IsCheck file (Ok text)

-- the answer to a command that has this form file
abbrev pub AnswersFile : Option (List Held) → Command → List ℕ → List ℕ → Type 0
AnswersFile content (Compile form) file text = IsUnitText file text
AnswersFile content (Check form) file text = IsCheckText file text
AnswersFile content (Assemble form name mesh) file text = IsAssembledText content file name.now mesh.now text

-- the answer to these words
pub record AnswersWords (content : Option (List Held)) (words : List (List ℕ)) (text : List ℕ) : Type 0 where
  pub compile : (form : List ℕ) → words ≡ compile_words form → OfFile content form (λ file. IsUnitText file text)
  pub check : (form : List ℕ) → words ≡ check_words form → OfFile content form (λ file. IsCheckText file text)
  pub assemble : (form name mesh : List ℕ) → words ≡ assemble_words form name mesh
      → OfFile content form (λ file. IsAssembledText content file name mesh text)

-- a run that is done wrote an answer, a fault of writing a prefix of one, and any other run nothing
abbrev pub Wrote : Outcome → Option (List ℕ) → Option (List ℕ) → (List ℕ → Type 0) → Type 0
Wrote Done old new IsAnswer = (text : List ℕ) × IsAnswer text × (new ≡ appended old text)
Wrote WriteFault old new IsAnswer = (text : List ℕ) × IsAnswer text × TakesPrefix old new text
Wrote _ old new IsAnswer = new ≡ old

-- ---- refusals

-- an outcome that no answer can have
abbrev pub IsRefusal : Outcome → Type 0
IsRefusal Done = ⊥
IsRefusal Usage = ⊥
IsRefusal WriteFault = ⊥
IsRefusal _ = Unit {0}

-- the form file was not loaded, or it has a text of which this holds
abbrev pub FormCause : Loads → List ℕ → Outcome → (List ℕ → Type 0) → Type 0
FormCause l form o Holds = LoadCause l 1 form o ⊎ OfFile l.content form Holds

-- why a file isn't checked: it is refused, or memory was wanting
abbrev pub CheckCause : List ℕ → Outcome → Type 0
CheckCause file o = (o ≡ Memory) ⊎ ((e : FormRefusal) × IsCheck file (Err e) × (o ≡ form_outcome e))

-- why a command that has this form file has no answer
abbrev pub FileCause : Loads → Command → List ℕ → Outcome → Type 0
FileCause l (Compile form) file o = CompileCause file o
FileCause l (Check form) file o = CheckCause file o
FileCause l (Assemble form name mesh) file o = AssembleCause l file name.now mesh.now o

-- why the command of these words has no answer
pub record HasCause (l : Loads) (words : List (List ℕ)) (o : Outcome) : Type 0 where
  pub compile : (form : List ℕ) → words ≡ compile_words form → FormCause l form o (λ file. CompileCause file o)
  pub check : (form : List ℕ) → words ≡ check_words form → FormCause l form o (λ file. CheckCause file o)
  pub assemble : (form name mesh : List ℕ) → words ≡ assemble_words form name mesh
      → FormCause l form o (λ file. AssembleCause l file name mesh o)

-- each refusal has its cause
abbrev pub IsCaused : Loads → List (List ℕ) → Outcome → Type 0
IsCaused l words o = IsRefusal o → HasCause l words o

-- ---- the line on err

-- the words name this form file
abbrev pub IsFormOf : List (List ℕ) → List ℕ → Type 0
IsFormOf words form =
    (words ≡ compile_words form)
    ⊎ ((words ≡ check_words form) ⊎ ((name : List ℕ) × (mesh : List ℕ) × (words ≡ assemble_words form name mesh)))

-- what is loaded of the form file: its text, up to one byte more than the limit
abbrev pub IsLoaded : Option (List Held) → List (List ℕ) → List ℕ → Type 0
IsLoaded content words file =
    (form text : List ℕ) × IsFormOf words form × IsText content form text × (take (FORM_LIMIT + 1) text ≡ file)

-- an outcome whose line has a word of the form file
abbrev pub HasWord : Outcome → Type 0
HasWord (Form r) = Unit {0}
HasWord (NotYet n) = Unit {0}
HasWord _ = ⊥

-- the line of the outcome was put, its word taken from what is loaded
abbrev pub SaysOf : Option (List Held) → List (List ℕ) → Outcome → Option (List ℕ) → Option (List ℕ) → ℕ → ℕ → Type 0
SaysOf content words o old new before now =
    (file : List ℕ) × (HasWord o → IsLoaded content words file) × Says file o old new before now

-- ---- where an answer must come

-- the files hold a text of this name of which this holds
abbrev pub HoldFile : List Held → List ℕ → (List ℕ → Type 0) → Type 0
HoldFile files name Holds = (text : List ℕ) × (bytes_of files name ≡ Some text) × Holds text

-- a file with a program that exports a form
pub record CanPrint (file : List ℕ) : Type 0 where
  pub program : UflProgram
  pub says : IsFileOf file (Ok program)
  pub some : program.forms ≢ []

-- a form and a mesh with values, whose cells have room
pub record CanAssemble (p : UflProgram) (n : Named) (w : Weight) (m : MeshData Fraction) : Type 0 where
  pub values : HasValues (problem_of p n m) (occurring_of p n)
  pub rooms : (k : ℕ) → k < length m.cells → cell_room (problem_of p n m) (occurring_of p n) w k < 2 ^ 127

-- the words are those of a command, and each file that they name is held and accepted; no cell is flat, and neither a cell nor a sum passes
pub data CanAnswer (files : List Held) (words : List (List ℕ)) : Type 0 where
  Compiles : (form : List ℕ) → words ≡ compile_words form → HoldFile files form CanPrint → CanAnswer files words
  Checks : (form lines : List ℕ) → words ≡ check_words form → HoldFile files form (λ file. IsCheckText file lines)
      → CanAnswer files words
  Assembles : (form name mesh : List ℕ) (p : UflProgram) (n : Named) (k : FormKind) (w : Weight) (m : MeshData Fraction)
      → words ≡ assemble_words form name mesh → HoldFile files form (λ file. HasForm file name p n k w)
      → HoldFile files mesh (λ text. IsMeshText k.cell text m) → CanAssemble p n w m → CanAnswer files words

-- where the files are told, the words can be answered and no fault was counted, the answer comes unless memory is wanting
abbrev pub IsComplete : Loads → List (List ℕ) → ℕ → ℕ → Outcome → Type 0
IsComplete l words before now o =
    (files : List Held) → l.content ≡ Some files → CanAnswer files words → ¬ Rises l.before l.now → ¬ Rises before now → (o ≡ Done) ⊎ (o ≡ Memory)
