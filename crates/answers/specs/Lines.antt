-- The line on err for each outcome
use Rattle.std.specs.Prelude.{◌≡◌, ℕ, zero, suc, List, [], ◌∷◌, ◌++◌, Option, codes, decimal, ◌⊎◌}
use Rattle.answers.specs.ValuesText.{joined}
use Rattle.ends.specs.Count.{Rises}
use Rattle.ends.specs.Told.{appended, TakesPrefix}
use Rattle.mesh_in.specs.declared.refusal.MeshKind.{MeshKind}
use Rattle.mesh_in.specs.declared.refusal.MeshKind.TheVariants as mesh
use Rattle.mesh_in.specs.declared.refusal.MeshRefusal.{MeshRefusal}
use Rattle.ufl_syntax.specs.declared.span.Span.{Span}
use Rattle.ufl_syntax.specs.Spans.{word_at}
use Rattle.ufl_read.specs.declared.refusal.FormKind.{FormKind}
use Rattle.ufl_read.specs.declared.refusal.FormKind.TheVariants as form
use Rattle.ufl_read.specs.declared.refusal.FormRefusal.{FormRefusal}
use Rattle.answers.specs.declared.outcome.FormName.{FormName}
use Rattle.answers.specs.declared.outcome.Spot.{Spot}
use Rattle.answers.specs.declared.outcome.Spot.TheVariants as spot
use Rattle.answers.specs.declared.outcome.Outcome.{Outcome}
use Rattle.answers.specs.declared.outcome.Outcome.TheVariants.{Done, Usage, Form, NotYet, Mesh, Passed, ReadFault, WriteFault, Memory}
use Rattle.answers.specs.declared.lines.Part.{Part}
use Rattle.answers.specs.declared.lines.Part.TheVariants as part

abbrev pub part_text : Part → List ℕ
part_text (part.Text text) = text.now
part_text (part.Word bytes) = bytes.now
part_text (part.Number n) = decimal n

-- number and name of a refusal of a form
abbrev pub form_refusal : FormKind → List ℕ
form_refusal form.TooLong = codes "1 TooLong"
form_refusal form.Lex = codes "2 Lex"
form_refusal form.Deep = codes "3 Deep"
form_refusal form.Syntax = codes "4 Syntax"
form_refusal form.Unsupported = codes "5 Unsupported"
form_refusal form.UnknownName = codes "6 UnknownName"
form_refusal form.Kind = codes "7 Kind"
form_refusal form.Shape = codes "8 Shape"
form_refusal form.FreeIndex = codes "9 FreeIndex"
form_refusal form.NumberRange = codes "10 NumberRange"
form_refusal form.Nodes = codes "11 Nodes"
form_refusal form.Arity = codes "12 Arity"
form_refusal form.Cost = codes "13 Cost"
form_refusal form.Size = codes "14 Size"
form_refusal form.NoForm = codes "15 NoForm"
form_refusal form.Memory = []

-- a space stands before a word; none where there is no word
abbrev pub space_before : ℕ → List ℕ
space_before zero = []
space_before (suc _) = codes " "

-- the word is the file's text at its place, which is empty where it has no length
abbrev pub form_line : List ℕ → ℕ → List ℕ → Span → List ℕ
form_line file line refusal word =
    joined (codes "form line " ∷ decimal line ∷ codes " refusal " ∷ refusal
    ∷ space_before word.len ∷ word_at file word ∷ codes "\n" ∷ [])

-- where a refusal's word stands, and where the name of a form does
abbrev pub refused_word : FormRefusal → Span
refused_word r = record { from = r.from; len = r.len }

abbrev pub name_word : FormName → Span
name_word n = record { from = n.from; len = n.len }

-- number and name of a refusal of a mesh
abbrev pub mesh_refusal : MeshKind → List ℕ
mesh_refusal mesh.TooLong = codes "1 TooLong"
mesh_refusal mesh.Lex = codes "2 Lex"
mesh_refusal mesh.Syntax = codes "3 Syntax"
mesh_refusal mesh.Count = codes "4 Count"
mesh_refusal mesh.VertexRange = codes "5 VertexRange"
mesh_refusal mesh.RepeatedVertex = codes "6 RepeatedVertex"
mesh_refusal mesh.WrongCell = codes "7 WrongCell"
mesh_refusal mesh.Degenerate = codes "8 Degenerate"
mesh_refusal mesh.TooManyEntries = codes "9 TooManyEntries"
mesh_refusal mesh.Memory = []

-- a degenerate cell is named by its number, any other fault by its line
abbrev pub mesh_place : MeshKind → List ℕ
mesh_place mesh.Degenerate = codes "mesh cell "
mesh_place _ = codes "mesh line "

abbrev pub mesh_number : MeshKind → MeshRefusal → ℕ
mesh_number mesh.Degenerate r = r.cell
mesh_number _ r = r.line

abbrev pub spot_line : Spot → List ℕ
spot_line (spot.Cell cell) = joined (codes "passed cell " ∷ decimal cell ∷ codes "\n" ∷ [])
spot_line (spot.Sum row col) = joined (codes "passed entry " ∷ decimal row ∷ codes " " ∷ decimal col ∷ codes "\n" ∷ [])

abbrev pub refusal_line : List ℕ → ℕ → List ℕ → List ℕ
refusal_line place number refusal = joined (place ∷ decimal number ∷ codes " refusal " ∷ refusal ∷ codes "\n" ∷ [])

-- the words of form refusals are those of this file
abbrev pub line_of : List ℕ → Outcome → List ℕ
line_of file Done = []
line_of file Usage = codes "usage\n"
line_of file (Form r) = form_line file r.line (form_refusal r.kind) (refused_word r)
line_of file (NotYet n) = form_line file n.line (codes "16 NotYet") (name_word n)
line_of file (Mesh r) = refusal_line (mesh_place r.kind) (mesh_number r.kind r) (mesh_refusal r.kind)
line_of file (Passed s) = spot_line s
line_of file (ReadFault k) = joined (codes "read fault " ∷ decimal k ∷ codes "\n" ∷ [])
line_of file WriteFault = codes "write fault\n"
line_of file Memory = codes "memory\n"

-- a sink gained the line, or a prefix of it, and then its count of faults rose; the line of Done is empty
abbrev pub Gains : List ℕ → Option (List ℕ) → Option (List ℕ) → ℕ → ℕ → Type 0
Gains line old new before now = (new ≡ appended old line) ⊎ (TakesPrefix old new line × Rises before now)

-- nothing of what is done, and the line of any other outcome
abbrev pub Says : List ℕ → Outcome → Option (List ℕ) → Option (List ℕ) → ℕ → ℕ → Type 0
Says file Done old new before now = (new ≡ old) × (now ≡ before)
Says file Usage old new before now = Gains (line_of file Usage) old new before now
Says file (Form r) old new before now = Gains (line_of file (Form r)) old new before now
Says file (NotYet n) old new before now = Gains (line_of file (NotYet n)) old new before now
Says file (Mesh r) old new before now = Gains (line_of file (Mesh r)) old new before now
Says file (Passed s) old new before now = Gains (line_of file (Passed s)) old new before now
Says file (ReadFault k) old new before now = Gains (line_of file (ReadFault k)) old new before now
Says file WriteFault old new before now = Gains (line_of file WriteFault) old new before now
Says file Memory old new before now = Gains (line_of file Memory) old new before now

-- the bytes so far were put, of which `rest` is left
abbrev pub PutsAfter : Option (List ℕ) → Option (List ℕ) → ℕ → ℕ → List ℕ → List ℕ → Type 0
PutsAfter start now faults faults_now line rest =
    (front : List ℕ) × (line ≡ front ++ rest) × (now ≡ appended start front) × (faults_now ≡ faults)
