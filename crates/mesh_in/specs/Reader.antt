-- How the code goes through a text: what is left of it says what the whole says
use Rattle.std.specs.Prelude.{◌≡◌, ◌⊎◌, ◌+◌, ◌++◌, ℕ, List, map, Option, Some, None, Result, Ok, Err}
use Rattle.std.specs.Str.Lines.{lines}
use Rattle.algebra.specs.Fraction.{Fraction}
use Rattle.ratio.specs.declared.reduced.Ratio.{Ratio}
use Rattle.ratio.specs.Value.{fraction_of}
use Rattle.spaces.specs.Cell.{dimension}
use Rattle.mesh_in.specs.declared.header.Header.{Header}
use Rattle.mesh_in.specs.declared.lines.Line.{Line}
use Rattle.mesh_in.specs.declared.lines.Lines.{Lines}
use Rattle.mesh_in.specs.declared.refusal.MeshKind.{MeshKind}
use Rattle.mesh_in.specs.declared.refusal.MeshRefusal.{MeshRefusal}
use Rattle.mesh_in.specs.HeaderLine.{header_line}
use Rattle.mesh_in.specs.Line.{words}
use Rattle.mesh_in.specs.MeshData.{MeshData, fractions, rows}
use Rattle.mesh_in.specs.MeshText.{Said, complete, after_row, at_line, reading}
use Rattle.mesh_in.specs.Refusal.{refusal, out_of_memory}

-- what the lines that are left say after those before
abbrev pub remaining : Lines → Said → Result (MeshData Fraction) MeshRefusal
remaining left said = reading left.number said (lines left.rest.now)

-- the number of the next line that has words
abbrev pub row_number : Lines → ℕ
row_number left = left.number + header_line left.rest.now

-- a line that has words, or none, and then what is left
abbrev pub goes_on : Option Line → Lines → Said → Result (MeshData Fraction) MeshRefusal
goes_on None left said = complete left.number said
goes_on (Some line) left said = at_line line.number (after_row said (words line.text.now)) (λ next. remaining left next)

-- an error for want of memory, or the refusal
abbrev pub Fails : MeshRefusal → Result (MeshData Fraction) MeshRefusal → Type 0
Fails e read = (e ≡ out_of_memory) ⊎ (read ≡ Err e)

-- the mesh, or the refusal, unless memory ran out
abbrev pub Gives : Result (MeshData Ratio) MeshRefusal → Result (MeshData Fraction) MeshRefusal → Type 0
Gives (Ok m) read = read ≡ Ok (fractions m)
Gives (Err e) read = Fails e read

-- a list and what follows it, if there is something
abbrev pub appended : {A : Type 0} → List A → Option (List A) → Option (List A)
appended front None = None
appended front (Some more) = Some (front ++ more)

-- the line of this number is refused so
abbrev pub IsRefusedBy : MeshRefusal → ℕ → Result Said MeshKind → Type 0
IsRefusedBy e number said = (kind : MeshKind) × (said ≡ Err kind) × (e ≡ refusal kind number)

-- so many points, from all their coordinates
abbrev pub points_of : Header → ℕ → List Ratio → List (List Fraction)
points_of header count coordinates = rows (dimension header.kind) count (map fraction_of coordinates)
