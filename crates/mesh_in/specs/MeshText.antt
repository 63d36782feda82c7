-- The text of a mesh: what its lines say, the first to the last, or what is wrong with the first bad one
use Rattle.std.specs.Prelude.{◌≡◌, ℕ, zero, suc, ◌+◌, ◌==◌, ◌&&◌, nat_lt, nat_le, List, [], ◌∷◌, ◌++◌, length, map, Option, Some, None, Result, Ok, Err, codes, if◌then◌else◌}
use Rattle.std.specs.Str.{bytes_eq}
use Rattle.std.specs.Str.Lines.{lines}
use Rattle.algebra.specs.Fraction.{Fraction}
use Rattle.spaces.specs.Cell.{dimension, cell_name}
use Rattle.spaces.specs.declared.cell.Cell.{Cell}
use Rattle.spaces.specs.declared.cell.Cell.TheVariants.{Interval, Triangle, Tetrahedron}
use Rattle.mesh_in.specs.declared.header.Header.{Header}
use Rattle.mesh_in.specs.declared.header.Version.{Version}
use Rattle.mesh_in.specs.declared.header.Version.TheVariants.{Plain, Marked}
use Rattle.mesh_in.specs.declared.read.TheConstants.{MESH_LIMIT}
use Rattle.mesh_in.specs.declared.refusal.MeshKind.{MeshKind}
use Rattle.mesh_in.specs.declared.refusal.MeshKind.TheVariants.{TooLong, Lex, Syntax, Count, VertexRange, RepeatedVertex}
use Rattle.mesh_in.specs.declared.refusal.MeshRefusal.{MeshRefusal}
use Rattle.mesh_in.specs.CellLine.{cell_size, vertices_in, marker_in}
use Rattle.mesh_in.specs.Options.{◌>>=◌}
use Rattle.mesh_in.specs.Refusal.{refusal}
use Rattle.mesh_in.specs.Line.{content, has_plain_bytes, words}
use Rattle.mesh_in.specs.Number.{number_of}
use Rattle.mesh_in.specs.NumberReading.{coordinate_of}
use Rattle.mesh_in.specs.MeshData.{MeshData, is_distinct, are_below, most}
use Rattle.mesh_in.specs.Version.{version_name}

-- ---- the words of one line

-- what just so many words stand for, if each stands for something
unfoldable pub row : {A : Type 0} → (List ℕ → Option A) → ℕ → List (List ℕ) → Option (List A)
row of zero [] = Some []
row of zero (word ∷ more) = None
row of (suc n) [] = None
row of (suc n) (word ∷ more) = of word >>= λ x. row of n more >>= λ xs. Some (x ∷ xs)

-- what the first word stands for, and the words after it
abbrev pub one : {A : Type 0} → (List ℕ → Option A) → List (List ℕ) → Option (A × List (List ℕ))
one of [] = None
one of (word ∷ more) = of word >>= λ x. Some (x, more)

-- the words after this one
abbrev pub keyword : List ℕ → List (List ℕ) → Option (List (List ℕ))
keyword name [] = None
keyword name (word ∷ more) = if bytes_eq word name then Some more else None

-- the cell of a name
abbrev pub cell_named : List ℕ → Option Cell
cell_named name =
    if bytes_eq name (cell_name Interval) then Some Interval
    else if bytes_eq name (cell_name Triangle) then Some Triangle
    else if bytes_eq name (cell_name Tetrahedron) then Some Tetrahedron
    else None

-- the version of a name
abbrev pub version_named : List ℕ → Option Version
version_named name =
    if bytes_eq name (version_name Plain) then Some Plain
    else if bytes_eq name (version_name Marked) then Some Marked
    else None

-- if no word is left
abbrev pub at_end : {A : Type 0} → List (List ℕ) → A → Option A
at_end [] x = Some x
at_end (word ∷ more) x = None

-- `mesh VERSION CELL VERTICES CELLS`
unfoldable pub header_of : List (List ℕ) → Option Header
header_of ws = do
  ws ← keyword (codes "mesh") ws
  version ← one version_named ws
  kind ← one cell_named version.1
  vertices ← one number_of kind.1
  cells ← one number_of vertices.1
  at_end cells.1 (record { kind = kind.0; version = version.0; vertices = vertices.0; cells = cells.0 })

-- ---- the lines

-- what the lines so far said: the header, the points, and the numbers of each line of a cell
pub data Said : Type 0 where
  nothing : Said
  begun : Header → List (List Fraction) → List (List ℕ) → Said

abbrev pub after_header : Option Header → Result Said MeshKind
after_header None = Err Syntax
after_header (Some h) = if nat_le h.vertices most && nat_le h.cells most then Ok (begun h [] []) else Err Count

abbrev pub after_point : Header → List (List Fraction) → List (List ℕ) → Option (List Fraction) → Result Said MeshKind
after_point h points cells None = Err Syntax
after_point h points cells (Some point) = Ok (begun h (points ++ point ∷ []) cells)

abbrev pub after_cell : Header → List (List Fraction) → List (List ℕ) → Option (List ℕ) → Result Said MeshKind
after_cell h points cells None = Err Syntax
after_cell h points cells (Some cell) =
    if are_below h.vertices (vertices_in h.kind cell)
    then (if is_distinct (vertices_in h.kind cell) then Ok (begun h points (cells ++ cell ∷ [])) else Err RepeatedVertex)
    else Err VertexRange

-- the words of the next line that has any
unfoldable pub after_row : Said → List (List ℕ) → Result Said MeshKind
after_row nothing ws = after_header (header_of ws)
after_row (begun h points cells) ws =
    if nat_lt (length points) h.vertices then after_point h points cells (row coordinate_of (dimension h.kind) ws)
    else if nat_lt (length cells) h.cells then after_cell h points cells (row number_of (cell_size h) ws)
    else Err Syntax

abbrev pub after_words : Said → List (List ℕ) → Result Said MeshKind
after_words said [] = Ok said
after_words said (word ∷ more) = after_row said (word ∷ more)

-- the next line, whatever it is
abbrev pub after_line : Said → List ℕ → Result Said MeshKind
after_line said line = if has_plain_bytes line then after_words said (words (content line)) else Err Lex

-- ---- the text

-- the mesh of these points and lines of cells
abbrev pub mesh_of : {A : Type 0} → Cell → List (List A) → List (List ℕ) → MeshData A
mesh_of kind points cells = record { kind = kind; points = points; cells = map (vertices_in kind) cells; markers = map (marker_in kind) cells }

-- the mesh at the end of the text, whose last line has this number
abbrev pub complete : ℕ → Said → Result (MeshData Fraction) MeshRefusal
complete number nothing = Err (refusal Syntax number)
complete number (begun h points cells) =
    if (length points == h.vertices) && (length cells == h.cells)
    then Ok (mesh_of h.kind points cells)
    else Err (refusal Syntax number)

-- more must come
abbrev pub IsOpen : Said → Type 0
IsOpen said = (number : ℕ) → complete number said ≡ Err (refusal Syntax number)

-- goes on after the line of this number, unless it is bad
abbrev pub at_line : ℕ → Result Said MeshKind → (Said → Result (MeshData Fraction) MeshRefusal) → Result (MeshData Fraction) MeshRefusal
at_line number (Ok said) rest = rest said
at_line number (Err kind) rest = Err (refusal kind number)

-- the rest of the lines, after so many
unfoldable pub reading : ℕ → Said → List (List ℕ) → Result (MeshData Fraction) MeshRefusal
reading number said [] = complete number said
reading number said (line ∷ more) = at_line (number + 1) (after_line said line) (λ next. reading (number + 1) next more)

abbrev pub longest : ℕ
longest = MESH_LIMIT

-- the mesh of a text, or the refusal
unfoldable pub meaning : List ℕ → Result (MeshData Fraction) MeshRefusal
meaning text = if nat_le (length text) longest then reading 0 nothing (lines text) else Err (refusal TooLong 0)
