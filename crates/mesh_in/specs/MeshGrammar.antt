-- The grammar of mesh texts: a relation between the lines of a text and a mesh, and the first bad line of every other text
use Rattle.std.specs.Prelude.{◌≡◌, ◌⊎◌, ℕ, ◌+◌, ◌<◌, ◌≤◌, Bool, true, List, [], ◌∷◌, ◌++◌, length, map, filter, Some, Err, codes}
use Rattle.std.specs.List.{AllByRecursion, AllZip}
use Rattle.std.specs.Str.Lines.{lines}
use Rattle.algebra.specs.Fraction.{Fraction}
use Rattle.ratio.specs.NumberText.{Magnitude, IsNumber, number_value}
use Rattle.spaces.specs.Cell.{dimension, cell_name}
use Rattle.mesh_in.specs.declared.header.Header.{Header}
use Rattle.mesh_in.specs.declared.header.Version.{Version}
use Rattle.mesh_in.specs.declared.refusal.MeshKind.{MeshKind}
use Rattle.mesh_in.specs.declared.refusal.MeshKind.TheVariants.{TooLong, Syntax}
use Rattle.mesh_in.specs.declared.refusal.MeshRefusal.{MeshRefusal}
use Rattle.mesh_in.specs.CellLine.{cell_size, vertices_in, marker_in, IsCellLine}
use Rattle.mesh_in.specs.Line.{content, has_plain_bytes, is_some_word, words}
use Rattle.mesh_in.specs.Number.{number_of}
use Rattle.mesh_in.specs.MeshData.{MeshData, most}
use Rattle.mesh_in.specs.MeshText.{Said, nothing, begun, longest, after_line, IsOpen}
use Rattle.mesh_in.specs.Refusal.{refusal}
use Rattle.mesh_in.specs.Version.{version_name}

-- the words of each line that has any
abbrev pub word_lines : List (List ℕ) → List (List (List ℕ))
word_lines ls = filter is_some_word (map (λ line. words (content line)) ls)

-- the word is a number that fits, and this is its value
pub record StandsFor (word : List ℕ) (x : Fraction) : Type 0 where
  pub below_zero : Bool
  pub magnitude : Magnitude
  pub is_number : IsNumber word below_zero magnitude
  pub value : number_value below_zero magnitude ≡ Some x

-- decimal digits with a value below 2^32
abbrev pub IsNatural : List ℕ → ℕ → Type 0
IsNatural word n = number_of word ≡ Some n

-- just so many words, and what each stands for
pub record IsRow {A : Type 0} (R : List ℕ → A → Type 0) (size : ℕ) (ws : List (List ℕ)) (xs : List A) : Type 0 where
  pub all : length ws ≡ size
  pub each : AllZip R ws xs

-- `mesh VERSION CELL VERTICES CELLS`
pub record IsHeader (ws : List (List ℕ)) (h : Header) : Type 0 where
  pub vertices : List ℕ
  pub cells : List ℕ
  pub words_are : ws ≡ codes "mesh" ∷ (version_name h.version ∷ (cell_name h.kind ∷ (vertices ∷ (cells ∷ []))))
  pub all_vertices : IsNatural vertices h.vertices
  pub all_cells : IsNatural cells h.cells
  pub few : (h.vertices ≤ most) × (h.cells ≤ most)

-- The lines are a header, then lines of these points, then lines of cells with these numbers: no more than the header says, and cells only after all points.
pub record Opens (ls : List (List ℕ)) (h : Header) (points : List (List Fraction)) (cells : List (List ℕ)) : Type 0 where
  pub plain : AllByRecursion (λ line. has_plain_bytes line ≡ true) ls
  pub header : List (List ℕ)
  pub point_lines : List (List (List ℕ))
  pub cell_lines : List (List (List ℕ))
  pub lines_are : word_lines ls ≡ header ∷ (point_lines ++ cell_lines)
  pub is_header : IsHeader header h
  pub are_points : AllZip (IsRow StandsFor (dimension h.kind)) point_lines points
  pub are_cells : AllZip (IsRow IsNatural (cell_size h)) cell_lines cells
  pub lawful : AllByRecursion (IsCellLine h) cells
  pub at_most : (length points ≤ h.vertices) × (length cells ≤ h.cells)
  pub in_order : (cell_lines ≡ []) ⊎ (length points ≡ h.vertices)

-- the header of a mesh
abbrev pub header_for : Version → MeshData Fraction → Header
header_for version m = record { kind = m.kind; version = version; vertices = length m.points; cells = length m.cells }

-- the text is that of the mesh, in one of the versions
pub record IsMeshText (text : List ℕ) (m : MeshData Fraction) : Type 0 where
  pub short : length text ≤ longest
  pub version : Version
  pub numbers : List (List ℕ)
  pub opens : Opens (lines text) (header_for version m) m.points numbers
  pub cells_are : m.cells ≡ map (vertices_in m.kind) numbers
  pub markers_are : m.markers ≡ map (marker_in m.kind) numbers

-- the lines begin a mesh text, and have said so much
abbrev pub Says : List (List ℕ) → Said → Type 0
Says ls nothing = AllByRecursion (λ line. has_plain_bytes line ≡ true) ls × (word_lines ls ≡ [])
Says ls (begun h points cells) = Opens ls h points cells

-- the lines before it begin a mesh text, and this one can't follow them
pub record HasBadLine (text : List ℕ) (e : MeshRefusal) : Type 0 where
  pub front : List (List ℕ)
  pub bad : List ℕ
  pub after : List (List ℕ)
  pub said : Said
  pub kind : MeshKind
  pub lines_are : lines text ≡ front ++ bad ∷ after
  pub says : Says front said
  pub is_bad : after_line said bad ≡ Err kind
  pub refusal_is : e ≡ refusal kind (length front + 1)

-- all lines begin a mesh text, and more must come
pub record LacksLines (text : List ℕ) (e : MeshRefusal) : Type 0 where
  pub said : Said
  pub says : Says (lines text) said
  pub is_open : IsOpen said
  pub refusal_is : e ≡ refusal Syntax (length (lines text))

-- how the text is refused
abbrev pub IsRefused : List ℕ → MeshRefusal → Type 0
IsRefused text e = ((longest < length text) × (e ≡ refusal TooLong 0)) ⊎ ((length text ≤ longest) × (HasBadLine text e ⊎ LacksLines text e))
