-- The texts that the files hold, the mesh, and why there is none
use Rattle.std.specs.Prelude.{◌≡◌, ◌⊎◌, ℕ, List, Option, Some, None, Ok, Err}
use Rattle.algebra.specs.Fraction.{Fraction}
use Rattle.ends.specs.Count.{Rises}
use Rattle.ends.specs.Held.{Held, bytes_of}
use Rattle.spaces.specs.declared.cell.Cell.{Cell}
use Rattle.mesh_in.specs.MeshData.{MeshData}
use Rattle.mesh_in.specs.MeshText.{meaning}
use Rattle.mesh_in.specs.declared.refusal.MeshRefusal.{MeshRefusal}
use Rattle.mesh_in.specs.HeaderLine.{IsWrongCell}
use Rattle.answers.specs.declared.outcome.Outcome.{Outcome}
use Rattle.answers.specs.declared.outcome.Outcome.TheVariants.{Mesh, ReadFault, Memory}

-- ---- files

-- how loads go: what the files hold, how often a load failed before and after them, and the name of the last one that failed
pub record Loads : Type 0 where
  pub content : Option (List Held)
  pub before : ℕ
  pub now : ℕ
  pub failed : List ℕ

abbrev pub loads : Option (List Held) → ℕ → ℕ → List ℕ → Loads
loads content before now failed = record { content = content; before = before; now = now; failed = failed }

-- the text of the file with this name; where nothing is told, any text may be
abbrev pub IsText : Option (List Held) → List ℕ → List ℕ → Type 0
IsText None name text = Unit {0}
IsText (Some files) name text = bytes_of files name ≡ Some text

-- why the file with this number was not loaded: there was a fault, and its name is the last failed one; or memory was wanting
abbrev pub LoadCause : Loads → ℕ → List ℕ → Outcome → Type 0
LoadCause l file name o = (o ≡ Memory) ⊎ ((o ≡ ReadFault file) × Rises l.before l.now × (l.failed ≡ name))

-- ---- the mesh: file 2

-- the text stands for a mesh of these cells
abbrev pub IsMeshText : Cell → List ℕ → MeshData Fraction → Type 0
IsMeshText c text m = (meaning text ≡ Ok m) × (m.kind ≡ c)

abbrev pub HasMesh : Option (List Held) → List ℕ → Cell → MeshData Fraction → Type 0
HasMesh content name c m = (text : List ℕ) × IsText content name text × IsMeshText c text m

-- when a mesh is refused: by its text, or for its cells
abbrev pub MeshRefuses : Cell → MeshRefusal → List ℕ → Type 0
MeshRefuses c r text = (meaning text ≡ Err r) ⊎ IsWrongCell c text r

-- why there is no mesh: its file was not loaded, or is refused
abbrev pub MeshCause : Loads → List ℕ → Cell → Outcome → Type 0
MeshCause l name c o =
    LoadCause l 2 name o
    ⊎ ((r : MeshRefusal) × (text : List ℕ) × (o ≡ Mesh r) × IsText l.content name text × MeshRefuses c r text)
