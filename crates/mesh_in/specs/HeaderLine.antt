-- The line of a mesh text in which its header stands
use Rattle.std.specs.Prelude.{◌≡◌, ◌≢◌, ℕ, ◌+◌, Bool, List, Ok}
use Rattle.std.specs.List.{position_or_len}
use Rattle.std.specs.Str.Lines.{lines}
use Rattle.algebra.specs.Fraction.{Fraction}
use Rattle.spaces.specs.declared.cell.Cell.{Cell}
use Rattle.mesh_in.specs.declared.refusal.MeshKind.TheVariants.{WrongCell}
use Rattle.mesh_in.specs.declared.refusal.MeshRefusal.{MeshRefusal}
use Rattle.mesh_in.specs.Line.{content, words, is_some_word}
use Rattle.mesh_in.specs.MeshData.{MeshData}
use Rattle.mesh_in.specs.MeshText.{meaning}
use Rattle.mesh_in.specs.Refusal.{refusal}

abbrev pub has_words : List ℕ → Bool
has_words line = is_some_word (words (content line))

-- the first line that has words, from 1
unfoldable pub header_line : List ℕ → ℕ
header_line text = position_or_len has_words (lines text) + 1

-- the text is that of a mesh of other cells, and its header is refused
abbrev pub IsWrongCell : Cell → List ℕ → MeshRefusal → Type 0
IsWrongCell kind text e = (m : MeshData Fraction) × (meaning text ≡ Ok m) × (m.kind ≢ kind) × (e ≡ refusal WrongCell (header_line text))
