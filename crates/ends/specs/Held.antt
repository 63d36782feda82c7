-- What files hold: names with their bytes, of which the first with a name counts
use Rattle.std.specs.Prelude.{◌≡◌, ℕ, ◌≤◌, List, [], ◌∷◌, length, take, Option, None, Some, option_map, if◌then◌else◌}
use Rattle.std.specs.Str.{bytes_eq}

-- a file
pub record Held : Type 0 where
  pub name : List ℕ
  pub bytes : List ℕ

-- the bytes of the file with this name
abbrev pub bytes_of : List Held → List ℕ → Option (List ℕ)
bytes_of [] name = None
bytes_of (file ∷ files) name = if bytes_eq file.name name then Some file.bytes else bytes_of files name

-- what a load of at most so many bytes gives: the file's first ones, or any where nothing is told
abbrev pub IsLoad : Option (List Held) → List ℕ → ℕ → List ℕ → Type 0
IsLoad None name most bytes = length bytes ≤ most
IsLoad (Some files) name most bytes = option_map (take most) (bytes_of files name) ≡ Some bytes
