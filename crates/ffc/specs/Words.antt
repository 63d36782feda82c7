-- The shapes that the words of a command line may have
use Rattle.std.specs.Prelude.{◌≡◌, ℕ, List, [], ◌∷◌, map, codes, string_bytes, String}
use Rattle.std.specs.Global.{Global}

-- the words as bytes
abbrev pub texts : List (String Global) → List (List ℕ)
texts words = map string_bytes words

-- compile FORM
abbrev pub compile_words : List ℕ → List (List ℕ)
compile_words form = codes "compile" ∷ form ∷ []

-- check FORM
abbrev pub check_words : List ℕ → List (List ℕ)
check_words form = codes "check" ∷ form ∷ []

-- assemble FORM NAME MESH -
abbrev pub assemble_words : List ℕ → List ℕ → List ℕ → List (List ℕ)
assemble_words form name mesh = codes "assemble" ∷ form ∷ name ∷ mesh ∷ codes "-" ∷ []

-- none of the shapes
pub record HaveNoShape (words : List (List ℕ)) : Type 0 where
  pub compile : (form : List ℕ) → words ≡ compile_words form → ⊥
  pub check : (form : List ℕ) → words ≡ check_words form → ⊥
  pub assemble : (form name mesh : List ℕ) → words ≡ assemble_words form name mesh → ⊥
