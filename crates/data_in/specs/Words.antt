-- The heading and the heads of blocks, as the code reads them
use Rattle.std.specs.Prelude.{ℕ, Bool, false, not, List, Option, Some, None, codes}
use Rattle.mesh_in.specs.Line.{is_some_word}
use Rattle.mesh_in.specs.MeshText.{keyword}
use Rattle.mesh_in.specs.Options.{◌>>=◌}
use Rattle.data_in.specs.declared.rows.Head.{Head}

abbrev pub behind_heading : List (List ℕ) → Option (List (List ℕ))
behind_heading ws = keyword (codes "data") ws >>= λ ws. keyword (codes "1") ws

abbrev pub none_behind : Option (List (List ℕ)) → Bool
none_behind None = false
none_behind (Some ws) = not (is_some_word ws)

abbrev pub is_heading : List (List ℕ) → Bool
is_heading ws = none_behind (behind_heading ws)

abbrev pub pair_of : Head → ℕ × ℕ
pair_of h = (h.number, h.count)
