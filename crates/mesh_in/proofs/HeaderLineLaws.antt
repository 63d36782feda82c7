-- The first line with words
use Rattle.std.proofs.Common.{◌≡◌, ℕ, ◌+◌, true, false, List, ◌∷◌, ap, refl, ◌∙◌, arith}
use Rattle.std.specs.List.{position_or_len}
use Rattle.std.specs.Str.Lines.{lines}
use Rattle.mesh_in.specs.HeaderLine.{has_words, header_line}

-- it is this one
pub header_here : (text line : List ℕ) (more : List (List ℕ)) → lines text ≡ line ∷ more → has_words line ≡ true → header_line text ≡ 1
unfolding header_line
header_here text line more e h = ap (λ ls. position_or_len has_words ls + 1) e ∙ rw h refl

-- it is a later one
pub header_later : (text line rest : List ℕ) → lines text ≡ line ∷ lines rest → has_words line ≡ false → header_line text ≡ header_line rest + 1
unfolding header_line
header_later text line rest e h = ap (λ ls. position_or_len has_words ls + 1) e ∙ rw h (omega arith)
