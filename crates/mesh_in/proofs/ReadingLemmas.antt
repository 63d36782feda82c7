-- One line of a text
use Rattle.std.proofs.Common.{◌≡◌, ℕ, ◌+◌, ◌<◌, ◌≤◌, true, false, List, [], ◌∷◌, Err, refl, eqb, length, arith}
use Rattle.std.specs.Str.Lines.{lines}
use Rattle.std.proofs.lemmas.Bool.{eqb-true, le-leb, lt-leb}
use Rattle.mesh_in.specs.declared.refusal.MeshKind.TheVariants.{TooLong, Lex}
use Rattle.mesh_in.specs.Line.{content, has_plain_bytes, is_some_word, words}
use Rattle.mesh_in.specs.MeshText.{Said, nothing, complete, after_row, after_words, at_line, reading, meaning, longest}
use Rattle.mesh_in.specs.Refusal.{refusal}

no_word : (ws : List (List ℕ)) → is_some_word ws ≡ false → ws ≡ []
no_word [] none = refl
no_word (w ∷ ws) none = absurd cc

some_word : (said : Said) (ws : List (List ℕ)) → is_some_word ws ≡ true → after_words said ws ≡ after_row said ws
some_word said [] some = absurd cc
some_word said (w ∷ ws) some = refl

-- without words
pub blank_line : (n : ℕ) (said : Said) (line : List ℕ) (more : List (List ℕ)) → has_plain_bytes line ≡ true → is_some_word (words (content line)) ≡ false → reading n said (line ∷ more) ≡ reading (n + 1) said more
unfolding reading
blank_line n said line more plain none = rw (plain, no_word (words (content line)) none) refl

-- with a byte that may not stand there
pub bad_line : (n : ℕ) (said : Said) (line : List ℕ) (more : List (List ℕ)) → has_plain_bytes line ≡ false → reading n said (line ∷ more) ≡ Err (refusal Lex (n + 1))
unfolding reading
bad_line n said line more other = rw other refl

-- with words
pub line_of_words : (n : ℕ) (said : Said) (line : List ℕ) (more : List (List ℕ)) → has_plain_bytes line ≡ true → is_some_word (words (content line)) ≡ true
    → reading n said (line ∷ more) ≡ at_line (n + 1) (after_row said (words (content line))) (λ next. reading (n + 1) next more)
unfolding reading
line_of_words n said line more plain some = rw (plain, some_word said (words (content line)) some) refl

-- no line is left
pub no_lines : (n : ℕ) (said : Said) (rest : List ℕ) → eqb (length rest) 0 ≡ true → reading n said (lines rest) ≡ complete n said
unfolding reading
no_lines n said [] none = refl
no_lines n said (b ∷ bytes) none = absurd (omega (arith, eqb-true (length (b ∷ bytes)) 0 none))

pub long_text : (text : List ℕ) → longest < length text → meaning text ≡ Err (refusal TooLong 0)
unfolding meaning
long_text text lt = rw (lt-leb (length text) longest lt) refl

pub short_text : (text : List ℕ) → length text ≤ longest → meaning text ≡ reading 0 nothing (lines text)
unfolding meaning
short_text text le = rw (le-leb (length text) longest le) refl
