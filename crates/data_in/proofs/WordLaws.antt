-- The words of a line, one after the other
use Rattle.std.proofs.Common.{◌≡◌, ℕ, true, false, List, [], ◌∷◌, Option, Some, None, refl, sym, ◌∙◌}
use Rattle.std.specs.Prelude.{codes}
use Rattle.algebra.specs.Fraction.{Fraction}
use Rattle.mesh_in.specs.Line.{is_some_word}
use Rattle.mesh_in.specs.MeshText.{keyword, one, at_end}
use Rattle.mesh_in.specs.Number.{number_of}
use Rattle.mesh_in.specs.NumberReading.{coordinate_of}
use Rattle.mesh_in.specs.Options.{◌>>=◌}
use Rattle.data_in.specs.DataReading.{heading_in, head_in, value_in}
use Rattle.data_in.specs.DataText.{Row, heading}
use Rattle.data_in.specs.Words.{behind_heading, none_behind, is_heading}

pub words_left : {A : Type 0} (ws : List (List ℕ)) (x : A) → is_some_word ws ≡ true → at_end ws x ≡ None
words_left [] x some = absurd cc
words_left (word ∷ more) x some = refl

pub none_left : {A : Type 0} (ws : List (List ℕ)) (x : A) → is_some_word ws ≡ false → at_end ws x ≡ Some x
none_left [] x none = refl
none_left (word ∷ more) x none = absurd cc

-- ---- the heading
abbrev ending : List (List ℕ) → Option Row
ending ws = at_end ws heading

assoc : (o : Option (List (List ℕ))) (f : List (List ℕ) → Option (List (List ℕ))) → (o >>= λ ws. f ws >>= ending) ≡ ((o >>= f) >>= ending)
assoc None f = refl
assoc (Some ws) f = refl

heading_parts : (ws : List (List ℕ)) → heading_in ws ≡ (behind_heading ws >>= ending)
unfolding heading_in
heading_parts ws = assoc (keyword (codes "data") ws) (keyword (codes "1"))

ended : (o : Option (List (List ℕ))) → none_behind o ≡ true → (o >>= ending) ≡ Some heading
ended None e = absurd cc
ended (Some []) e = refl
ended (Some (w ∷ ws)) e = absurd cc

not_ended : (o : Option (List (List ℕ))) → none_behind o ≡ false → (o >>= ending) ≡ None
not_ended None e = refl
not_ended (Some []) e = absurd cc
not_ended (Some (w ∷ ws)) e = refl

pub heading_found : (ws : List (List ℕ)) → is_heading ws ≡ true → heading_in ws ≡ Some heading
heading_found ws is = heading_parts ws ∙ ended (behind_heading ws) is

pub heading_missing : (ws : List (List ℕ)) → is_heading ws ≡ false → heading_in ws ≡ None
heading_missing ws is = heading_parts ws ∙ not_ended (behind_heading ws) is

-- ---- the line that begins a block
pub head_steps : (ws ws1 ws2 ws3 : List (List ℕ)) (number count : ℕ) → keyword (codes "coefficient") ws ≡ Some ws1 → one number_of ws1 ≡ Some (number, ws2) → one number_of ws2 ≡ Some (count, ws3)
    → head_in ws ≡ at_end ws3 (number, count)
unfolding head_in
head_steps ws ws1 ws2 ws3 number count name is_number is_count = rw (name, is_number, is_count) refl

-- ---- one value
pub value_none : (ws : List (List ℕ)) → ws ≡ [] → None ≡ value_in ws
unfolding value_in
value_none ws none = rw none refl

abbrev with_rest : List (List ℕ) → Fraction → Option (Fraction × List (List ℕ))
with_rest rest x = Some (x, rest)

abbrev only : Fraction × List (List ℕ) → Option Fraction
only x = at_end x.1 x.0

first_of : (o : Option Fraction) (rest : List (List ℕ)) → is_some_word rest ≡ true → None ≡ ((o >>= with_rest rest) >>= only)
first_of None rest some = refl
first_of (Some x) rest some = sym (words_left rest x some)

only_of : (o : Option Fraction) (rest : List (List ℕ)) → is_some_word rest ≡ false → o ≡ ((o >>= with_rest rest) >>= only)
only_of None rest none = refl
only_of (Some x) rest none = sym (none_left rest x none)

pub value_more : (ws : List (List ℕ)) (word : List ℕ) (rest : List (List ℕ)) → ws ≡ word ∷ rest → is_some_word rest ≡ true → None ≡ value_in ws
unfolding value_in
value_more ws word rest are some = rw are (first_of (coordinate_of word) rest some)

pub value_only : (ws : List (List ℕ)) (word : List ℕ) (rest : List (List ℕ)) (o : Option Fraction) → ws ≡ word ∷ rest → is_some_word rest ≡ false → o ≡ coordinate_of word → o ≡ value_in ws
unfolding value_in
value_only ws word rest o are none is = is ∙ rw are (only_of (coordinate_of word) rest none)
