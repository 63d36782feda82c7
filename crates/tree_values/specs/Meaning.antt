-- What the program computes of trees in index notation, read from its arguments
use Rattle.std.specs.Prelude.{ℕ, zero, suc, List, [], ◌∷◌}
use Rattle.calculus.specs.Polynomial.{Polynomial, nil}
use Rattle.ufl_tree.specs.declared.plain.Plain.{Plain}
use Rattle.ufl_tree.specs.Reading.{term_of}
use Rattle.ufl_tree.specs.Places.{table_of}
use Rattle.ufl_tree.specs.Indices.{with_name}
use Rattle.ufl_meaning.specs.Meaning.{meaning}
use Rattle.tree_values.specs.Scene.{names_of, changed}
use Rattle.tree_values.specs.Value.{env_of}
use Rattle.tree_values.specs.declared.environment.Change.{Change}
use Rattle.tree_values.specs.declared.scene.Scene.{Scene}

-- a tree in a scene
unfoldable pub meaning_in : Scene → Plain → Polynomial
meaning_in s e = meaning (table_of s.elements.now) (term_of e) (env_of s) (names_of s.names.now)

-- after one more change
unfoldable pub meaning_changed : Scene → Plain → Change → Polynomial
meaning_changed s e c = meaning (table_of s.elements.now) (term_of e) (changed c (env_of s)) (names_of s.names.now)

-- where a name has another number
unfoldable pub meaning_with : Scene → Plain → ℕ → ℕ → Polynomial
meaning_with s e i k = meaning (table_of s.elements.now) (term_of e) (env_of s) (with_name i k (names_of s.names.now))

-- an item of a list of trees
abbrev pub picked_in : Scene → List Plain → ℕ → Polynomial
picked_in s [] i = nil
picked_in s (e ∷ es) zero = meaning_in s e
picked_in s (e ∷ es) (suc i) = picked_in s es i
