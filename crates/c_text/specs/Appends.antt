-- What a call that failed while it appended leaves
use Rattle.std.specs.Prelude.{◌≡◌, ℕ, List, ◌++◌}

-- some text stands at the end
abbrev pub Extends : List ℕ → List ℕ → Type 0
Extends old new = (some : List ℕ) × (new ≡ old ++ some)
