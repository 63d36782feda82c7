-- The names of exported forms
use Rattle.std.specs.Prelude.{◌≡◌, ℕ, List, [], ◌∷◌, All, true}
use Rattle.std.specs.List.{AllPass}
use Rattle.slices.specs.CTable.{is_letter, is_inside_word}
use Rattle.ufl_elab.specs.declared.program.UflProgram.{UflProgram}
use Rattle.ufl_program.specs.Names.{name_of, DifferInName}

-- a letter, and letters and digits behind it; `_` is a letter
abbrev pub IsIdentifier : List ℕ → Type 0
IsIdentifier [] = ⊥
IsIdentifier (b ∷ bs) = (is_letter b ≡ true) × AllPass is_inside_word bs

-- each name is an identifier, and no two are one
pub record HasNames (file : List ℕ) (p : UflProgram) : Type 0 where
  pub identifiers : All (λ n. IsIdentifier (name_of file n)) p.forms
  pub distinct : DifferInName file p.forms
