-- Sums in any order of adding
use Rattle.std.specs.Prelude.{ℕ, ◌+◌, List, [], ◌∷◌, ◌++◌}
use Rattle.algebra.specs.Fraction.{Fraction, add}
use Rattle.algebra.specs.Over.{Over}
use Rattle.room.specs.Steps.{Step, Sum}

pub data Adding : Type 0 where
  Term : Fraction → Adding
  Plus : Adding → Adding → Adding

abbrev pub added : Adding → Fraction
added (Term x) = x
added (Plus s t) = add (added s) (added t)

abbrev pub adding_steps : Adding → List Step
adding_steps (Term x) = []
adding_steps (Plus s t) = adding_steps s ++ (adding_steps t ++ Sum (added s) (added t) ∷ [])

-- each term is over l, and the bounds of all numerators add up to b
pub data OverAdding (l : ℕ) : ℕ → Adding → Type 0 where
  term : {b : ℕ} {x : Fraction} → Over l b x → OverAdding l b (Term x)
  plus : {b c : ℕ} {s t : Adding} → OverAdding l b s → OverAdding l c t → OverAdding l (b + c) (Plus s t)

-- one term after the other
abbrev pub onto : Adding → List Fraction → Adding
onto t [] = t
onto t (x ∷ xs) = onto (Plus t (Term x)) xs
