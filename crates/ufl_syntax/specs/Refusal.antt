-- The first token such that no list of statements begins with the tokens up to it.
use Rattle.std.specs.Prelude.{◌≡◌, ◌<◌, ◌≤◌, ◌⊎◌, ℕ, Bool, true, false, List, [], ◌∷◌, ◌++◌}
use Rattle.ufl_syntax.specs.declared.class.Class.{Class}
use Rattle.ufl_syntax.specs.declared.class.Class.TheVariants as k
use Rattle.ufl_syntax.specs.declared.class.Lexeme.{Lexeme}
use Rattle.ufl_syntax.specs.declared.tree.Stmt.{Stmt}
use Rattle.ufl_syntax.specs.Grammar.{File}
use Rattle.ufl_syntax.specs.Depth.{depth_at}

-- these tokens can be gone on with to a list of statements
abbrev pub Begins : ℕ → List Lexeme → Type 0
Begins n front = (more : List Lexeme) × (sts : List Stmt) × File n (front ++ more) sts []

-- no list of statements begins with these tokens
abbrev pub BeginsNone : ℕ → List Lexeme → Type 0
BeginsNone n front = (more : List Lexeme) (sts : List Stmt) → File n (front ++ more) sts [] → ⊥

-- some list of statements begins with the tokens before the bad one, and none with the bad one too
abbrev pub IsRefused : ℕ → List Lexeme → Lexeme → Type 0
IsRefused n front bad = Begins n front × BeginsNone n (front ++ bad ∷ [])

abbrev pub is_opening : Class → Bool
is_opening k.Open = true
is_opening k.OpenList = true
is_opening _ = false

-- some list of statements begins with these tokens, however many brackets, signs and `**` are open
abbrev pub BeginsAny : List Lexeme → Type 0
BeginsAny front = (n : ℕ) × Begins n front

-- At the bad token more than n brackets, signs and `**` are open. An opening bracket counts even where the grammar
-- can't go on with it, a sign or a `**` only where it can.
abbrev pub IsTooDeep : ℕ → List Lexeme → Lexeme → Type 0
IsTooDeep n front bad = (n < depth_at (front ++ bad ∷ []))
    × (BeginsAny (front ++ bad ∷ []) ⊎ (is_opening bad.class ≡ true))

-- The grammar can't go on with the bad token, and it is no opening bracket that is too deep.
abbrev pub IsWrong : ℕ → List Lexeme → Lexeme → Type 0
IsWrong n front bad = (BeginsAny (front ++ bad ∷ []) → ⊥)
    × (is_opening bad.class ≡ true → depth_at (front ++ bad ∷ []) ≤ n)

-- The tokens end too early: they are no list of statements, and some list of statements begins with them.
abbrev pub EndsEarly : ℕ → List Lexeme → Type 0
EndsEarly n all = Begins n all × ((sts : List Stmt) → File n all sts [] → ⊥)

-- this token among them is refused, behind these, for one of two reasons
abbrev pub StopsAt : ℕ → List Lexeme → List Lexeme → Lexeme → Type 0
StopsAt n all front bad = (after : List Lexeme) × (all ≡ front ++ bad ∷ after) × IsRefused n front bad
    × (IsWrong n front bad ⊎ IsTooDeep n front bad)

-- some token among them is refused
abbrev pub Stops : ℕ → List Lexeme → Type 0
Stops n all = (front : List Lexeme) × (bad : Lexeme) × StopsAt n all front bad

-- they are a list of statements
abbrev pub AreStatements : ℕ → List Lexeme → Type 0
AreStatements n all = (sts : List Stmt) × File n all sts []
