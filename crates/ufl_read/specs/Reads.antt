-- What a function of the reader answers.
use Rattle.std.specs.Prelude.{◌≡◌, ◌≤◌, ◌<◌, ◌+◌, ℕ, zero, suc, Bool, true, false, List, [], ◌∷◌, ◌++◌, length, take, drop, Option, Some, None, Result, Ok, Err}
use Rattle.ufl_syntax.specs.declared.class.Class.{Class}
use Rattle.ufl_syntax.specs.declared.class.Class.TheVariants as k
use Rattle.ufl_syntax.specs.declared.class.Lexeme.{Lexeme}
use Rattle.ufl_syntax.specs.declared.tree.AssignOp.{AssignOp}
use Rattle.ufl_syntax.specs.declared.tree.AssignOp.TheVariants as o
use Rattle.ufl_syntax.specs.declared.tree.Syn.{Syn}
use Rattle.ufl_syntax.specs.Grammar.{Value}
use Rattle.ufl_syntax.specs.Refusal.{IsRefused, IsWrong, IsTooDeep, EndsEarly}
use Rattle.ufl_syntax.specs.Machine.{Part, Outcome, ended, stopped, sank, run, may_be_empty, a_value, a_word, after_target, token}
use Rattle.ufl_read.specs.declared.tokens.Fault.{Fault}
use Rattle.ufl_read.specs.declared.tokens.Fault.TheVariants as f

-- this token stands at the place
abbrev pub IsAt : List Lexeme → ℕ → Lexeme → Type 0
IsAt all at t = (drop at all ≡ t ∷ drop (at + 1) all) × (at < length all)

-- why nothing was read
abbrev pub Fails : List Lexeme → Fault → Outcome → Type 0
Fails all f.Memory o = Unit {0}
Fails all f.Short o = o ≡ ended false
Fails all (f.Wrong at) o = o ≡ stopped (drop at all)
Fails all (f.Deep at) o = o ≡ sank (drop at all)

-- a part that can't be empty takes a token
abbrev pub Moves : Bool → ℕ → ℕ → Type 0
Moves true a b = a ≤ b
Moves false a b = a < b

-- From place at on this part is read and what is left begins at the new place, or it can't be.
abbrev pub Reads : {A : Type 0} → (A → List Lexeme → List Lexeme → Type 0) → (A → ℕ) → Part → List Lexeme → ℕ
    → Result A Fault → Type 0
Reads IsPart place part all at (Ok x) = Moves (may_be_empty part) at (place x)
    × IsPart x (drop at all) (drop (place x) all)
    × ((stack : List Part) → run (part ∷ stack) (drop at all) ≡ run stack (drop (place x) all))
Reads IsPart place part all at (Err e) = (stack : List Part) → Fails all e (run (part ∷ stack) (drop at all))

-- the same for several parts, one after the other, of which one can't be empty
abbrev pub ReadsAll : {A : Type 0} → (A → List Lexeme → List Lexeme → Type 0) → (A → ℕ) → List Part → List Lexeme → ℕ
    → Result A Fault → Type 0
ReadsAll AreParts place parts all at (Ok x) = (at < place x) × AreParts x (drop at all) (drop (place x) all)
    × ((stack : List Part) → run (parts ++ stack) (drop at all) ≡ run stack (drop (place x) all))
ReadsAll AreParts place parts all at (Err e) = (stack : List Part) → Fails all e (run (parts ++ stack) (drop at all))

abbrev pub Room : ℕ → ℕ → Result ℕ Fault → Type 0
Room n at (Ok m) = n ≡ suc m
Room n at (Err e) = (n ≡ 0) × (e ≡ f.Deep at)

-- a token that doesn't belong to the term before it
abbrev pub ends_term : Class → Bool
ends_term k.Times = false
ends_term k.Divide = false
ends_term k.Power = false
ends_term k.Open = false
ends_term k.OpenList = false
ends_term k.Dot = false
ends_term _ = true

abbrev pub EndsTerm : List Lexeme → Type 0
EndsTerm [] = Unit {0}
EndsTerm (t ∷ ts) = ends_term t.class ≡ true

abbrev pub IsWord : Lexeme → Type 0
IsWord t = (b : Bool) × (t.class ≡ k.Name b)

-- why a token of this class is no name
abbrev pub unnamed_fault : Class → ℕ → ℕ → Fault
unnamed_fault k.Open zero at = f.Deep at
unnamed_fault k.OpenList zero at = f.Deep at
unnamed_fault _ _ at = f.Wrong at

-- a value and the end of its line
abbrev pub IsEnded : ℕ → List Lexeme → Syn → List Lexeme → Type 0
IsEnded n ts e rest = (end : Lexeme) × Value n ts e (end ∷ rest) × (end.class ≡ k.End)

abbrev pub ended_parts : ℕ → List Part
ended_parts n = a_value n ∷ token k.End ∷ []

-- an `=`, a value and the end of its line
abbrev pub IsAssigned : ℕ → List Lexeme → Syn → List Lexeme → Type 0
IsAssigned n ts e rest = (eq : Lexeme) × (us : List Lexeme) × (ts ≡ eq ∷ us) × (eq.class ≡ k.Assign)
    × IsEnded n us e rest

abbrev pub assigned_parts : ℕ → List Part
assigned_parts n = token k.Assign ∷ a_value n ∷ token k.End ∷ []

-- what the sign after one name does
abbrev pub IsSign : Class → Option AssignOp → Type 0
IsSign k.Assign op = op ≡ Some o.Set
IsSign k.AddAssign op = op ≡ Some o.Plus
IsSign k.SubAssign op = op ≡ Some o.Minus
IsSign _ op = op ≡ None

-- `ufl import *` and the end of the line
abbrev pub IsImport : List Lexeme → List Lexeme → Type 0
IsImport ts rest =
    (u : Lexeme) × (i : Lexeme) × (s : Lexeme) × (e : Lexeme) × (ts ≡ u ∷ i ∷ s ∷ e ∷ rest)
    × (u.class ≡ k.Name true) × (i.class ≡ k.Import) × (s.class ≡ k.Times) × (e.class ≡ k.End)

abbrev pub import_parts : List Part
import_parts = token (k.Name true) ∷ token k.Import ∷ token k.Times ∷ token k.End ∷ []

abbrev pub bracket_parts : ℕ → List Part
bracket_parts n = a_word n ∷ after_target ∷ token k.Close ∷ token k.Assign ∷ a_value n ∷ token k.End ∷ []

-- the tokens before a place, and the bad one at it
abbrev pub At : (List Lexeme → Lexeme → Type 0) → List Lexeme → ℕ → Type 0
At IsBad all at = (bad : Lexeme) × (after : List Lexeme) × (drop at all ≡ bad ∷ after) × IsBad (take at all) bad

-- why the tokens are no list of statements
abbrev pub IsRefusal : ℕ → List Lexeme → Fault → Type 0
IsRefusal n all f.Memory = Unit {0}
IsRefusal n all f.Short = EndsEarly n all
IsRefusal n all (f.Wrong at) = At (λ front bad. IsRefused n front bad × IsWrong n front bad) all at
IsRefusal n all (f.Deep at) = At (λ front bad. IsRefused n front bad × IsTooDeep n front bad) all at

-- a refusal of the tokens, and no want of memory
abbrev pub IsFault : ℕ → List Lexeme → Fault → Type 0
IsFault n all f.Memory = ⊥
IsFault n all f.Short = IsRefusal n all f.Short
IsFault n all (f.Wrong at) = IsRefusal n all (f.Wrong at)
IsFault n all (f.Deep at) = IsRefusal n all (f.Deep at)
