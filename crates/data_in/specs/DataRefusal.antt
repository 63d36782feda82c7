-- How a data text is refused: for its first bad line, or for the lines that it lacks
use Rattle.std.specs.Prelude.{◌≡◌, ◌⊎◌, ℕ, ◌+◌, ◌<◌, ◌≤◌, List, [], ◌∷◌, ◌++◌, length, Option, Ok, Err}
use Rattle.std.specs.Str.Lines.{lines}
use Rattle.data_in.specs.declared.refusal.ValueKind.{ValueKind}
use Rattle.data_in.specs.declared.refusal.ValueKind.TheVariants.{TooLong, Syntax}
use Rattle.data_in.specs.declared.refusal.ValueRefusal.{ValueRefusal}
use Rattle.data_in.specs.DataText.{Row, longest}
use Rattle.data_in.specs.DataReading.{Place, start, refusal, line_at, next, IsOpen}

-- so many lines stand before these, which may come one after the other from the first place on, and lead to the last
abbrev pub Leads : ℕ → Place → List (List ℕ) → Place → Type 0
Leads n from [] to = from ≡ to
Leads n from (line ∷ more) to =
    (row : Option Row) × (line_at from (n + 1) line ≡ Ok row) × Leads (n + 1) (next from row) more to

-- the lines before it begin a data text, and this one can't follow them
pub record HasBadLine (text : List ℕ) (e : ValueRefusal) : Type 0 where
  pub front : List (List ℕ)
  pub bad : List ℕ
  pub after : List (List ℕ)
  pub place : Place
  pub kind : ValueKind
  pub lines_are : lines text ≡ front ++ bad ∷ after
  pub leads : Leads 0 start front place
  pub is_bad : line_at place (length front + 1) bad ≡ Err kind
  pub refusal_is : e ≡ refusal kind (length front + 1)

-- all lines begin a data text, and more must come
pub record LacksLines (text : List ℕ) (e : ValueRefusal) : Type 0 where
  pub place : Place
  pub leads : Leads 0 start (lines text) place
  pub is_open : IsOpen place
  pub refusal_is : e ≡ refusal Syntax (length (lines text))

-- how the text is refused
abbrev pub IsRefused : List ℕ → ValueRefusal → Type 0
IsRefused text e =
    ((longest < length text) × (e ≡ refusal TooLong 0))
    ⊎ ((length text ≤ longest) × (HasBadLine text e ⊎ LacksLines text e))
