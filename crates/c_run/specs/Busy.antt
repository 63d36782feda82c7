-- The statements that a run comes to
use Rattle.std.specs.Prelude.{◌≡◌, ℕ, ◌+◌, ◌<◌, List, [], ◌∷◌, ◌++◌, length}
use Rattle.c_unit.specs.declared.unit.CStmt.{CStmt, Set, Copy, Abs, Inv, Add, Sub, Mul, Load, For', items-the_row-CStmt}
use Rattle.c_unit.specs.Meaning.{counted}
use Rattle.c_run.specs.declared.busy.Busy.{Busy}

-- the body of a loop
abbrev pub inner_of : CStmt → List CStmt
inner_of (For' n m body) = items-the_row-CStmt _ body
inner_of (Set to v) = []
inner_of (Copy to p) = []
inner_of (Abs to p) = []
inner_of (Inv to p) = []
inner_of (Add to p q) = []
inner_of (Sub to p q) = []
inner_of (Mul to p q) = []
inner_of (Load to k at) = []

abbrev pub entry : ℕ → ℕ → Busy
entry index inside = record { index = index; inside = inside }

-- The entries of the statements that make some, the first of which has this place in its block: one for each, and behind it those of its body.
pub data IsListed : ℕ → List CStmt → List Busy → Type 0 where
  all_listed : {k : ℕ} → IsListed k [] []
  passed_over : {k : ℕ} {c : CStmt} {cs : List CStmt} {es : List Busy} → counted c ≡ 0 → IsListed (k + 1) cs es → IsListed k (c ∷ cs) es
  listed : {k : ℕ} {c : CStmt} {cs : List CStmt} {inside es : List Busy}
      → 0 < counted c → IsListed 0 (inner_of c) inside → IsListed (k + 1) cs es → IsListed k (c ∷ cs) (entry k (length inside) ∷ inside ++ es)

-- a block's entries are added
abbrev pub AddsBlock : List CStmt → List Busy → List Busy → Type 0
AddsBlock body old new = (es : List Busy) × (new ≡ old ++ es) × IsListed 0 body es

-- a loop's entry with those inside it, if there are any
abbrev pub with_inside : ℕ → List Busy → List Busy
with_inside index [] = []
with_inside index (e ∷ es) = entry index (length (e ∷ es)) ∷ e ∷ es

abbrev pub Closes : ℕ → List Busy → List Busy → Type 0
Closes at old new = (front : List Busy) (e : Busy) (inside : List Busy) → old ≡ front ++ e ∷ inside → length front ≡ at → new ≡ front ++ with_inside e.index inside

abbrev pub AddsLoop : ℕ → List CStmt → List Busy → List Busy → Type 0
AddsLoop index body old new = (inside : List Busy) × (new ≡ old ++ with_inside index inside) × IsListed 0 body inside

-- a statement's entries are added, in front of those of the statements behind it
abbrev pub AddsStatement : ℕ → CStmt → List Busy → List Busy → Type 0
AddsStatement index c old new =
    (es : List Busy) × (new ≡ old ++ es) × ((cs : List CStmt) (more : List Busy) → IsListed (index + 1) cs more → IsListed index (c ∷ cs) (es ++ more))
