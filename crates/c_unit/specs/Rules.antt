-- The rules Slot and Bound, which a lawful function and a lawful unit keep
use Rattle.std.specs.Prelude.{◌≡◌, ◌≢◌, ℕ, ◌+◌, ◌-◌, ◌*◌, ◌<◌, ◌≤◌, ◌^◌, ◌⊎◌, List, [], ◌∷◌, ◌++◌, length, map, slice_index, slice_index_or, slice_set}
use Rattle.ratio.specs.declared.reduced.Ratio.{Ratio}
use Rattle.c_unit.specs.declared.unit.Array.{Array}
use Rattle.c_unit.specs.declared.unit.Array.TheVariants.{X, W, T, A}
use Rattle.c_unit.specs.declared.unit.Slot.{Slot}
use Rattle.c_unit.specs.declared.unit.Place.{Place}
use Rattle.c_unit.specs.declared.unit.CFun.{CFun}
use Rattle.c_unit.specs.declared.unit.CStmt.{CStmt, Set, Copy, Abs, Inv, Add, Sub, Mul, Load}
use Rattle.c_unit.specs.declared.unit.CStmt.TheViews as View

-- ---- slots

-- The greatest slot number over all turns of the enclosing loops. `turns` has four items; an absent loop counts as one of one turn.
unfoldable pub greatest : List ℕ → Slot → ℕ
greatest turns s =
    s.base + slice_index s.steps 0 * (slice_index turns 0 - 1) + slice_index s.steps 1 * (slice_index turns 1 - 1)
    + slice_index s.steps 2 * (slice_index turns 2 - 1) + slice_index s.steps 3 * (slice_index turns 3 - 1)

-- inside this many loops there are no steps for other counters
abbrev pub StepsWithin : ℕ → List ℕ → Type 0
StepsWithin depth steps = (k : ℕ) → depth ≤ k → slice_index steps k ≡ 0

-- the slot number is below its size in all turns
pub record IsSlot (turns : List ℕ) (depth size : ℕ) (s : Slot) : Type 0 where
  pub below : greatest turns s < size
  pub own : StepsWithin depth s.steps
  pub four : length s.steps ≡ 4

-- the sizes of a function's arrays and tables
pub record Sizes : Type 0 where
  pub x : ℕ
  pub w : ℕ
  pub t : ℕ
  pub a : ℕ
  pub tables : List ℕ

abbrev pub size_of : Sizes → Array → ℕ
size_of z X = z.x
size_of z W = z.w
size_of z T = z.t
size_of z A = z.a

abbrev pub IsSource : Sizes → List ℕ → ℕ → Place → Type 0
IsSource z turns depth p = IsSlot turns depth (size_of z p.array) p.slot

-- what is written lies in T or A
abbrev pub IsTarget : Sizes → List ℕ → ℕ → Place → Type 0
IsTarget z turns depth p = IsSource z turns depth p × ((p.array ≡ T) ⊎ (p.array ≡ A))

-- ---- statements

-- the numbers of a slot number are below 2^32
abbrev pub HasNumbers : Slot → Type 0
HasNumbers s = (s.base < 2 ^ 32) × (slice_index s.steps 0 < 2 ^ 32) × (slice_index s.steps 1 < 2 ^ 32) × (slice_index s.steps 2 < 2 ^ 32) × (slice_index s.steps 3 < 2 ^ 32)

-- a place that is read, inside loops of these turns
pub record KeepsSource (z : Sizes) (turns : List ℕ) (depth : ℕ) (p : Place) : Type 0 where
  pub within : IsSource z turns depth p
  pub numbers : HasNumbers p.slot

-- a place that is written: of T or A
pub record KeepsTarget (z : Sizes) (turns : List ℕ) (depth : ℕ) (p : Place) : Type 0 where
  pub within : IsTarget z turns depth p
  pub numbers : HasNumbers p.slot

-- an item of a table of so many items
pub record KeepsItem (turns : List ℕ) (depth size : ℕ) (at : Slot) : Type 0 where
  pub within : IsSlot turns depth size at
  pub numbers : HasNumbers at

mutual
  -- a statement inside so many loops of these turns
  pub data Keeps : Sizes → List ℕ → ℕ → CStmt → Type 0 where
    keeps_set : {z : Sizes} {turns : List ℕ} {depth : ℕ} {to : Place} {v : Ratio} → KeepsTarget z turns depth to → Keeps z turns depth (Set to v)
    keeps_copy : {z : Sizes} {turns : List ℕ} {depth : ℕ} {to p : Place} → KeepsTarget z turns depth to → KeepsSource z turns depth p → Keeps z turns depth (Copy to p)
    keeps_abs : {z : Sizes} {turns : List ℕ} {depth : ℕ} {to p : Place} → KeepsTarget z turns depth to → KeepsSource z turns depth p → Keeps z turns depth (Abs to p)
    keeps_inv : {z : Sizes} {turns : List ℕ} {depth : ℕ} {to p : Place} → KeepsTarget z turns depth to → KeepsSource z turns depth p → Keeps z turns depth (Inv to p)
    keeps_add : {z : Sizes} {turns : List ℕ} {depth : ℕ} {to p q : Place}
        → KeepsTarget z turns depth to → KeepsSource z turns depth p → KeepsSource z turns depth q → Keeps z turns depth (Add to p q)
    keeps_sub : {z : Sizes} {turns : List ℕ} {depth : ℕ} {to p q : Place}
        → KeepsTarget z turns depth to → KeepsSource z turns depth p → KeepsSource z turns depth q → Keeps z turns depth (Sub to p q)
    keeps_mul : {z : Sizes} {turns : List ℕ} {depth : ℕ} {to p q : Place}
        → KeepsTarget z turns depth to → KeepsSource z turns depth p → KeepsSource z turns depth q → Keeps z turns depth (Mul to p q)
    -- a slot of T from a table of the function
    keeps_load : {z : Sizes} {turns : List ℕ} {depth : ℕ} {to : Place} {k : ℕ} {at : Slot}
        → KeepsTarget z turns depth to → to.array ≡ T → k < length z.tables → KeepsItem turns depth (slice_index_or z.tables k 0) at → Keeps z turns depth (Load to k at)
    -- at most four loops inside one another, each of one turn or more
    keeps_loop : {z : Sizes} {turns : List ℕ} {depth n : ℕ} {body : List CStmt}
        → depth < 4 → 0 < n → n < 2 ^ 32 → KeepAll z (slice_set turns depth n) (depth + 1) body → Keeps z turns depth (View.For n body)

  pub data KeepAll : Sizes → List ℕ → ℕ → List CStmt → Type 0 where
    keep_none : {z : Sizes} {turns : List ℕ} {depth : ℕ} → KeepAll z turns depth []
    keep_more : {z : Sizes} {turns : List ℕ} {depth : ℕ} {c : CStmt} {cs : List CStmt} → Keeps z turns depth c → KeepAll z turns depth cs → KeepAll z turns depth (c ∷ cs)

-- ---- functions and units

-- each table has an item, and at most 2^24 of them
abbrev pub KeepTables : List (List Ratio) → Type 0
KeepTables [] = Unit {0}
KeepTables (t ∷ ts) = (0 < length t) × (length t ≤ 2 ^ 24) × KeepTables ts

abbrev pub sizes_of : CFun → Sizes
sizes_of f = record { x = f.x; w = f.w; t = f.t; a = f.a; tables = map length f.tables }

-- the turns of the loops around a statement that stands in none
abbrev pub outside : List ℕ
outside = 1 ∷ 1 ∷ 1 ∷ 1 ∷ []

-- The arrays and tables keep their limits, and each statement keeps within them.
pub record KeepsSizes (f : CFun) : Type 0 where
  pub x : f.x ≤ 2 ^ 24
  pub w : f.w ≤ 2 ^ 24
  pub t : f.t ≤ 2 ^ 24
  pub a : f.a ≤ 2 ^ 24
  pub some_temporaries : 0 < f.t
  -- the number of a table is below 2^32
  pub numbered : length f.tables ≤ 2 ^ 32
  pub tables : KeepTables f.tables
  pub statements : KeepAll (sizes_of f) outside 0 f.body

-- no function has this name
abbrev pub NewName : List CFun → List ℕ → Type 0
NewName [] name = Unit {0}
NewName (f ∷ fs) name = (f.name ≢ name) × NewName fs name

-- P holds of each function, and each has a name that no earlier one has
abbrev pub EachKeeps : (CFun → Type 0) → List CFun → List CFun → Type 0
EachKeeps P earlier [] = Unit {0}
EachKeeps P earlier (f ∷ fs) = P f × NewName earlier f.name × EachKeeps P (earlier ++ f ∷ []) fs
