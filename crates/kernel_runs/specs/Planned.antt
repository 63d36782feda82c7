-- The statements of planned kernels
use Rattle.std.specs.Prelude.{ℕ, zero, suc, ◌+◌, ◌*◌, ◌<◌, List, [], ◌∷◌, ◌++◌, ◌≡◌, ◌≤◌, Bool, true, false, length, if◌then◌else◌}
use Rattle.algebra.specs.Fraction.{Fraction, is_zero_fraction}
use Rattle.c_unit.specs.declared.unit.Array.{Array}
use Rattle.c_unit.specs.declared.unit.Array.TheVariants.{X, W, T, A}
use Rattle.c_unit.specs.declared.unit.Slot.{Slot}
use Rattle.c_unit.specs.declared.unit.Place.{Place}
use Rattle.c_unit.specs.declared.unit.CStmt.{CStmt, Set, Add, Mul, Load}
use Rattle.c_unit.specs.declared.unit.CStmt.TheViews as View
use Rattle.c_unit.specs.Meaning.{Slots, array_of}
use Rattle.kernel_runs.specs.Strips.{strip, Factor, Fastest, Slowest, EntriesWithin, MonoPlan, map_factor, map_plan}
use Rattle.kernel_runs.specs.declared.entry.Entry.{Entry}
use Rattle.kernel_runs.specs.declared.entry.Entry.TheVariants.{NoRow, Counted, Multiple}
use Rattle.kernel_runs.specs.Frame.{AllNonzero, IsTable}
use Rattle.kernel_runs.specs.declared.strip.Strip.{Strip}

-- the values of slots at equal distances
abbrev pub values_of : Slots → Strip → List Fraction
values_of s g = strip (array_of g.array s) g.base g.step g.count

-- steps for the counters of the outer loop and of the inner one
abbrev pub stepped : ℕ → ℕ → ℕ → Slot
stepped base i j = record { base = base; steps = i ∷ j ∷ 0 ∷ 0 ∷ [] }

abbrev pub t_place : Slot → Place
t_place to = record { array = T; slot = to }

abbrev pub a_place : Slot → Place
a_place to = record { array = A; slot = to }

abbrev pub place : Array → ℕ → ℕ → ℕ → Place
place array base i j = record { array = array; slot = stepped base i j }

-- for i0 < l.count, for i1 < r.count: T[new + r.count*i0 + i1] = l[i0] * r[i1]
abbrev pub outer_code : ℕ → Strip → Strip → CStmt
outer_code new l r =
    View.For l.count
    (View.For r.count
    (Mul (place T new r.count 1) (place l.array l.base l.step 0) (place r.array r.base 0 r.step) ∷ []) ∷ [])

-- the slot isn't written: X and W never are, A is, and of T the slots that aren't `fixed`
abbrev pub IsFixed : (ℕ → Type 0) → Array → ℕ → Type 0
IsFixed fixed X k = Unit {0}
IsFixed fixed W k = Unit {0}
IsFixed fixed T k = fixed k
IsFixed fixed A k = ⊥

abbrev pub AllFixed : (ℕ → Type 0) → Strip → Type 0
AllFixed fixed g = (j : ℕ) → j < g.count → IsFixed fixed g.array (g.base + g.step * j)

-- ---- columns
abbrev pub in_t : ℕ → ℕ → Strip
in_t base count = record { array = T; base = base; step = 1; count = count }

-- the n columns from `cur` on, with one more factor, from `new` on
abbrev pub factor_code : (new cur n : ℕ) → Factor Strip → CStmt
factor_code new cur n (Fastest g) = outer_code new (in_t cur n) g
factor_code new cur n (Slowest g) = outer_code new g (in_t cur n)

abbrev pub count_after : ℕ → Factor Strip → ℕ
count_after n (Fastest g) = n * g.count
count_after n (Slowest g) = g.count * n

-- into two buffers in turn
abbrev pub columns_code : (new next cur n : ℕ) → List (Factor Strip) → List CStmt
columns_code new next cur n [] = []
columns_code new next cur n (f ∷ fs) = factor_code new cur n f ∷ columns_code next new new (count_after n f) fs

-- where they stand then
abbrev pub columns_at : (new next cur : ℕ) → List (Factor Strip) → ℕ
columns_at new next cur [] = cur
columns_at new next cur (f ∷ fs) = columns_at next new new fs

abbrev pub values_in : Slots → Factor Strip → Factor (List Fraction)
values_in s f = map_factor (values_of s) f

-- the factors have these values
abbrev pub Valued : Slots → List (Factor Strip) → List (Factor (List Fraction)) → Type 0
Valued s [] [] = Unit {0}
Valued s [] (v ∷ vs) = ⊥
Valued s (f ∷ fs) [] = ⊥
Valued s (f ∷ fs) (v ∷ vs) = (values_in s f ≡ v) × Valued s fs vs

abbrev pub FactorFixed : (ℕ → Type 0) → Factor Strip → Type 0
FactorFixed fixed (Fastest g) = AllFixed fixed g
FactorFixed fixed (Slowest g) = AllFixed fixed g

abbrev pub FactorsFixed : (ℕ → Type 0) → List (Factor Strip) → Type 0
FactorsFixed fixed [] = Unit {0}
FactorsFixed fixed (f ∷ fs) = FactorFixed fixed f × FactorsFixed fixed fs

-- ---- rows
-- out = col * K_t[at]
abbrev pub first_product : (scratch out col : Slot) → ℕ → Slot → List CStmt
first_product scratch out col t at =
    Load (t_place scratch) t at ∷ Mul (t_place out) (t_place col) (t_place scratch) ∷ []

-- out = out + col * K_t[at]
abbrev pub next_product : (scratch out col : Slot) → ℕ → Slot → List CStmt
next_product scratch out col t at =
    Load (t_place scratch) t at ∷ Mul (t_place scratch) (t_place col) (t_place scratch)
    ∷ Add (t_place out) (t_place out) (t_place scratch) ∷ []

-- all but the first of the columns, which stand from `cur` on; `n` is how many
abbrev pub next_products : (scratch row cur t width n : ℕ) → List CStmt
next_products scratch row cur t width zero = []
next_products scratch row cur t width (suc n) =
    View.For (suc n) (next_product (stepped scratch 0 0) (stepped row 1 0) (stepped cur 0 1) t (stepped 1 width 1)) ∷ []

-- for i0 < rows: T[row + i0] is the product of row i0 of table t and the m + 1 columns from `cur` on
abbrev pub rows_code : (scratch row cur t rows m : ℕ) → CStmt
rows_code scratch row cur t rows m =
    View.For rows
    (first_product (stepped scratch 0 0) (stepped row 1 0) (stepped cur 0 0) t (stepped 0 (suc m) 0)
    ++ next_products scratch row (cur + 1) t (suc m) m)

-- ---- rows without loops and zero items
abbrev pub straight_rest : (scratch out cur t at : ℕ) → List Fraction → List CStmt
straight_rest scratch out cur t at [] = []
straight_rest scratch out cur t at (r ∷ rs) =
    if is_zero_fraction r then straight_rest scratch out (cur + 1) t (at + 1) rs
    else next_product (stepped scratch 0 0) (stepped out 0 0) (stepped cur 0 0) t (stepped at 0 0)
    ++ straight_rest scratch out (cur + 1) t (at + 1) rs

-- from the first item that isn't zero on
abbrev pub straight_row : (scratch out cur t at : ℕ) → List Fraction → List CStmt
straight_row scratch out cur t at [] = []
straight_row scratch out cur t at (r ∷ rs) =
    if is_zero_fraction r then straight_row scratch out (cur + 1) t (at + 1) rs
    else first_product (stepped scratch 0 0) (stepped out 0 0) (stepped cur 0 0) t (stepped at 0 0)
    ++ straight_rest scratch out (cur + 1) t (at + 1) rs

-- from row a on
abbrev pub straight_rows : (scratch row cur t width a : ℕ) → List (List Fraction) → List CStmt
straight_rows scratch row cur t width a [] = []
straight_rows scratch row cur t width a (line ∷ rows) =
    straight_row scratch (row + a) cur t (width * a) line ++ straight_rows scratch row cur t width (a + 1) rows

-- ---- entries
-- A[e] = A[e] + the entry
abbrev pub entry_code : (scratch row e : ℕ) → Entry → List CStmt
entry_code scratch row e NoRow = []
entry_code scratch row e (Counted b) = Add (place A e 0 0) (place A e 0 0) (place T (row + b) 0 0) ∷ []
entry_code scratch row e (Multiple l b) =
    Set (place T scratch 0 0) l ∷ Mul (place T scratch 0 0) (place T scratch 0 0) (place T (row + b) 0 0)
    ∷ Add (place A e 0 0) (place A e 0 0) (place T scratch 0 0) ∷ []

-- from entry e on
abbrev pub entries_code : (scratch row e : ℕ) → List Entry → List CStmt
entries_code scratch row e [] = []
entries_code scratch row e (x ∷ xs) = entry_code scratch row e x ++ entries_code scratch row (e + 1) xs

-- ---- monomials
-- the slots of T below `scratch` hold still; above it stand two buffers of `cap` columns and the values of counted rows
pub record Places : Type 0 where
  pub absolute : ℕ
  pub scratch : ℕ
  pub cap : ℕ

abbrev pub first_buffer : Places → ℕ
first_buffer p = p.scratch + 1

abbrev pub second_buffer : Places → ℕ
second_buffer p = p.scratch + 1 + p.cap

abbrev pub row_buffer : Places → ℕ
row_buffer p = p.scratch + 1 + p.cap + p.cap

-- where the columns of a monomial with these factors stand
abbrev pub columns_place : Places → List (Factor Strip) → ℕ
columns_place p fs = columns_at (first_buffer p) (second_buffer p) p.absolute fs

abbrev pub rows_part : Bool → (scratch row cur t more : ℕ) → List (List Fraction) → List CStmt
rows_part true scratch row cur t more rows = straight_rows scratch row cur t (suc more) 0 rows
rows_part false scratch row cur t more rows = rows_code scratch row cur t (length rows) more ∷ []

-- columns, rows and entries
abbrev pub mono_parts : Places → MonoPlan Strip → List (List Fraction) → List CStmt
mono_parts p m rows =
    columns_code (first_buffer p) (second_buffer p) p.absolute 1 m.factors
    ++ (rows_part m.straight p.scratch (row_buffer p) (columns_place p m.factors) m.table m.more rows
    ++ entries_code p.scratch (row_buffer p) 0 m.entries)

-- nothing where no row is counted
abbrev pub mono_code_of : Places → MonoPlan Strip → List (List Fraction) → List CStmt
mono_code_of p m [] = []
mono_code_of p m (line ∷ rows) = mono_parts p m (line ∷ rows)

abbrev pub mono_code : Places → MonoPlan Strip → List CStmt
mono_code p m = mono_code_of p m m.rows

abbrev pub monos_code : Places → List (MonoPlan Strip) → List CStmt
monos_code p [] = []
monos_code p (m ∷ ms) = mono_code p m ++ monos_code p ms

-- a plan over values
abbrev pub plan_values : Slots → MonoPlan Strip → MonoPlan (List Fraction)
plan_values s m = map_plan (values_of s) m

abbrev pub counts_after : ℕ → List (Factor Strip) → ℕ
counts_after n [] = n
counts_after n (f ∷ fs) = counts_after (count_after n f) fs

abbrev pub CountsWithin : ℕ → ℕ → List (Factor Strip) → Type 0
CountsWithin cap n [] = Unit {0}
CountsWithin cap n (f ∷ fs) = (count_after n f ≤ cap) × CountsWithin cap (count_after n f) fs

-- a monomial that fits into T, whose table is at hand
pub record IsPlanned (ks : List (List Fraction)) (p : Places) (most entries : ℕ) (m : MonoPlan Strip) : Type 0 where
  pub fixed : FactorsFixed (λ k. k < p.scratch) m.factors
  pub within : CountsWithin p.cap 1 m.factors
  pub width : counts_after 1 m.factors ≡ suc m.more
  pub few : length m.rows ≤ most
  pub table : IsTable ks m.table (suc m.more) m.rows
  pub nonzero : AllNonzero m.rows
  pub known : EntriesWithin (length m.rows) m.entries
  pub size : length m.entries ≡ entries

abbrev pub AllPlanned : List (List Fraction) → Places → (most entries : ℕ) → List (MonoPlan Strip) → Type 0
AllPlanned ks p most entries [] = Unit {0}
AllPlanned ks p most entries (m ∷ ms) = IsPlanned ks p most entries m × AllPlanned ks p most entries ms
