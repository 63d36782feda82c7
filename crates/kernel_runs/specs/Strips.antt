-- Items of lists at equal distances, and what a kernel forms of lists
use Rattle.std.specs.Prelude.{◌≡◌, ℕ, zero, suc, ◌+◌, ◌<◌, List, [], ◌∷◌, ◌++◌, map, slice_index_or, Bool}
use Rattle.std.specs.List.{flat_map}
use Rattle.algebra.specs.Fraction.{Fraction, zero_fraction, add, mul}
use Rattle.ratio.specs.Value.{fraction_of}
use Rattle.refint.specs.Digits.{dot}
use Rattle.kernel_runs.specs.declared.entry.Entry.{Entry}
use Rattle.kernel_runs.specs.declared.entry.Entry.TheVariants.{NoRow, Counted, Multiple}

abbrev pub item : List Fraction → ℕ → Fraction
item xs k = slice_index_or xs k zero_fraction

-- n items from `base` on, `step` apart
abbrev pub strip : List Fraction → ℕ → ℕ → ℕ → List Fraction
strip xs base step zero = []
strip xs base step (suc n) = item xs base ∷ strip xs (base + step) step n

-- the products of one item of each list, the first list running slowest
abbrev pub outer : List Fraction → List Fraction → List Fraction
outer xs ys = flat_map (λ x. map (mul x) ys) xs

-- the sum of lists, item by item
abbrev pub list_sum : List Fraction → List Fraction → List Fraction
list_sum [] ys = []
list_sum (x ∷ xs) [] = x ∷ xs
list_sum (x ∷ xs) (y ∷ ys) = add x y ∷ list_sum xs ys

-- a factor of columns: its digit runs fastest, or slowest
pub data Factor (V : Type 0) : Type 0 where
  Fastest : V → Factor V
  Slowest : V → Factor V

abbrev pub map_factor : {U V : Type 0} → (U → V) → Factor U → Factor V
map_factor f (Fastest g) = Fastest (f g)
map_factor f (Slowest g) = Slowest (f g)

abbrev pub with_factor : List Fraction → Factor (List Fraction) → List Fraction
with_factor xs (Fastest g) = outer xs g
with_factor xs (Slowest g) = outer g xs

abbrev pub with_factors : List Fraction → List (Factor (List Fraction)) → List Fraction
with_factors xs [] = xs
with_factors xs (f ∷ fs) = with_factors (with_factor xs f) fs

-- derivatives ds in their order, each running fastest, and then coefficients cs from the last on, each running slowest
abbrev pub in_turn : {V : Type 0} → List V → List (Factor V) → List (Factor V)
in_turn [] fs = fs
in_turn (g ∷ gs) fs = Fastest g ∷ in_turn gs fs

abbrev pub from_last : {V : Type 0} → List V → List (Factor V) → List (Factor V)
from_last [] fs = fs
from_last (g ∷ gs) fs = from_last gs (Slowest g ∷ fs)

abbrev pub factors_in : {V : Type 0} → List V → List V → List (Factor V)
factors_in cs ds = in_turn ds [] ++ from_last cs []

-- `acc` and the products of the first n items
abbrev pub partial : Fraction → List Fraction → List Fraction → ℕ → Fraction
partial acc cs rs zero = acc
partial acc [] rs (suc n) = acc
partial acc (c ∷ cs) [] (suc n) = acc
partial acc (c ∷ cs) (r ∷ rs) (suc n) = partial (add acc (mul c r)) cs rs n

-- from the values of the counted rows
abbrev pub entry_value : List Fraction → Entry → Fraction
entry_value rs NoRow = zero_fraction
entry_value rs (Counted b) = item rs b
entry_value rs (Multiple l b) = mul (fraction_of l) (item rs b)

-- it names one of the n counted rows
abbrev pub EntryWithin : ℕ → Entry → Type 0
EntryWithin n NoRow = Unit {0}
EntryWithin n (Counted b) = b < n
EntryWithin n (Multiple l b) = b < n

abbrev pub EntriesWithin : ℕ → List Entry → Type 0
EntriesWithin n [] = Unit {0}
EntriesWithin n (e ∷ es) = EntryWithin n e × EntriesWithin n es

-- ---- a monomial: its factors, the number of its columns but the first, its table and counted rows, its entries, and
-- whether its rows are written without loops
pub record MonoPlan (V : Type 0) : Type 0 where
  pub factors : List (Factor V)
  pub more : ℕ
  pub table : ℕ
  pub rows : List (List Fraction)
  pub entries : List Entry
  pub straight : Bool

-- the same over other factors
abbrev pub map_plan : {U V : Type 0} → (U → V) → MonoPlan U → MonoPlan V
map_plan f m = record {
  factors = map (map_factor f) m.factors;
  more = m.more;
  table = m.table;
  rows = m.rows;
  entries = m.entries;
  straight = m.straight;
}

-- a is the absolute volume
abbrev pub mono_columns : Fraction → MonoPlan (List Fraction) → List Fraction
mono_columns a m = with_factors (a ∷ []) m.factors

abbrev pub mono_rows : Fraction → MonoPlan (List Fraction) → List Fraction
mono_rows a m = map (dot (mono_columns a m)) m.rows

-- what it adds onto A
abbrev pub mono_values : Fraction → MonoPlan (List Fraction) → List Fraction
mono_values a m = map (entry_value (mono_rows a m)) m.entries

abbrev pub monos_onto : Fraction → List Fraction → List (MonoPlan (List Fraction)) → List Fraction
monos_onto a acc [] = acc
monos_onto a acc (m ∷ ms) = monos_onto a (list_sum acc (mono_values a m)) ms

-- ---- what the entries stand for
abbrev pub AllZero : List Fraction → Type 0
AllZero [] = Unit {0}
AllZero (x ∷ xs) = (x ≡ zero_fraction) × AllZero xs

-- the row of an entry
abbrev pub HasRow : List (List Fraction) → Entry → List Fraction → Type 0
HasRow rows NoRow items = AllZero items
HasRow rows (Counted b) items = slice_index_or rows b [] ≡ items
HasRow rows (Multiple l b) items = map (mul (fraction_of l)) (slice_index_or rows b []) ≡ items

abbrev pub HaveRows : List (List Fraction) → List Entry → List (List Fraction) → Type 0
HaveRows rows [] [] = Unit {0}
HaveRows rows [] (i ∷ is) = ⊥
HaveRows rows (e ∷ es) [] = ⊥
HaveRows rows (e ∷ es) (i ∷ is) = HasRow rows e i × HaveRows rows es is
