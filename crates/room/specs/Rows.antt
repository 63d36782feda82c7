-- The rows of a kernel: products of items and columns, their sums, and what is added to an entry
use Rattle.std.specs.Prelude.{ℕ, ◌+◌, ◌*◌, ◌^◌, ◌≤◌, List, [], ◌∷◌, ◌++◌, length, map}
use Rattle.calculus.specs.LocalFunction.{factorial}
use Rattle.std.specs.List.{AllByRecursion, flat_map}
use Prim.Native.Nat.{◌∣◌}
use Rattle.algebra.specs.Fraction.{Fraction, zero_fraction, mul, absolute}
use Rattle.algebra.specs.LowestTerms.{bottom}
use Rattle.calculus.specs.Simplex.{Simplex, volume}
use Rattle.weigh.specs.Refusals.{lcd, size}
use Rattle.monos.specs.declared.weight.Weight.{Weight}
use Rattle.room.specs.declared.numbers.CellNumbers.{CellNumbers}
use Rattle.weigh.specs.Numerators.{size_over}
use Rattle.room.specs.Numbered.{AllOver}
use Rattle.monos.specs.declared.layout.Layout.{Layout}
use Rattle.monos.specs.Monomial.{Monomial, directions}
use Rattle.refint.specs.Reference.{items, value_lists}
use Rattle.room.specs.Steps.{Step, Product}
use Rattle.room.specs.Columns.{column_values, column_steps}
use Rattle.refint.specs.Digits.{columns, dot}
use Rattle.refint.specs.Reference.{growths}
use Rattle.room.specs.Adding.{Adding, Term, Plus, onto, adding_steps}

-- the part of a monomial in one entry: the directions of its derivatives, the values of its coefficients, and the items of the
-- entry's row
pub record EntryPart : Type 0 where
  pub directions : List ℕ
  pub values : List (List Fraction)
  pub items : List Fraction

-- each item times its column
abbrev pub row_products : List Fraction → List Fraction → List Fraction
row_products [] ys = []
row_products (x ∷ xs) [] = []
row_products (x ∷ xs) (y ∷ ys) = mul x y ∷ row_products xs ys

abbrev pub row_steps : List Fraction → List Fraction → List Step
row_steps [] ys = []
row_steps (x ∷ xs) [] = []
row_steps (x ∷ xs) (y ∷ ys) = Product x y ∷ row_steps xs ys

-- the first product stands alone
abbrev pub sum_of : List Fraction → Adding
sum_of [] = Term zero_fraction
sum_of (x ∷ xs) = onto (Term x) xs

abbrev pub part_products : ℕ → Simplex → EntryPart → List Fraction
part_products d v p = row_products p.items (column_values d v p.directions p.values)

-- the sum of each row, added to the entry's sum so far
abbrev pub entry_from : ℕ → Simplex → Adding → List EntryPart → Adding
entry_from d v t [] = t
entry_from d v t (p ∷ ps) = entry_from d v (Plus t (sum_of (part_products d v p))) ps

-- an entry begins at 0
abbrev pub entry_sum : ℕ → Simplex → List EntryPart → Adding
entry_sum d v ps = entry_from d v (Term zero_fraction) ps

abbrev pub products_steps : ℕ → Simplex → List EntryPart → List Step
products_steps d v [] = []
products_steps d v (p ∷ ps) = column_steps d v p.directions p.values ++ (row_steps p.items (column_values d v p.directions p.values) ++ products_steps d v ps)

-- all steps of an entry: columns, products with items, and sums
abbrev pub entry_steps : ℕ → Simplex → List EntryPart → List Step
entry_steps d v ps = products_steps d v ps ++ adding_steps (entry_sum d v ps)

-- what a part means: the absolute volume factor times the sum of its columns times its items
abbrev pub part_value : ℕ → Simplex → EntryPart → Fraction
part_value d v p = mul (absolute (volume v)) (dot (columns (p.values ++ map (growths d v) p.directions)) p.items)

-- ---- what a weight says of the parts of an entry
abbrev pub sizes : ℕ → List Fraction → ℕ
sizes l [] = 0
sizes l (x ∷ xs) = size_over l x + sizes l xs

abbrev pub part_sizes : ℕ → List EntryPart → ℕ
part_sizes l [] = 0
part_sizes l (p ∷ ps) = sizes l p.items + part_sizes l ps

-- each is a whole number over l
abbrev pub HaveBottoms : ℕ → List Fraction → Type 0
HaveBottoms l xs = AllByRecursion (λ x. bottom x ∣ l) xs

pub record IsWithin (w : Weight) (c : CellNumbers) (p : EntryPart) : Type 0 where
  pub items : HaveBottoms (lcd c.d w) p.items
  pub least : w.rmin ≤ length p.directions
  pub greatest : length p.directions ≤ w.rmax
  pub functions : length p.values ≤ w.f
  pub values : AllByRecursion (AllOver c.dw c.nw) p.values

-- the items are over lcd, and their sizes there add up to at most `size`
pub record AreBounded (w : Weight) (c : CellNumbers) (ps : List EntryPart) : Type 0 where
  pub parts : AllByRecursion (IsWithin w c) ps
  pub total : part_sizes (lcd c.d w) ps ≤ size c.d w

-- ---- where the sizes come from: a coefficient b over den, r derivatives and so many columns
abbrev pub item_unit : ℕ → Weight → ℕ
item_unit d w = factorial (w.deg + d) * w.fac * w.s

pub record IsCounted (w : Weight) (d b spread : ℕ) (p : EntryPart) : Type 0 where
  pub items : AllOver (lcd d w) (item_unit d w * (b * 3 ^ length p.directions)) p.items
  pub columns : length p.items ≤ spread

pub data AreCounted (w : Weight) (d : ℕ) : List EntryPart → ℕ → Type 0 where
  none : {total : ℕ} → AreCounted w d [] total
  more : {p : EntryPart} {ps : List EntryPart} {b spread total total' : ℕ} → IsCounted w d b spread p → AreCounted w d ps total
      → total + b * 3 ^ length p.directions * spread ≤ total' → AreCounted w d (p ∷ ps) total'

-- a row that is a multiple
abbrev pub scaled_part : Fraction → EntryPart → EntryPart
scaled_part k p = record { directions = p.directions; values = p.values; items = map (mul k) p.items }

-- ---- the part of a monomial in the entry of local nodes a and b
abbrev pub entry_part : Layout → Simplex → List Fraction → ℕ → ℕ → Monomial → EntryPart
entry_part l v w a b m = record { directions = flat_map directions m.atoms; values = value_lists l v w m.atoms; items = items l m a b }
