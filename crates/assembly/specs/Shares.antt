-- The shares of cells: what each cell adds to the matrix, by itself
use Rattle.std.specs.Prelude.{◌≡◌, ℕ, suc, ◌<◌, ◌≤◌, ◌⊎◌, List, [], ◌∷◌, length, map, filter, not}
use Rattle.algebra.specs.Fraction.{is_zero_fraction}
use Rattle.assembly.specs.Sums.{Entry, values_at}
use Rattle.assembly.specs.Kept.{seen}
use Rattle.assembly.specs.Assembly.{Assembly, cell_count, cell_entries, tensor_on}
use Rattle.assembly.specs.declared.shares.CellShare.{CellShare}

abbrev pub nonzero_entries : List Entry → List Entry
nonzero_entries es = filter (λ (e : Entry). not (is_zero_fraction e.value)) es

-- by row, and then by column
abbrev pub IsNotBehind : Entry → Entry → Type 0
IsNotBehind e later = (e.row < later.row) ⊎ ((e.row ≡ later.row) × (e.col ≤ later.col))

-- no entry is behind the next
abbrev pub AreByPlace : List Entry → Type 0
AreByPlace [] = Unit {0}
AreByPlace (e ∷ []) = Unit {0}
AreByPlace (e ∷ f ∷ es) = IsNotBehind e f × AreByPlace (f ∷ es)

-- the values that are not zero, by row and then by column; those of one place in their order
pub record AreShown (values shown : List Entry) : Type 0 where
  pub sorted : AreByPlace shown
  pub exact : (row col : ℕ) → values_at shown row col ≡ values_at (nonzero_entries values) row col

-- the local tensor of cell k, at the rows and columns of its local nodes
pub record IsShare (s : Assembly) (k : ℕ) (c : CellShare) : Type 0 where
  pub cell : c.cell ≡ k
  pub triples : AreShown (cell_entries s.rows s.cols (tensor_on s.runs) k) (map seen c.triples.items)

-- of the cells from cell k on
abbrev pub AreSharesFrom : Assembly → ℕ → List CellShare → Type 0
AreSharesFrom s k [] = Unit {0}
AreSharesFrom s k (c ∷ cs) = IsShare s k c × AreSharesFrom s (suc k) cs

-- of all cells, one after the other
pub record AreShares (s : Assembly) (shares : List CellShare) : Type 0 where
  pub count : length shares ≡ cell_count s.runs
  pub each : AreSharesFrom s 0 shares
