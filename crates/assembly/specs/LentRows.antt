-- What the rows that are lent are seen as, and how they are kept
use Rattle.std.specs.Prelude.{◌≡◌, ℕ, ◌*◌, ◌≤◌, List, Option, take, drop}
use Rattle.ratio.specs.declared.reduced.Ratio.{Ratio}
use Rattle.c_unit.specs.Meaning.{fractions_of}
use Rattle.dofs.specs.Rows.{Numbering}
use Rattle.assembly.specs.Sums.{Entry}
use Rattle.assembly.specs.Assembly.{row_count, entries_from}
use Rattle.assembly.specs.RowSums.{IsClear}
use Rattle.assembly.specs.Stored.{IsStored, rows_of, cols_of, column_count}
use Rattle.assembly.specs.declared.row_sums.RowSums.{RowSums}
use Rattle.assembly.specs.declared.stored.Stored.{Stored}
use Rattle.assembly.specs.declared.triple.Triple.{Triple}

pub record LentRows : Type 0 where
  pub rows : Option Numbering
  pub cols : Option Numbering
  pub cells : ℕ
  -- how many values a cell has, and those of all cells, one cell after the other
  pub size : ℕ
  pub values : List Ratio
  -- the entries of the row that was added up last
  pub entries : List Triple
  -- the number of the next row
  pub next : ℕ

-- the values of all cells at their rows and columns
abbrev pub lent_entries : LentRows → List Entry
lent_entries r = entries_from r.rows r.cols (λ k. take r.size (drop (k * r.size) (fractions_of r.values))) 0 r.cells

abbrev pub lent_count : LentRows → ℕ
lent_count r = row_count r.rows

abbrev pub lent_rows : Stored → List Triple → ℕ → LentRows
lent_rows s entries next = record {
  rows = rows_of s;
  cols = cols_of s;
  cells = s.cells;
  size = s.size;
  values = s.values.items;
  entries = entries;
  next = next;
}

-- with room for the entries of any row
pub record AreLent (s : Stored) (sums : RowSums) (room count next : ℕ) : Type 0 where
  pub stored : IsStored s
  pub rows : count ≡ row_count (rows_of s)
  pub some_left : next ≤ count
  pub clear : IsClear (column_count s) sums
  pub entries : column_count s ≤ room
