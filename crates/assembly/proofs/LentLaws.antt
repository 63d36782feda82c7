-- The rows that are lent
use Rattle.std.proofs.Common.{◌≡◌, ℕ, ◌<◌, List, subst, arith, refl}
use Rattle.std.specs.List.{AllByRecursion}
use Rattle.assembly.specs.Sums.{Entry, AreSums, PassesFirst}
use Rattle.assembly.specs.RowSums.{AddsInRow}
use Rattle.assembly.specs.Stored.{of_row, stored_entries, AreSummed}
use Rattle.assembly.specs.LentRows.{LentRows, lent_rows, AreLent}
use Rattle.assembly.specs.Lent.{IsRow, IsPassing}
use Rattle.assembly.specs.declared.row_sums.RowSums.{RowSums}
use Rattle.assembly.specs.declared.stored.Stored.{Stored}
use Rattle.assembly.specs.declared.triple.Triple.{Triple}
use Rattle.assembly.proofs.StoredLaws.{summed}

-- the sum of the row passes
pub row_passing : (s : Stored) (entries : List Triple) (room count next col : ℕ) (sums added : RowSums) (r : LentRows) → lent_rows s entries next ≡ r → AreLent s sums room count next → next < count
    → AddsInRow next (of_row next (stored_entries s)) sums.sums.items added.sums.items
    → ((values : List Entry) → AreSummed next values added.sums.items → PassesFirst values next col) → IsPassing r next col
row_passing s entries room count next col sums added r e lent h a p =
    subst (λ (t : LentRows). IsPassing t next col) e (record {
      within = omega (arith, h, lent.rows);
      number = refl;
      passes = p (of_row next (stored_entries s)) (summed next (stored_entries s) sums.sums.items added.sums.items lent.clear.none a);
    })

-- the row has its sums
pub row_lent : (s : Stored) (entries : List Triple) (room count next : ℕ) (sums added : RowSums) (r : LentRows) (es : List Entry) → lent_rows s entries next ≡ r → AreLent s sums room count next → next < count
    → AddsInRow next (of_row next (stored_entries s)) sums.sums.items added.sums.items
    → AllByRecursion (λ (e : Entry). e.row ≡ next) es → ((values : List Entry) → AreSummed next values added.sums.items → AreSums values es) → IsRow r next es
row_lent s entries room count next sums added r es e lent h a own p =
    subst (λ (t : LentRows). IsRow t next es) e (record {
      within = omega (arith, h, lent.rows);
      number = refl;
      own = own;
      exact = p (of_row next (stored_entries s)) (summed next (stored_entries s) sums.sums.items added.sums.items lent.clear.none a);
    })
