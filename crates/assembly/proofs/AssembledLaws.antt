-- From the rows that are lent to the whole matrix
use Rattle.std.proofs.Common.{◌≡◌, ℕ, ◌+◌, List, [], ◌++◌, sym, subst, arith}
use Rattle.assembly.specs.Sums.{Entry, AreSums, PassesFirst}
use Rattle.assembly.specs.Assembly.{Assembly, IsFew, AreGood, Refused, run_entries}
use Rattle.assembly.specs.Stored.{of_row}
use Rattle.assembly.specs.LentRows.{LentRows, lent_entries, lent_count}
use Rattle.assembly.specs.Lent.{AreStarted, HasNoneBeyond, IsRow, IsRowRefusal}
use Rattle.assembly.specs.declared.run_refusal.RunRefusal.{RunRefusal}
use Rattle.assembly.specs.declared.run_refusal.RunRefusal.TheVariants.{TooManyEntries, Zero, CellPassed, SumPassed, Memory}
use Rattle.assembly.proofs.WholeLaws.{AreSumsBelow, no_sums, sums_more, sums_all, passes_whole}

-- the rows before the next have their sums
pub record AreAssembled (s : Assembly) (r : LentRows) (sums : List Entry) : Type 0 where
  pub entries : lent_entries r ≡ run_entries s
  pub within : HasNoneBeyond r
  pub below : AreSumsBelow (lent_entries r) r.next sums

pub assembled_start : (s : Assembly) (r : LentRows) → AreStarted s r → HasNoneBeyond r → AreAssembled s r []
assembled_start s r a h = record {
  entries = a.entries;
  within = h;
  below = subst (λ n. AreSumsBelow (lent_entries r) n []) (sym a.next) (no_sums (lent_entries r));
}

pub assembled_more : (s : Assembly) (r new : LentRows) (row : ℕ) (ts es all : List Entry) → AreAssembled s r ts → IsRow r row es → new ≡ record r { next = r.next + 1; entries = new.entries } → all ≡ ts ++ es → AreAssembled s new all
assembled_more s r new row ts es all a is e f =
    subst (AreAssembled s new) (sym f)
    (subst (λ (t : LentRows). AreAssembled s t (ts ++ es)) (sym e) (record {
      entries = a.entries;
      within = a.within;
      below = sums_more (lent_entries r) r.next ts es a.below is.own is.exact;
    }))

pub assembled_all : (s : Assembly) (r : LentRows) (ts : List Entry) → AreAssembled s r ts → r.next ≡ lent_count r → AreSums (run_entries s) ts
assembled_all s r ts a e =
    subst (λ vs. AreSums vs ts) a.entries (sums_all (lent_entries r) r.next ts a.below (λ row col h. a.within row col (omega (arith, e, h))))

pub assembled_refused : (s : Assembly) (r : LentRows) (ts : List Entry) (e : RunRefusal) → IsFew s.runs → AreGood s.runs → AreAssembled s r ts → IsRowRefusal r e → Refused s e
assembled_refused s r ts TooManyEntries few good a p = absurd p
assembled_refused s r ts (Zero cell at) few good a p = absurd p
assembled_refused s r ts (CellPassed cell at op left right) few good a p = absurd p
assembled_refused s r ts (SumPassed row col) few good a p =
    let own = subst (λ n. PassesFirst (of_row r.next (lent_entries r)) n col) p.number p.passes in (
      few,
      good,
      subst (λ n. PassesFirst (run_entries s) n col) (sym p.number)
          (subst (λ vs. PassesFirst vs r.next col) a.entries (passes_whole (lent_entries r) r.next col ts a.below own)),
    )
assembled_refused s r ts Memory few good a p = absurd p
