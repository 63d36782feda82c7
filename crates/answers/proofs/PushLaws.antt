-- Rows that are written as they are lent
use Rattle.std.proofs.Common.{◌≡◌, ℕ, ◌+◌, List, [], ◌++◌, refl, sym, ap, ◌∙◌, subst, arith, append_assoc, append-nil}
use Rattle.std.specs.List.{flat_map}
use Rattle.std.proofs.lemmas.Grind.{flat_map-append}
use Rattle.assembly.specs.Sums.{Entry, AreSums, PassesFirst}
use Rattle.assembly.specs.Stored.{of_row}
use Rattle.assembly.specs.Lent.{HasNoneBeyond, IsRow, IsRowRefusal}
use Rattle.assembly.specs.LentRows.{LentRows, lent_count, lent_entries}
use Rattle.assembly.specs.declared.run_refusal.RunRefusal.{RunRefusal}
use Rattle.assembly.specs.declared.run_refusal.RunRefusal.TheVariants as refusal
use Rattle.assembly.proofs.WholeLaws.{AreSumsBelow, no_sums, sums_more, sums_all, passes_whole}
use Rattle.answers.specs.ValuesText.{entry_line, header_line, GainsValues, SumRefusal}

-- the lines of the rows before the next stand behind the front
pub record ArePushed (start rows : LentRows) (front text : List ℕ) : Type 0 where
  pub entries : lent_entries rows ≡ lent_entries start
  pub count : lent_count rows ≡ lent_count start
  pub within : HasNoneBeyond rows
  pub sums : List Entry
  pub below : AreSumsBelow (lent_entries rows) rows.next sums
  pub lines : text ≡ front ++ flat_map entry_line sums

pub pushed_start : (rows : LentRows) (front text : List ℕ) → rows.next ≡ 0 → HasNoneBeyond rows → text ≡ front → ArePushed rows rows front text
pushed_start rows front text e within f = record {
  entries = refl;
  count = refl;
  within = within;
  sums = [];
  below = subst (λ n. AreSumsBelow (lent_entries rows) n []) (sym e) (no_sums (lent_entries rows));
  lines = f ∙ sym (append-nil front);
}

pub pushed_more : (start rows new : LentRows) (row : ℕ) (front text more : List ℕ) (es : List Entry) → ArePushed start rows front text → IsRow rows row es
    → new ≡ record rows { next = rows.next + 1; entries = new.entries } → more ≡ text ++ flat_map entry_line es → ArePushed start new front more
pushed_more start rows new row front text more es p is e f =
    subst (λ r. ArePushed start r front more) (sym e) (record {
      entries = p.entries;
      count = p.count;
      within = p.within;
      sums = p.sums ++ es;
      below = sums_more (lent_entries rows) rows.next p.sums es p.below is.own is.exact;
      lines =
          f ∙ ap (λ t. t ++ flat_map entry_line es) p.lines ∙ append_assoc front (flat_map entry_line p.sums) (flat_map entry_line es)
          ∙ ap (λ t. front ++ t) (sym (flat_map-append entry_line p.sums es));
    })

pub pushed_all : (name : List ℕ) (rank cols : ℕ) (start rows : LentRows) (old text : List ℕ) → ArePushed start rows (old ++ header_line name rank (lent_count start) cols) text → rows.next ≡ lent_count rows
    → GainsValues name rank start cols old text
pushed_all name rank cols start rows old text p e = (
  p.sums,
  subst (λ vs. AreSums vs p.sums) p.entries (sums_all (lent_entries rows) rows.next p.sums p.below (λ row col h. p.within row col (omega (arith, e, h)))),
  p.lines ∙ append_assoc old (header_line name rank (lent_count start) cols) (flat_map entry_line p.sums),
)

pub pushed_refused : (start rows : LentRows) (front text : List ℕ) (e : RunRefusal) → ArePushed start rows front text → IsRowRefusal rows e → SumRefusal (lent_entries start) e
pushed_refused start rows front text refusal.TooManyEntries p r = r
pushed_refused start rows front text (refusal.Zero cell at) p r = r
pushed_refused start rows front text (refusal.CellPassed cell at op left right) p r = r
pushed_refused start rows front text (refusal.SumPassed row col) p r =
    subst (λ n. PassesFirst (lent_entries start) n col) (sym r.number)
    (subst (λ vs. PassesFirst vs rows.next col) p.entries
    (passes_whole (lent_entries rows) rows.next col p.sums p.below (subst (λ n. PassesFirst (of_row rows.next (lent_entries rows)) n col) r.number r.passes)))
pushed_refused start rows front text refusal.Memory p r = absurd r
