use Rattle.std.proofs.Common.{◌≡◌, ◌+◌, ◌-◌, ◌*◌, ◌≤◌, ◌^◌, ◌++◌, sym, ap, ap₂, ◌∙◌, subst, length, map, arith}
use Rattle.std.specs.List.{AllByRecursion}
use Rattle.std.proofs.lemmas.Result.{on_ok_weaker}
use Rattle.kernel_runs.specs.Strips.{factors_in}
use Rattle.kernel_runs.specs.Planned.{columns_at, columns_code, row_buffer, rows_part}
use Rattle.kernel_runs.specs.Body.{IsDirected, places_for, strip_of}
use Rattle.kernel_runs.specs.declared.digit.Digit.TheVariants.{Growth}
use Rattle.kernel_statements.specs.Emitted.{CountsFit}
use Rattle.kernel_statements.specs.Placed.{HasSlot, placed_code}
use Rattle.kernel_statements.specs.Statements.{factor_strips, is_short, row_list}
use Rattle.kernel_statements.proofs.BodyLaws.{at_few}
use Rattle.kernel_statements.proofs.LoopLaws.{three_pieces}
use Rattle.kernel_statements.proofs.contraction.Contraction.emit.Goals as goal

pub emit_columns-requires : goal.emit_columns-requires
emit_columns-requires c = record {
  directions = subst (λ is. AllByRecursion (λ i. IsDirected (Growth i)) is) (sym c.as_slice-2.ensures.value) c.requires.directions;
  coefficients = subst (AllByRecursion IsDirected) (sym c.as_slice.ensures.value) c.requires.coefficients;
  buffers = c.requires.columns;
  few =
      subst (λ xs. CountsFit c.args.d 1 (factors_in xs (map Growth c.as_slice-2.result.now))) (sym c.as_slice.ensures.value)
      (subst (λ is. CountsFit c.args.d 1 (factors_in c.args.self.now.coefficients.items (map Growth is))) (sym c.as_slice-2.ensures.value) c.requires.formed);
}

pub emit_rows-requires : goal.emit_rows-requires
emit_rows-requires c =
    let at = at_few (33 + c.args.buffers.columns) 33 (33 + c.args.buffers.columns) 20
    (factors_in (map (strip_of c.args.d) c.as_slice.result.now) (map (λ i. strip_of c.args.d (Growth i)) c.as_slice-2.result.now))
    (omega arith) (omega arith) (omega arith) in
    record {
      some = c.requires.some;
      size = c.requires.items;
      few = omega (arith, c.requires.items, c.requires.few);
      at = omega (arith, at, c.in_ok-columns.ensures.at, c.requires.columns, c.requires.wide);
      values = omega (arith, c.values.ensures, c.requires.columns, c.requires.rows, c.requires.few_rows);
      entries = c.requires.entries;
    }

pub emit_entries-requires : goal.emit_entries-requires
emit_entries-requires c =
    subst (λ v. AllByRecursion (λ e. HasSlot v e.stands) c.as_slice-3.result.now) (sym c.values-2.ensures)
    (subst (λ es. AllByRecursion (λ e. HasSlot (33 + c.args.buffers.columns + c.args.buffers.columns) e.stands) es) (sym c.as_slice-3.ensures.value) c.requires.slots)

pub returns : goal.returns
returns c =
    let k = c.args.self.now in
    let b = c.args.buffers in
    let strips = factor_strips c.args.d k in
    on_ok_weaker c.emit_entries.result (λ e.
    three_pieces (columns_code 33 (33 + b.columns) 20 1 strips)
    (rows_part (is_short c.args.entries k) 32 (row_buffer (places_for b.columns)) (columns_at 33 (33 + b.columns) 20 strips) c.args.table (k.columns - 1) (row_list k))
    (placed_code 32 (row_buffer (places_for b.columns)) k.entries.items) c.args.body.now _ _ _
    (c.in_ok-columns.ensures.code
    ∙ ap₂ (λ xs is. c.args.body.now ++ columns_code 33 (33 + b.columns) 20 1 (factors_in (map (strip_of c.args.d) xs) (map (λ i. strip_of c.args.d (Growth i)) is)))
    c.as_slice.ensures.value c.as_slice-2.ensures.value)
    (c.in_ok-emit_rows.ensures
    ∙ ap₂ (λ v a. c.emit_columns.new.body ++ rows_part (is_short c.args.entries k) 32 v a c.args.table (k.columns - 1) (row_list k)) c.values.ensures
    (c.in_ok-columns.ensures.at
    ∙ ap₂ (λ xs is. columns_at 33 (33 + b.columns) 20 (factors_in (map (strip_of c.args.d) xs) (map (λ i. strip_of c.args.d (Growth i)) is)))
    c.as_slice.ensures.value c.as_slice-2.ensures.value))
    (e ∙ ap₂ (λ v es. c.emit_rows.new.body ++ placed_code 32 v es) c.values-2.ensures c.as_slice-3.ensures.value))
    c.emit_entries.ensures
