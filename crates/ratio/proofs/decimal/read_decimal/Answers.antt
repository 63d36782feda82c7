use Rattle.std.proofs.Common.{◌<◌, ◌++◌, length, sym, ◌∙◌}
use Rattle.ratio.specs.NumberText.{Decimal, IsDecimal}
use Rattle.ratio.proofs.DigitLaws.{empty_from_test, some_from_test}
use Rattle.ratio.proofs.GrammarLaws.{decimal_parts, no_digits, some_before, some_behind, is_decimal, same_decimal, on_some}
use Rattle.ratio.proofs.decimal.read_decimal.Goals.{else-is_empty-via-then-is_empty+else-is_empty-2, else-is_empty-via-else-is_empty}
use Rattle.ratio.proofs.decimal.read_decimal.Goals as goal

pub returns-then-is_empty-2-clause-value : goal.returns-then-is_empty-2-clause-value
returns-then-is_empty-2-clause-value c = λ d h.
    let parts = decimal_parts c.args.text.now c.split_digits.result.0.now c.split_digits.result.1.now c.split_fraction.result.0.now c.split_fraction.result.1.now d c.split_digits.ensures.whole c.split_digits.ensures.digits c.split_digits.ensures.rest c.split_fraction.ensures h in
    absurd (no_digits c.split_digits.result.0.now c.split_fraction.result.0.now d c.args.text.now
    (empty_from_test c.split_digits.result.0.now (sym c.is_empty.ensures ∙ c.if-is_empty.true))
    (empty_from_test c.split_fraction.result.0.now (sym c.is_empty-then-is_empty.ensures ∙ c.if-is_empty-2.true)) parts.0 parts.1 h)

pub returns-in_err-exponent-clause-value : goal.returns-in_err-exponent-clause-value
returns-in_err-exponent-clause-value c = λ d h.
    let parts = decimal_parts c.args.text.now c.split_digits.result.0.now c.split_digits.result.1.now c.split_fraction.result.0.now c.split_fraction.result.1.now d c.split_digits.ensures.whole c.split_digits.ensures.digits c.split_digits.ensures.rest c.split_fraction.ensures h in
    let read = c.in_err-exponent.ensures.value d.lowered d.exponent parts.2 in
    absurd (cc read)

pub returns-clause-value : goal.returns-clause-value
returns-clause-value c = λ d h.
    let parts = decimal_parts c.args.text.now c.split_digits.result.0.now c.split_digits.result.1.now c.split_fraction.result.0.now c.split_fraction.result.1.now d c.split_digits.ensures.whole c.split_digits.ensures.digits c.split_digits.ensures.rest c.split_fraction.ensures h in
    c.assembled.ensures
    ∙ same_decimal c.split_digits.result.0.now c.split_fraction.result.0.now c.in_ok-exponent.exponent d parts.0 parts.1 (c.in_ok-exponent.ensures.value d.lowered d.exponent parts.2)

pub returns-clause-lawful : goal.returns-clause-lawful
returns-clause-lawful c =
    let some : 0 < length (c.split_digits.result.0.now ++ c.split_fraction.result.0.now) = elim c.else-is_empty.branch [
      | else-is_empty-via-then-is_empty+else-is_empty-2 w ↦ some_behind c.split_digits.result.0.now c.split_fraction.result.0.now (some_from_test c.split_fraction.result.0.now (sym w.is_empty-then-is_empty.ensures ∙ w.if-is_empty-2.false))
      | else-is_empty-via-else-is_empty w ↦ some_before c.split_digits.result.0.now c.split_fraction.result.0.now (some_from_test c.split_digits.result.0.now (sym c.is_empty.ensures ∙ w.if-is_empty.false))
    ] in
    on_some c.assembled.result ((d : Decimal) × IsDecimal c.args.text.now d) (
      record { whole = c.split_digits.result.0.now; fraction = c.split_fraction.result.0.now; lowered = c.in_ok-exponent.exponent.negative; exponent = c.in_ok-exponent.exponent.size },
      is_decimal c.args.text.now c.split_digits.result.0.now c.split_digits.result.1.now c.split_fraction.result.0.now c.split_fraction.result.1.now c.in_ok-exponent.exponent.negative c.in_ok-exponent.exponent.size
          c.split_digits.ensures.whole c.split_digits.ensures.digits c.split_fraction.ensures some c.in_ok-exponent.ensures.lawful,
    )
