use Rattle.std.proofs.Common.{sym, ◌∙◌}
use Rattle.ratio.proofs.DigitLaws.{significant_whole, significant_point, empty_from_test, some_from_test}
use Rattle.ratio.proofs.decimal.significant.Goals as goal

pub returns-then-is_empty : goal.returns-then-is_empty
returns-then-is_empty c =
    significant_whole c.args.whole.now c.args.fraction.now c.without_end_zeros.result.now c.without_end_zeros-behind.result.now
    c.without_end_zeros.ensures.kept c.without_end_zeros-behind.ensures.kept (empty_from_test c.without_end_zeros-behind.result.now (sym c.is_empty.ensures ∙ c.if-is_empty.true))
    c.without_end_zeros.ensures.dropped c.without_end_zeros-behind.ensures.dropped c.without_end_zeros.ensures.short c.without_end_zeros-behind.ensures.short

pub returns-else-is_empty : goal.returns-else-is_empty
returns-else-is_empty c =
    significant_point c.args.whole.now c.args.fraction.now c.without_end_zeros-behind.result.now
    c.without_end_zeros-behind.ensures.kept (some_from_test c.without_end_zeros-behind.result.now (sym c.is_empty.ensures ∙ c.if-is_empty.false))
    c.without_end_zeros-behind.ensures.dropped c.without_end_zeros-behind.ensures.short
