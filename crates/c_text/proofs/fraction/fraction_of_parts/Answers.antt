use Rattle.std.proofs.Common.{◌∙◌, sym}
use Rattle.c_text.proofs.LowestLaws.{out_none, in_range}
use Rattle.c_text.proofs.fraction.fraction_of_parts.Goals as goal

pub returns-then-is_out_of_range : goal.returns-then-is_out_of_range
returns-then-is_out_of_range c = out_none _ _ _ (sym c.is_out_of_range.ensures ∙ c.if-is_out_of_range.true)

pub fraction_in_range-requires : goal.fraction_in_range-requires
fraction_in_range-requires c =
    let k = in_range c.args.negative c.args.top c.args.bottom (sym c.is_out_of_range.ensures ∙ c.if-is_out_of_range.false) in
    record { top_fits = k.0; bottom_fits = k.1; proper = k.2 }
