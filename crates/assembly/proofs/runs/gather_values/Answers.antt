use Rattle.std.proofs.Common.{◌∙◌, ◌++◌, ap, arith}
use Rattle.c_unit.specs.Meaning.{fractions_of}
use Rattle.assembly.specs.Assembly.{coefficient_values}
use Rattle.assembly.proofs.GatherLaws.{pieces_more, pieces_end}
use Rattle.assembly.proofs.runs.gather_values.Goals as goal

pub loop-coef-preserved : goal.loop-coef-preserved
loop-coef-preserved c =
    pieces_more (coefficient_values c.args.k) c.args.coefs.now c.loop-coef.coef-index c.coef-item.result c.loop-coef.w.items c.push_values.new.w.items _ (omega arith) (c.in_ok-push_values.ensures ∙ ap (λ k. fractions_of c.loop-coef.w.items ++ coefficient_values c.args.k k) c.coef-item.is) c.loop-coef.invariant

pub returns : goal.returns
returns c = pieces_end (coefficient_values c.args.k) c.args.coefs.now c.loop-coef.coef-index c.loop-coef.w.items _ (omega arith) c.loop-coef.invariant
