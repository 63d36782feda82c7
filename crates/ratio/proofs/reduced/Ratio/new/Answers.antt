use Rattle.std.proofs.Common.{◌∙◌, ap₂, to_z, of_z, to_z-of_z}
use Rattle.std.specs.Int.{w128}
use Rattle.algebra.specs.Steps.{quotient}
use Rattle.ratio.proofs.QuotientLaws.{quotient_answered}
use Rattle.ratio.proofs.reduced.Ratio.new.Goals as goal

pub returns : goal.returns
returns c =
    quotient_answered (to_z w128 (of_z w128 c.args.n)) (to_z w128 (of_z w128 c.args.d)) c.reduced_quotient.result c.reduced_quotient.ensures.passes c.reduced_quotient.ensures.value
    ∙ ap₂ quotient (to_z-of_z c.ranges.n) (to_z-of_z c.ranges.d)
