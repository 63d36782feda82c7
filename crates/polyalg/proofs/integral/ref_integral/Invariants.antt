use Rattle.std.proofs.Common.{◌≡◌, drop}
use Rattle.ratio.specs.Value.{fraction_of}
use Rattle.polyalg.specs.Terms.{AreTerms}
use Rattle.polyalg.specs.ReferenceIntegral.{integral_from, integral_steps}
use Rattle.polyalg.proofs.integral.ref_integral.Given as goal

-- the steps that are left, from here, give what all steps give
abbrev pub invariant-loop-term : goal.invariant-loop-term
invariant-loop-term l =
    (integral_from l.d (fraction_of l.total) (drop l.term-index l.term-items) ≡ integral_steps l.d l.term-items)
    × AreTerms (drop l.term-index l.term-items)
