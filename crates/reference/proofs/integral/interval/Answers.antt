use Rattle.std.proofs.Common.{◌∙◌, sym, ap₂}
use Rattle.calculus.specs.Polynomial.{minus, replaced}
use Rattle.calculus.proofs.ByDimension.{interval_ends}
use Rattle.reference.specs.PolyValue.{value_of}
use Rattle.reference.specs.PointValue.{point_of}
use Rattle.reference.proofs.integral.interval.Goals as goal

pub returns : goal.returns
returns c =
    c.in_ok-integral.ensures
    ∙ ap₂ (λ p q. minus p q)
    (c.in_ok-upper.ensures ∙ ap₂ (λ q p. replaced 0 q p) c.in_ok-end.ensures c.in_ok-inner.ensures)
    (c.in_ok-lower.ensures ∙ ap₂ (λ q p. replaced 0 q p) c.in_ok-start.ensures c.in_ok-inner.ensures)
    ∙ sym (interval_ends (point_of c.args.u) (point_of c.args.w) (value_of c.args.p.now))
