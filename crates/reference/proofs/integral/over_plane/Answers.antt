use Rattle.std.proofs.Common.{◌∙◌, sym, ap, [], ◌∷◌}
use Rattle.algebra.specs.Fraction.{is_zero_fraction}
use Rattle.calculus.specs.Polynomial.{replaced}
use Rattle.calculus.specs.Integral.{shadow_integral}
use Rattle.reference.specs.PolyValue.{value_of}
use Rattle.reference.specs.PointValue.{point_of}
use Rattle.reference.proofs.Integrals.{flat_plane, steep_plane}
use Rattle.reference.proofs.integral.over_plane.Goals as goal

pub returns-then-is_zero : goal.returns-then-is_zero
returns-then-is_zero c =
    c.zero.ensures
    ∙ sym (flat_plane (point_of c.args.u) (point_of c.args.v) (point_of c.args.w) (value_of c.args.q.now)
    (ap is_zero_fraction (sym c.in_ok-size.ensures) ∙ sym c.is_zero.ensures ∙ c.if-is_zero.true))

pub returns : goal.returns
returns c =
    c.in_ok-integral.ensures
    ∙ ap (λ p. shadow_integral 2 (point_of c.args.u ∷ point_of c.args.v ∷ point_of c.args.w ∷ []) p) (c.in_ok-moved.ensures ∙ ap (λ h. replaced 2 h (value_of c.args.q.now)) c.in_ok-height.ensures)
    ∙ sym (steep_plane (point_of c.args.u) (point_of c.args.v) (point_of c.args.w) (value_of c.args.q.now)
    (ap is_zero_fraction (sym c.in_ok-size.ensures) ∙ sym c.is_zero.ensures ∙ c.if-is_zero.false))
