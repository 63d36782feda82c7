use Rattle.std.proofs.Common.{◌∙◌, sym, ap, ap₂, [], ◌∷◌}
use Rattle.algebra.specs.Fraction.{is_zero_fraction}
use Rattle.calculus.specs.Polynomial.{replaced}
use Rattle.calculus.specs.Simplex.{volume}
use Rattle.calculus.specs.Integral.{shadow_integral}
use Rattle.calculus.proofs.ByDimension.{line_shadow}
use Rattle.reference.specs.PolyValue.{value_of}
use Rattle.reference.specs.PointValue.{point_of}
use Rattle.reference.proofs.Integrals.{flat_line, steep_line}
use Rattle.reference.proofs.integral.over_line.Goals as goal

pub returns-then-is_zero : goal.returns-then-is_zero
returns-then-is_zero c =
    c.zero.ensures
    ∙ sym (flat_line (point_of c.args.u) (point_of c.args.w) (value_of c.args.q.now)
    (ap₂ (λ s t. is_zero_fraction (volume (s ∷ t ∷ []))) (sym c.on_line-start.ensures) (sym c.on_line-end.ensures)
    ∙ ap is_zero_fraction (sym c.in_ok-size.ensures) ∙ sym c.is_zero.ensures ∙ c.if-is_zero.true))

pub returns : goal.returns
returns c =
    c.in_ok-integral.ensures
    ∙ ap₂ (λ s t. shadow_integral 1 (s ∷ t ∷ []) (value_of c.in_ok-moved.moved)) c.on_line-start.ensures c.on_line-end.ensures
    ∙ ap (λ p. shadow_integral 1 (line_shadow (point_of c.args.u) (point_of c.args.w)) p) (c.in_ok-moved.ensures ∙ ap (λ h. replaced 1 h (value_of c.args.q.now)) c.in_ok-height.ensures)
    ∙ sym (steep_line (point_of c.args.u) (point_of c.args.w) (value_of c.args.q.now)
    (ap₂ (λ s t. is_zero_fraction (volume (s ∷ t ∷ []))) (sym c.on_line-start.ensures) (sym c.on_line-end.ensures)
    ∙ ap is_zero_fraction (sym c.in_ok-size.ensures) ∙ sym c.is_zero.ensures ∙ c.if-is_zero.false))
