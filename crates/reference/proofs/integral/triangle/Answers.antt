use Rattle.std.proofs.Common.{◌∙◌, sym, ap, ap₂}
use Rattle.calculus.specs.Polynomial.{minus}
use Rattle.calculus.proofs.ByDimension.{over_line}
use Rattle.reference.specs.PolyValue.{value_of}
use Rattle.reference.specs.PointValue.{point_of}
use Rattle.reference.proofs.Integrals.{triangle_parts}
use Rattle.reference.proofs.integral.triangle.Goals as goal

pub returns : goal.returns
returns c =
    c.in_ok-integral.ensures
    ∙ ap₂ (λ p q. minus p q)
    (c.in_ok-two.ensures
    ∙ ap₂ (λ p q. minus p q)
    (c.in_ok-second.ensures ∙ ap (λ p. over_line (point_of c.args.a) (point_of c.args.c) p) c.in_ok-inner.ensures)
    (c.in_ok-first.ensures ∙ ap (λ p. over_line (point_of c.args.b) (point_of c.args.c) p) c.in_ok-inner.ensures))
    (c.in_ok-third.ensures ∙ ap (λ p. over_line (point_of c.args.a) (point_of c.args.b) p) c.in_ok-inner.ensures)
    ∙ sym (triangle_parts (point_of c.args.a) (point_of c.args.b) (point_of c.args.c) (value_of c.args.p.now))
