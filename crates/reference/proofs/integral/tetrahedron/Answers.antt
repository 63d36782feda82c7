use Rattle.std.proofs.Common.{◌∙◌, sym, ap, ap₂}
use Rattle.calculus.specs.Polynomial.{plus, minus}
use Rattle.calculus.proofs.ByDimension.{over_plane}
use Rattle.reference.specs.PolyValue.{value_of}
use Rattle.reference.specs.PointValue.{point_of}
use Rattle.reference.proofs.Integrals.{tetrahedron_parts}
use Rattle.reference.proofs.integral.tetrahedron.Goals as goal

pub returns : goal.returns
returns c =
    c.in_ok-integral.ensures
    ∙ ap₂ (λ p q. minus p q)
    (c.in_ok-three.ensures
    ∙ ap₂ plus
    (c.in_ok-two.ensures
    ∙ ap₂ (λ p q. minus p q)
    (c.in_ok-first.ensures ∙ ap (λ p. over_plane (point_of c.args.b) (point_of c.args.c) (point_of c.args.e) p) c.in_ok-inner.ensures)
    (c.in_ok-second.ensures ∙ ap (λ p. over_plane (point_of c.args.a) (point_of c.args.c) (point_of c.args.e) p) c.in_ok-inner.ensures))
    (c.in_ok-third.ensures ∙ ap (λ p. over_plane (point_of c.args.a) (point_of c.args.b) (point_of c.args.e) p) c.in_ok-inner.ensures))
    (c.in_ok-fourth.ensures ∙ ap (λ p. over_plane (point_of c.args.a) (point_of c.args.b) (point_of c.args.c) p) c.in_ok-inner.ensures)
    ∙ sym (tetrahedron_parts (point_of c.args.a) (point_of c.args.b) (point_of c.args.c) (point_of c.args.e) (value_of c.args.p.now))
