use Rattle.std.proofs.Common.{◌∙◌, sym, ap₂}
use Rattle.calculus.specs.Polynomial.{plus}
use Rattle.reference.specs.PointValue.{point_of}
use Rattle.reference.proofs.Integrals.{plane_height_of}
use Rattle.reference.proofs.integral.plane_height.Goals as goal

pub returns : goal.returns
returns c =
    c.in_ok-height.ensures
    ∙ ap₂ plus c.in_ok-first.ensures (c.in_ok-two.ensures ∙ ap₂ plus c.in_ok-second.ensures c.in_ok-third.ensures)
    ∙ sym (plane_height_of (point_of c.args.u) (point_of c.args.v) (point_of c.args.w))
