use Rattle.std.proofs.Common.{◌∙◌, sym, ap₂, [], ◌∷◌}
use Rattle.ratio.specs.Value.{fraction_of}
use Rattle.calculus.specs.Polynomial.{plus, times, constant}
use Rattle.calculus.specs.Simplex.{barycentric}
use Rattle.reference.specs.PointValue.{point_of}
use Rattle.reference.proofs.Integrals.{line_height_of}
use Rattle.reference.proofs.integral.line_height.Goals as goal

pub returns : goal.returns
returns c =
    c.in_ok-height.ensures
    ∙ ap₂ plus
    (c.in_ok-first.ensures ∙ ap₂ (λ s t. times (constant (fraction_of c.args.u.y)) (barycentric (s ∷ t ∷ []) 0)) c.on_line.ensures c.on_line-2.ensures)
    (c.in_ok-second.ensures ∙ ap₂ (λ s t. times (constant (fraction_of c.args.w.y)) (barycentric (s ∷ t ∷ []) 1)) c.on_line.ensures c.on_line-2.ensures)
    ∙ sym (line_height_of (point_of c.args.u) (point_of c.args.w))
