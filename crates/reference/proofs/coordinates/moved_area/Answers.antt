use Rattle.std.proofs.Common.{◌≡◌, ◌∙◌, ap₂, subst, [], ◌∷◌, IfOk}
use Rattle.calculus.specs.Polynomial.{polynomials}
use Rattle.calculus.specs.Simplex.{volume_in}
use Rattle.reference.specs.PolyValue.{value_of}
use Rattle.reference.proofs.Vertices.{three_vertices}
use Rattle.reference.proofs.coordinates.moved_area.Goals as goal

pub returns : goal.returns
returns c =
    subst (λ w. IfOk c.area.result (λ r. value_of r ≡ volume_in polynomials w))
    (ap₂ (λ a w. a ∷ w) c.in_ok-a.ensures (ap₂ (λ b c. b ∷ c ∷ []) c.in_ok-b.ensures c.in_ok-c.ensures) ∙ three_vertices c.args.j c.args.a c.args.b c.args.c) c.area.ensures
