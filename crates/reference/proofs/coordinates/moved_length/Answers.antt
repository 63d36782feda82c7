use Rattle.std.proofs.Common.{◌≡◌, ◌∙◌, ap₂, subst, [], ◌∷◌, IfOk}
use Rattle.calculus.specs.Polynomial.{polynomials}
use Rattle.calculus.specs.Simplex.{volume_in}
use Rattle.reference.specs.PolyValue.{value_of}
use Rattle.reference.proofs.Vertices.{two_vertices}
use Rattle.reference.proofs.coordinates.moved_length.Goals as goal

pub returns : goal.returns
returns c =
    subst (λ w. IfOk c.length.result (λ r. value_of r ≡ volume_in polynomials w))
    (ap₂ (λ a b. a ∷ b ∷ []) c.in_ok-a.ensures c.in_ok-b.ensures ∙ two_vertices c.args.j c.args.a c.args.b) c.length.ensures
