use Rattle.std.proofs.Common.{◌≡◌, ◌∙◌, ap₂, subst, [], ◌∷◌, IfOk}
use Rattle.calculus.specs.Polynomial.{polynomials}
use Rattle.calculus.specs.Simplex.{volume_in}
use Rattle.reference.specs.PolyValue.{value_of}
use Rattle.reference.proofs.Vertices.{four_vertices}
use Rattle.reference.proofs.coordinates.moved_space.Goals as goal

pub returns : goal.returns
returns c =
    subst (λ w. IfOk c.space.result (λ r. value_of r ≡ volume_in polynomials w))
    (ap₂ (λ a w. a ∷ w) c.in_ok-a.ensures (ap₂ (λ b w. b ∷ w) c.in_ok-b.ensures (ap₂ (λ c e. c ∷ e ∷ []) c.in_ok-c.ensures c.in_ok-e.ensures))
    ∙ four_vertices c.args.j c.args.a c.args.b c.args.c c.args.e) c.space.ensures
