use Rattle.std.proofs.Common.{◌++◌, [], ◌∷◌, map, ◌∙◌, ap, refl, arith}
use Rattle.ufl_tree.specs.Reading.{term_of}
use Rattle.integrands.specs.declared.integrand.Integrand.{Integrand}
use Rattle.integrands.specs.Integrands.{integrand_of}
use Rattle.form_monomials.specs.Markers.{bodies_in}
use Rattle.form_monomials.proofs.FoundLaws.{found_more, found_all, body_steps}
use Rattle.form_monomials.proofs.choice.bodies.Goals as goal

pub loop-p-preserved : goal.loop-p-preserved
loop-p-preserved c =
    found_more (bodies_in c.args.marker) (body_steps c.args.marker) refl c.args.integrands.now c.loop-p.p-index c.p-item.result (map term_of c.loop-p.all.items) (map term_of c.push_body.new.all.items) _ (omega arith)
    (c.in_ok-push_body.ensures ∙ ap (λ (p : Integrand). map term_of c.loop-p.all.items ++ bodies_in c.args.marker (integrand_of p ∷ [])) c.p-item.is) c.loop-p.invariant

pub returns : goal.returns
returns c = found_all (bodies_in c.args.marker) (body_steps c.args.marker) refl c.args.integrands.now c.loop-p.p-index (map term_of c.loop-p.all.items) _ (omega arith) c.loop-p.invariant
