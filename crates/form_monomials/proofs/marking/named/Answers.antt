use Rattle.std.proofs.Common.{◌++◌, [], ◌∙◌, ap, refl, arith}
use Rattle.integrands.specs.declared.integrand.Integrand.{Integrand}
use Rattle.form_monomials.specs.Markers.{marker_before, named}
use Rattle.form_monomials.proofs.FoundLaws.{found_more, found_all, marker_steps}
use Rattle.form_monomials.proofs.marking.named.Goals as goal

pub loop-p-preserved : goal.loop-p-preserved
loop-p-preserved c =
    found_more named marker_steps refl c.args.integrands.now c.loop-p.p-index c.p-item.result c.loop-p.all.items c.push_marker.new.all.items _ (omega arith)
    (c.in_ok-push_marker.ensures ∙ ap (λ (p : Integrand). c.loop-p.all.items ++ marker_before p.on []) c.p-item.is) c.loop-p.invariant

pub returns : goal.returns
returns c = found_all named marker_steps refl c.args.integrands.now c.loop-p.p-index c.loop-p.all.items _ (omega arith) c.loop-p.invariant
