use Rattle.std.proofs.Common.{◌<◌, sym, subst, ◌∙◌, arith, []}
use Rattle.ufl_tree.specs.declared.function.Role.TheVariants.{Test, Trial}
use Rattle.monomial_products.specs.declared.support.Support.{Support}
use Rattle.monomial_products.specs.Supports.{places_at, AreOn}
use Rattle.monomial_products.proofs.SupportLaws.{trials_apart, support_on, support_step, support_end}
use Rattle.monomial_products.proofs.support.trial_support.Goals as goal

pub loop-atom-preserved : goal.loop-atom-preserved
loop-atom-preserved c =
    support_step c.args.l.now Trial c.loop-atom.kept c.within_trial-kept.result c.args.atoms.now c.loop-atom.atom-index (record { f = record { role = Test; element = 0 }; component = 0; dirs = [] })
    (omega arith) c.within_trial-kept.ensures
    ∙ c.loop-atom.invariant

pub returns-clause-value : goal.returns-clause-value
returns-clause-value c = sym (support_end c.args.l.now Trial c.loop-atom.kept c.args.atoms.now c.loop-atom.atom-index (omega arith)) ∙ c.loop-atom.invariant

pub returns-clause-on : goal.returns-clause-on
returns-clause-on c h g =
    let e = returns-clause-value c in
    subst (λ (s : Support). AreOn c.args.l.now Trial s c.args.atoms.now) (sym e)
    (support_on c.args.l.now Trial (trials_apart c.args.l.now h) c.args.atoms.now (subst (λ (s : Support). 0 < places_at s) e g))
