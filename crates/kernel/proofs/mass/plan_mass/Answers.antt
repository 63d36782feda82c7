use Rattle.std.proofs.Common.{◌∙◌, ap, refl, [], ◌∷◌}
use Rattle.algebra.specs.Fraction.{zero_fraction}
use Rattle.ratio.specs.Value.{fraction_of}
use Rattle.c_unit.specs.Meaning.{run_list, tables_of}
use Rattle.kernel.specs.MassShare.{outcome}
use Rattle.kernel.proofs.MassLaw.{mass_kernel}
use Rattle.kernel.proofs.MassRun.{slots_at, zeros}
use Rattle.kernel.proofs.MassWithin.{keeps_sizes}
use Rattle.kernel.proofs.mass.plan_mass.Goals as goal

pub returns-clause-share : goal.returns-clause-share
returns-clause-share c = λ x₀ x₁.
    let ks = tables_of c.new.result in
    ap (λ body. outcome (run_list body ks 0 (0 ∷ 0 ∷ 0 ∷ 0 ∷ []) (slots_at x₀ x₁ (zeros (zero_fraction ∷ [])) (zeros [])))) c.in_ok-body.ensures
    ∙ mass_kernel c.over.result c.over-2.result (fraction_of c.args.c) c.over.ensures c.over-2.ensures x₀ x₁ ks

pub returns-clause-lawful : goal.returns-clause-lawful
returns-clause-lawful c = keeps_sizes _ c.over.result c.over-2.result c.in_ok-body.ensures c.new.ensures refl refl refl refl
