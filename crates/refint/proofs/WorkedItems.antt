-- The reference tensor of the mass form on intervals
use Rattle.std.proofs.Common.{◌≡◌, ℕ, zero, suc, ◌<◌, false, refl, sym, ◌∙◌, ap, arith, [], ◌∷◌}
use Rattle.algebra.specs.RingLaws as L
use Rattle.algebra.specs.Solver.{at, ◌⊗◌, unity}
use Rattle.algebra.specs.Sound as Solve
use Rattle.algebra.specs.Fraction.{Fraction, fractions, one_fraction, mul, absolute, is_zero_fraction, is_below_zero}
use Rattle.calculus.specs.Integral.{integral_value}
use Rattle.calculus.specs.LocalFunction.{local_function}
use Rattle.calculus.specs.Mass.{mass_factor, mass_density, end_node}
use Rattle.calculus.specs.Polynomial.{one, times, constant, polynomials}
use Rattle.calculus.specs.Simplex.{Simplex, volume, origin, first_unit}
use Rattle.calculus.proofs.MassShare.{mass_share_value}
use Rattle.calculus.proofs.PolynomialLaws.{constant-one}
use Rattle.ufl_meaning.specs.Monomial.{mono_value}
use Rattle.refint.specs.Digits.{columns, dot}
use Rattle.refint.specs.Examples.{mass_layout, mass_monomial}
use Rattle.refint.specs.Local.{local}
use Rattle.refint.specs.Reference.{item, items}
use Rattle.refint.proofs.MonoShares.{mono_share}

mass_product : (v : Simplex) (j k : ℕ) → j < 2 → k < 2
    → mono_value (local mass_layout v [] j k) mass_monomial ≡ times (constant one_fraction) (times (local_function v (end_node j)) (times (local_function v (end_node k)) one))
mass_product v zero zero p q = refl
mass_product v zero (suc zero) p q = refl
mass_product v (suc zero) zero p q = refl
mass_product v (suc zero) (suc zero) p q = refl
mass_product v zero (suc (suc k)) p q = absurd (omega arith)
mass_product v (suc zero) (suc (suc k)) p q = absurd (omega arith)
mass_product v (suc (suc j)) k p q = absurd (omega arith)

pub mass_mono : (v : Simplex) (j k : ℕ) → j < 2 → k < 2 → mono_value (local mass_layout v [] j k) mass_monomial ≡ mass_density v j k
mass_mono v j k p q =
    mass_product v j k p q
    ∙ ap (λ x. times x (times (local_function v (end_node j)) (times (local_function v (end_node k)) one))) constant-one
    ∙ Solve.ring polynomials (local_function v (end_node j) ∷ local_function v (end_node k) ∷ []) (unity ⊗ (at 0 ⊗ (at 1 ⊗ unity))) (at 0 ⊗ at 1) refl

one_apart : is_zero_fraction one_fraction ≡ false
unfolding is_zero_fraction one_fraction
one_apart = refl

one_absolute : absolute one_fraction ≡ one_fraction
unfolding is_below_zero one_fraction
one_absolute = refl

one_volume : volume (origin ∷ first_unit ∷ []) ≡ one_fraction
unfolding volume
one_volume = ap (λ x. fractions.add one_fraction x) (L.neg-zero fractions) ∙ fractions.add_zero one_fraction

flat : is_zero_fraction (volume (origin ∷ first_unit ∷ [])) ≡ false
flat = ap is_zero_fraction one_volume ∙ one_apart

unit : absolute (volume (origin ∷ first_unit ∷ [])) ≡ one_fraction
unit = ap absolute one_volume ∙ one_absolute

single : (x : Fraction) → dot (columns []) (x ∷ []) ≡ x
single x = fractions.add_zero (mul one_fraction x) ∙ L.one-mul fractions x

one_item : (j k : ℕ) → items mass_layout mass_monomial j k ≡ item mass_layout mass_monomial j k [] [] ∷ []
unfolding items
one_item j k = refl

pub mass_items : (j k : ℕ) → j < 2 → k < 2 → items mass_layout mass_monomial j k ≡ mass_factor j k ∷ []
mass_items j k p q = one_item j k ∙ ap (λ y. y ∷ []) (back ∙ there)
  where
    x : Fraction
    x = item mass_layout mass_monomial j k [] []

    back : x ≡ mul one_fraction (mass_factor j k)
    back =
        sym (single x) ∙ ap (dot (columns [])) (sym (one_item j k))
        ∙ sym (L.one-mul fractions _)
        ∙ ap (λ y. mul y (dot (columns []) (items mass_layout mass_monomial j k))) (sym unit)
        ∙ sym (mono_share mass_layout mass_monomial (origin ∷ first_unit ∷ []) tt refl flat [] j k)
        ∙ ap (integral_value (origin ∷ first_unit ∷ [])) (mass_mono (origin ∷ first_unit ∷ []) j k p q)
        ∙ mass_share_value origin first_unit flat j k
        ∙ ap (λ y. mul y (mass_factor j k)) unit

    there : mul one_fraction (mass_factor j k) ≡ mass_factor j k
    there = L.one-mul fractions (mass_factor j k)
