-- The kernel's entries are the shares, and each end of its run is what comes of the cell
use Rattle.std.proofs.Common.{◌≡◌, ℕ, zero, suc, ◌+◌, refl, sym, ◌∙◌, ap, ap₂, arith, List, [], ◌∷◌, pos, Bool, true, false, ◌&&◌, None, Some, if◌then◌else◌}
use Rattle.algebra.specs.Ring.{natural}
use Rattle.algebra.specs.Fraction.{Fraction, absolute, add, fractions, inverse, is_zero_fraction, mul, mul_assoc, mul_comm, negative, of_integer, zero_fraction}
use Rattle.algebra.specs.Steps.{difference, fits}
use Rattle.algebra.proofs.WholeLaws.{of_integer-add, of_integer-one, of_integer-zero}
use Rattle.ratio.specs.declared.reduced.Ratio.{Ratio}
use Rattle.ratio.specs.Value.{fraction_of}
use Rattle.calculus.specs.Polynomial.{constant, constant_term}
use Rattle.calculus.specs.Simplex.{volume, point_of}
use Rattle.calculus.specs.Integral.{cell_integral}
use Rattle.calculus.specs.Mass.{third, sixth, mass_density, mass_factor}
use Rattle.calculus.proofs.Linear.{cell_integral-scaled}
use Rattle.calculus.proofs.MassShare.{mass_share_value}
use Rattle.calculus.proofs.PolynomialLaws.{value-constant, value-times}
use Rattle.c_unit.specs.Meaning.{End, Going, Passed, Zero, run_list}
use Rattle.kernel.specs.Ends.{Ends}
use Rattle.kernel.specs.MassShare.{Flat, Outcome, Passes, Shares, difference_outcome, interval, mass_outcome, mass_share, mass_shares, outcome, share_fits}
use Rattle.kernel.specs.Statements.{mass_statements}
use Rattle.kernel.proofs.MassRun.{mass_run, slots_at, zeros}

pub of_integer-natural : (n : ℕ) → of_integer (pos n) ≡ natural fractions n
of_integer-natural zero = of_integer-zero
of_integer-natural (suc n) =
    ap (λ k. of_integer (pos k)) (one_more n) ∙ of_integer-add (pos 1) (pos n) ∙ ap₂ add of_integer-one (of_integer-natural n)
  where
    one_more : (n : ℕ) → suc n ≡ 1 + n
    one_more n = omega arith

abbrev pub length_of : Fraction → Fraction → Fraction
length_of x₀ x₁ = add x₁ (negative x₀)

volume_is : (x₀ x₁ : Fraction) → volume (interval x₀ x₁) ≡ length_of x₀ x₁
unfolding volume
volume_is x₀ x₁ = refl

exchanged : (c h f : Fraction) → mul c (mul h f) ≡ mul h (mul c f)
exchanged c h f = sym (mul_assoc c h f) ∙ ap (λ x. mul x f) (mul_comm c h) ∙ mul_assoc h c f

pub share_is : (c x₀ x₁ : Fraction) (j k : ℕ) → is_zero_fraction (length_of x₀ x₁) ≡ false → mass_share c x₀ x₁ j k ≡ mul (absolute (length_of x₀ x₁)) (mul c (mass_factor j k))
share_is c x₀ x₁ j k apart =
    ap constant_term (cell_integral-scaled (interval x₀ x₁) c (mass_density (interval x₀ x₁) j k))
    ∙ value-times (λ i. zero_fraction) (constant c) (cell_integral (interval x₀ x₁) (mass_density (interval x₀ x₁) j k))
    ∙ ap₂ mul (value-constant (λ i. zero_fraction) c) (mass_share_value (point_of (x₀ ∷ [])) (point_of (x₁ ∷ [])) (ap is_zero_fraction (volume_is x₀ x₁) ∙ apart) j k)
    ∙ ap (λ v. mul c (mul (absolute v) (mass_factor j k))) (volume_is x₀ x₁)
    ∙ exchanged c (absolute (length_of x₀ x₁)) (mass_factor j k)

pub from_ends : (e : End) (o : Outcome) → Ends (o ≡ Passes) (o ≡ Flat) (λ s. o ≡ Shares s.a) e → outcome e ≡ o
from_ends (Going s) o h = sym h
from_ends (Passed at op l r s) o h = sym h
from_ends (Zero at s) o h = sym h

entry_is : (c h f m : Fraction) → m ≡ mul c f → mul (mul c h) f ≡ mul h m
entry_is c h f m e = mul_assoc c h f ∙ exchanged c h f ∙ ap (mul h) (sym e)

both : (a b : Bool) → a ≡ true → b ≡ true → (a && b) ≡ true
both a b h g = ap₂ ◌&&◌ h g

not_first : (a b : Bool) → a ≡ false → (a && b) ≡ false
not_first a b h = ap (λ t. t && b) h

not_second : (a b : Bool) → b ≡ false → (a && b) ≡ false
not_second true b h = h
not_second false b h = refl

module _ (same other : Ratio) (c : Fraction) (e₃ : fraction_of same ≡ mul c (inverse (of_integer (pos 3)))) (e₆ : fraction_of other ≡ mul c (inverse (of_integer (pos 6)))) (x₀ x₁ : Fraction) where
  v : Fraction
  v = length_of x₀ x₁

  is_third : fraction_of same ≡ mul c third
  is_third = e₃ ∙ ap (λ n. mul c (inverse n)) (of_integer-natural 3)

  is_sixth : fraction_of other ≡ mul c sixth
  is_sixth = e₆ ∙ ap (λ n. mul c (inverse n)) (of_integer-natural 6)

  abbrev shares : List Fraction
  shares = mass_shares c x₀ x₁

  abbrev O : Outcome
  O = mass_outcome c x₀ x₁

  passed : difference x₁ x₀ ≡ None → O ≡ Passes
  passed h = ap (λ o. difference_outcome o c shares) h

  known : difference x₁ x₀ ≡ Some (length_of x₀ x₁) → O ≡ difference_outcome (Some (length_of x₀ x₁)) c shares
  known h = ap (λ o. difference_outcome o c shares) h

  flat : difference x₁ x₀ ≡ Some (length_of x₀ x₁) → is_zero_fraction (length_of x₀ x₁) ≡ true → O ≡ Flat
  flat h z = known h ∙ ap (λ t. if t then Flat else if share_fits c (absolute (length_of x₀ x₁)) then Shares shares else Passes) z

  decided : (t : Bool) → difference x₁ x₀ ≡ Some (length_of x₀ x₁) → is_zero_fraction (length_of x₀ x₁) ≡ false → share_fits c (absolute (length_of x₀ x₁)) ≡ t → O ≡ if t then Shares shares else Passes
  decided t h z f =
      known h
      ∙ ap (λ t. if t then Flat else if share_fits c (absolute (length_of x₀ x₁)) then Shares shares else Passes) z
      ∙ ap (λ t. if t then Shares shares else Passes) f

  abbrev h : Fraction
  h = absolute (length_of x₀ x₁)

  first : (t : Bool) → fits (mul h (fraction_of same)) ≡ t → fits (mul (mul c h) third) ≡ t
  first t g = ap fits (entry_is c h third (fraction_of same) is_third) ∙ g

  second : (t : Bool) → fits (mul h (fraction_of other)) ≡ t → fits (mul (mul c h) sixth) ≡ t
  second t g = ap fits (entry_is c h sixth (fraction_of other) is_sixth) ∙ g

  entries : is_zero_fraction (length_of x₀ x₁) ≡ false
      → shares ≡ mul h (fraction_of same) ∷ mul h (fraction_of other) ∷ mul h (fraction_of other) ∷ mul h (fraction_of same) ∷ []
  entries z =
      ap₂ (λ a r. a ∷ r) (share_is c x₀ x₁ 0 0 z ∙ ap (mul h) (sym is_third))
      (ap₂ (λ a r. a ∷ r) (share_is c x₀ x₁ 0 1 z ∙ ap (mul h) (sym is_sixth))
      (ap₂ (λ a r. a ∷ r) (share_is c x₀ x₁ 1 0 z ∙ ap (mul h) (sym is_sixth))
      (ap (λ a. a ∷ []) (share_is c x₀ x₁ 1 1 z ∙ ap (mul h) (sym is_third)))))

  pub mass_kernel : (ks : List (List Fraction)) → outcome (run_list (mass_statements same other) ks 0 (0 ∷ 0 ∷ 0 ∷ 0 ∷ []) (slots_at x₀ x₁ (zeros (zero_fraction ∷ [])) (zeros []))) ≡ mass_outcome c x₀ x₁
  mass_kernel ks =
      from_ends _ O
      (mass_run (O ≡ Passes) (O ≡ Flat) (λ s. O ≡ Shares s.a) ks same other x₀ x₁ passed flat
      (λ some apart. (
        λ f. decided false some apart (not_first _ _ (first false f)),
        λ g. decided false some apart (not_second _ _ (second false g)),
        λ f g t. decided true some apart (both _ _ (first true f) (second true g)) ∙ ap Shares (entries apart),
      )))
