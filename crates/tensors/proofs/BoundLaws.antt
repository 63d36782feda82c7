-- How large the items of a tensor's rows are
use Rattle.std.proofs.Common.{◌≡◌, ℕ, ◌+◌, ◌*◌, ◌<◌, List, [], ◌∷◌, Option, None, Some, map, drop, sym}
use Rattle.std.specs.List.{AllByRecursion}
use native.Mathlib.Nat as N
use Rattle.algebra.specs.Fraction.{zero_fraction}
use Rattle.algebra.specs.Over.{Over}
use Rattle.algebra.proofs.OverLaws.{over_at, over_zero}
use Rattle.ratio.specs.declared.reduced.Ratio.{Ratio}
use Rattle.ratio.specs.Value.{fraction_of}
use Rattle.calculus.proofs.Nodes.{factorial_positive}
use Rattle.monos.specs.declared.weight.Weight.{Weight}
use Rattle.monos.specs.Monomial.{Monomial}
use Rattle.weigh.specs.Admitted.{IsAdmitted}
use Rattle.weigh.specs.Refusals.{lcd}
use Rattle.refint.specs.Local.{numbers_below}
use Rattle.basis_products.proofs.Lists.{all_weaken, all_take, all_drop}
use Rattle.monomial_products.specs.declared.support.Support.{Support}
use Rattle.monomial_weights.specs.Weighed.{item_bound, AreItems}
use Rattle.tensors.specs.Stored.{kept_place, kept_or_zeros, stored_row, stored_rows}
use Rattle.tensors.proofs.ExhaustedLaws.{all_flat}

all_mapped : {A B : Type 0} (P : B → Type 0) (f : A → B) → ((x : A) → P (f x)) → (xs : List A) → AllByRecursion P (map f xs)
all_mapped P f h [] = tt
all_mapped P f h (x ∷ xs) = (h x, all_mapped P f h xs)

-- zeros are within each bound
lcd_positive : (d : ℕ) (w : Weight) → IsAdmitted d w → 0 < lcd d w
lcd_positive d w a = N.mul-pos (N.mul-pos (factorial_positive (w.deg + d)) a.one_den) a.one_fac

zeros_within : (d : ℕ) (w : Weight) (m : Monomial) → IsAdmitted d w → (zeros : List Ratio) → AllByRecursion (λ x. fraction_of x ≡ zero_fraction) zeros → AreItems d w m zeros
zeros_within d w m a zeros z =
    all_weaken (λ x. fraction_of x ≡ zero_fraction) (λ x. Over (lcd d w) (item_bound d w m) (fraction_of x))
    (λ x e. over_at (lcd d w) (item_bound d w m) zero_fraction (fraction_of x) (sym e) (over_zero (lcd d w) (item_bound d w m) (lcd_positive d w a))) zeros z

-- what holds of all that is kept, and of the zeros, holds of each row
module _ (P : Ratio → Type 0) (tests trials : Support) (rows cols columns : ℕ) (kept zeros : List Ratio) (h : AllByRecursion P kept) (z : AllByRecursion P zeros) where
  row_within : (o : Option ℕ) → AllByRecursion P (kept_or_zeros columns kept zeros o)
  row_within None = z
  row_within (Some p) = all_take P columns (drop (p * columns) kept) (all_drop P (p * columns) kept h)

  all_within : AllByRecursion (AllByRecursion P) (stored_rows tests trials rows cols columns kept zeros)
  unfolding stored_rows
  all_within =
      all_flat (AllByRecursion P) (λ a. map (stored_row tests trials columns kept zeros a) (numbers_below cols))
      (λ a. all_mapped (AllByRecursion P) (stored_row tests trials columns kept zeros a) (λ b. row_within (kept_place tests trials a b)) (numbers_below cols))
      (numbers_below rows)

pub rows_within : (d : ℕ) (w : Weight) (m : Monomial) → IsAdmitted d w → (tests trials : Support) (rows cols columns : ℕ) (kept zeros : List Ratio) → AreItems d w m kept
    → AllByRecursion (λ x. fraction_of x ≡ zero_fraction) zeros → AllByRecursion (AreItems d w m) (stored_rows tests trials rows cols columns kept zeros)
rows_within d w m a tests trials rows cols columns kept zeros h z =
    all_within (λ x. Over (lcd d w) (item_bound d w m) (fraction_of x)) tests trials rows cols columns kept zeros h (zeros_within d w m a zeros z)
