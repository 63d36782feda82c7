-- Partial sums of the products of two lists
use Rattle.std.proofs.Common.{◌≡◌, ℕ, zero, suc, ◌<◌, refl, sym, ◌∙◌, arith, length, List, [], ◌∷◌, false, None}
use Rattle.algebra.specs.Fraction.{Fraction, add, add_assoc, add_zero, mul}
use Rattle.algebra.specs.Steps.{fits, sum}
use Rattle.kernel_runs.specs.Strips.{item, partial}
use Rattle.refint.specs.Digits.{dot}
use Rattle.kernel_runs.specs.Fit.{SumsFit}

pub partial_more : (acc : Fraction) (cs rs : List Fraction) (n : ℕ) → n < length cs → n < length rs → partial acc cs rs (suc n) ≡ add (partial acc cs rs n) (mul (item cs n) (item rs n))
partial_more acc [] rs n h g = absurd (omega arith)
partial_more acc (c ∷ cs) [] n h g = absurd (omega arith)
partial_more acc (c ∷ cs) (r ∷ rs) zero h g = refl
partial_more acc (c ∷ cs) (r ∷ rs) (suc n) h g = partial_more (add acc (mul c r)) cs rs n (omega arith) (omega arith)

pub partial_all : (acc : Fraction) (cs rs : List Fraction) → length rs ≡ length cs → partial acc cs rs (length cs) ≡ add acc (dot cs rs)
partial_all acc [] rs h = sym (add_zero acc)
partial_all acc (c ∷ cs) [] h = absurd (omega arith)
partial_all acc (c ∷ cs) (r ∷ rs) h = partial_all (add acc (mul c r)) cs rs (omega arith) ∙ add_assoc acc (mul c r) (dot cs rs)

pub product_at : (Q : Type 0) (acc : Fraction) (cs rs : List Fraction) (n : ℕ) → n < length cs → n < length rs → SumsFit Q acc cs rs → fits (mul (item cs n) (item rs n)) ≡ false → Q
product_at Q acc [] rs n h g f = absurd (omega arith)
product_at Q acc (c ∷ cs) [] n h g f = absurd (omega arith)
product_at Q acc (c ∷ cs) (r ∷ rs) zero h g f = f.0
product_at Q acc (c ∷ cs) (r ∷ rs) (suc n) h g f = product_at Q (add acc (mul c r)) cs rs n (omega arith) (omega arith) f.1.1

pub sum_at : (Q : Type 0) (acc : Fraction) (cs rs : List Fraction) (n : ℕ) → n < length cs → n < length rs → SumsFit Q acc cs rs
    → sum (partial acc cs rs n) (mul (item cs n) (item rs n)) ≡ None → Q
sum_at Q acc [] rs n h g f = absurd (omega arith)
sum_at Q acc (c ∷ cs) [] n h g f = absurd (omega arith)
sum_at Q acc (c ∷ cs) (r ∷ rs) zero h g f = f.1.0
sum_at Q acc (c ∷ cs) (r ∷ rs) (suc n) h g f = sum_at Q (add acc (mul c r)) cs rs n (omega arith) (omega arith) f.1.1
