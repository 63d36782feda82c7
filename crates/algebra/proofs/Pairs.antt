-- What holds of all pairs holds of all fractions
use Rattle.std.proofs.Common.{◌≡◌, Bool}
use mathlib.Core.Quot.{mk, ind}
use mathlib.Core.HLevel.{Π_prop}
use mathlib.Core.Bool.{Bool-set}
use Rattle.algebra.specs.Fraction.{Pair, Same, Fraction}

-- a fact with one proof at most
pub for_pairs : (P : Fraction → Type 0) → ((a : Fraction) → IsProp (P a)) → ((p : Pair) → P (mk p)) → (a : Fraction) → P a
for_pairs P h f a = ind {r = Same} {β = P} h f a

pub for_two_pairs : (P : Fraction → Fraction → Type 0) → ((a b : Fraction) → IsProp (P a b)) → ((p q : Pair) → P (mk p) (mk q)) → (a b : Fraction) → P a b
for_two_pairs P h f a b = for_pairs (λ a. P a b) (λ a. h a b) (λ p. for_pairs (P (mk p)) (h (mk p)) (f p) b) a

-- a test that follows from two tests
pub test_from_two : (f g k : Fraction → Fraction → Bool) (s t u : Bool) → ((p q : Pair) → f (mk p) (mk q) ≡ s → g (mk p) (mk q) ≡ t → k (mk p) (mk q) ≡ u) → (a b : Fraction) → f a b ≡ s → g a b ≡ t → k a b ≡ u
test_from_two f g k s t u h =
    for_two_pairs (λ a b. f a b ≡ s → g a b ≡ t → k a b ≡ u) (λ a b. Π_prop (λ _. Π_prop (λ _. Bool-set (k a b) u))) h
