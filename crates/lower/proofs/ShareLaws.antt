-- Shares are what they are for
use Rattle.std.proofs.Common.{◌≡◌, ℕ, zero, suc, pos, ◌+◌, ◌<◌, ◌≤◌, ◌^◌, Bool, true, false, nat_lt, ltb-true, unsigned_abs, [], ◌∷◌, refl, sym, ◌∙◌, ap, ap₂, arith}
use Rattle.std.proofs.lemmas.Bool.Decides.{nat_tests}
use Rattle.algebra.specs.Ring.{natural}
use Rattle.algebra.specs.Integers.{integers}
use Rattle.algebra.specs.Solver.{at, num, ◌⊗◌}
use Rattle.algebra.specs.Sound.{ring}
use Rattle.algebra.specs.Fraction.{fractions, add, mul, inverse, one_fraction, of_integer, same, whole, pair_product}
use Rattle.algebra.proofs.InverseLaws.{inverse_unique}
use Rattle.algebra.proofs.WholeLaws.{of_integer-zero, of_integer-one, of_integer-add}
use Rattle.ratio.specs.declared.reduced.Ratio.{Ratio}
use Rattle.ratio.specs.Value.{fraction_of}
use Rattle.ratio.proofs.Reading.{top_reads, bottom_reads}
use Rattle.algebra.specs.LowestTerms.{top, bottom}
use Rattle.lower.specs.Fitting.{AreShares}
use Rattle.lower.specs.Keeping.{IsShare}
use Rattle.lower.specs.Shares.{small_share, decided_share, share_of}

natural_whole : (n : ℕ) → natural fractions n ≡ of_integer (pos n)
natural_whole zero = sym of_integer-zero
natural_whole (suc n) =
    ap₂ add (sym of_integer-one) (natural_whole n) ∙ sym (of_integer-add (pos 1) (pos n)) ∙ ap (λ k. of_integer (pos k)) (next n)
  where
    next : (n : ℕ) → 1 + n ≡ suc n
    next n = omega arith

small_is : (n : ℕ) (p : 0 < n) (h : n < 2 ^ 127) → mul (of_integer (pos n)) (fraction_of (small_share n p h)) ≡ one_fraction
unfolding mul of_integer fraction_of one_fraction
small_is n p h =
    same (pair_product (whole (pos n)) (record { num = pos 1; den = n; positive = p })) (whole (pos 1))
    (ring integers (pos n ∷ []) (at 0 ⊗ num (pos 1) ⊗ num (pos 1)) (num (pos 1) ⊗ (num (pos 1) ⊗ at 0)) refl)

decided_is : (n : ℕ) (t u : Bool) (e : nat_lt 0 n ≡ t) (g : nat_lt n (2 ^ 127) ≡ u) → t ≡ true → u ≡ true → fraction_of (decided_share n t u e g) ≡ inverse (natural fractions n)
decided_is n true true e g x y = inverse_unique (natural fractions n) _ (ap (λ a. mul a (fraction_of (small_share n p h))) (natural_whole n) ∙ small_is n p h)
  where
    p : 0 < n
    p = ltb-true 0 n e

    h : n < 2 ^ 127
    h = ltb-true n (2 ^ 127) g
decided_is n true false e g x y = cc
decided_is n false u e g x y = cc

below_is_less : (a b : ℕ) → a < b → nat_lt a b ≡ true
below_is_less a b h = grind (arith, nat_tests)

-- `share_of n` is 1/n for each n that a `Ratio` can have below
pub share_is : (n : ℕ) → 1 ≤ n → n < 2 ^ 127 → IsShare share_of n
share_is n p h = decided_is n (nat_lt 0 n) (nat_lt n (2 ^ 127)) refl refl (below_is_less 0 n p) (below_is_less n (2 ^ 127) h)

decided_weighs : (n : ℕ) (t u : Bool) (e : nat_lt 0 n ≡ t) (g : nat_lt n (2 ^ 127) ≡ u) → t ≡ true → u ≡ true
    → (unsigned_abs (top (fraction_of (decided_share n t u e g))) ≡ 1) × (bottom (fraction_of (decided_share n t u e g)) ≡ n)
decided_weighs n true true e g x y =
    let r : Ratio = small_share n (ltb-true 0 n e) (ltb-true n (2 ^ 127) g) in
    (ap unsigned_abs (top_reads r), bottom_reads r)
decided_weighs n true false e g x y = cc
decided_weighs n false u e g x y = cc

pub shares_weigh : AreShares share_of
shares_weigh n p h = decided_weighs n (nat_lt 0 n) (nat_lt n (2 ^ 127)) refl refl (below_is_less 0 n p) (below_is_less n (2 ^ 127) h)

-- no numbers are 1/n for every n: the bottom of a `Ratio` is below 2^127
pub no_shares : (share : ℕ → Ratio) → ¬ ((n : ℕ) → 1 ≤ n → bottom (fraction_of (share n)) ≡ n)
no_shares share h =
    let r = share (2 ^ 127) in
    let e = bottom_reads r in
    let g = (h (2 ^ 127) (omega arith)) in
    let s = r.small in
    absurd (omega (arith, e, g, s))
