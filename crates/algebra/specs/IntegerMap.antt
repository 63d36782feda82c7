-- The integers in a ring: sums and products are kept
use Rattle.std.proofs.Common.{◌≡◌, ℕ, zero, suc, ◌+◌, ◌*◌, ℤ, pos, negsuc, ◌+ℤ◌, ◌*ℤ◌, neg_ℤ, refl, sym, ◌∙◌, ap, ap₂, arith}
use Rattle.std.proofs.lemmas.Int.{ints}
use borrow.Author.Differences.{up, down}
use Rattle.algebra.specs.Ring.{Ring, natural, integer}
use Rattle.algebra.specs.RingLaws as L
use native.Mathlib.Nat as N

sum_parts : (a b : ℤ) → up (a +ℤ b) + (down a + down b) ≡ up a + up b + down (a +ℤ b)
sum_parts a b = omega (arith, ints)

module _ {R : Type 0} (K : Ring R) where
  open K use {zero as nil, one, add, mul, neg}

  pub natural-add : (m n : ℕ) → natural K (m + n) ≡ add (natural K m) (natural K n)
  natural-add zero n = ap (natural K) (N.zero-add n) ∙ sym (L.zero-add K (natural K n))
  natural-add (suc m) n =
      ap (natural K) (N.suc-add m n) ∙ ap (add one) (natural-add m n) ∙ sym (K.add_assoc one (natural K m) (natural K n))

  pub natural-mul : (m n : ℕ) → natural K (m * n) ≡ mul (natural K m) (natural K n)
  natural-mul zero n = ap (natural K) (N.zero-mul n) ∙ sym (L.zero-mul K (natural K n))
  natural-mul (suc m) n =
      ap (natural K) (N.suc-mul m n) ∙ natural-add (m * n) n ∙ K.add_comm _ _
      ∙ ap₂ add (sym (L.one-mul K (natural K n))) (natural-mul m n)
      ∙ sym (L.add-mul K one (natural K m) (natural K n))

  pub integer_parts : (z : ℤ) → add (integer K z) (natural K (down z)) ≡ natural K (up z)
  integer_parts (pos n) = K.add_zero (natural K n)
  integer_parts (negsuc n) = L.neg-add K (natural K (suc n))

  pub integer-neg : (z : ℤ) → integer K (neg_ℤ z) ≡ neg (integer K z)
  integer-neg (pos zero) = sym (L.neg-zero K)
  integer-neg (pos (suc n)) = refl
  integer-neg (negsuc n) = sym (L.neg-neg K (natural K (suc n)))

  pub integer-add : (a b : ℤ) → integer K (a +ℤ b) ≡ add (integer K a) (integer K b)
  integer-add a b =
      L.add_right_cancel K _ _ (add (natural K (down (a +ℤ b))) (add (natural K (down a)) (natural K (down b))))
      (sym (K.add_assoc _ _ _)
      ∙ ap (λ x. add x (add (natural K (down a)) (natural K (down b)))) (integer_parts (a +ℤ b))
      ∙ ap (add (natural K (up (a +ℤ b)))) (sym (natural-add (down a) (down b)))
      ∙ sym (natural-add (up (a +ℤ b)) (down a + down b))
      ∙ ap (natural K) (sum_parts a b)
      ∙ natural-add (up a + up b) (down (a +ℤ b))
      ∙ ap (λ x. add x (natural K (down (a +ℤ b)))) (natural-add (up a) (up b) ∙ sym (ap₂ add (integer_parts a) (integer_parts b)) ∙ L.add_medial K _ _ _ _)
      ∙ K.add_assoc _ _ _
      ∙ ap (add (add (integer K a) (integer K b))) (K.add_comm _ _))

  pub integer-mul : (a b : ℤ) → integer K (a *ℤ b) ≡ mul (integer K a) (integer K b)
  integer-mul (pos a) (pos b) = natural-mul a b
  integer-mul (pos a) (negsuc b) =
      integer-neg (pos (a * suc b)) ∙ ap neg (natural-mul a (suc b)) ∙ sym (L.mul-neg K (natural K a) (natural K (suc b)))
  integer-mul (negsuc a) (pos b) =
      integer-neg (pos (suc a * b)) ∙ ap neg (natural-mul (suc a) b) ∙ sym (L.neg-mul K (natural K (suc a)) (natural K b))
  integer-mul (negsuc a) (negsuc b) =
      natural-mul (suc a) (suc b)
      ∙ sym (L.neg-neg K _)
      ∙ ap neg (sym (L.neg-mul K (natural K (suc a)) (natural K (suc b))))
      ∙ sym (L.mul-neg K (neg (natural K (suc a))) (natural K (suc b)))
