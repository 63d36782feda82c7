-- A whole number, its sign and its size
use Rattle.std.proofs.Common.{◌≡◌, ℕ, zero, suc, ℤ, pos, negsuc, ◌*◌, ◌*ℤ◌, neg_ℤ, unsigned_abs, refl, Bool, true, false}
use Rattle.algebra.specs.Fraction.{below_nought}
use Rattle.algebra.specs.Integers.{neg-mul}
use Rattle.algebra.specs.Sign.{signed}

pub size_of_signed : (s : Bool) (n : ℕ) → unsigned_abs (signed s n) ≡ n
size_of_signed true zero = refl
size_of_signed true (suc n) = refl
size_of_signed false n = refl

pub signed_size : (z : ℤ) → signed (below_nought z) (unsigned_abs z) ≡ z
signed_size (pos n) = refl
signed_size (negsuc n) = refl

pub signed-mul : (s : Bool) (k m : ℕ) → signed s k *ℤ pos m ≡ signed s (k * m)
signed-mul true k m = neg-mul (pos k) (pos m)
signed-mul false k m = refl

pub unsigned_abs-neg : (z : ℤ) → unsigned_abs (neg_ℤ z) ≡ unsigned_abs z
unsigned_abs-neg (pos zero) = refl
unsigned_abs-neg (pos (suc n)) = refl
unsigned_abs-neg (negsuc n) = refl
