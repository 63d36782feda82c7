-- Greatest common divisors and factors 2
use Rattle.std.proofs.Common.{◌≡◌, ℕ, zero, suc, ◌-◌, ◌*◌, ◌/◌, ◌%◌, ◌<◌, ◌≤◌, ◌^◌, sym, ◌∙◌, ap, ap₂, subst, arith}
use native.Mathlib.Nat as N
use Rattle.std.specs.Int.{Width, trailing_zeros}
use mir.Val.{bits}
use Rattle.std.proofs.lemmas.Nat.Bits.{bit_at-trailing_zeros}
use Rattle.std.proofs.lemmas.Nat.Gcd.{IsGcd-from_sub, dvd_trans}
use Rattle.algebra.specs.Gcd.{gcd}
use Rattle.algebra.specs.GcdLaws.{IsGcd-gcd, gcd_is, gcd-scaled, gcd_of_rest, IsCoprime, coprime_from_gcd, coprime-mul, divides_other}

even_half : (m : ℕ) → m % 2 ≡ 0 → 2 * (m / 2) ≡ m
even_half m h = omega arith

low_zeros : (t n : ℕ) → ((i : ℕ) → i < t → n / 2 ^ i % 2 ≡ 0) → 2 ^ t * (n / 2 ^ t) ≡ n
low_zeros zero n h = N.one-mul (n / 1) ∙ N.div-one n
low_zeros (suc t) n h =
    ap₂ ◌*◌ (N.pow-suc 2 t) (ap (λ k. n / k) (N.pow-suc 2 t) ∙ sym (N.div-div-eq-div-mul n (2 ^ t) 2))
    ∙ N.mul_assoc (2 ^ t) 2 (n / 2 ^ t / 2)
    ∙ ap (λ k. 2 ^ t * k) (even_half (n / 2 ^ t) (h t (last t)))
    ∙ low_zeros t n (λ i l. h i (later i t l))
  where
    later : (i t : ℕ) → i < t → i < suc t
    later i t h = omega arith

    last : (t : ℕ) → t < suc t
    last t = omega arith

pub lowest_one : (w : Width) (n : ℕ) → 0 < n → n < 2 ^ bits w → (n / 2 ^ trailing_zeros w n % 2 ≡ 1) × (2 ^ trailing_zeros w n * (n / 2 ^ trailing_zeros w n) ≡ n)
lowest_one w n h g = let b = bit_at-trailing_zeros w n h g in (b.1, low_zeros (trailing_zeros w n) n b.2)

coprime_two : (o : ℕ) → o % 2 ≡ 1 → IsCoprime o 2
unfolding gcd
coprime_two o h = coprime_from_gcd o 2 (sym (gcd_of_rest o 2) ∙ ap (gcd 2) h)

coprime_twos : (o t : ℕ) → o % 2 ≡ 1 → IsCoprime o (2 ^ t)
coprime_twos o zero h = λ k p q. q
coprime_twos o (suc t) h = subst (IsCoprime o) (sym (N.pow-suc 2 t)) (coprime-mul o (2 ^ t) 2 (coprime_twos o t h) (coprime_two o h))

gcd_without : (o c m : ℕ) → IsCoprime o c → gcd o m ≡ gcd o (c * m)
gcd_without o c m h =
    let g = IsGcd-gcd o (c * m) in
    gcd_is o m (gcd o (c * m)) (g.0, divides_other (gcd o (c * m)) c m (λ k p q. h k (dvd_trans k p g.0) q) g.1, λ k p q. g.2 k p (N.dvd-mul_left_of_dvd k q c))

pub odd_gcd : (o n t : ℕ) → o % 2 ≡ 1 → 2 ^ t * (n / 2 ^ t) ≡ n → gcd o (n / 2 ^ t) ≡ gcd o n
odd_gcd o n t h e = gcd_without o (2 ^ t) (n / 2 ^ t) (coprime_twos o t h) ∙ ap (gcd o) e

pub gcd_comm : (a b : ℕ) → gcd a b ≡ gcd b a
gcd_comm a b = let g = IsGcd-gcd b a in gcd_is a b (gcd b a) (g.1, g.0, λ k p q. g.2 k q p)

pub gcd_difference : (a b : ℕ) → b ≤ a → gcd b (a - b) ≡ gcd a b
gcd_difference a b h = gcd_comm b (a - b) ∙ sym (gcd_is a b (gcd (a - b) b) (IsGcd-from_sub a b (gcd (a - b) b) h (IsGcd-gcd (a - b) b)))

pub gcd_scaled : (k x y a b : ℕ) → k * x ≡ a → k * y ≡ b → k * gcd x y ≡ gcd a b
gcd_scaled k x y a b e f = sym (gcd_is (k * x) (k * y) (k * gcd x y) (gcd-scaled k x y)) ∙ ap₂ gcd e f

-- no bit stands below the place i of a number whose lowest bit stands there or higher
pub zeros_below : (w : Width) (i n : ℕ) → 0 < n → n < 2 ^ bits w → i ≤ trailing_zeros w n → 2 ^ i * (n / 2 ^ i) ≡ n
zeros_below w i n h g l = let b = bit_at-trailing_zeros w n h g in low_zeros i n (λ k m. b.2 k (N.lt_of_lt_of_le m l))

pub shifted : (r i a b : ℕ) → r ≡ gcd (a / 2 ^ i) (b / 2 ^ i) → 2 ^ i * (a / 2 ^ i) ≡ a → 2 ^ i * (b / 2 ^ i) ≡ b → 0 < a → a < 2 ^ 128 → r * 2 ^ i % 2 ^ 128 ≡ gcd a b
shifted r i a b e f g h l =
    ap (λ n. n % 2 ^ 128) (N.mul_comm r (2 ^ i) ∙ ap (λ n. 2 ^ i * n) e ∙ gcd_scaled (2 ^ i) (a / 2 ^ i) (b / 2 ^ i) a b f g)
    ∙ small (gcd a b) (N.lt_of_le_of_lt (N.le_of_dvd h (IsGcd-gcd a b).0) l)
  where
    small : (n : ℕ) → n < 2 ^ 128 → n % 2 ^ 128 ≡ n
    small n h = omega arith
