-- Laws of the greatest common divisor
use Rattle.std.proofs.Common.{◌≡◌, ℕ, zero, suc, ◌+◌, ◌*◌, ◌/◌, ◌%◌, ◌<◌, ◌≤◌, sym, ◌∙◌, ap, subst, arith}
use Prim.Native.Nat.{◌∣◌}
use Rattle.std.specs.Int.{IsGcd}
use Rattle.std.proofs.lemmas.Nat.Gcd.{IsGcd-from_zero, IsGcd-from_mod, same_from_IsGcd, dvd_trans, dvd_antisymm}
use Rattle.std.proofs.lemmas.Nat.{mod-mul-add}
use native.Mathlib.Nat as N
use Rattle.algebra.specs.Gcd.{gcd_within, gcd}

below : (a b : ℕ) → a % suc b ≤ b
below a b = omega arith

spread : (k a b : ℕ) → k * a ≡ (a / suc b) * (k * suc b) + k * (a % suc b)
spread k a b = omega (arith, ap (λ n. k * n) (N.div-add-mod' a (suc b)))

scaled_rest : (k a b : ℕ) → (k * a) % (k * suc b) ≡ k * (a % suc b)
scaled_rest zero a b = simp N.zero-mul (N.zero-mod 0)
scaled_rest (suc k) a b =
    ap (λ n. n % (suc k * suc b)) (spread (suc k) a b)
    ∙ mod-mul-add (a / suc b) (suc k * suc b) (suc k * (a % suc b)) (N.mul-lt-mul_of_pos_left (rest_below a b) (N.zero-lt-suc k))
  where
    rest_below : (a b : ℕ) → a % suc b < suc b
    rest_below a b = omega arith

-- k times both numbers: k times the divisor
scaled_within : (k steps a b : ℕ) → b ≤ steps → IsGcd (k * a) (k * b) (k * gcd_within steps a b)
scaled_within k zero a b h = IsGcd-from_zero (k * a) (k * b) (ap (λ n. k * n) (none b h) ∙ N.mul-zero k)
  where
    none : (b : ℕ) → b ≤ 0 → b ≡ 0
    none b h = omega arith
scaled_within k (suc steps) a zero h = IsGcd-from_zero (k * a) (k * 0) (N.mul-zero k)
scaled_within k (suc steps) a (suc b) h =
    IsGcd-from_mod (k * a) (k * suc b) (k * gcd_within steps (suc b) (a % suc b))
    (subst (λ n. IsGcd (k * suc b) n (k * gcd_within steps (suc b) (a % suc b))) (sym (scaled_rest k a b)) (scaled_within k steps (suc b) (a % suc b) (N.le_trans (below a b) (N.le_of_suc-le-suc h))))

pub IsGcd-gcd : (a b : ℕ) → IsGcd a b (gcd a b)
unfolding gcd
IsGcd-gcd a b = rw (N.one-mul a, N.one-mul b, N.one-mul (gcd_within b a b)) at (scaled_within 1 b a b (N.le_refl b))

pub gcd_is : (a b g : ℕ) → IsGcd a b g → gcd a b ≡ g
gcd_is a b g h = same_from_IsGcd a b (gcd a b) g (IsGcd-gcd a b) h

pub gcd-scaled : (k a b : ℕ) → IsGcd (k * a) (k * b) (k * gcd a b)
unfolding gcd
gcd-scaled k a b = scaled_within k b a b (N.le_refl b)

-- no common divisor but 1
abbrev pub IsCoprime : ℕ → ℕ → Type 0
IsCoprime a b = (k : ℕ) → k ∣ a → k ∣ b → k ∣ 1

pub coprime_from_gcd : (a b : ℕ) → gcd a b ≡ 1 → IsCoprime a b
coprime_from_gcd a b h k p q = subst (λ n. k ∣ n) h ((IsGcd-gcd a b).2 k p q)

pub gcd_from_coprime : (a b : ℕ) → IsCoprime a b → gcd a b ≡ 1
gcd_from_coprime a b h = gcd_is a b 1 (N.one-dvd a, N.one-dvd b, h)

-- Euclid's lemma
pub divides_other : (a b c : ℕ) → IsCoprime a b → a ∣ b * c → a ∣ c
divides_other a b c h d =
    subst (λ n. a ∣ n) (ap (λ n. c * n) (gcd_from_coprime a b h) ∙ N.mul-one c)
    ((gcd-scaled c a b).2 a (N.dvd-mul_left a c) (subst (λ n. a ∣ n) (N.mul_comm b c) d))

pub coprime-mul : (a b c : ℕ) → IsCoprime a b → IsCoprime a c → IsCoprime a (b * c)
coprime-mul a b c h g k p q = g k p (divides_other k b c (λ j u v. h j (dvd_trans j u p) v) q)

pub coprime_comm : (a b : ℕ) → IsCoprime a b → IsCoprime b a
coprime_comm a b h k p q = h k q p

-- the parts that are left by the greatest common divisor
pub coprime_parts : (a b x y : ℕ) → 0 < gcd a b → a ≡ gcd a b * x → b ≡ gcd a b * y → IsCoprime x y
coprime_parts a b x y some p q k u v =
    N.dvd_of_mul-dvd-mul_left k some
    (subst (λ n. gcd a b * k ∣ n) (sym (N.mul-one (gcd a b)))
    ((IsGcd-gcd a b).2 (gcd a b * k)
    (subst (λ n. gcd a b * k ∣ n) (sym p) (N.mul-dvd-mul_left k (gcd a b) u))
    (subst (λ n. gcd a b * k ∣ n) (sym q) (N.mul-dvd-mul_left k (gcd a b) v))))

-- how the reduced product of two reduced pairs is found
pub gcd_of_product : (a b c e x y u v : ℕ) → IsCoprime a b → IsCoprime c e → 0 < gcd a e → 0 < gcd c b
    → a ≡ gcd a e * x → e ≡ gcd a e * y → c ≡ gcd c b * u → b ≡ gcd c b * v → IsCoprime (x * u) (v * y)
gcd_of_product a b c e x y u v hab hce sa sc pa pe pc pb =
    coprime_comm (v * y) (x * u)
    (coprime-mul (v * y) x u
    (coprime_comm x (v * y) (coprime-mul x v y
    (λ k p q. hab k (subst (λ n. k ∣ n) (sym pa) (N.dvd-mul_left_of_dvd k p (gcd a e))) (subst (λ n. k ∣ n) (sym pb) (N.dvd-mul_left_of_dvd k q (gcd c b))))
    (coprime_parts a e x y sa pa pe)))
    (coprime_comm u (v * y) (coprime-mul u v y
    (coprime_parts c b u v sc pc pb)
    (λ k p q. hce k (subst (λ n. k ∣ n) (sym pc) (N.dvd-mul_left_of_dvd k p (gcd c b))) (subst (λ n. k ∣ n) (sym pe) (N.dvd-mul_left_of_dvd k q (gcd a e)))))))

-- a pair that is reduced is the reduced form of each of its multiples
pub gcd_of_multiples : (g x y : ℕ) → IsCoprime x y → gcd (g * x) (g * y) ≡ g
gcd_of_multiples g x y h = gcd_is (g * x) (g * y) g (subst (λ n. IsGcd (g * x) (g * y) n) (ap (λ n. g * n) (gcd_from_coprime x y h) ∙ N.mul-one g) (gcd-scaled g x y))

pub gcd_of_rest : (a b : ℕ) → gcd b (a % b) ≡ gcd a b
gcd_of_rest a b = sym (gcd_is a b (gcd b (a % b)) (IsGcd-from_mod a b (gcd b (a % b)) (IsGcd-gcd b (a % b))))

pub gcd-zero : (a b : ℕ) → b ≡ 0 → gcd a b ≡ a
gcd-zero a b e = gcd_is a b a (IsGcd-from_zero a b e)

-- a fraction has one pair in lowest terms
pub same_lowest : (n d m e : ℕ) → 0 < d → IsCoprime n d → IsCoprime m e → n * e ≡ m * d → (n ≡ m) × (d ≡ e)
same_lowest n d m e sd p q h =
    let same : d ≡ e =
    dvd_antisymm (divides_other d n e (coprime_comm n d p) (subst (λ i. d ∣ i) (sym h) (N.dvd-mul_left d m)))
    (divides_other e m d (coprime_comm m e q) (subst (λ i. e ∣ i) h (N.dvd-mul_left e n))) in
    (sym (N.mul-div_cancel n sd) ∙ ap (λ i. i / d) (ap (λ i. n * i) same ∙ h) ∙ N.mul-div_cancel m sd, same)

pub gcd_positive_left : (a b : ℕ) → 0 < a → 0 < gcd a b
gcd_positive_left a b h = N.pos_of_dvd_of_pos (IsGcd-gcd a b).0 h

pub gcd_positive_right : (a b : ℕ) → 0 < b → 0 < gcd a b
gcd_positive_right a b h = N.pos_of_dvd_of_pos (IsGcd-gcd a b).1 h

pub part_left : (a b : ℕ) → a ≡ gcd a b * (a / gcd a b)
part_left a b = sym (N.mul-div_cancel' (gcd a b) (IsGcd-gcd a b).0)

pub part_right : (a b : ℕ) → b ≡ gcd a b * (b / gcd a b)
part_right a b = sym (N.mul-div_cancel' (gcd a b) (IsGcd-gcd a b).1)

pub positive_part : (g x n : ℕ) → 0 < n → n ≡ g * x → 0 < x
positive_part g zero n h e = absurd (no_product g n h (e ∙ N.mul-zero g))
  where
    no_product : (g n : ℕ) → 0 < n → n ≡ 0 → ⊥
    no_product g n h e = omega arith
positive_part g (suc x) n h e = N.zero-lt-suc x
