-- When a fraction fits
use Rattle.std.proofs.Common.{◌≡◌, ℕ, ◌*◌, ◌/◌, ◌<◌, ◌≤◌, ◌^◌, refl, sym, ◌∙◌, ap, subst, subst₂, arith, unsigned_abs, Bool, true, false, None, Some, if◌then◌else◌}
use Prim.Native.Nat.{◌∣◌}
use native.Mathlib.Nat as N
use mathlib.Core.Quot.{mk}
use Rattle.algebra.specs.Fraction.{Pair, Fraction}
use Rattle.algebra.specs.Gcd.{gcd}
use Rattle.algebra.specs.GcdLaws.{IsGcd-gcd, gcd-scaled, gcd_positive_right, part_right}
use Rattle.algebra.specs.Steps.{fits, fitting}
use Rattle.ratio.specs.declared.reduced.Ratio.{Ratio}
use Rattle.ratio.specs.Value.{fraction_of}
use Rattle.ratio.proofs.Reading.{top_reads, bottom_reads, below, and_true, pair_fits, fits_pair}

-- a ratio's value fits
pub ratio_fits : (r : Ratio) → fits (fraction_of r) ≡ true
ratio_fits r =
    and_true _ _ (below _ (subst (λ z. unsigned_abs z < 2 ^ 127) (sym (top_reads r)) r.fits)) (below _ (subst (λ d. d < 2 ^ 127) (sym (bottom_reads r)) r.small))

pub fitting_of : (r : Ratio) (x : Fraction) → fraction_of r ≡ x → Some (fraction_of r) ≡ fitting x
fitting_of r x e = ap Some e ∙ sym (ap (λ b. if b then Some x else None) (sym (ap fits e) ∙ ratio_fits r))

pub none_fitting : (x : Fraction) → ¬ (fits x ≡ true) → None ≡ fitting x
none_fitting x n = go (fits x) refl
  where
    go : (t : Bool) → fits x ≡ t → None ≡ (if t then Some x else None)
    go true e = absurd (n e)
    go false e = refl

-- the bottom's part only grows as the bottom does
pub part_grows : (a b c : ℕ) → 0 < b → 0 < c → b / gcd a b ≤ b * c / gcd a (b * c)
part_grows a b c sb sc =
    let scaled = gcd-scaled c a b in
    let common = IsGcd-gcd a (b * c) in
    let divides : gcd a (b * c) ∣ c * gcd a b =
    scaled.2 (gcd a (b * c)) (N.dvd-mul_left_of_dvd (gcd a (b * c)) common.0 c) (subst (λ n. gcd a (b * c) ∣ n) (N.mul_comm b c) common.1) in
    let some : 0 < c * gcd a b = N.mul-pos sc (gcd_positive_right a b sb) in
    smaller (gcd a b) (gcd a (b * c)) c b (b / gcd a b) (b * c / gcd a (b * c)) some (N.le_of_dvd some divides) (part_right a b) (part_right a (b * c))
  where
    turn : (g y c : ℕ) → g * y * c ≡ c * g * y
    turn g y c = omega arith

    smaller : (g h c b y w : ℕ) → 0 < c * g → h ≤ c * g → b ≡ g * y → b * c ≡ h * w → y ≤ w
    smaller g h c b y w some l p q =
        N.le_of_mul-le-mul_left (subst (λ n. n ≤ c * g * w) (sym q ∙ ap (λ n. n * c) p ∙ turn g y c) (N.mul-le-mul_right w l)) some

part_below : (a g l : ℕ) → a < l → a / g < l
part_below a g l h = N.lt_of_le_of_lt (N.div-le_self a g) h

-- a smaller bottom fits where a multiple of it does
pub fits_below : (p q : Pair) (c : ℕ) → 0 < c → unsigned_abs p.num < 2 ^ 127 → q.num ≡ p.num → q.den ≡ p.den * c → fits (mk q) ≡ true → fits (mk p) ≡ true
fits_below p q c sc small en ed h =
    let wide = fits_pair q h in
    let bound : p.den * c / gcd (unsigned_abs p.num) (p.den * c) < 2 ^ 127 = subst₂ (λ n d. d / gcd (unsigned_abs n) d < 2 ^ 127) en ed wide.1 in
    pair_fits p (part_below (unsigned_abs p.num) _ (2 ^ 127) small, N.lt_of_le_of_lt (part_grows (unsigned_abs p.num) p.den c p.positive sc) bound)
