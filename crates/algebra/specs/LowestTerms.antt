-- The parts of a fraction in lowest terms, as functions of its value
use Rattle.std.specs.Prelude.{◌≡◌, ℕ, ℤ, pos, ◌*◌, ◌<◌, ◌/◌, unsigned_abs}
use Rattle.std.proofs.Common.{sym, ◌∙◌, ap, ap₂, arith}
use Rattle.std.proofs.lemmas.Int.{unsigned_abs-mul}
use native.Mathlib.Nat as N
use lib.IntN.{ℤ_set}
use mathlib.Core.Quot.{lift}
use Rattle.algebra.specs.Fraction.{Pair, Same, Fraction, same_sides, below_nought}
use Rattle.algebra.specs.Gcd.{gcd}
use Rattle.algebra.specs.GcdLaws.{coprime_parts, same_lowest}
use Rattle.algebra.specs.GcdLaws.{gcd_positive_right, part_left, part_right, positive_part}
use Rattle.algebra.specs.Sign.{signed}

abbrev pub top_of : ℤ → ℕ → ℤ
top_of z d = signed (below_nought z) (unsigned_abs z / gcd (unsigned_abs z) d)

abbrev pub bottom_of : ℤ → ℕ → ℕ
bottom_of z d = d / gcd (unsigned_abs z) d

turn : (g h x v : ℕ) → g * x * (h * v) ≡ g * h * (x * v)
turn g h x v = omega arith

turn_back : (g h u y : ℕ) → h * u * (g * y) ≡ g * h * (u * y)
turn_back g h u y = omega arith

cancelled : (a d b e g h x y u v : ℕ) → 0 < g * h → a ≡ g * x → d ≡ g * y → b ≡ h * u → e ≡ h * v → a * e ≡ b * d → x * v ≡ u * y
cancelled a d b e g h x y u v s pa pd pb pe k =
    sym (N.mul-div_cancel_left (x * v) s)
    ∙ ap (λ i. i / (g * h)) (sym (turn g h x v) ∙ sym (ap₂ ◌*◌ pa pe) ∙ k ∙ ap₂ ◌*◌ pb pd ∙ turn_back g h u y)
    ∙ N.mul-div_cancel_left (u * y) s

-- equal fractions have the same parts in lowest terms
pub same_parts : (a d b e : ℕ) → 0 < d → 0 < e → a * e ≡ b * d → (a / gcd a d ≡ b / gcd b e) × (d / gcd a d ≡ e / gcd b e)
same_parts a d b e sd se h =
    same_lowest (a / gcd a d) (d / gcd a d) (b / gcd b e) (e / gcd b e)
    (positive_part (gcd a d) (d / gcd a d) d sd (part_right a d))
    (coprime_parts a d (a / gcd a d) (d / gcd a d) (gcd_positive_right a d sd) (part_left a d) (part_right a d))
    (coprime_parts b e (b / gcd b e) (e / gcd b e) (gcd_positive_right b e se) (part_left b e) (part_right b e))
    (cancelled a d b e (gcd a d) (gcd b e) (a / gcd a d) (d / gcd a d) (b / gcd b e) (e / gcd b e)
    (N.mul-pos (gcd_positive_right a d sd) (gcd_positive_right b e se)) (part_left a d) (part_right a d) (part_left b e) (part_right b e) h)

pub sizes : (p q : Pair) → Same p q → unsigned_abs p.num * q.den ≡ unsigned_abs q.num * p.den
sizes p q h = sym (unsigned_abs-mul p.num (pos q.den)) ∙ ap unsigned_abs h ∙ unsigned_abs-mul q.num (pos p.den)

pub same_top : (p q : Pair) → Same p q → top_of p.num p.den ≡ top_of q.num q.den
same_top p q h = ap₂ signed (same_sides p q h) (same_parts (unsigned_abs p.num) p.den (unsigned_abs q.num) q.den p.positive q.positive (sizes p q h)).0

pub same_bottom : (p q : Pair) → Same p q → bottom_of p.num p.den ≡ bottom_of q.num q.den
same_bottom p q h = (same_parts (unsigned_abs p.num) p.den (unsigned_abs q.num) q.den p.positive q.positive (sizes p q h)).1

unfoldable pub top : Fraction → ℤ
top = lift ℤ_set (λ p. top_of p.num p.den) same_top

unfoldable pub bottom : Fraction → ℕ
bottom = lift N.ℕ_set (λ p. bottom_of p.num p.den) same_bottom
