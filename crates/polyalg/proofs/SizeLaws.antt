-- Sizes of sums, products and multiples of polynomials
use Rattle.std.proofs.Common.{◌≡◌, ℕ, ◌+◌, ◌*◌, ◌<◌, ◌≤◌, [], ◌∷◌, ◌++◌, map, refl, sym, ap, ap₂, ◌∙◌, subst, arith}
use native.Mathlib.Nat as N
use Rattle.algebra.specs.Ring.{additive, natural}
use Rattle.algebra.specs.RingLaws as L
use Rattle.algebra.specs.Fraction.{Fraction, fractions, mul, inverse, negative as minus_fraction, one_fraction}
use Rattle.algebra.specs.Over.{Over, AreOver}
use Rattle.algebra.proofs.OverLaws.{over_one, over_whole, over_reciprocal, over_at, are_weaken, are_lift, are_append, are_negative, are_multiples}
use Rattle.calculus.specs.Free as F
use Rattle.calculus.specs.Product as P
use Rattle.calculus.specs.OverRing as O
use Rattle.calculus.specs.Polynomial.{Polynomial, nil, one, plus, times, negative, minus, constant, coordinate, whole, polynomials, times-plus}
use Rattle.calculus.specs.Powers.{Powers, none, powers, variable}
use Rattle.calculus.specs.Powers as W
use Rattle.calculus.specs.Rational.{natural_whole}
use Rattle.calculus.proofs.PolynomialLaws.{constant-one}
use Rattle.polyalg.specs.Bounds.{Pieces, sum_of, sizes, HasSize}

-- ---- sums of pieces
abbrev pub piece : Fraction → Powers → Polynomial
piece c e = O.monomial fractions c e

pub no_pieces : sum_of [] ≡ nil
unfolding nil F.nothing
no_pieces = refl

pub one_more : (c : Fraction) (e : Powers) (p : Pieces) → sum_of ((c, e) ∷ p) ≡ plus (piece c e) (sum_of p)
unfolding plus F.plus F.mono
one_more c e p = refl

one_piece : (c : Fraction) (e : Powers) → sum_of ((c, e) ∷ []) ≡ piece c e
unfolding F.mono
one_piece c e = refl

sum_append : (p q : Pieces) → sum_of (p ++ q) ≡ plus (sum_of p) (sum_of q)
unfolding plus F.plus
sum_append p q = refl

opposite : Pieces → Pieces
opposite p = F.opposite (additive fractions) powers.exponents p

sum_opposite : (p : Pieces) → sum_of (opposite p) ≡ negative (sum_of p)
unfolding opposite negative F.negative
sum_opposite p = refl

-- one piece times each
row : Fraction → Powers → Pieces → Pieces
row c e [] = []
row c e (t ∷ p) = (mul c t.0, W.times e t.1) ∷ row c e p

piece_times : (c : Fraction) (e : Powers) (d : Fraction) (f : Powers) → times (piece c e) (piece d f) ≡ piece (mul c d) (W.times e f)
unfolding times
piece_times c e d f = P.term-mul-term fractions powers c e d f

sum_row : (c : Fraction) (e : Powers) (p : Pieces) → sum_of (row c e p) ≡ times (piece c e) (sum_of p)
unfolding row
sum_row c e [] = no_pieces ∙ sym (ap (times (piece c e)) no_pieces ∙ L.mul-zero polynomials (piece c e))
sum_row c e (t ∷ p) =
    one_more (mul c t.0) (W.times e t.1) (row c e p)
    ∙ ap₂ plus (sym (piece_times c e t.0 t.1)) (sum_row c e p)
    ∙ sym (times-plus (piece c e) (piece t.0 t.1) (sum_of p))
    ∙ sym (ap (times (piece c e)) (one_more t.0 t.1 p))

product : Pieces → Pieces → Pieces
product [] q = []
product (t ∷ p) q = row t.0 t.1 q ++ product p q

sum_product : (p q : Pieces) → sum_of (product p q) ≡ times (sum_of p) (sum_of q)
unfolding product
sum_product [] q = no_pieces ∙ sym (ap (λ x. times x (sum_of q)) no_pieces ∙ L.zero-mul polynomials (sum_of q))
sum_product (t ∷ p) q =
    sum_append (row t.0 t.1 q) (product p q)
    ∙ ap₂ plus (sum_row t.0 t.1 q) (sum_product p q)
    ∙ sym (L.add-mul polynomials (piece t.0 t.1) (sum_of p) (sum_of q))
    ∙ sym (ap (λ x. times x (sum_of q)) (one_more t.0 t.1 p))

-- ---- their coefficients
sizes-append : (p q : Pieces) → sizes (p ++ q) ≡ sizes p ++ sizes q
sizes-append [] q = refl
sizes-append (t ∷ p) q = ap (λ xs. t.0 ∷ xs) (sizes-append p q)

sizes-opposite : (p : Pieces) → sizes (opposite p) ≡ map minus_fraction (sizes p)
unfolding opposite
sizes-opposite [] = refl
sizes-opposite (t ∷ p) = ap (λ xs. minus_fraction t.0 ∷ xs) (sizes-opposite p)

sizes-row : (c : Fraction) (e : Powers) (p : Pieces) → sizes (row c e p) ≡ map (mul c) (sizes p)
unfolding row
sizes-row c e [] = refl
sizes-row c e (t ∷ p) = ap (λ xs. mul c t.0 ∷ xs) (sizes-row c e p)

product_over : (l m b c : ℕ) (p q : Pieces) → AreOver l b (sizes p) → AreOver m c (sizes q) → AreOver (l * m) (b * c) (sizes (product p q))
unfolding product
product_over l m b c [] q a o = tt
product_over l m b c (t ∷ p) q a o =
    subst (AreOver (l * m) (b * c)) (sym (sizes-append (row t.0 t.1 q) (product p q)))
    (are_weaken (l * m) (a.0 * c + a.1 * c) (b * c) _ (shares a.0 a.1 b c a.2)
    (are_append (l * m) (a.0 * c) (a.1 * c) _ _
    (subst (AreOver (l * m) (a.0 * c)) (sym (sizes-row t.0 t.1 q)) (are_multiples l m a.0 c t.0 (sizes q) a.3 o))
    (product_over l m a.1 c p q a.4 o)))
  where
    shares : (n m b c : ℕ) → n + m ≤ b → n * c + m * c ≤ b * c
    shares n m b c h = let k : (n + m) * c ≤ b * c = N.mul-le-mul_right c h in omega arith

-- ---- sizes
pub size_at : (l b : ℕ) (p q : Polynomial) → p ≡ q → HasSize l b q → HasSize l b p
size_at l b p q e s = subst (HasSize l b) (sym e) s

pub size_weaken : (l b c : ℕ) (p : Polynomial) → b ≤ c → HasSize l b p → HasSize l c p
size_weaken l b c p h s = record { positive = s.positive; pieces = s.pieces; is = s.is; over = are_weaken l b c (sizes s.pieces) h s.over }

-- over a multiple, with other words for it
pub size_lift : (l b k m c : ℕ) (p : Polynomial) → 0 < k → l * k ≡ m → b * k ≤ c → HasSize l b p → HasSize m c p
size_lift l b k m c p h e g s =
    size_weaken m (b * k) c p g
    (subst (λ n. HasSize n (b * k) p) e
    (record { positive = N.mul-pos s.positive h; pieces = s.pieces; is = s.is; over = are_lift l b k (sizes s.pieces) h s.over }))

pub size_nil : (l b : ℕ) → 0 < l → HasSize l b nil
size_nil l b h = record { positive = h; pieces = []; is = sym no_pieces; over = tt }

abbrev one_over : (l b : ℕ) (x : Fraction) → Over l b x → AreOver l b (x ∷ [])
one_over l b x o = (b, 0, all b, o, tt)
  where
    all : (b : ℕ) → b + 0 ≤ b
    all b = omega arith

pub size_constant : (l b : ℕ) (x : Fraction) → Over l b x → HasSize l b (constant x)
unfolding constant
size_constant l b x o = record { positive = o.positive; pieces = (x, none) ∷ []; is = sym (one_piece x none); over = one_over l b x o }

pub size_coordinate : (i : ℕ) → HasSize 1 1 (coordinate i)
unfolding coordinate
size_coordinate i = record { positive = N.zero-lt-suc 0; pieces = (one_fraction, variable i) ∷ []; is = sym (one_piece one_fraction (variable i)); over = one_over 1 1 one_fraction over_one }

pub size_whole : (n : ℕ) → HasSize 1 n (whole n)
size_whole n = size_constant 1 n (natural fractions n) (over_at 1 n _ _ (sym (natural_whole n)) (over_whole n))

pub size_reciprocal : (n : ℕ) → 0 < n → HasSize n 1 (constant (inverse (natural fractions n)))
size_reciprocal n h = size_constant n 1 (inverse (natural fractions n)) (over_at n 1 _ _ (ap inverse (sym (natural_whole n))) (over_reciprocal n h))

pub size_one : HasSize 1 1 one
size_one = size_at 1 1 one (constant one_fraction) (sym constant-one) (size_constant 1 1 one_fraction over_one)

pub size_plus : (l b c : ℕ) (p q : Polynomial) → HasSize l b p → HasSize l c q → HasSize l (b + c) (plus p q)
size_plus l b c p q s t = record {
  positive = s.positive;
  pieces = s.pieces ++ t.pieces;
  is = ap₂ plus s.is t.is ∙ sym (sum_append s.pieces t.pieces);
  over = subst (AreOver l (b + c)) (sym (sizes-append s.pieces t.pieces)) (are_append l b c (sizes s.pieces) (sizes t.pieces) s.over t.over);
}

pub size_negative : (l b : ℕ) (p : Polynomial) → HasSize l b p → HasSize l b (negative p)
size_negative l b p s = record {
  positive = s.positive;
  pieces = opposite s.pieces;
  is = ap negative s.is ∙ sym (sum_opposite s.pieces);
  over = subst (AreOver l b) (sym (sizes-opposite s.pieces)) (are_negative l b (sizes s.pieces) s.over);
}

pub size_minus : (l b c : ℕ) (p q : Polynomial) → HasSize l b p → HasSize l c q → HasSize l (b + c) (minus p q)
size_minus l b c p q s t = size_plus l b c p (negative q) s (size_negative l c q t)

pub size_times : (l m b c : ℕ) (p q : Polynomial) → HasSize l b p → HasSize m c q → HasSize (l * m) (b * c) (times p q)
size_times l m b c p q s t = record {
  positive = N.mul-pos s.positive t.positive;
  pieces = product s.pieces t.pieces;
  is = ap₂ times s.is t.is ∙ sym (sum_product s.pieces t.pieces);
  over = product_over l m b c s.pieces t.pieces s.over t.over;
}
