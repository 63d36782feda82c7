-- The coefficients of sorted terms are bounded as those of any terms with the same sum, and steps on bounded coefficients don't pass
use Rattle.std.proofs.Common.{◌≡◌, ℕ, ◌+◌, ◌*◌, ◌<◌, ◌≤◌, ◌^◌, Bool, true, false, cond, ◌||◌, ◌&&◌, ◌==◌, is_none, Option, Some, option_and_then, List, [], ◌∷◌, refl, sym, ap, ap₂, ◌∙◌, subst, arith}
use native.Mathlib.Nat as N
use Rattle.algebra.specs.Ring.{additive}
use Rattle.algebra.specs.RingLaws as L
use Rattle.algebra.specs.Fraction.{Fraction, fractions, zero_fraction, add, add_zero, mul}
use Rattle.algebra.specs.Steps.{sum}
use Rattle.algebra.specs.Over.{Over, AreOver}
use Rattle.algebra.proofs.OverLaws.{over_weaken, over_at, over_sum, over_product, over_zero, are_weaken}
use Rattle.algebra.proofs.OverSteps.{product_fits, sum_fits_over}
use Rattle.ratio.specs.Value.{fraction_of}
use Rattle.calculus.specs.Free.{Same, coefficient}
use Rattle.calculus.specs.Polynomial.{Polynomial, nil, plus, monomial}
use Rattle.calculus.specs.Powers.{Powers, powers, powers_of, powers_eq, powers_eq_refl, powers_eq-same}
use Rattle.calculus.proofs.ReadingLaws.{same_polynomial}
use Rattle.polyalg.specs.Exponents.{key}
use Rattle.polyalg.specs.Terms.{value_of, AreAbove, Rising, keys_and, IsPoly}
use Rattle.polyalg.specs.Range.{product_passes, term_passes, sum_passes}
use Rattle.polyalg.specs.Products.{coefficient_in, exponent_sum, row_steps, product_steps}
use Rattle.polyalg.specs.Bounds.{coefficients, CoefficientsOver, Pieces, sum_of, sizes, HasSize}
use Rattle.polyalg.specs.declared.term.Term.{Term}
use Rattle.polyalg.proofs.RowLaws.{same_key, coefficient_in-plus, coefficient_in-monomial, coefficient_in-nil}
use Rattle.polyalg.proofs.SizeLaws.{piece, no_pieces, one_more}

-- ---- the coefficients of these powers in a sum of pieces
abbrev coefficient_at : Pieces → Powers → Fraction
coefficient_at p e = coefficient (additive fractions) powers.exponents p e

abbrev in_sum : Pieces → List Powers → List Fraction
in_sum p [] = []
in_sum p (e ∷ es) = coefficient_at p e ∷ in_sum p es

-- none of these powers is e; all of them differ
abbrev IsApart : Powers → List Powers → Type 0
IsApart e [] = Unit {0}
IsApart e (f ∷ fs) = (powers_eq e f ≡ false) × IsApart e fs

abbrev AreApart : List Powers → Type 0
AreApart [] = Unit {0}
AreApart (e ∷ es) = IsApart e es × AreApart es

without : (c x : Fraction) (t : Bool) → t ≡ false → add (cond t c zero_fraction) x ≡ x
without c x t h = ap (λ t. add (cond t c zero_fraction) x) h ∙ L.zero-add fractions x

untouched : (c : Fraction) (e : Powers) (p : Pieces) (es : List Powers) → IsApart e es → in_sum ((c, e) ∷ p) es ≡ in_sum p es
untouched c e p [] a = refl
untouched c e p (f ∷ fs) a = ap₂ ◌∷◌ (without c (coefficient_at p f) (powers_eq e f) a.0) (untouched c e p fs a.1)

-- one more piece is added to one of them at most
add_piece : (l k b : ℕ) (c : Fraction) (e : Powers) (p : Pieces) (es : List Powers) → AreApart es → Over l k c → AreOver l b (in_sum p es) → AreOver l (k + b) (in_sum ((c, e) ∷ p) es)
add_piece l k b c e p [] a o s = tt
add_piece l k b c e p (f ∷ fs) a o s = go (powers_eq e f) refl (add_piece l k s.1 c e p fs a.1 o s.4)
  where
    here : (k n m b : ℕ) → n + m ≤ b → (k + n) + m ≤ k + b
    here k n m b h = omega arith

    there : (k n m b : ℕ) → n + m ≤ b → n + (k + m) ≤ k + b
    there k n m b h = omega arith

    go : (t : Bool) → powers_eq e f ≡ t → AreOver l (k + s.1) (in_sum ((c, e) ∷ p) fs) → AreOver l (k + b) (in_sum ((c, e) ∷ p) (f ∷ fs))
    go true h ih = (
      k + s.0,
      s.1,
      here k s.0 s.1 b s.2,
      over_at l (k + s.0) _ _ (ap (λ t. add (cond t c zero_fraction) (coefficient_at p f)) (sym h)) (over_sum l k s.0 c (coefficient_at p f) o s.3),
      subst (AreOver l s.1) (sym (untouched c e p fs (subst (λ g. IsApart g fs) (sym (powers_eq-same e f h)) a.0))) s.4,
    )
    go false h ih = (
      s.0,
      k + s.1,
      there k s.0 s.1 b s.2,
      over_at l s.0 _ _ (sym (without c (coefficient_at p f) (powers_eq e f) h)) s.3,
      ih,
    )

none_in : (l b : ℕ) (es : List Powers) → 0 < l → AreOver l b (in_sum [] es)
none_in l b [] h = tt
none_in l b (e ∷ es) h = (0, b, all b, over_zero l 0 h, none_in l b es h)
  where
    all : (b : ℕ) → 0 + b ≤ b
    all b = omega arith

in_sum_over : (l b : ℕ) (p : Pieces) (es : List Powers) → 0 < l → AreApart es → AreOver l b (sizes p) → AreOver l b (in_sum p es)
in_sum_over l b [] es h a s = none_in l b es h
in_sum_over l b (t ∷ p) es h a s = are_weaken l (s.0 + s.1) b _ s.2 (add_piece l s.0 s.1 t.0 t.1 p es a s.3 (in_sum_over l s.1 p es h a s.4))

-- ---- sorted terms
abbrev pieces_of : List Term → Pieces
pieces_of [] = []
pieces_of (t ∷ ts) = (fraction_of t.c, powers_of t.e) ∷ pieces_of ts

abbrev powers_in : List Term → List Powers
powers_in [] = []
powers_in (t ∷ ts) = powers_of t.e ∷ powers_in ts

value_is : (ts : List Term) → value_of ts ≡ sum_of (pieces_of ts)
unfolding monomial
value_is [] = sym no_pieces
value_is (t ∷ ts) = ap (plus (piece (fraction_of t.c) (powers_of t.e))) (value_is ts) ∙ sym (one_more (fraction_of t.c) (powers_of t.e) (pieces_of ts))

term_apart : (t : Term) (us : List Term) → AreAbove (key t.e + 0) (keys_and 0 us) → IsApart (powers_of t.e) (powers_in us)
term_apart t [] a = tt
term_apart t (u ∷ us) a = (go (powers_eq (powers_of t.e) (powers_of u.e)) refl, term_apart t us a.1)
  where
    go : (b : Bool) → powers_eq (powers_of t.e) (powers_of u.e) ≡ b → b ≡ false
    go true h = absurd (omega (arith, a.0, same_key u.e t.e h))
    go false h = refl

terms_apart : (ts : List Term) → Rising (keys_and 0 ts) → AreApart (powers_in ts)
terms_apart [] r = tt
terms_apart (t ∷ ts) r = (term_apart t ts r.0, terms_apart ts r.1)

-- powers that no term has have no coefficient
none_there : (e : Powers) (ts : List Term) → ((f : Powers) → powers_eq f e ≡ true → e ≡ f) → IsApart e (powers_in ts) → coefficient_at (pieces_of ts) e ≡ zero_fraction
none_there e [] s a = refl
none_there e (t ∷ ts) s a = without (fraction_of t.c) (coefficient_at (pieces_of ts) e) (powers_eq (powers_of t.e) e) (go (powers_eq (powers_of t.e) e) refl) ∙ none_there e ts s a.1
  where
    go : (b : Bool) → powers_eq (powers_of t.e) e ≡ b → b ≡ false
    go true h = sym (sym a.0 ∙ ap (powers_eq e) (sym (s (powers_of t.e) h)) ∙ powers_eq_refl e)
    go false h = refl

own_coefficients : (ts : List Term) → AreApart (powers_in ts) → in_sum (pieces_of ts) (powers_in ts) ≡ coefficients ts
own_coefficients [] a = refl
own_coefficients (t ∷ ts) a =
    ap₂ ◌∷◌
    (ap₂ (λ b x. add (cond b (fraction_of t.c) zero_fraction) x) (powers_eq_refl (powers_of t.e))
    (none_there (powers_of t.e) ts (λ f h. sym (powers_eq-same f (powers_of t.e) h)) a.0)
    ∙ add_zero (fraction_of t.c))
    (untouched (fraction_of t.c) (powers_of t.e) (pieces_of ts) (powers_in ts) a.0 ∙ own_coefficients ts a.1)

same_in_sum : (p q : Pieces) (es : List Powers) → Same (additive fractions) powers.exponents p q → in_sum p es ≡ in_sum q es
same_in_sum p q [] s = refl
same_in_sum p q (e ∷ es) s = ap₂ ◌∷◌ (s e) (same_in_sum p q es s)

-- the coefficients of a polynomial are bounded by its size
pub bounded : (l b : ℕ) (ts : List Term) → IsPoly ts → HasSize l b (value_of ts) → CoefficientsOver l b ts
bounded l b ts p s =
    let a = terms_apart ts p.sorted in
    subst (AreOver l b)
    (same_in_sum s.pieces (pieces_of ts) (powers_in ts) ((same_polynomial fractions s.pieces (pieces_of ts)).0 (sym s.is ∙ value_is ts)) ∙ own_coefficients ts a)
    (in_sum_over l b s.pieces (powers_in ts) s.positive a s.over)

-- and the other way round
pub size_of : (l b : ℕ) (ts : List Term) → 0 < l → CoefficientsOver l b ts → HasSize l b (value_of ts)
size_of l b ts h c = record { positive = h; pieces = pieces_of ts; is = value_is ts; over = subst (AreOver l b) (sym (sizes_are ts)) c }
  where
    sizes_are : (ts : List Term) → sizes (pieces_of ts) ≡ coefficients ts
    sizes_are [] = refl
    sizes_are (t ∷ ts) = ap (λ xs. fraction_of t.c ∷ xs) (sizes_are ts)

-- ---- multiples
below_too : (k b n : ℕ) → k ≤ b → b * n < 2 ^ 127 → k * n < 2 ^ 127
below_too k b n h g = N.lt_of_le_of_lt (N.mul-le-mul_right n h) g

neither : (s t : Bool) → s ≡ false → t ≡ false → (s || t) ≡ false
neither true t h g = cc
neither false t h g = g

pub share_left : (n m b : ℕ) → n + m ≤ b → n ≤ b
share_left n m b h = omega arith

pub share_right : (n m b : ℕ) → n + m ≤ b → m ≤ b
share_right n m b h = omega arith

pub multiples_fit : (l m b n : ℕ) (c : Fraction) (ts : List Term) → l * m < 2 ^ 127 → b * n < 2 ^ 127 → CoefficientsOver l b ts → Over m n c → product_passes c ts ≡ false
multiples_fit l m b n c [] h g s o = refl
multiples_fit l m b n c (t ∷ ts) h g s o =
    neither _ _
    (ap is_none (product_fits (l * m) (s.0 * n) (fraction_of t.c) c h (below_too s.0 b n (share_left s.0 s.1 b s.2) g) (over_product l m s.0 n (fraction_of t.c) c s.3 o)))
    (multiples_fit l m s.1 n c ts h (below_too s.1 b n (share_right s.0 s.1 b s.2) g) s.4 o)

-- ---- sums
pub only_one : (k s t : Bool) → s ≡ false → t ≡ false → ((k && s) || t) ≡ false
only_one true s t h g = neither s t h g
only_one false s t h g = g

term_fits : (l k c : ℕ) (t : Term) (us : List Term) → l < 2 ^ 127 → k + c < 2 ^ 127 → Over l k (fraction_of t.c) → CoefficientsOver l c us → term_passes t us ≡ false
term_fits l k c t [] h g o s = refl
term_fits l k c t (u ∷ us) h g o s =
    only_one (key t.e == key u.e) _ _
    (ap is_none (sum_fits_over l k s.0 (fraction_of t.c) (fraction_of u.c) h (left k s.0 s.1 c s.2 g) o s.3))
    (term_fits l k s.1 t us h (right k s.0 s.1 c s.2 g) o s.4)
  where
    left : (k n m c : ℕ) → n + m ≤ c → k + c < 2 ^ 127 → k + n < 2 ^ 127
    left k n m c h g = omega arith

    right : (k n m c : ℕ) → n + m ≤ c → k + c < 2 ^ 127 → k + m < 2 ^ 127
    right k n m c h g = omega arith

pub sums_fit : (l b c : ℕ) (ts us : List Term) → l < 2 ^ 127 → b + c < 2 ^ 127 → CoefficientsOver l b ts → CoefficientsOver l c us → sum_passes ts us ≡ false
sums_fit l b c [] us h g s o = refl
sums_fit l b c (t ∷ ts) us h g s o =
    neither _ _ (term_fits l s.0 c t us h (left s.0 s.1 b c s.2 g) s.3 o) (sums_fit l s.1 c ts us h (right s.0 s.1 b c s.2 g) s.4 o)
  where
    left : (n m b c : ℕ) → n + m ≤ b → b + c < 2 ^ 127 → n + c < 2 ^ 127
    left n m b c h g = omega arith

    right : (n m b c : ℕ) → n + m ≤ b → b + c < 2 ^ 127 → m + c < 2 ^ 127
    right n m b c h g = omega arith

-- ---- products
-- each coefficient of what is there is over l and at most n
abbrev EachOver : ℕ → ℕ → Polynomial → Type 0
EachOver l n p = (e : List ℕ) → Over l n (coefficient_in e p)

-- these steps have an answer, each coefficient of which is over l and at most n
abbrev HasAnswer : ℕ → ℕ → Option Polynomial → Type 0
HasAnswer l n r = (q : Polynomial) × (r ≡ Some q) × EachOver l n q

with_term : (l n k : ℕ) (p : Polynomial) (x : Fraction) (g : List ℕ) → 0 < l → EachOver l n p → Over l k x → EachOver l (n + k) (plus p (monomial x g))
with_term l n k p x g h s o e =
    over_at l (n + k) _ _ (sym (coefficient_in-plus e p (monomial x g)))
    (over_sum l n k (coefficient_in e p) (coefficient_in e (monomial x g)) (s e)
    (over_at l k _ _ (sym (coefficient_in-monomial e x g)) (go (powers_eq (powers_of g) (powers_of e)))))
  where
    go : (t : Bool) → Over l k (cond t x zero_fraction)
    go true = o
    go false = over_zero l k h

row_fits : (l m a c n top : ℕ) (p : Polynomial) (s : Term) (ts : List Term) → l * m < 2 ^ 127 → top < 2 ^ 127 → n + a * c ≤ top → 0 < l * m
    → EachOver (l * m) n p → Over l a (fraction_of s.c) → CoefficientsOver m c ts → HasAnswer (l * m) (n + a * c) (row_steps p s ts)
row_fits l m a c n top p s [] h g f z e o w = (p, refl, λ i. over_weaken (l * m) n (n + a * c) _ (more n (a * c)) (e i))
  where
    more : (n k : ℕ) → n ≤ n + k
    more n k = omega arith
row_fits l m a c n top p s (t ∷ ts) h g f z e o w =
    let x : Fraction = mul (fraction_of s.c) (fraction_of t.c) in
    let i = exponent_sum s.e t.e in
    let d : a * w.0 + a * w.1 ≤ a * c = shares a w.0 w.1 c w.2 in
    let ox : Over (l * m) (a * w.0) x = over_product l m a w.0 (fraction_of s.c) (fraction_of t.c) o w.3 in
    let small : a * w.0 < 2 ^ 127 = omega arith in
    let room : n + a * w.0 < 2 ^ 127 = omega arith in
    let left : n + a * w.0 + a * w.1 ≤ top = omega arith in
    let r = row_fits l m a w.1 (n + a * w.0) top (plus p (monomial x i)) s ts h g left z (with_term (l * m) n (a * w.0) p x i z e ox) o w.4 in
    let least : n + a * w.0 + a * w.1 ≤ n + a * c = omega arith in (
      r.0,
      ap (option_and_then (λ x. option_and_then (λ y. row_steps (plus p (monomial x i)) s ts) (sum (coefficient_in i p) x)))
          (product_fits (l * m) (a * w.0) (fraction_of s.c) (fraction_of t.c) h small ox)
          ∙ ap (option_and_then (λ y. row_steps (plus p (monomial x i)) s ts)) (sum_fits_over (l * m) n (a * w.0) (coefficient_in i p) x h room (e i) ox)
          ∙ r.1,
      λ j. over_weaken (l * m) (n + a * w.0 + a * w.1) (n + a * c) _ least (r.2 j),
    )
  where
    shares : (a n m c : ℕ) → n + m ≤ c → a * n + a * m ≤ a * c
    shares a n m c h = let k : a * (n + m) ≤ a * c = N.mul-le-mul_left a h in omega arith

product_answers : (l m b c n top : ℕ) (p : Polynomial) (ss ts : List Term) → l * m < 2 ^ 127 → top < 2 ^ 127 → n + b * c ≤ top → 0 < l * m
    → EachOver (l * m) n p → CoefficientsOver l b ss → CoefficientsOver m c ts → is_none (product_steps p ss ts) ≡ false
product_answers l m b c n top p [] ts h g f z e o w = refl
product_answers l m b c n top p (s ∷ ss) ts h g f z e o w =
    let d : o.0 * c + o.1 * c ≤ b * c = shares o.0 o.1 b c o.2 in
    let first : n + o.0 * c ≤ top = omega arith in
    let rest : n + o.0 * c + o.1 * c ≤ top = omega arith in
    let r = row_fits l m o.0 c n top p s ts h g first z e o.3 w in
    ap (λ q. is_none (option_and_then (λ q. product_steps q ss ts) q)) r.1
    ∙ product_answers l m o.1 c (n + o.0 * c) top r.0 ss ts h g rest z r.2 o.4 w
  where
    shares : (n m b c : ℕ) → n + m ≤ b → n * c + m * c ≤ b * c
    shares n m b c h = let k : (n + m) * c ≤ b * c = N.mul-le-mul_right c h in omega arith

pub products_fit : (l m b c : ℕ) (ss ts : List Term) → 0 < l * m → l * m < 2 ^ 127 → b * c < 2 ^ 127 → CoefficientsOver l b ss → CoefficientsOver m c ts → is_none (product_steps nil ss ts) ≡ false
products_fit l m b c ss ts z h g o w =
    product_answers l m b c 0 (b * c) nil ss ts h g (all (b * c)) z (λ e. over_at (l * m) 0 _ _ (sym (coefficient_in-nil e)) (over_zero (l * m) 0 z)) o w
  where
    all : (n : ℕ) → 0 + n ≤ n
    all n = omega arith
