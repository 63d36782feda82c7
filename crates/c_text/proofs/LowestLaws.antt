-- Fractions in lowest terms, and what `Ratio::new` makes of them
use Rattle.std.proofs.Common.{◌≡◌, ◌≢◌, refl, sym, ◌∙◌, ap, ℕ, zero, suc, ◌<◌, ◌/◌, ◌^◌, pos, Bool, true, false, ◌&&◌, not, ◌==◌, ◌||◌, nat_lt, nat_le, Option, Some, None, unsigned_abs, arith, subst, ltb-true}
use Rattle.std.proofs.lemmas.Bool.{eq-eqb, lt-ltb, lt-leb, leb-false, true≢false}
use Rattle.c_text.proofs.NumberLaws.{eqb_ne}
use native.Mathlib.Nat as N
use Rattle.algebra.specs.Gcd.{gcd}
use Rattle.algebra.specs.Sign.{signed}
use Rattle.algebra.specs.LowestTerms.{top, bottom}
use Rattle.algebra.specs.Steps.{quotient}
use Rattle.algebra.proofs.Signs.{size_of_signed}
use Rattle.ratio.specs.declared.reduced.Ratio.{Ratio}
use Rattle.ratio.specs.Value.{fraction_of, valued}
use Rattle.ratio.specs.Parts.{Fits}
use Rattle.ratio.proofs.QuotientLaws.{quotient_answered}
use Rattle.ratio.proofs.Equality.{same_ratio, same_parts}
use Rattle.ratio.proofs.Reading.{top_reads, bottom_reads}
use Rattle.c_text.specs.Lowest.{is_lowest, is_out, lowest_ratio, lowest_by, fraction_from, first, second}

none_by : (g : Bool) (n d : ℕ) (t : Bool) (e : is_lowest g n d ≡ t) → t ≡ false → lowest_by g n d t e ≡ None
unfolding lowest_by
none_by g n d true e h = cc
none_by g n d false e h = refl

pub none_from : (g : Bool) (n d : ℕ) → is_lowest g n d ≡ false → None ≡ fraction_from g n d
unfolding fraction_from
none_from g n d e = sym (none_by g n d (is_lowest g n d) refl e)

some_by : (g : Bool) (n d : ℕ) (t : Bool) (e : is_lowest g n d ≡ t) → t ≡ true → (r : Ratio) × (lowest_by g n d t e ≡ Some r) × (r.n ≡ signed g n) × (r.d ≡ d)
unfolding lowest_by
some_by g n d true e h = (lowest_ratio g n d e, refl, refl, refl)
some_by g n d false e h = cc

pub some_from : (g : Bool) (n d : ℕ) → is_lowest g n d ≡ true → (r : Ratio) × (fraction_from g n d ≡ Some r) × (r.n ≡ signed g n) × (r.d ≡ d)
unfolding fraction_from
some_from g n d e = some_by g n d (is_lowest g n d) refl e

-- A ratio of these parts is the one in lowest terms.
parts_kept : (g : Bool) (n d : ℕ) (r : Ratio) → r.n ≡ signed g n → r.d ≡ d → is_lowest g n d ≡ true → Some r ≡ fraction_from g n d
parts_kept g n d r a b e = let q = some_from g n d e in ap Some (same_parts r q.0 (a ∙ sym q.2) (b ∙ sym q.3)) ∙ sym q.1

all_four : (a b c d f : Bool) → a ≡ true → b ≡ true → c ≡ true → d ≡ true → f ≡ false → (a && (b && (c && (d && not f)))) ≡ true
all_four a b c d f p q r s t = cc

lowest_told : (g : Bool) (n d : ℕ) (r : Ratio) → r.n ≡ signed g n → r.d ≡ d → (g && n == 0) ≡ false → is_lowest g n d ≡ true
lowest_told g n d r a b z =
    let size : unsigned_abs r.n ≡ n = ap unsigned_abs a ∙ size_of_signed g n in
    let p : 0 < d = subst (λ k. 0 < k) b r.positive in
    let q : d < 2 ^ 127 = subst (λ k. k < 2 ^ 127) b r.small in
    let f : n < 2 ^ 127 = subst (λ k. k < 2 ^ 127) size r.fits in
    let l : gcd n d ≡ 1 = ap (λ k. gcd k d) (sym size) ∙ ap (gcd (unsigned_abs r.n)) (sym b) ∙ r.lowest in
    all_four (nat_lt 0 d) (nat_lt n (2 ^ 127)) (nat_lt d (2 ^ 127)) (gcd n d == 1) (g && n == 0) (lt-ltb 0 d p) (lt-ltb n (2 ^ 127) f) (lt-ltb d (2 ^ 127) q) (eq-eqb (gcd n d) 1 l) z

-- what has these parts is taken
pub kept : (g : Bool) (n d : ℕ) (r : Ratio) → top (fraction_of r) ≡ signed g n → bottom (fraction_of r) ≡ d → (g && n == 0) ≡ false → Some r ≡ fraction_from g n d
kept g n d r a b z =
    let x : r.n ≡ signed g n = sym (top_reads r) ∙ a in
    let y : r.d ≡ d = sym (bottom_reads r) ∙ b in
    parts_kept g n d r x y (lowest_told g n d r x y z)

nonzero_pos : (d : ℕ) → 0 < d → pos d ≢ pos 0
nonzero_pos zero h e = omega (arith, h)
nonzero_pos (suc d) h e = cc

by_one : (n g : ℕ) → g ≡ 1 → n / g ≡ n
by_one n g e = ap (λ k. n / k) e ∙ N.div-one n

quotient_of : (g : Bool) (n d : ℕ) (q : Ratio) → q.n ≡ signed g n → q.d ≡ d → Some (fraction_of q) ≡ quotient (signed g n) (pos d)
quotient_of g n d q a b =
    let fits : Fits (unsigned_abs q.n) q.d = (subst (λ k. k < 2 ^ 127) (sym (by_one (unsigned_abs q.n) _ q.lowest)) q.fits, subst (λ k. k < 2 ^ 127) (sym (by_one q.d _ q.lowest)) q.small) in
    quotient_answered q.n (pos q.d) (Some q) ((λ _. (nonzero_pos q.d q.positive, fits)), (λ _. refl)) refl
    ∙ ap (λ z. quotient z (pos q.d)) a ∙ ap (λ k. quotient (signed g n) (pos k)) b

same_by : (r : Option Ratio) (q : Ratio) → valued r ≡ Some (fraction_of q) → r ≡ Some q
same_by None q e = cc
same_by (Some x) q e = ap Some (same_ratio x q (let h : fraction_of x ≡ fraction_of q = cc in h))

-- where the parts are in lowest terms `Ratio::new` gives that ratio
pub new_gives : (g : Bool) (n d : ℕ) (r : Option Ratio) → valued r ≡ quotient (signed g n) (pos d) → is_lowest g n d ≡ true → r ≡ fraction_from g n d
new_gives g n d r e h = let q = some_from g n d h in same_by r q.0 (e ∙ sym (quotient_of g n d q.0 q.2 q.3)) ∙ sym q.1

none_new_by : (t : Bool) (g : Bool) (n d : ℕ) → is_lowest g n d ≡ t → None ≡ quotient (signed g n) (pos d) → None ≡ fraction_from g n d
none_new_by true g n d h e = new_gives g n d None e h
none_new_by false g n d h e = none_from g n d h

pub none_new : (g : Bool) (n d : ℕ) → None ≡ quotient (signed g n) (pos d) → None ≡ fraction_from g n d
none_new g n d e = none_new_by (is_lowest g n d) g n d refl e

other_by : (t : Bool) (g : Bool) (n d : ℕ) (r : Ratio) → is_lowest g n d ≡ t → Some (fraction_of r) ≡ quotient (signed g n) (pos d) → ((top (fraction_of r) ≡ signed g n) × (bottom (fraction_of r) ≡ d) → ⊥) → None ≡ fraction_from g n d
other_by false g n d r h e other = none_from g n d h
other_by true g n d r h e other =
    let q = some_from g n d h in
    let s : Some r ≡ Some q.0 = new_gives g n d (Some r) e h ∙ q.1 in
    let k : r ≡ q.0 = cc in
    absurd (other (top_reads r ∙ ap (λ x. x.n) k ∙ q.2, bottom_reads r ∙ ap (λ x. x.d) k ∙ q.3))

-- what `Ratio::new` made has other parts
pub other_parts : (g : Bool) (n d : ℕ) (r : Ratio) → Some (fraction_of r) ≡ quotient (signed g n) (pos d) → ((top (fraction_of r) ≡ signed g n) × (bottom (fraction_of r) ≡ d) → ⊥) → None ≡ fraction_from g n d
other_parts g n d r e other = other_by (is_lowest g n d) g n d r refl e other

-- ---- the tests of the code

four_false : (a b c e : Bool) → a ≡ false → b ≡ false → c ≡ false → e ≡ false → (a || (b || (c || e))) ≡ false
four_false a b c e p q r s = cc

not_false : (a : Bool) → not a ≡ true → a ≡ false
not_false true e = sym e
not_false false e = refl

lowest_in : (g : Bool) (n d : ℕ) → is_lowest g n d ≡ true → is_out g n d ≡ false
unfolding is_out
lowest_in g n d e =
    let p = second (nat_lt 0 d) _ e in
    let q = second (nat_lt n (2 ^ 127)) _ p in
    let r = second (nat_lt d (2 ^ 127)) _ q in
    let s = second (gcd n d == 1) _ r in
    let d0 : 0 < d = ltb-true 0 d (first _ _ e) in
    let n1 : n < 2 ^ 127 = ltb-true n (2 ^ 127) (first _ _ p) in
    let d1 : d < 2 ^ 127 = ltb-true d (2 ^ 127) (first _ _ q) in
    four_false (d == 0) (nat_le (2 ^ 127) n) (nat_le (2 ^ 127) d) (g && n == 0) (eqb_ne d 0 (λ h. omega (arith, h, d0))) (lt-leb (2 ^ 127) n n1) (lt-leb (2 ^ 127) d d1) (not_false _ s)

out_by : (t : Bool) (g : Bool) (n d : ℕ) → is_lowest g n d ≡ t → is_out g n d ≡ true → None ≡ fraction_from g n d
out_by true g n d h e = let k : true ≡ false = sym e ∙ lowest_in g n d h in cc
out_by false g n d h e = none_from g n d h

pub out_none : (g : Bool) (n d : ℕ) → is_out g n d ≡ true → None ≡ fraction_from g n d
out_none g n d e = out_by (is_lowest g n d) g n d refl e

or_left : (a b : Bool) → (a || b) ≡ false → a ≡ false
or_left true b e = e
or_left false b e = refl

or_right : (a b : Bool) → (a || b) ≡ false → b ≡ false
or_right true b e = absurd (true≢false e)
or_right false b e = e

-- in range: below 2^127, and no negative zero
pub in_range : (g : Bool) (n d : ℕ) → is_out g n d ≡ false → (n < 2 ^ 127) × (d < 2 ^ 127) × ((g && n == 0) ≡ false)
unfolding is_out
in_range g n d e =
    let p = or_right (d == 0) _ e in
    let q = or_right (nat_le (2 ^ 127) n) _ p in
    (leb-false (2 ^ 127) n (or_left _ _ p), leb-false (2 ^ 127) d (or_left _ _ q), or_right (nat_le (2 ^ 127) d) _ q)

pub no_pos : (d e : ℕ) → pos d ≡ pos e → d ≡ e
no_pos d e h = cc
