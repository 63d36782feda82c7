-- A text is a number in one way
use Rattle.std.proofs.Common.{◌≡◌, ℕ, ◌<◌, ◌⊎◌, inl, inr, List, [], ◌∷◌, ◌++◌, length, refl, sym, ◌∙◌, ap, ap₂, subst, arith, lit<, append_assoc, Bool, Option, None, Some}
use native.Mathlib.Nat as N
use Rattle.std.specs.Char.{digit_value}
use Rattle.std.specs.Option.{OnSome}
use Rattle.std.specs.Str.Parse.{AllDigits}
use Rattle.std.proofs.lemmas.Str.Parse.{digit_from_value}
use Rattle.ratio.specs.declared.decimal.Exponent.{Exponent}
use Rattle.ratio.specs.Digits.{BeginsOtherwise, IsFraction}
use Rattle.ratio.specs.NumberText.{Decimal, IsDecimal, IsExponent, decimal_value}
use Rattle.ratio.proofs.DigitLaws.{same_split}

pub below_digits : (c : ℕ) → c < 48 → ¬ (digit_value c < 10)
below_digits c h = λ d. let r = digit_from_value c d in absurd (omega arith)

above_digits : (c : ℕ) → 57 < c → ¬ (digit_value c < 10)
above_digits c h = λ d. let r = digit_from_value c d in absurd (omega arith)

pub point_begins : (cs : List ℕ) → BeginsOtherwise (46 ∷ cs)
point_begins cs = below_digits 46 (lit< tt)

pub slash_begins : (cs : List ℕ) → BeginsOtherwise (47 ∷ cs)
slash_begins cs = below_digits 47 (lit< tt)

marked : (mark : ℕ) (cs : List ℕ) → ((mark ≡ 101) ⊎ (mark ≡ 69)) → BeginsOtherwise (mark ∷ cs)
marked mark cs (inl e) = above_digits mark (subst (λ c. 57 < c) (sym e) (lit< tt))
marked mark cs (inr e) = above_digits mark (subst (λ c. 57 < c) (sym e) (lit< tt))

pub exponent_begins : (text : List ℕ) (lowered : Bool) (size : ℕ) → IsExponent text lowered size → BeginsOtherwise text
exponent_begins text lowered size (inl h) = subst BeginsOtherwise (sym h.0) tt
exponent_begins text lowered size (inr w) = subst BeginsOtherwise (sym w.text_is) (marked w.mark w.rest w.is_mark)

-- an exponent begins with `e` or `E`
pub exponent_first : (text : List ℕ) (lowered : Bool) (size b : ℕ) (cs : List ℕ) → b < 69 → IsExponent text lowered size → ¬ (text ≡ b ∷ cs)
exponent_first text lowered size b cs l (inl h) = λ e. empty (sym h.0 ∙ e)
  where
    empty : [] ≡ b ∷ cs → ⊥
    empty k = cc
exponent_first text lowered size b cs l (inr w) = λ e. other w.mark w.is_mark (heads (sym w.text_is ∙ e))
  where
    heads : w.mark ∷ w.rest ≡ b ∷ cs → w.mark ≡ b
    heads k = cc

    other : (mark : ℕ) → ((mark ≡ 101) ⊎ (mark ≡ 69)) → mark ≡ b → ⊥
    other mark (inl e) g = absurd (omega arith)
    other mark (inr e) g = absurd (omega arith)

pub heads : (x y : ℕ) (xs ys : List ℕ) → x ∷ xs ≡ y ∷ ys → x ≡ y
heads x y xs ys e = cc

pub tails : (b : ℕ) (xs ys : List ℕ) → b ∷ xs ≡ b ∷ ys → xs ≡ ys
tails b xs ys e = cc

-- where the digits of a decimal end
pub decimal_rest : (text whole behind : List ℕ) (d : Decimal) → whole ++ behind ≡ text → AllDigits 10 whole → BeginsOtherwise behind → (h : IsDecimal text d)
    → (whole ≡ d.whole) × (((behind ≡ h.behind) × (d.fraction ≡ [])) ⊎ (behind ≡ 46 ∷ (d.fraction ++ h.behind)))
decimal_rest text whole behind d e dw bb h = cases h.is_mantissa.3
  where
    cases : ((h.mantissa ≡ d.whole) × (d.fraction ≡ [])) ⊎ (h.mantissa ≡ d.whole ++ 46 ∷ d.fraction)
        → (whole ≡ d.whole) × (((behind ≡ h.behind) × (d.fraction ≡ [])) ⊎ (behind ≡ 46 ∷ (d.fraction ++ h.behind)))
    cases (inl m) =
        let split = same_split whole behind d.whole h.behind (e ∙ h.text_is ∙ ap (λ l. l ++ h.behind) m.0) dw bb h.is_mantissa.0 (exponent_begins h.behind d.lowered d.exponent h.is_exponent) in
        (split.0, inl (split.1, m.1))
    cases (inr m) =
        let split = same_split whole behind d.whole (46 ∷ (d.fraction ++ h.behind)) (e ∙ h.text_is ∙ ap (λ l. l ++ h.behind) m ∙ append_assoc d.whole (46 ∷ d.fraction) h.behind) dw bb h.is_mantissa.0 (point_begins (d.fraction ++ h.behind)) in
        (split.0, inr split.1)

-- a decimal has one whole part, one fraction and one exponent
pub decimal_parts : (text whole behind fraction rest : List ℕ) (d : Decimal) → whole ++ behind ≡ text → AllDigits 10 whole → BeginsOtherwise behind → IsFraction behind fraction rest → IsDecimal text d
    → (whole ≡ d.whole) × (fraction ≡ d.fraction) × IsExponent rest d.lowered d.exponent
decimal_parts text whole behind fraction rest d e dw bb f h = cases f (decimal_rest text whole behind d e dw bb h)
  where
    cases : IsFraction behind fraction rest → (whole ≡ d.whole) × (((behind ≡ h.behind) × (d.fraction ≡ [])) ⊎ (behind ≡ 46 ∷ (d.fraction ++ h.behind)))
        → (whole ≡ d.whole) × (fraction ≡ d.fraction) × IsExponent rest d.lowered d.exponent
    cases (inl p) (w, inl q) = absurd (exponent_first h.behind d.lowered d.exponent 46 (fraction ++ rest) (lit< tt) h.is_exponent (sym q.0 ∙ p.0))
    cases (inl p) (w, inr q) =
        let split = same_split fraction rest d.fraction h.behind (tails 46 (fraction ++ rest) (d.fraction ++ h.behind) (sym p.0 ∙ q)) p.1 p.2 h.is_mantissa.1 (exponent_begins h.behind d.lowered d.exponent h.is_exponent) in
        (w, split.0, subst (λ l. IsExponent l d.lowered d.exponent) (sym split.1) h.is_exponent)
    cases (inr p) (w, inl q) = (w, p.0 ∙ sym q.1, subst (λ l. IsExponent l d.lowered d.exponent) (sym (p.1 ∙ q.0)) h.is_exponent)
    cases (inr p) (w, inr q) = absurd (p.2 (d.fraction ++ h.behind, q))

apart : (xs ys : List ℕ) → 47 ∷ xs ≡ 46 ∷ ys → ⊥
apart xs ys k = absurd (omega (arith, heads 47 46 xs ys k))

-- no decimal has a slash behind its first digits
pub decimal_no_slash : (text whole behind cs : List ℕ) (d : Decimal) → whole ++ behind ≡ text → AllDigits 10 whole → BeginsOtherwise behind → behind ≡ 47 ∷ cs → ¬ (IsDecimal text d)
decimal_no_slash text whole behind cs d e dw bb s h = cases (decimal_rest text whole behind d e dw bb h).1
  where
    cases : (((behind ≡ h.behind) × (d.fraction ≡ [])) ⊎ (behind ≡ 46 ∷ (d.fraction ++ h.behind))) → ⊥
    cases (inl q) = exponent_first h.behind d.lowered d.exponent 47 cs (lit< tt) h.is_exponent (sym q.0 ∙ s)
    cases (inr q) = apart cs (d.fraction ++ h.behind) (sym s ∙ q)

pub no_digits : (whole fraction : List ℕ) (d : Decimal) (text : List ℕ) → whole ≡ [] → fraction ≡ [] → whole ≡ d.whole → fraction ≡ d.fraction → ¬ (IsDecimal text d)
no_digits whole fraction d text ew ef gw gf h = N.lt_irrefl 0 (subst (λ n. 0 < n) (ap length (ap₂ ◌++◌ (sym gw ∙ ew) (sym gf ∙ ef))) h.is_mantissa.2)

pub some_before : (xs ys : List ℕ) → ¬ (xs ≡ []) → 0 < length (xs ++ ys)
some_before [] ys n = absurd (n refl)
some_before (x ∷ xs) ys n = N.zero-lt-suc (length (xs ++ ys))

pub some_behind : (xs ys : List ℕ) → ¬ (ys ≡ []) → 0 < length (xs ++ ys)
some_behind [] [] n = absurd (n refl)
some_behind [] (y ∷ ys) n = N.zero-lt-suc (length ys)
some_behind (x ∷ xs) ys n = N.zero-lt-suc (length (xs ++ ys))

-- what was split is a decimal
pub is_decimal : (text whole behind fraction rest : List ℕ) (lowered : Bool) (size : ℕ) → whole ++ behind ≡ text → AllDigits 10 whole → IsFraction behind fraction rest → 0 < length (whole ++ fraction)
    → IsExponent rest lowered size → IsDecimal text (record { whole = whole; fraction = fraction; lowered = lowered; exponent = size })
is_decimal text whole behind fraction rest lowered size e dw (inl p) some x = record {
  mantissa = whole ++ 46 ∷ fraction;
  behind = rest;
  is_mantissa = (dw, p.1, some, inr refl);
  is_exponent = x;
  text_is = sym e ∙ ap (λ l. whole ++ l) p.0 ∙ sym (append_assoc whole (46 ∷ fraction) rest);
}
is_decimal text whole behind fraction rest lowered size e dw (inr p) some x = record {
  mantissa = whole;
  behind = rest;
  is_mantissa = (dw, subst (AllDigits 10) (sym p.0) tt, some, inl (refl, p.0));
  is_exponent = x;
  text_is = sym e ∙ ap (λ l. whole ++ l) (sym p.1);
}

pub same_decimal : (whole fraction : List ℕ) (x : Exponent) (d : Decimal) → whole ≡ d.whole → fraction ≡ d.fraction → ◌≡◌ {A = Option Exponent} (Some x) (Some (record { negative = d.lowered; size = d.exponent }))
    → decimal_value (record { whole = whole; fraction = fraction; lowered = x.negative; exponent = x.size }) ≡ decimal_value d
same_decimal whole fraction x d ew ef e =
    let same : x ≡ record { negative = d.lowered; size = d.exponent } = cc in
    ap₂ (λ w f. decimal_value (record { whole = w; fraction = f; lowered = x.negative; exponent = x.size })) ew ef
    ∙ ap (λ y. decimal_value (record { whole = d.whole; fraction = d.fraction; lowered = y.negative; exponent = y.size })) same

pub on_some : {A : Type 0} (r : Option A) (P : Type 0) → P → OnSome r P
on_some None P p = tt
on_some (Some x) P p = p

pub on_some_map : {A : Type 0} (r : Option A) (P Q : Type 0) → (P → Q) → OnSome r P → OnSome r Q
on_some_map None P Q f p = tt
on_some_map (Some x) P Q f p = f p
