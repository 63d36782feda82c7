-- A number is read in one way: by its sign, its slash and its digits
use Rattle.std.proofs.Common.{◌≡◌, ℕ, pos, ◌<◌, ◌^◌, ◌⊎◌, inl, inr, List, [], ◌∷◌, ◌++◌, length, refl, sym, ◌∙◌, ap, ap₂, subst, arith, lit<, append_assoc, Bool, true, false, Option, None, ◌&&◌, if◌then◌else◌}
use native.Mathlib.Nat as N
use Rattle.std.proofs.lemmas.List.{append-nil}
use Rattle.std.specs.Option.{option_map}
use Rattle.std.specs.Str.Parse.{AllDigits, IsNumeral, digits_value}
use Rattle.algebra.specs.Fraction.{Fraction, negative}
use Rattle.algebra.specs.Steps.{below_limit, quotient}
use Rattle.ratio.specs.Digits.{BeginsOtherwise}
use Rattle.ratio.specs.NumberText.{Decimal, IsDecimal, Magnitude, Quotient, Point, IsMagnitude, IsNumber, decimal_value, quotient_value, magnitude_value, number_value}
use Rattle.ratio.proofs.DigitLaws.{same_split}
use Rattle.ratio.proofs.GrammarLaws.{slash_begins, tails, heads, decimal_no_slash, below_digits}
use Rattle.ratio.proofs.Reading.{below, below_is, and_true}

-- ---- quotients
pub quotient_wide_above : (above under : List ℕ) → ¬ (digits_value 10 above < 2 ^ 127) → None ≡ quotient_value above under
unfolding quotient_value
quotient_wide_above above under n = go (below_limit (digits_value 10 above)) refl
  where
    go : (t : Bool) → below_limit (digits_value 10 above) ≡ t
        → None ≡ (if t && below_limit (digits_value 10 under) then quotient (pos (digits_value 10 above)) (pos (digits_value 10 under)) else None)
    go true e = absurd (n (below_is _ e))
    go false e = refl

pub quotient_wide_below : (above under : List ℕ) → ¬ (digits_value 10 under < 2 ^ 127) → None ≡ quotient_value above under
unfolding quotient_value
quotient_wide_below above under n = go (below_limit (digits_value 10 above)) (below_limit (digits_value 10 under)) refl
  where
    go : (s t : Bool) → below_limit (digits_value 10 under) ≡ t → None ≡ (if s && t then quotient (pos (digits_value 10 above)) (pos (digits_value 10 under)) else None)
    go s true e = absurd (n (below_is _ e))
    go true false e = refl
    go false false e = refl

pub quotient_narrow : (above under : List ℕ) → digits_value 10 above < 2 ^ 127 → digits_value 10 under < 2 ^ 127 → quotient (pos (digits_value 10 above)) (pos (digits_value 10 under)) ≡ quotient_value above under
unfolding quotient_value
quotient_narrow above under h g = ap (λ t. if t then quotient (pos (digits_value 10 above)) (pos (digits_value 10 under)) else None) (sym (and_true _ _ (below _ h) (below _ g)))

-- ---- the slash
pub slash_value : (text above rest under : List ℕ) (o : Option Fraction) → above ++ rest ≡ text → AllDigits 10 above → BeginsOtherwise rest → rest ≡ 47 ∷ under
    → (IsNumeral 10 above → IsNumeral 10 under → o ≡ quotient_value above under) → (m : Magnitude) → IsMagnitude text m → o ≡ magnitude_value m
slash_value text above rest under o e da br s f (Quotient x y) h =
    let split = same_split above rest x (47 ∷ y) (e ∙ h.2) da br h.0.1 (slash_begins y) in
    let second : under ≡ y = tails 47 under y (sym s ∙ split.1) in
    f (subst (IsNumeral 10) (sym split.0) h.0) (subst (IsNumeral 10) (sym second) h.1) ∙ ap₂ quotient_value split.0 second
slash_value text above rest under o e da br s f (Point d) h = absurd (decimal_no_slash text above rest under d e da br s h)

pub no_slash_value : (text above rest : List ℕ) (o : Option Fraction) → above ++ rest ≡ text → AllDigits 10 above → BeginsOtherwise rest → ¬ ((cs : List ℕ) × (rest ≡ 47 ∷ cs))
    → ((d : Decimal) → IsDecimal text d → o ≡ decimal_value d) → (m : Magnitude) → IsMagnitude text m → o ≡ magnitude_value m
no_slash_value text above rest o e da br n f (Quotient x y) h = absurd (n (y, (same_split above rest x (47 ∷ y) (e ∙ h.2) da br h.0.1 (slash_begins y)).1))
no_slash_value text above rest o e da br n f (Point d) h = f d h

-- ---- the sign
digits_no_minus : (size xs ys : List ℕ) → AllDigits 10 xs → 0 < length xs → ¬ (45 ∷ size ≡ xs ++ ys)
digits_no_minus size [] ys d l = λ e. N.lt_irrefl 0 l
digits_no_minus size (x ∷ xs) ys d l = λ e. below_digits x (subst (λ c. c < 48) (heads 45 x size (xs ++ ys) e) (lit< tt)) d.0

point_no_minus : (size xs ys : List ℕ) → AllDigits 10 xs → ¬ (45 ∷ size ≡ xs ++ 46 ∷ ys)
point_no_minus size [] ys d = λ e. absurd (omega (arith, heads 45 46 size ys e))
point_no_minus size (x ∷ xs) ys d = λ e. below_digits x (subst (λ c. c < 48) (heads 45 x size (xs ++ 46 ∷ ys) e) (lit< tt)) d.0

magnitude_no_minus : (size : List ℕ) (m : Magnitude) → ¬ (IsMagnitude (45 ∷ size) m)
magnitude_no_minus size (Quotient x y) = λ h. digits_no_minus size x (47 ∷ y) h.0.1 h.0.0 h.2
magnitude_no_minus size (Point d) = λ h. decimal_no_minus size d h
  where
    decimal_no_minus : (size : List ℕ) (d : Decimal) → ¬ (IsDecimal (45 ∷ size) d)
    decimal_no_minus size d h = cases h.is_mantissa.3
      where
        cases : ((h.mantissa ≡ d.whole) × (d.fraction ≡ [])) ⊎ (h.mantissa ≡ d.whole ++ 46 ∷ d.fraction) → ⊥
        cases (inl m) = digits_no_minus size d.whole h.behind h.is_mantissa.0 (subst (λ l. 0 < length l) (ap (λ l. d.whole ++ l) m.1 ∙ append-nil d.whole) h.is_mantissa.2) (h.text_is ∙ ap (λ l. l ++ h.behind) m.0)
        cases (inr m) = point_no_minus size d.whole (d.fraction ++ h.behind) h.is_mantissa.0 (h.text_is ∙ ap (λ l. l ++ h.behind) m ∙ append_assoc d.whole (46 ∷ d.fraction) h.behind)

pub minus_value : (text size : List ℕ) (o inner : Option Fraction) → text ≡ 45 ∷ size → ((m : Magnitude) → IsMagnitude size m → inner ≡ magnitude_value m) → o ≡ option_map negative inner
    → (below_zero : Bool) (m : Magnitude) → IsNumber text below_zero m → o ≡ number_value below_zero m
minus_value text size o inner e f g true m h =
    g ∙ ap (option_map negative) (f m (subst (λ l. IsMagnitude l m) (sym (tails 45 size h.0 (sym e ∙ h.1.0))) h.1.1))
minus_value text size o inner e f g false m h = absurd (magnitude_no_minus size m (subst (λ l. IsMagnitude l m) (sym h.1.0 ∙ e) h.1.1))
