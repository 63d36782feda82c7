-- The text of a value is a number that stands for it
use Rattle.std.proofs.Common.{◌≡◌, ℕ, zero, suc, ℤ, pos, negsuc, ◌*◌, ◌<◌, ◌≤◌, ◌^◌, List, [], ◌∷◌, ◌++◌, ◌+◌, length, refl, sym, ◌∙◌, ap, ap₂, subst, arith, lit<, inl, unsigned_abs, Bool, true, false, None, Some, ◌==◌, if◌then◌else◌}
use native.Mathlib.Nat as N
use mathlib.Core.Quot.{mk}
use Rattle.std.specs.Fmt.{decimal, signed_decimal}
use Rattle.std.specs.Char.{digit_value}
use Rattle.std.specs.Option.{option_map}
use Rattle.std.proofs.lemmas.Bool.Decides.{nat_tests}
use Rattle.std.specs.Str.Parse.{IsNumeral, digits_value, digits_value_after}
use Rattle.std.proofs.lemmas.Fmt.{decimal_is_IsNumeral_wide}
use Rattle.std.proofs.lemmas.List.{append-nil}
use Rattle.algebra.specs.Fraction.{Pair, Fraction, same, whole, pair_product, mul, inverse, negative, of_integer}
use Rattle.algebra.specs.LowestTerms.{top, bottom}
use Rattle.algebra.specs.Steps.{fits, fitting, quotient}
use Rattle.algebra.proofs.LowestLaws.{from_parts, bottom_positive}
use Rattle.ratio.specs.NumberText.{Magnitude, Quotient, Point, IsMagnitude, magnitude_value, without_end_zeros, kept_before, IsReadAs}
use Rattle.ratio.specs.WrittenText.{quotient_text, text_of}
use Rattle.ratio.proofs.DecimalLaws.{narrow_value}
use Rattle.ratio.proofs.DigitLaws.{value_grows}
use Rattle.ratio.proofs.MagnitudeLaws.{quotient_narrow}
use Rattle.ratio.proofs.Reading.{and_is, below_is, pair_fits, fits_pair}
use Rattle.ratio.proofs.Tens.{inverse_of_whole}

-- zeros at the end only make a number larger
trimmed_value : (n : ℕ) (ds : List ℕ) → digits_value_after 10 n (without_end_zeros ds) ≤ digits_value_after 10 n ds
trimmed_value n [] = N.le_refl n
trimmed_value n (c ∷ cs) = go (without_end_zeros cs) (trimmed_value (n * 10 + digit_value c) cs)
  where
    alone : (t : Bool) → digits_value_after 10 n (if t then [] else c ∷ []) ≤ digits_value_after 10 n (c ∷ cs)
    alone true = value_grows n (c ∷ cs)
    alone false = value_grows (n * 10 + digit_value c) cs

    go : (zs : List ℕ) → digits_value_after 10 (n * 10 + digit_value c) zs ≤ digits_value_after 10 n (c ∷ cs) → digits_value_after 10 n (kept_before c zs) ≤ digits_value_after 10 n (c ∷ cs)
    go [] h = alone (c == 48)
    go (z ∷ zs) h = h

numeral : (n : ℕ) → n < 2 ^ 127 → IsNumeral 10 (decimal n) × (digits_value 10 (decimal n) ≡ n)
numeral n h = decimal_is_IsNumeral_wide n (N.lt_trans h (lit< tt))

abbrev size_of : (n d : ℕ) → 0 < d → Pair
size_of n d h = record { num = pos n; den = d; positive = h }

fitted : (x y : Fraction) → x ≡ y → fits y ≡ true → fitting x ≡ Some y
fitted x y e h = ap fitting e ∙ ap (λ t. if t then Some y else None) h

-- a whole number is a decimal without a point
whole_written : (n d : ℕ) (h : 0 < d) → d ≡ 1 → n < 2 ^ 127 → fits (mk (size_of n d h)) ≡ true → (m : Magnitude) × (IsMagnitude (decimal n) m × (magnitude_value m ≡ Some (mk (size_of n d h))))
whole_written n d h e small f =
    let number = numeral n small in
    let value : digits_value 10 (decimal n ++ []) ≡ n = ap (digits_value 10) (append-nil (decimal n)) ∙ number.1 in (
      Point (record { whole = decimal n; fraction = []; lowered = false; exponent = 0 }),
      (
        record {
          mantissa = decimal n;
          behind = [];
          is_mantissa = (number.0.1, tt, subst (λ l. 0 < length l) (sym (append-nil (decimal n))) number.0.0, inl (refl, refl));
          is_exponent = inl (refl, refl, refl);
          text_is = sym (append-nil (decimal n));
        },
        sym (narrow_value (record { whole = decimal n; fraction = []; lowered = false; exponent = 0 }) (N.lt_of_le_of_lt (trimmed_value 0 (decimal n ++ [])) (subst (λ k. k < 2 ^ 127) (sym value) small)))
            ∙ fitted _ (mk (size_of n d h)) (same _ (size_of n d h) (ap pos (cross n d (digits_value 10 (decimal n ++ [])) value e))) f,
      ),
    )
  where
    cross : (n d v : ℕ) → v ≡ n → d ≡ 1 → v * 1 * d ≡ n * 1
    cross n d v e g = ap₂ (λ a b. a * 1 * b) e g ∙ N.mul-one (n * 1)

product_at : (n d : ℕ) (h : 0 < d) → mul (of_integer (pos n)) (mk (record { num = pos 1; den = d; positive = h })) ≡ mk (size_of n d h)
unfolding mul of_integer
product_at n d h = same (pair_product (whole (pos n)) (record { num = pos 1; den = d; positive = h })) (size_of n d h) (ap pos (cross n d))
  where
    cross : (n d : ℕ) → n * 1 * d ≡ n * (1 * d)
    cross n d = omega arith

quotient_is : (n d : ℕ) (h : 0 < d) → mul (of_integer (pos n)) (inverse (of_integer (pos d))) ≡ mk (size_of n d h)
quotient_is n d h = ap (mul (of_integer (pos n))) (inverse_of_whole d h) ∙ product_at n d h

quotient_some : (n d : ℕ) (h : 0 < d) → fits (mk (size_of n d h)) ≡ true → quotient (pos n) (pos d) ≡ Some (mk (size_of n d h))
unfolding quotient
quotient_some n zero h f = absurd (N.lt_irrefl 0 h)
quotient_some n (suc d) h f = fitted _ (mk (size_of n (suc d) h)) (quotient_is n (suc d) h) f

-- any other is a quotient
quotient_written : (n d : ℕ) (h : 0 < d) → n < 2 ^ 127 → d < 2 ^ 127 → fits (mk (size_of n d h)) ≡ true
    → (m : Magnitude) × (IsMagnitude (decimal n ++ (47 ∷ decimal d)) m × (magnitude_value m ≡ Some (mk (size_of n d h))))
quotient_written n d h small narrow f =
    let above = numeral n small in
    let under = numeral d narrow in (
      Quotient (decimal n) (decimal d),
      (
        (above.0, under.0, refl),
        sym (quotient_narrow (decimal n) (decimal d) (subst (λ k. k < 2 ^ 127) (sym above.1) small) (subst (λ k. k < 2 ^ 127) (sym under.1) narrow))
            ∙ ap₂ (λ a b. quotient (pos a) (pos b)) above.1 under.1 ∙ quotient_some n d h f,
      ),
    )

one : (d : ℕ) → (d == 1) ≡ true → d ≡ 1
one d e = grind (arith, nat_tests)

magnitude_written : (n d : ℕ) (h : 0 < d) → n < 2 ^ 127 → d < 2 ^ 127 → fits (mk (size_of n d h)) ≡ true
    → (m : Magnitude) × (IsMagnitude (quotient_text (decimal n) d) m × (magnitude_value m ≡ Some (mk (size_of n d h))))
magnitude_written n d h small narrow f = go (d == 1) refl
  where
    go : (t : Bool) → (d == 1) ≡ t → (m : Magnitude) × (IsMagnitude (if t then decimal n else decimal n ++ (47 ∷ decimal d)) m × (magnitude_value m ≡ Some (mk (size_of n d h))))
    go true e = whole_written n d h (one d e) small f
    go false e = quotient_written n d h small narrow f

-- the sign stands before both parts
signed_text : (l : List ℕ) (d : ℕ) → quotient_text (45 ∷ l) d ≡ 45 ∷ quotient_text l d
signed_text l d = go (d == 1)
  where
    go : (t : Bool) → (if t then 45 ∷ l else (45 ∷ l) ++ (47 ∷ decimal d)) ≡ 45 ∷ (if t then l else l ++ (47 ∷ decimal d))
    go true = refl
    go false = refl

turned : (n d : ℕ) (h : 0 < d) (m : Magnitude) → magnitude_value m ≡ Some (mk (size_of (suc n) d h)) → option_map negative (magnitude_value m) ≡ Some (mk (record { num = negsuc n; den = d; positive = h }))
unfolding negative
turned n d h m e = ap (option_map negative) e

written_at : (z : ℤ) (d : ℕ) (h : 0 < d) → unsigned_abs z < 2 ^ 127 → d < 2 ^ 127 → fits (mk (record { num = z; den = d; positive = h })) ≡ true
    → IsReadAs (quotient_text (signed_decimal z) d) (mk (record { num = z; den = d; positive = h }))
written_at (pos n) d h small narrow f =
    let m = magnitude_written n d h small narrow f in
    (false, (m.0, ((quotient_text (decimal n) d, (refl, m.1.0)), m.1.1)))
written_at (negsuc n) d h small narrow f =
    let m = magnitude_written (suc n) d h small narrow (pair_fits (size_of (suc n) d h) (fits_pair (record { num = negsuc n; den = d; positive = h }) f)) in
    (true, (m.0, ((quotient_text (decimal (suc n)) d, (signed_text (decimal (suc n)) d, m.1.0)), turned n d h m.0 m.1.1)))

pub written : (x : Fraction) → fits x ≡ true → IsReadAs (text_of x) x
unfolding text_of
written x f =
    let both = and_is _ _ f in
    subst (IsReadAs (quotient_text (signed_decimal (top x)) (bottom x))) (sym (from_parts x))
    (written_at (top x) (bottom x) (bottom_positive x) (below_is _ both.0) (below_is _ both.1) (sym (ap fits (from_parts x)) ∙ f))
