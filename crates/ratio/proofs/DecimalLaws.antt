-- What a decimal stands for, from its significant digits
use Rattle.std.proofs.Common.{◌≡◌, ℕ, ◌+◌, ◌-◌, ◌*◌, ◌<◌, ◌≤◌, ◌^◌, List, ◌++◌, length, refl, sym, ◌∙◌, ap, subst, arith, Bool, true, false, None, if◌then◌else◌}
use native.Mathlib.Nat as N
use Rattle.std.specs.Str.Parse.{AllDigits, digits_value, digits_value_after}
use Rattle.algebra.specs.Steps.{below_limit, fitting}
use Rattle.ratio.specs.Digits.{IsSignificant}
use Rattle.ratio.specs.NumberText.{Decimal, significand, without_end_zeros, decimal_fraction, decimal_value, scaled_by_tens}
use Rattle.ratio.proofs.DigitLaws.{AllDigits-append, AllDigits-split, value-append, value_grows, value-zeros}
use Rattle.ratio.proofs.Reading.{below, below_is}
use Rattle.ratio.proofs.Tens.{scaled_moved}

pub wide_value : (d : Decimal) → ¬ (significand d < 2 ^ 127) → None ≡ decimal_value d
unfolding decimal_value
wide_value d n = go (below_limit (significand d)) refl
  where
    go : (t : Bool) → below_limit (significand d) ≡ t → None ≡ (if t then fitting (decimal_fraction d) else None)
    go true e = absurd (n (below_is _ e))
    go false e = refl

pub narrow_value : (d : Decimal) → significand d < 2 ^ 127 → fitting (decimal_fraction d) ≡ decimal_value d
unfolding decimal_value
narrow_value d h = ap (λ t. if t then fitting (decimal_fraction d) else None) (sym (below _ h))

module _ (whole fraction front behind : List ℕ) (s : IsSignificant whole fraction front behind) where
  pub significant_digits : AllDigits 10 whole → AllDigits 10 fraction → AllDigits 10 front × AllDigits 10 behind
  significant_digits w f =
      AllDigits-split front behind (AllDigits-split (front ++ behind) _ (subst (AllDigits 10) s.zeros (AllDigits-append whole fraction w f))).0

  pub significand_is : digits_value_after 10 (digits_value 10 front) behind ≡ digits_value 10 (without_end_zeros (whole ++ fraction))
  significand_is = sym (value-append 0 front behind) ∙ ap (digits_value 10) s.kept

  -- all digits write the significant ones times a power of ten
  all_digits : digits_value 10 (whole ++ fraction) ≡ digits_value_after 10 (digits_value 10 front) behind * 10 ^ ((length whole - length front) + (length fraction - length behind))
  all_digits =
      ap (digits_value 10) s.zeros ∙ value-append 0 (front ++ behind) _ ∙ value-zeros (digits_value 10 (front ++ behind)) _
      ∙ ap (λ n. n * 10 ^ ((length whole - length front) + (length fraction - length behind))) (value-append 0 front behind)

  pub front_wide : AllDigits 10 front → ¬ (AllDigits 10 front × (digits_value 10 front < 2 ^ 127)) → ¬ (digits_value 10 (without_end_zeros (whole ++ fraction)) < 2 ^ 127)
  front_wide d n l =
      n (d, N.lt_of_le_of_lt (value_grows (digits_value 10 front) behind) (subst (λ k. k < 2 ^ 127) (sym significand_is) l))

  pub behind_wide : AllDigits 10 behind → ¬ (AllDigits 10 behind × (digits_value_after 10 (digits_value 10 front) behind < 2 ^ 127)) → ¬ (digits_value 10 (without_end_zeros (whole ++ fraction)) < 2 ^ 127)
  behind_wide d n l = n (d, subst (λ k. k < 2 ^ 127) (sym significand_is) l)

  exponents : (w f j k e : ℕ) → k ≤ f → (w - j) + (f - k) + 0 + (k + e) ≡ (w - j) + (f + e)
  exponents w f j k e h = omega arith

  exponents_up : (w f j k e : ℕ) → k ≤ f → (w - j) + (f - k) + e + k ≡ (w - j) + e + (f + 0)
  exponents_up w f j k e h = omega arith

  pub moved_down : (m e : ℕ) → m ≡ digits_value_after 10 (digits_value 10 front) behind
      → scaled_by_tens m (length whole - length front) (length behind + e) ≡ decimal_fraction (record { whole = whole; fraction = fraction; lowered = true; exponent = e })
  moved_down m e h =
      scaled_moved (digits_value 10 (whole ++ fraction)) m ((length whole - length front) + (length fraction - length behind)) 0 (length fraction + e) (length whole - length front) (length behind + e)
      (all_digits ∙ ap (λ n. n * 10 ^ ((length whole - length front) + (length fraction - length behind))) (sym h))
      (exponents (length whole) (length fraction) (length front) (length behind) e s.behind_short)

  pub moved_up : (m e : ℕ) → m ≡ digits_value_after 10 (digits_value 10 front) behind
      → scaled_by_tens m (length whole - length front + e) (length behind) ≡ decimal_fraction (record { whole = whole; fraction = fraction; lowered = false; exponent = e })
  moved_up m e h =
      scaled_moved (digits_value 10 (whole ++ fraction)) m ((length whole - length front) + (length fraction - length behind)) e (length fraction + 0) (length whole - length front + e) (length behind)
      (all_digits ∙ ap (λ n. n * 10 ^ ((length whole - length front) + (length fraction - length behind))) (sym h))
      (exponents_up (length whole) (length fraction) (length front) (length behind) e s.behind_short)
