-- Digits and their values
use Rattle.std.proofs.Common.{◌≡◌, refl, sym, ◌∙◌, ap, ℕ, zero, suc, ◌<◌, ◌^◌, Bool, true, false, ◌&&◌, ◌||◌, not, ◌==◌, nat_lt, if◌then◌else◌, List, [], ◌∷◌, length, get_or, Option, Some, None, SomeIff, slice_index, arith}
use Rattle.std.proofs.lemmas.Bool.{eqb-true, eq-eqb, ltb-false}
use Rattle.std.proofs.Common.{ltb-true, inl, inr, ◌⊎◌}
use Rattle.std.specs.Str.{all_ascii_digits}
use Rattle.std.specs.Char.{digit_value}
use Rattle.std.specs.Str.Parse.{digits_value, AllDigits}
use Rattle.std.proofs.lemmas.Str.Parse.{IsNumeralModel, numerals_by_value, tells_all_ascii_digits}
use Rattle.c_text.specs.Numbers.{decimal_value}

pub digit_below : (ds : List ℕ) (i : ℕ) → AllDigits 10 ds → i < length ds → digit_value (get_or ds i 0) < 10
digit_below [] i h k = absurd (omega (arith, k))
digit_below (d ∷ ds) zero h k = h.0
digit_below (d ∷ ds) (suc i) h k = digit_below ds i h.1 (omega (arith, k))

pub own : IsNumeralModel (λ ds. all_ascii_digits ds ≡ true) (digits_value 10)
own = numerals_by_value (λ ds. all_ascii_digits ds ≡ true) tells_all_ascii_digits

pub decimal_empty : (text : List ℕ) → (length text == 0) ≡ true → None ≡ decimal_value text
unfolding decimal_value
decimal_empty [] h = refl
decimal_empty (b ∷ bs) h = absurd (omega (arith, eqb-true (length (b ∷ bs)) 0 h))

never : (x y w : Bool) (n : ℕ) → ◌≡◌ {A = Option ℕ} None (if (x && (y && (false || not true))) && w then Some n else None)
never true true w n = refl
never true false w n = refl
never false y w n = refl

pub decimal_leading : (text : List ℕ) → (slice_index text 0 == 48) ≡ true → (length text == 1) ≡ false → None ≡ decimal_value text
unfolding decimal_value
decimal_leading text z l =
    never (all_ascii_digits text) (not (length text == 0)) (nat_lt (digits_value 10 text) (2 ^ 64)) (digits_value 10 text)
    ∙ ap (λ b. if (all_ascii_digits text && (not (length text == 0) && (false || not b))) && nat_lt (digits_value 10 text) (2 ^ 64) then Some (digits_value 10 text) else None) (sym z)
    ∙ ap (λ b. if (all_ascii_digits text && (not (length text == 0) && (b || not (slice_index text 0 == 48)))) && nat_lt (digits_value 10 text) (2 ^ 64) then Some (digits_value 10 text) else None) (sym l)

abbrev Told : List ℕ → Option ℕ → Type 0
Told text r = SomeIff r (AllDigits 10 text × (digits_value 10 text < 2 ^ 64)) (digits_value 10 text)

by_tests : (text : List ℕ) (r : Option ℕ) (a l : Bool) → Told text r → all_ascii_digits text ≡ a → nat_lt (digits_value 10 text) (2 ^ 64) ≡ l
    → r ≡ (if (a && (not false && true)) && l then Some (digits_value 10 text) else None)
by_tests text None true true h p q = absurd (h (own.to text p, ltb-true (digits_value 10 text) (2 ^ 64) q))
by_tests text None true false h p q = refl
by_tests text None false l h p q = refl
by_tests text (Some x) true true h p q = ap Some h.1
by_tests text (Some x) true false h p q = let k : digits_value 10 text < 2 ^ 64 = h.0.1 in absurd (omega (arith, ltb-false (digits_value 10 text) (2 ^ 64) q, k))
by_tests text (Some x) false l h p q = let k : all_ascii_digits text ≡ true = own.from text h.0.0 in let e : true ≡ false = sym k ∙ p in cc

pub decimal_told : (text : List ℕ) (r : Option ℕ) → Told text r → (length text == 0) ≡ false → (length text == 1 || not (slice_index text 0 == 48)) ≡ true → r ≡ decimal_value text
unfolding decimal_value
decimal_told text r h e f =
    by_tests text r (all_ascii_digits text) (nat_lt (digits_value 10 text) (2 ^ 64)) h refl refl
    ∙ ap (λ b. if (all_ascii_digits text && (not b && true)) && nat_lt (digits_value 10 text) (2 ^ 64) then Some (digits_value 10 text) else None) (sym e)
    ∙ ap (λ b. if (all_ascii_digits text && (not (length text == 0) && b)) && nat_lt (digits_value 10 text) (2 ^ 64) then Some (digits_value 10 text) else None) (sym f)

eqb_ne_by : (t : Bool) (a b : ℕ) → (a == b) ≡ t → (a ≡ b → ⊥) → (a == b) ≡ false
eqb_ne_by true a b e h = absurd (h (eqb-true a b e))
eqb_ne_by false a b e h = e

pub eqb_ne : (a b : ℕ) → (a ≡ b → ⊥) → (a == b) ≡ false
eqb_ne a b h = eqb_ne_by (a == b) a b refl h

or_true : (x : Bool) → (x || true) ≡ true
or_true true = refl
or_true false = refl

pub decimal_either : (text : List ℕ) → ((slice_index text 0 ≡ 48) × (length text ≡ 1)) ⊎ (slice_index text 0 ≡ 48 → ⊥) → (length text == 1 || not (slice_index text 0 == 48)) ≡ true
decimal_either text (inl h) = ap (λ b. b || not (slice_index text 0 == 48)) (eq-eqb (length text) 1 h.1)
decimal_either text (inr h) = ap (λ b. length text == 1 || not b) (eqb_ne (slice_index text 0) 48 h) ∙ or_true (length text == 1)
