-- A token of a form file has a byte, and no more than there are.
use Rattle.std.proofs.Common.{◌≡◌, refl, ℕ, zero, suc, ◌+◌, ◌≤◌, ◌<◌, Bool, true, false, ◌==◌, ◌&&◌, ◌||◌, if◌then◌else◌, List, [], ◌∷◌, length, drop, slice_index, Option, Some, None, arith, length-drop}
use Rattle.std.proofs.lemmas.Bool.{eqb-true}
use Rattle.slices.specs.CTable.{span, is_letter, is_digit, is_inside_word, word_length, digits_length, sign_of_length}
use Rattle.slices.specs.FormTable.{is_form_sign, form_sign_length, fraction_length, with_digits, power_length, exponent_length, mantissa_length, form_number_length, begins_number, one_longer, string_length, string_of_length, form_token}
use Rattle.slices.specs.declared.toks.TokKind.{TokKind}
use Rattle.slices.proofs.Form.{number_some}

either : (b : Bool) (x y n : ℕ) → x ≤ n → y ≤ n → (if b then x else y) ≤ n
either true x y n h i = h
either false x y n h i = i

span_within : (p : ℕ → Bool) (bs : List ℕ) → span p bs ≤ length bs
span_within p [] = omega arith
span_within p (b ∷ bs) = let h = span_within p bs in either (p b) _ _ (length (b ∷ bs)) (omega (arith, h)) (omega arith)

word_within : (bs : List ℕ) → word_length bs ≤ length bs
unfolding word_length
word_within bs = span_within is_inside_word bs

digits_within : (bs : List ℕ) → digits_length bs ≤ length bs
unfolding digits_length
digits_within bs = span_within is_digit bs

fraction_within : (bs : List ℕ) → fraction_length bs ≤ length bs
unfolding fraction_length
fraction_within [] = omega arith
fraction_within (b ∷ bs) = let h = digits_within bs in either (b == 46) _ _ (length (b ∷ bs)) (omega (arith, h)) (omega arith)

few_digits : (n d : ℕ) → with_digits n d ≤ n + d
few_digits n zero = omega arith
few_digits n (suc d) = omega arith

power_within : (bs : List ℕ) → power_length bs ≤ suc (length bs)
unfolding power_length
power_within [] = omega arith
power_within (b ∷ bs) =
    let signed = few_digits 2 (digits_length bs) in
    let plain = few_digits 1 (digits_length (b ∷ bs)) in
    let h = digits_within bs in
    let i = digits_within (b ∷ bs) in
    either (b == 43 || b == 45) _ _ (suc (length (b ∷ bs))) (omega (arith, signed, h)) (omega (arith, plain, i))

exponent_within : (bs : List ℕ) → exponent_length bs ≤ length bs
unfolding exponent_length
exponent_within [] = omega arith
exponent_within (b ∷ bs) = let h = power_within bs in either (b == 101 || b == 69) _ _ (length (b ∷ bs)) (omega (arith, h)) (omega arith)

mantissa_within : (bs : List ℕ) → mantissa_length bs ≤ length bs
unfolding mantissa_length
mantissa_within bs =
    let h = digits_within bs in
    let i = fraction_within (drop (digits_length bs) bs) in
    omega (arith, h, i, length-drop (digits_length bs) bs)

number_within : (bs : List ℕ) → form_number_length bs ≤ length bs
unfolding form_number_length
number_within bs =
    let h = mantissa_within bs in
    let i = exponent_within (drop (mantissa_length bs) bs) in
    omega (arith, h, i, length-drop (mantissa_length bs) bs)

longer_by : (n m : ℕ) → n ≤ m → one_longer n ≤ suc m
longer_by zero m h = omega arith
longer_by (suc n) m h = omega (arith, h)

string_within : (quote : ℕ) (bs : List ℕ) → string_length quote bs ≤ length bs
string_within quote [] = omega arith
string_within quote (b ∷ bs) =
    let h = longer_by (string_length quote bs) (length bs) (string_within quote bs) in
    either (b == quote) _ _ (length (b ∷ bs)) (omega arith) (either (b == 10 || b == 92) _ _ (length (b ∷ bs)) (omega arith) (omega (arith, h)))

never : (c : ℕ) → (0 == suc c) ≡ true → ⊥
never c h = let e : 0 ≡ suc c = eqb-true 0 (suc c) h in absurd (omega (arith, e))

-- a byte that is there
one_there : (bs : List ℕ) (c : ℕ) → (slice_index bs 0 == suc c) ≡ true → 1 ≤ length bs
one_there [] c h = absurd (never c h)
one_there (b ∷ bs) c h = omega arith

two_there : (bs : List ℕ) (c : ℕ) → (slice_index bs 1 == suc c) ≡ true → 2 ≤ length bs
two_there [] c h = absurd (never c h)
two_there (b ∷ []) c h = absurd (never c h)
two_there (b ∷ d ∷ bs) c h = omega arith

left_true : (a b : Bool) → (a && b) ≡ true → a ≡ true
left_true true b h = refl
left_true false b h = cc

right_true : (a b : Bool) → (a && b) ≡ true → b ≡ true
right_true true b h = h
right_true false b h = cc

where_true : (b : Bool) (x y n : ℕ) → (b ≡ true → x ≤ n) → y ≤ n → (if b then x else y) ≤ n
where_true true x y n h i = h refl
where_true false x y n h i = i

sign_within : (bs : List ℕ) → form_sign_length bs ≤ length bs
unfolding form_sign_length
sign_within [] = omega arith
sign_within (b ∷ bs) =
    let points : (b == 46 && slice_index bs 0 == 46 && slice_index bs 1 == 46) ≡ true → 3 ≤ length (b ∷ bs)
    = λ h. let k = two_there bs 45 (right_true (b == 46 && slice_index bs 0 == 46) (slice_index bs 1 == 46) h) in omega (arith, k) in
    let stars : (b == 42 && slice_index bs 0 == 42) ≡ true → 2 ≤ length (b ∷ bs)
    = λ h. let k = one_there bs 41 (right_true (b == 42) (slice_index bs 0 == 42) h) in omega (arith, k) in
    let changes : ((b == 43 || b == 45) && slice_index bs 0 == 61) ≡ true → 2 ≤ length (b ∷ bs)
    = λ h. let k = one_there bs 60 (right_true (b == 43 || b == 45) (slice_index bs 0 == 61) h) in omega (arith, k) in
    where_true _ 3 _ (length (b ∷ bs)) points (where_true _ 2 _ (length (b ∷ bs)) stars (where_true _ 2 _ (length (b ∷ bs)) changes
    (either (is_form_sign b) 1 0 (length (b ∷ bs)) (omega arith) (omega arith))))

-- a byte, and no more than so many
abbrev pub Fits : ℕ → Option (ℕ × TokKind) → Type 0
Fits n None = Unit {0}
Fits n (Some t) = (0 < t.0) × (t.0 ≤ n)

fits_if : (b : Bool) (n : ℕ) (x y : Option (ℕ × TokKind)) → (b ≡ true → Fits n x) → Fits n y → Fits n (if b then x else y)
fits_if true n x y h i = h refl
fits_if false n x y h i = i

sign_fits : (n m : ℕ) → n ≤ m → Fits m (sign_of_length n)
sign_fits zero m h = tt
sign_fits (suc n) m h = (omega arith, h)

string_fits : (n m : ℕ) → n ≤ m → Fits (suc m) (string_of_length n)
string_fits zero m h = tt
string_fits (suc n) m h = (omega arith, omega (arith, h))

pub token_fits : (bs : List ℕ) → Fits (length bs) (form_token bs)
unfolding form_token
token_fits [] = tt
token_fits (b ∷ bs) =
    let word = word_within bs in
    fits_if (is_letter b) _ _ _ (λ e. (omega arith, omega (arith, word)))
    (fits_if (begins_number (b ∷ bs)) _ _ _ (λ e. (number_some (b ∷ bs) e, number_within (b ∷ bs)))
    (fits_if (b == 34 || b == 39) _ _ _ (λ e. string_fits (string_length b bs) (length bs) (string_within b bs))
    (sign_fits (form_sign_length (b ∷ bs)) (length (b ∷ bs)) (sign_within (b ∷ bs)))))
