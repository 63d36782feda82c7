-- The bytes of a token, one after the other
use Rattle.std.proofs.Common.{◌≡◌, refl, sym, ◌∙◌, ap, subst, ℕ, zero, suc, ◌+◌, ◌≤◌, ◌<◌, Bool, true, false, ◌==◌, ◌||◌, ◌&&◌, slice_index, if◌then◌else◌, List, [], ◌∷◌, length, drop, get_or, add-one, arith, length-drop}
use Rattle.std.proofs.Math.Seq.{drop-cons}
use Rattle.slices.specs.CTable.{digits_length, is_digit}
use Rattle.slices.specs.FormTable.{fraction_length, power_length, exponent_length, with_digits, mantissa_length, form_number_length, begins_number}

-- so many bytes more, where there is a length at all
abbrev pub behind : ℕ → ℕ → ℕ
behind k zero = 0
behind k (suc n) = k + suc n

pub head_at : (xs : List ℕ) (at : ℕ) → at < length xs → drop at xs ≡ get_or xs at 0 ∷ drop (at + 1) xs
head_at xs at h = drop-cons xs at 0 h ∙ ap (λ j. get_or xs at 0 ∷ drop j xs) (sym (add-one at))

nothing_by : (us : List ℕ) → length us ≤ 0 → us ≡ []
nothing_by [] h = refl
nothing_by (t ∷ us) h = absurd (omega (arith, h))

pub none_at : (xs : List ℕ) (at : ℕ) → length xs ≤ at → drop at xs ≡ []
none_at xs at h = nothing_by (drop at xs) (omega (arith, h, length-drop at xs))

pub eqb_is : (a b : ℕ) → a ≡ b → (a == b) ≡ true
eqb_is a b e = grind (arith, e)

pub eqb_not : (a b : ℕ) → (a ≡ b → ⊥) → (a == b) ≡ false
eqb_not a b e = grind (arith, e)

fraction_of : (t : Bool) (b : ℕ) (bs : List ℕ) → (b == 46) ≡ t → fraction_length (b ∷ bs) ≡ (if t then 1 + digits_length bs else 0)
unfolding fraction_length
fraction_of t b bs e = rw e refl

pub fraction_end : (xs : List ℕ) (at : ℕ) → length xs ≤ at → fraction_length (drop at xs) ≡ 0
unfolding fraction_length
fraction_end xs at h = ap fraction_length (none_at xs at h)

pub fraction_some : (xs : List ℕ) (at : ℕ) → at < length xs → get_or xs at 0 ≡ 46 → fraction_length (drop at xs) ≡ 1 + digits_length (drop (at + 1) xs)
fraction_some xs at h e = ap fraction_length (head_at xs at h) ∙ fraction_of true (get_or xs at 0) (drop (at + 1) xs) (eqb_is _ 46 e)

pub fraction_none : (xs : List ℕ) (at : ℕ) → at < length xs → (get_or xs at 0 ≡ 46 → ⊥) → fraction_length (drop at xs) ≡ 0
fraction_none xs at h e = ap fraction_length (head_at xs at h) ∙ fraction_of false (get_or xs at 0) (drop (at + 1) xs) (eqb_not _ 46 e)

power_of : (t : Bool) (b : ℕ) (bs : List ℕ) → (b == 43 || b == 45) ≡ t → power_length (b ∷ bs) ≡ (if t then with_digits 2 (digits_length bs) else with_digits 1 (digits_length (b ∷ bs)))
unfolding power_length
power_of t b bs e = rw e refl

pub power_end : (xs : List ℕ) (at : ℕ) → length xs ≤ at → power_length (drop at xs) ≡ 0
unfolding power_length
power_end xs at h = ap power_length (none_at xs at h)

pub power_plus : (xs : List ℕ) (at : ℕ) → at < length xs → get_or xs at 0 ≡ 43 → power_length (drop at xs) ≡ with_digits 2 (digits_length (drop (at + 1) xs))
power_plus xs at h e = ap power_length (head_at xs at h) ∙ power_of true (get_or xs at 0) (drop (at + 1) xs) (rw e refl)

pub power_minus : (xs : List ℕ) (at : ℕ) → at < length xs → get_or xs at 0 ≡ 45 → power_length (drop at xs) ≡ with_digits 2 (digits_length (drop (at + 1) xs))
power_minus xs at h e = ap power_length (head_at xs at h) ∙ power_of true (get_or xs at 0) (drop (at + 1) xs) (rw e refl)

pub power_plain : (xs : List ℕ) (at : ℕ) → at < length xs → (get_or xs at 0 ≡ 43 → ⊥) → (get_or xs at 0 ≡ 45 → ⊥) → power_length (drop at xs) ≡ with_digits 1 (digits_length (drop at xs))
power_plain xs at h e f =
    ap power_length (head_at xs at h)
    ∙ power_of false (get_or xs at 0) (drop (at + 1) xs) (rw (eqb_not (get_or xs at 0) 43 e) (eqb_not (get_or xs at 0) 45 f))
    ∙ ap (λ bs. with_digits 1 (digits_length bs)) (sym (head_at xs at h))

exponent_of : (t : Bool) (b : ℕ) (bs : List ℕ) → (b == 101 || b == 69) ≡ t → exponent_length (b ∷ bs) ≡ (if t then power_length bs else 0)
unfolding exponent_length
exponent_of t b bs e = rw e refl

pub exponent_end : (xs : List ℕ) (at : ℕ) → length xs ≤ at → exponent_length (drop at xs) ≡ 0
unfolding exponent_length
exponent_end xs at h = ap exponent_length (none_at xs at h)

pub exponent_small : (xs : List ℕ) (at : ℕ) → at < length xs → get_or xs at 0 ≡ 101 → exponent_length (drop at xs) ≡ power_length (drop (at + 1) xs)
exponent_small xs at h e = ap exponent_length (head_at xs at h) ∙ exponent_of true (get_or xs at 0) (drop (at + 1) xs) (rw e refl)

pub exponent_large : (xs : List ℕ) (at : ℕ) → at < length xs → get_or xs at 0 ≡ 69 → exponent_length (drop at xs) ≡ power_length (drop (at + 1) xs)
exponent_large xs at h e = ap exponent_length (head_at xs at h) ∙ exponent_of true (get_or xs at 0) (drop (at + 1) xs) (rw e refl)

pub exponent_none : (xs : List ℕ) (at : ℕ) → at < length xs → (get_or xs at 0 ≡ 101 → ⊥) → (get_or xs at 0 ≡ 69 → ⊥) → exponent_length (drop at xs) ≡ 0
exponent_none xs at h e f =
    ap exponent_length (head_at xs at h)
    ∙ exponent_of false (get_or xs at 0) (drop (at + 1) xs) (rw (eqb_not (get_or xs at 0) 101 e) (eqb_not (get_or xs at 0) 69 f))

digit_some : (b : ℕ) (bs : List ℕ) → is_digit b ≡ true → 0 < digits_length (b ∷ bs)
unfolding digits_length
digit_some b bs e = rw e (omega arith)

digit_none : (b : ℕ) (bs : List ℕ) → is_digit b ≡ false → digits_length (b ∷ bs) ≡ 0
unfolding digits_length
digit_none b bs e = rw e refl

longer : (bs : List ℕ) → 0 < mantissa_length bs → 0 < form_number_length bs
unfolding form_number_length
longer bs h = omega (arith, h)

by_digits : (bs : List ℕ) → 0 < digits_length bs → 0 < mantissa_length bs
unfolding mantissa_length
by_digits bs h = omega (arith, h)

by_point : (b : ℕ) (bs : List ℕ) → digits_length (b ∷ bs) ≡ 0 → (b == 46) ≡ true → 0 < mantissa_length (b ∷ bs)
unfolding mantissa_length
by_point b bs h e =
    let f : fraction_length (b ∷ bs) ≡ 1 + digits_length bs = fraction_of true b bs e in
    let g : fraction_length (drop (digits_length (b ∷ bs)) (b ∷ bs)) ≡ 1 + digits_length bs = ap (λ n. fraction_length (drop n (b ∷ bs))) h ∙ f in
    omega (arith, g)

and_left : (a c : Bool) → (a && c) ≡ true → a ≡ true
and_left true c h = refl
and_left false c h = cc

mantissa_by : (t : Bool) (b : ℕ) (bs : List ℕ) → is_digit b ≡ t → (is_digit b || (b == 46 && is_digit (slice_index bs 0))) ≡ true → 0 < mantissa_length (b ∷ bs)
mantissa_by true b bs e h = by_digits (b ∷ bs) (digit_some b bs e)
mantissa_by false b bs e h =
    let x : (false || (b == 46 && is_digit (slice_index bs 0))) ≡ true = subst (λ d. (d || (b == 46 && is_digit (slice_index bs 0))) ≡ true) e h in
    by_point b bs (digit_none b bs e) (and_left (b == 46) (is_digit (slice_index bs 0)) x)

pub number_some : (bs : List ℕ) → begins_number bs ≡ true → 0 < form_number_length bs
unfolding begins_number
number_some [] h = cc
number_some (b ∷ bs) h = longer (b ∷ bs) (mantissa_by (is_digit b) b bs refl h)

pub number_is : (bs : List ℕ) (d f e : ℕ) → d ≡ digits_length bs → f ≡ fraction_length (drop d bs) → e ≡ exponent_length (drop (d + f) bs) → d + f + e ≡ form_number_length bs
unfolding form_number_length mantissa_length
number_is bs d f e x y z =
    let m : d + f ≡ digits_length bs + fraction_length (drop (digits_length bs) bs) = ap (λ n. n + f) x ∙ ap (λ n. digits_length bs + n) (y ∙ ap (λ n. fraction_length (drop n bs)) x) in
    ap (λ n. n + e) m ∙ ap (λ n. digits_length bs + fraction_length (drop (digits_length bs) bs) + n) (z ∙ ap (λ n. exponent_length (drop n bs)) m)
