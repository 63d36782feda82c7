-- Strings of digits and the numbers that they write
use Rattle.std.proofs.Common.{◌≡◌, ℕ, zero, suc, ◌+◌, ◌-◌, ◌*◌, ◌^◌, ◌<◌, ◌≤◌, List, [], ◌∷◌, ◌++◌, length, get_or, take, drop, replicate, refl, sym, ◌∙◌, ap, ap₂, subst, arith, true, false, ◌==◌, drop-cons, add-one, append_assoc}
use Rattle.std.proofs.lemmas.List.{take_more, append-nil}
use Rattle.std.proofs.lemmas.Bool.Decides.{nat_tests}
use native.Mathlib.Nat as N
use Rattle.std.specs.Char.{digit_value}
use Rattle.std.specs.Str.Parse.{AllDigits, digits_value_after}
use Rattle.ratio.specs.Digits.{BeginsOtherwise, IsSignificant}
use Rattle.ratio.specs.NumberText.{without_end_zeros, kept_before}

pub value_grows : (n : ℕ) (ds : List ℕ) → n ≤ digits_value_after 10 n ds
value_grows n [] = N.le_refl n
value_grows n (c ∷ cs) = N.le_trans (more n (digit_value c)) (value_grows (n * 10 + digit_value c) cs)
  where
    more : (n d : ℕ) → n ≤ n * 10 + d
    more n d = omega arith

pub value-append : (n : ℕ) (xs ys : List ℕ) → digits_value_after 10 n (xs ++ ys) ≡ digits_value_after 10 (digits_value_after 10 n xs) ys
value-append n [] ys = refl
value-append n (c ∷ cs) ys = value-append (n * 10 + digit_value c) cs ys

pub next : (ds : List ℕ) (i : ℕ) → i < length ds → drop i ds ≡ get_or ds i 0 ∷ drop (i + 1) ds
next ds i h = rw (add-one, drop-cons ds i 0) refl

pub AllDigits-append : (xs ys : List ℕ) → AllDigits 10 xs → AllDigits 10 ys → AllDigits 10 (xs ++ ys)
AllDigits-append [] ys p q = q
AllDigits-append (c ∷ cs) ys p q = (p.0, AllDigits-append cs ys p.1 q)

pub AllDigits-split : (xs ys : List ℕ) → AllDigits 10 (xs ++ ys) → AllDigits 10 xs × AllDigits 10 ys
AllDigits-split [] ys p = (tt, p)
AllDigits-split (c ∷ cs) ys p = let rest = AllDigits-split cs ys p.1 in ((p.0, rest.0), rest.1)

-- a byte at i that is no digit
pub no_digit : (ds : List ℕ) (i : ℕ) (X : Type 0) → i < length ds → (AllDigits 10 ds → AllDigits 10 (drop i ds)) → ¬ (digit_value (get_or ds i 0) < 10) → ¬ (AllDigits 10 ds × X)
no_digit ds i X h f n (p, x) = n (subst (AllDigits 10) (next ds i h) (f p)).0

-- a digit at i with which the number passes
pub too_wide : (ds : List ℕ) (i n value : ℕ) (X : Type 0) → i < length ds → value ≡ digits_value_after 10 n (drop i ds) → ¬ (n * 10 + digit_value (get_or ds i 0) < 2 ^ 127) → ¬ (X × (value < 2 ^ 127))
too_wide ds i n value X h e w (x, g) =
    w (N.lt_of_le_of_lt (value_grows (n * 10 + digit_value (get_or ds i 0)) (drop (i + 1) ds))
    (subst (λ k. k < 2 ^ 127) (e ∙ ap (digits_value_after 10 n) (next ds i h)) g))

-- ---- zeros at the end
pub trimmed_zero : (xs : List ℕ) → without_end_zeros (xs ++ 48 ∷ []) ≡ without_end_zeros xs
trimmed_zero [] = refl
trimmed_zero (c ∷ cs) = ap (kept_before c) (trimmed_zero cs)

one_kept : (c : ℕ) → ¬ (c ≡ 48) → kept_before c [] ≡ c ∷ []
one_kept c h = grind (arith, nat_tests)

all_kept : (a : ℕ) (xs : List ℕ) (c : ℕ) → kept_before a (xs ++ c ∷ []) ≡ a ∷ (xs ++ c ∷ [])
all_kept a [] c = refl
all_kept a (b ∷ ys) c = refl

pub trimmed_other : (xs : List ℕ) (c : ℕ) → ¬ (c ≡ 48) → without_end_zeros (xs ++ c ∷ []) ≡ xs ++ c ∷ []
trimmed_other [] c h = one_kept c h
trimmed_other (a ∷ xs) c h = ap (kept_before a) (trimmed_other xs c h) ∙ all_kept a xs c

last_taken : (ds : List ℕ) (e : ℕ) → 0 < e → e ≤ length ds → take e ds ≡ take (e - 1) ds ++ get_or ds (e - 1) 0 ∷ []
last_taken ds e h g = ap (λ k. take k ds) (one_more e h) ∙ take_more ds (e - 1) 0 (inside e (length ds) h g)
  where
    one_more : (e : ℕ) → 0 < e → e ≡ e - 1 + 1
    one_more e h = omega arith

    inside : (e n : ℕ) → 0 < e → e ≤ n → e - 1 < n
    inside e n h g = omega arith

-- one zero less
pub shorter : (ds : List ℕ) (e : ℕ) → 0 < e → e ≤ length ds → get_or ds (e - 1) 0 ≡ 48 → without_end_zeros (take e ds) ≡ without_end_zeros (take (e - 1) ds)
shorter ds e h g z = ap without_end_zeros (last_taken ds e h g ∙ ap (λ c. take (e - 1) ds ++ c ∷ []) z) ∙ trimmed_zero (take (e - 1) ds)

pub shorter_zeros : (ds : List ℕ) (e : ℕ) → 0 < e → e ≤ length ds → get_or ds (e - 1) 0 ≡ 48 → ((n : ℕ) → length ds ≡ e + n → ds ≡ take e ds ++ replicate n 48)
    → (n : ℕ) → length ds ≡ e - 1 + n → ds ≡ take (e - 1) ds ++ replicate n 48
shorter_zeros ds e h g z f zero k = absurd (omega arith)
shorter_zeros ds e h g z f (suc n) k =
    f n (omega arith) ∙ ap (λ l. l ++ replicate n 48) (last_taken ds e h g ∙ ap (λ c. take (e - 1) ds ++ c ∷ []) z)
    ∙ append_assoc (take (e - 1) ds) (48 ∷ []) (replicate n 48)

pub kept_end : (ds : List ℕ) (e : ℕ) → 0 < e → e ≤ length ds → ¬ (get_or ds (e - 1) 0 ≡ 48) → take e ds ≡ without_end_zeros (take e ds)
kept_end ds e h g z = last_taken ds e h g ∙ sym (ap without_end_zeros (last_taken ds e h g) ∙ trimmed_other (take (e - 1) ds) (get_or ds (e - 1) 0) z)

pub none_left : (ds : List ℕ) (e : ℕ) → e ≤ 0 → take e ds ≡ without_end_zeros (take e ds)
none_left ds zero h = refl
none_left ds (suc e) h = absurd (omega arith)

-- ---- zeros at the end of two strings
kept_more : (c d : ℕ) (ds : List ℕ) → kept_before c (d ∷ ds) ≡ c ∷ (d ∷ ds)
kept_more c d ds = refl

-- a string of zeros behind adds none
pub trimmed-append_zeros : (xs ys : List ℕ) → without_end_zeros ys ≡ [] → without_end_zeros (xs ++ ys) ≡ without_end_zeros xs
trimmed-append_zeros [] ys h = h
trimmed-append_zeros (x ∷ xs) ys h = ap (kept_before x) (trimmed-append_zeros xs ys h)

-- any other keeps what stands before it
pub trimmed-append_digits : (xs ys : List ℕ) → ¬ (without_end_zeros ys ≡ []) → without_end_zeros (xs ++ ys) ≡ xs ++ without_end_zeros ys
trimmed-append_digits [] ys h = refl
trimmed-append_digits (x ∷ xs) ys h = ap (kept_before x) (trimmed-append_digits xs ys h) ∙ go (xs ++ without_end_zeros ys) (some xs (without_end_zeros ys) h)
  where
    some : (xs zs : List ℕ) → ¬ (zs ≡ []) → ¬ (xs ++ zs ≡ [])
    some [] zs n = n
    some (x ∷ xs) zs n = λ e. cc

    go : (zs : List ℕ) → ¬ (zs ≡ []) → kept_before x zs ≡ x ∷ zs
    go [] n = absurd (n refl)
    go (z ∷ zs) n = refl

pub value-zeros : (n k : ℕ) → digits_value_after 10 n (replicate k 48) ≡ n * 10 ^ k
value-zeros n zero = sym (N.mul-one n)
value-zeros n (suc k) = value-zeros (n * 10 + 0) k ∙ ap (λ m. m * 10 ^ k) (N.add-zero (n * 10)) ∙ N.mul_assoc n 10 (10 ^ k) ∙ ap (λ m. n * m) (sym (N.pow-succ' 10 k))

replicate-add : (j k c : ℕ) → replicate j c ++ replicate k c ≡ replicate (j + k) c
replicate-add zero k c = ap (λ n. replicate n c) (sym (N.zero-add k))
replicate-add (suc j) k c = ap (λ l. c ∷ l) (replicate-add j k c) ∙ ap (λ n. replicate n c) (sym (N.suc-add j k))

pub significant_whole : (whole fraction front behind : List ℕ) → front ≡ without_end_zeros whole → behind ≡ without_end_zeros fraction → behind ≡ []
    → ((n : ℕ) → length whole ≡ length front + n → whole ≡ front ++ replicate n 48) → ((n : ℕ) → length fraction ≡ length behind + n → fraction ≡ behind ++ replicate n 48)
    → length front ≤ length whole → length behind ≤ length fraction → IsSignificant whole fraction front behind
significant_whole whole fraction front behind ef eb none dw df lw lf = record {
  kept = ap (λ l. front ++ l) none ∙ append-nil front ∙ ef ∙ sym (trimmed-append_zeros whole fraction (sym eb ∙ none));
  zeros = zeros front behind (length whole - length front) (length fraction - length behind) whole fraction none (dw _ (rest (length front) (length whole) lw)) (df _ (rest (length behind) (length fraction) lf));
  front_short = lw;
  behind_short = lf;
}
  where
    rest : (m n : ℕ) → m ≤ n → n ≡ m + (n - m)
    rest m n h = omega arith

    zeros : (front behind : List ℕ) (j k : ℕ) (w f : List ℕ) → behind ≡ [] → w ≡ front ++ replicate j 48 → f ≡ behind ++ replicate k 48 → w ++ f ≡ (front ++ behind) ++ replicate (j + k) 48
    zeros front behind j k w f none ew ef =
        ap₂ ◌++◌ ew (ef ∙ ap (λ l. l ++ replicate k 48) none) ∙ append_assoc front (replicate j 48) (replicate k 48) ∙ ap (λ l. front ++ l) (replicate-add j k 48)
        ∙ ap (λ l. l ++ replicate (j + k) 48) (sym (ap (λ l. front ++ l) none ∙ append-nil front))

pub significant_point : (whole fraction behind : List ℕ) → behind ≡ without_end_zeros fraction → ¬ (behind ≡ [])
    → ((n : ℕ) → length fraction ≡ length behind + n → fraction ≡ behind ++ replicate n 48) → length behind ≤ length fraction → IsSignificant whole fraction whole behind
significant_point whole fraction behind eb some df lf = record {
  kept = ap (λ l. whole ++ l) eb ∙ sym (trimmed-append_digits whole fraction (λ e. some (eb ∙ e)));
  zeros = ap (λ l. whole ++ l) (df _ (rest (length behind) (length fraction) lf)) ∙ sym (append_assoc whole behind _) ∙ ap (λ n. (whole ++ behind) ++ replicate n 48) (none_dropped (length whole) (length fraction - length behind));
  front_short = N.le_refl (length whole);
  behind_short = lf;
}
  where
    rest : (m n : ℕ) → m ≤ n → n ≡ m + (n - m)
    rest m n h = omega arith

    none_dropped : (w k : ℕ) → k ≡ w - w + k
    none_dropped w k = omega arith

pub empty_from_test : (xs : List ℕ) → (length xs == 0) ≡ true → xs ≡ []
empty_from_test [] h = refl
empty_from_test (x ∷ xs) h = absurd (some (length xs) h)
  where
    some : (n : ℕ) → (suc n == 0) ≡ true → ⊥
    some n h = grind (arith, nat_tests)

pub some_from_test : (xs : List ℕ) → (length xs == 0) ≡ false → ¬ (xs ≡ [])
some_from_test [] h = λ e. apart h
  where
    apart : true ≡ false → ⊥
    apart h = cc
some_from_test (x ∷ xs) h = λ e. cc

-- ---- where digits end
-- a text splits in one way into digits and what begins otherwise
pub same_split : (xs ys zs ws : List ℕ) → xs ++ ys ≡ zs ++ ws → AllDigits 10 xs → BeginsOtherwise ys → AllDigits 10 zs → BeginsOtherwise ws → (xs ≡ zs) × (ys ≡ ws)
same_split [] ys [] ws e dx by dz bw = (refl, e)
same_split [] ys (z ∷ zs) ws e dx by dz bw = absurd (subst BeginsOtherwise e by dz.0)
same_split (x ∷ xs) ys [] ws e dx by dz bw = absurd (subst BeginsOtherwise (sym e) bw dx.0)
same_split (x ∷ xs) ys (z ∷ zs) ws e dx by dz bw =
    let first : x ≡ z = cc in
    let rest : xs ++ ys ≡ zs ++ ws = cc in
    let more = same_split xs ys zs ws rest dx.1 by dz.1 bw in
    (ap₂ ◌∷◌ first more.0, more.1)

all_taken : (xs : List ℕ) (n : ℕ) → n ≡ length xs → take n xs ≡ xs
all_taken xs n e = ap (λ k. take k xs) e ∙ whole xs
  where
    whole : (xs : List ℕ) → take (length xs) xs ≡ xs
    whole [] = refl
    whole (x ∷ xs) = ap (λ l. x ∷ l) (whole xs)

-- a text whose first byte is known
pub begins : (text : List ℕ) (b : ℕ) → 1 ≤ length text → get_or text 0 0 ≡ b → text ≡ b ∷ take (length text - 1) (drop 1 text)
begins [] b h e = absurd (omega arith)
begins (x ∷ xs) b h e = ap (λ c. c ∷ xs) e ∙ ap (λ l. b ∷ l) (sym (all_taken xs (suc (length xs) - 1) (less (length xs))))
  where
    less : (n : ℕ) → suc n - 1 ≡ n
    less n = omega arith
