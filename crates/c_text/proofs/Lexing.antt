-- The tokens of a text in pieces are its words and signs
use Rattle.std.proofs.Common.{◌≡◌, refl, sym, ◌∙◌, ap, subst, ℕ, suc, ◌+◌, ◌<◌, ◌≤◌, ◌^◌, Bool, true, false, ◌&&◌, ◌||◌, not, ◌==◌, nat_le, if◌then◌else◌, List, [], ◌∷◌, ◌++◌, length, take, drop, slice_index, Some, None, codes, decimal, append_assoc, arith, leb-true}
use Rattle.std.specs.Str.{all_ascii_digits}
use Rattle.std.proofs.lemmas.Bool.{eqb-true, lt-leb, true≢false}
use Rattle.std.proofs.lemmas.List.{length-append}
use Rattle.std.proofs.lemmas.Fmt.{digits_decimal}
use Rattle.std.proofs.Math.Seq.{take-append_seam, drop-append_seam}
use Rattle.slices.specs.White.{is_white, Rest}
use Rattle.slices.specs.CTable.{is_letter, is_digit, is_inside_word, span, word_length, digits_length, number_length, sign_length, c_token}
use Rattle.slices.specs.Tokens.{token, next_of, without_white, ahead_by, tokens_from}
use Rattle.slices.specs.declared.toks.TokKind.{TokKind}
use Rattle.slices.specs.declared.toks.TokKind.TheVariants.{Word, Number, Text, Symbol}
use Rattle.slices.proofs.Ahead.{tokens_next}
use Rattle.c_text.specs.Lowest.{first, second}
use Rattle.c_text.specs.Lawful.{all_inside, is_name}
use Rattle.c_text.specs.Spelling.{texts}
use Rattle.c_text.proofs.NumberLaws.{own, eqb_ne}

abbrev rest_at : List ℕ → ℕ → ℕ → Rest
rest_at bs from line = record { bytes = bs; from = from; line = line }

-- wherever they stand, these bytes are these words
pub record Lexes (bs : List ℕ) (ws : List (List ℕ)) : Type 0 where
  pub words : (from line : ℕ) → texts (tokens_from (rest_at bs from line)).0 ≡ ws
  pub nothing_else : (from line : ℕ) → (tokens_from (rest_at bs from line)).1 ≡ None

at_end : (from line : ℕ) → tokens_from (rest_at [] from line) ≡ ([], None)
unfolding next_of without_white
at_end from line = tokens_next (rest_at [] from line)

pub lex_end : Lexes [] []
lex_end = record { words = λ from line. ap (λ p. texts p.0) (at_end from line); nothing_else = λ from line. ap (λ p. p.1) (at_end from line) }

-- ---- white space

white_next : (b : ℕ) (bs : List ℕ) (from line : ℕ) → is_white b ≡ true → next_of (rest_at (b ∷ bs) from line) ≡ next_of (rest_at bs (from + 1) (if b == 10 then line + 1 else line))
unfolding next_of without_white
white_next b bs from line h = rw h refl

white_tokens : (b : ℕ) (bs : List ℕ) (from line : ℕ) → is_white b ≡ true → tokens_from (rest_at (b ∷ bs) from line) ≡ tokens_from (rest_at bs (from + 1) (if b == 10 then line + 1 else line))
white_tokens b bs from line h =
    tokens_next (rest_at (b ∷ bs) from line) ∙ ap (ahead_by tokens_from) (white_next b bs from line h) ∙ sym (tokens_next (rest_at bs (from + 1) (if b == 10 then line + 1 else line)))

lex_white : (b : ℕ) (bs : List ℕ) (ws : List (List ℕ)) → is_white b ≡ true → Lexes bs ws → Lexes (b ∷ bs) ws
lex_white b bs ws h l =
    record {
      words = λ from line. ap (λ p. texts p.0) (white_tokens b bs from line h) ∙ l.words (from + 1) (if b == 10 then line + 1 else line);
      nothing_else = λ from line. ap (λ p. p.1) (white_tokens b bs from line h) ∙ l.nothing_else (from + 1) (if b == 10 then line + 1 else line);
    }

abbrev pub all_white : List ℕ → Bool
all_white [] = true
all_white (b ∷ bs) = is_white b && all_white bs

pub lex_gap : (bs rest : List ℕ) (ws : List (List ℕ)) → all_white bs ≡ true → Lexes rest ws → Lexes (bs ++ rest) ws
lex_gap [] rest ws h l = l
lex_gap (b ∷ bs) rest ws h l = lex_white b (bs ++ rest) ws (first (is_white b) _ h) (lex_gap bs rest ws (second (is_white b) _ h) l)

-- ---- tokens

token_here : (b : ℕ) (bs : List ℕ) (n : ℕ) (k : TokKind) (from line : ℕ) → is_white b ≡ false → c_token (b ∷ bs) ≡ Some (n, k)
    → next_of (rest_at (b ∷ bs) from line) ≡ token (record { text = take n (b ∷ bs); from = from; line = line; kind = k }) (rest_at (drop n (b ∷ bs)) (from + n) line)
unfolding next_of without_white
token_here b bs n k from line h e = rw h (rw e refl)

word_tokens : (b : ℕ) (bs rest : List ℕ) (n : ℕ) (k : TokKind) (from line : ℕ) → is_white b ≡ false → c_token (b ∷ (bs ++ rest)) ≡ Some (n, k) → n ≡ suc (length bs)
    → tokens_from (rest_at (b ∷ (bs ++ rest)) from line)
    ≡ (record { text = b ∷ bs; from = from; line = line; kind = k } ∷ (tokens_from (rest_at rest (from + n) line)).0, (tokens_from (rest_at rest (from + n) line)).1)
word_tokens b bs rest n k from line h e l =
    let t : take n (b ∷ (bs ++ rest)) ≡ b ∷ bs = ap (λ m. take m (b ∷ (bs ++ rest))) l ∙ ap (λ xs. b ∷ xs) (take-append_seam bs rest) in
    let d : drop n (b ∷ (bs ++ rest)) ≡ rest = ap (λ m. drop m (b ∷ (bs ++ rest))) l ∙ drop-append_seam bs rest in
    tokens_next (rest_at (b ∷ (bs ++ rest)) from line)
    ∙ ap (ahead_by tokens_from) (token_here b (bs ++ rest) n k from line h e)
    ∙ ap (λ xs. ahead_by tokens_from (token (record { text = xs; from = from; line = line; kind = k }) (rest_at (drop n (b ∷ (bs ++ rest))) (from + n) line))) t
    ∙ ap (λ xs. ahead_by tokens_from (token (record { text = b ∷ bs; from = from; line = line; kind = k }) (rest_at xs (from + n) line))) d

pub lex_word : (b : ℕ) (bs rest : List ℕ) (ws : List (List ℕ)) (n : ℕ) (k : TokKind) → is_white b ≡ false → c_token (b ∷ (bs ++ rest)) ≡ Some (n, k) → n ≡ suc (length bs) → Lexes rest ws → Lexes (b ∷ (bs ++ rest)) ((b ∷ bs) ∷ ws)
lex_word b bs rest ws n k h e l more =
    record {
      words = λ from line. ap (λ p. texts p.0) (word_tokens b bs rest n k from line h e l) ∙ ap (λ xs. (b ∷ bs) ∷ xs) (more.words (from + n) line);
      nothing_else = λ from line. ap (λ p. p.1) (word_tokens b bs rest n k from line h e l) ∙ more.nothing_else (from + n) line;
    }

-- ---- words and numbers

-- no word goes on here
abbrev pub outside_word : List ℕ → Bool
outside_word [] = true
outside_word (b ∷ bs) = not (is_inside_word b)

is_not : (a : Bool) → not a ≡ true → a ≡ false
is_not true h = sym h
is_not false h = refl

span_over : (p : ℕ → Bool) (bs rest : List ℕ) → span p rest ≡ 0 → (all : List ℕ → Bool) → ((b : ℕ) (bs : List ℕ) → all (b ∷ bs) ≡ true → (p b ≡ true) × (all bs ≡ true)) → all bs ≡ true → span p (bs ++ rest) ≡ length bs
span_over p [] rest h all step a = h
span_over p (b ∷ bs) rest h all step a = let s = step b bs a in rw s.0 (ap suc (span_over p bs rest h all step s.1))

no_word : (rest : List ℕ) → outside_word rest ≡ true → span is_inside_word rest ≡ 0
no_word [] h = refl
no_word (b ∷ bs) h = rw (is_not (is_inside_word b) h) refl

no_digit_by : (l d : Bool) → (l || d) ≡ false → d ≡ false
no_digit_by true d h = cc
no_digit_by false d h = h

no_digit : (rest : List ℕ) → outside_word rest ≡ true → span is_digit rest ≡ 0
no_digit [] h = refl
no_digit (b ∷ bs) h = rw (no_digit_by (is_letter b) (is_digit b) (is_not (is_inside_word b) h)) refl

or_first : (a b : Bool) → a ≡ true → (a || b) ≡ true
or_first a b h = cc

pub or_cases : (a b : Bool) (P : Type 0) → (a ≡ true → P) → (b ≡ true → P) → (a || b) ≡ true → P
or_cases true b P f g h = f refl
or_cases false b P f g h = g h

from_zero : (b : ℕ) → is_inside_word b ≡ true → 48 ≤ b
from_zero b h =
    or_cases (is_letter b) (is_digit b) (48 ≤ b)
    (λ l. or_cases (nat_le 97 b && nat_le b 122 || nat_le 65 b && nat_le b 90) (b == 95) (48 ≤ b)
    (λ m. or_cases (nat_le 97 b && nat_le b 122) (nat_le 65 b && nat_le b 90) (48 ≤ b)
    (λ x. let k = leb-true 97 b (first (nat_le 97 b) _ x) in omega (arith, k)) (λ x. let k = leb-true 65 b (first (nat_le 65 b) _ x) in omega (arith, k)) m)
    (λ x. let k = eqb-true b 95 x in omega (arith, k)) l)
    (λ d. leb-true 48 b (first (nat_le 48 b) _ d)) h

letter_not_white : (b : ℕ) → is_inside_word b ≡ true → is_white b ≡ false
unfolding is_white
letter_not_white b h =
    let k = from_zero b h in
    rw (eqb_ne b 32 (λ e. omega (arith, e, k))) (rw (eqb_ne b 9 (λ e. omega (arith, e, k))) (rw (eqb_ne b 13 (λ e. omega (arith, e, k))) (rw (eqb_ne b 10 (λ e. omega (arith, e, k))) refl)))

pub lex_name : (w rest : List ℕ) (ws : List (List ℕ)) → is_name w ≡ true → outside_word rest ≡ true → Lexes rest ws → Lexes (w ++ rest) (w ∷ ws)
unfolding c_token word_length
lex_name [] rest ws h o l = cc
lex_name (b ∷ bs) rest ws h o l =
    let letter = first (is_letter b) (all_inside bs) h in
    let n : span is_inside_word (bs ++ rest) ≡ length bs = span_over is_inside_word bs rest (no_word rest o) all_inside (λ b bs a. (first (is_inside_word b) _ a, second (is_inside_word b) _ a)) (second (is_letter b) (all_inside bs) h) in
    lex_word b bs rest ws (1 + length bs) Word (letter_not_white b (or_first (is_letter b) (is_digit b) letter)) (rw letter (rw n refl)) (omega arith) l

abbrev pub all_digits : List ℕ → Bool
all_digits [] = true
all_digits (b ∷ bs) = is_digit b && all_digits bs

digit_no_letter : (b : ℕ) → is_digit b ≡ true → is_letter b ≡ false
digit_no_letter b h =
    let k = leb-true b 57 (second (nat_le 48 b) _ h) in
    rw (lt-leb 97 b (omega (arith, k))) (rw (lt-leb 65 b (omega (arith, k))) (rw (eqb_ne b 95 (λ e. omega (arith, e, k))) refl))

pub or_second : (a b : Bool) → b ≡ true → (a || b) ≡ true
or_second true b h = refl
or_second false b h = h

digit_not_white : (b : ℕ) → is_digit b ≡ true → is_white b ≡ false
digit_not_white b h = letter_not_white b (or_second (is_letter b) (is_digit b) h)

seam : (ds rest : List ℕ) → slice_index (ds ++ rest) (length ds) ≡ slice_index rest 0
seam [] rest = refl
seam (d ∷ ds) rest = seam ds rest

no_u : (rest : List ℕ) → outside_word rest ≡ true → (slice_index rest 0 == 117) ≡ false
no_u [] h = refl
no_u (b ∷ bs) h = eqb_ne b 117 (λ e. let k = sym (is_not (is_inside_word b) h) ∙ ap is_inside_word e in true≢false (sym k))

digits_over : (ds rest : List ℕ) → span is_digit rest ≡ 0 → all_digits ds ≡ true → span is_digit (ds ++ rest) ≡ length ds
digits_over ds rest o h = span_over is_digit ds rest o all_digits (λ b bs a. (first (is_digit b) _ a, second (is_digit b) _ a)) h

pub lex_digits : (w rest : List ℕ) (ws : List (List ℕ)) → 0 < length w → all_digits w ≡ true → outside_word rest ≡ true → Lexes rest ws → Lexes (w ++ rest) (w ∷ ws)
unfolding c_token number_length digits_length
lex_digits [] rest ws some h o l = absurd (omega (arith, some))
lex_digits (b ∷ bs) rest ws some h o l =
    let digit = first (is_digit b) (all_digits bs) h in
    let n = digits_over bs rest (no_digit rest o) (second (is_digit b) (all_digits bs) h) in
    lex_word b bs rest ws (1 + length bs) Number (digit_not_white b digit) (rw (digit_no_letter b digit) (rw digit (rw n (rw (seam bs rest) (rw (no_u rest o) refl))))) (omega arith) l

pub lex_half : (w rest : List ℕ) (ws : List (List ℕ)) → 0 < length w → all_digits w ≡ true → Lexes rest ws → Lexes ((w ++ codes "u") ++ rest) ((w ++ codes "u") ∷ ws)
unfolding c_token number_length digits_length
lex_half [] rest ws some h l = absurd (omega (arith, some))
lex_half (b ∷ bs) rest ws some h l =
    let digit = first (is_digit b) (all_digits bs) h in
    let n = digits_over bs (117 ∷ rest) refl (second (is_digit b) (all_digits bs) h) in
    let e : length (bs ++ 117 ∷ []) ≡ length bs + 1 = length-append bs (117 ∷ []) in
    lex_word b (bs ++ 117 ∷ []) rest ws (1 + (length bs + 1)) Number (digit_not_white b digit) (rw (append_assoc bs (117 ∷ []) rest) (rw (digit_no_letter b digit) (rw digit (rw n (rw (seam bs (117 ∷ rest)) refl))))) (omega (arith, e)) l

ascii_digits : (ds : List ℕ) → all_ascii_digits ds ≡ true → all_digits ds ≡ true
ascii_digits [] h = refl
ascii_digits (d ∷ ds) h = rw (first (is_digit d) (all_ascii_digits ds) h) (ascii_digits ds (second (is_digit d) (all_ascii_digits ds) h))

pub decimal_digits : (n : ℕ) → n < 2 ^ 64 → all_digits (decimal n) ≡ true
decimal_digits n h = ascii_digits (decimal n) (digits_decimal own n h)

digits_inside : (ds : List ℕ) → all_digits ds ≡ true → all_inside ds ≡ true
digits_inside [] h = refl
digits_inside (d ∷ ds) h = rw (or_second (is_letter d) (is_digit d) (first (is_digit d) _ h)) (digits_inside ds (second (is_digit d) _ h))

pub decimal_inside : (n : ℕ) → n < 2 ^ 64 → all_inside (decimal n) ≡ true
decimal_inside n h = digits_inside (decimal n) (decimal_digits n h)

-- ---- signs

-- any sign but `+`
abbrev pub is_plain : ℕ → Bool
is_plain b = b == 123 || (b == 125 || (b == 40 || (b == 41 || (b == 91 || (b == 93 || (b == 61 || (b == 44 || (b == 59 || (b == 42 || (b == 38 || b == 60))))))))))

pub lex_sign : (b : ℕ) (rest : List ℕ) (ws : List (List ℕ)) → is_plain b ≡ true → Lexes rest ws → Lexes (b ∷ rest) ((b ∷ []) ∷ ws)
unfolding is_white c_token sign_length
lex_sign b rest ws h l =
    or_cases (b == 123) _ _ (λ e. same b 123 e refl refl)
    (or_cases (b == 125) _ _ (λ e. same b 125 e refl refl)
    (or_cases (b == 40) _ _ (λ e. same b 40 e refl refl)
    (or_cases (b == 41) _ _ (λ e. same b 41 e refl refl)
    (or_cases (b == 91) _ _ (λ e. same b 91 e refl refl)
    (or_cases (b == 93) _ _ (λ e. same b 93 e refl refl)
    (or_cases (b == 61) _ _ (λ e. same b 61 e refl refl)
    (or_cases (b == 44) _ _ (λ e. same b 44 e refl refl)
    (or_cases (b == 59) _ _ (λ e. same b 59 e refl refl)
    (or_cases (b == 42) _ _ (λ e. same b 42 e refl refl)
    (or_cases (b == 38) _ _ (λ e. same b 38 e refl refl) (λ e. same b 60 e refl refl))))))))))) h
  where
    same : (b c : ℕ) → (b == c) ≡ true → is_white c ≡ false → c_token (c ∷ rest) ≡ Some (1, Symbol) → Lexes (b ∷ rest) ((b ∷ []) ∷ ws)
    same b c e w t = subst (λ b. Lexes (b ∷ rest) ((b ∷ []) ∷ ws)) (sym (eqb-true b c e)) (lex_word c [] rest ws 1 Symbol w t refl l)

-- `+` before what isn't `+`
pub lex_plus : (b : ℕ) (bs : List ℕ) (ws : List (List ℕ)) → is_inside_word b ≡ true → Lexes (b ∷ bs) ws → Lexes (43 ∷ b ∷ bs) ((43 ∷ []) ∷ ws)
unfolding is_white c_token sign_length
lex_plus b bs ws h l = let k = from_zero b h in lex_word 43 [] (b ∷ bs) ws 1 Symbol refl (rw (eqb_ne b 43 (λ e. omega (arith, e, k))) refl) refl l

pub lex_increment : (rest : List ℕ) (ws : List (List ℕ)) → Lexes rest ws → Lexes (43 ∷ 43 ∷ rest) ((43 ∷ 43 ∷ []) ∷ ws)
unfolding is_white c_token sign_length
lex_increment rest ws l = lex_word 43 (43 ∷ []) rest ws 2 Symbol refl refl refl l

-- `#include` and `"fr.h"`
pub lex_include : (rest : List ℕ) (ws : List (List ℕ)) → Lexes rest ws → Lexes (codes "#include" ++ rest) (codes "#include" ∷ ws)
unfolding is_white c_token
lex_include rest ws l = lex_word 35 (codes "include") rest ws 8 Symbol refl refl refl l

pub lex_header : (rest : List ℕ) (ws : List (List ℕ)) → Lexes rest ws → Lexes (codes "\"fr.h\"" ++ rest) (codes "\"fr.h\"" ∷ ws)
unfolding is_white c_token
lex_header rest ws l = lex_word 34 (codes "fr.h\"") rest ws 6 Text refl refl refl l
