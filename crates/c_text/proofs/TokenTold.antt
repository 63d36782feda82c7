-- A token with `_` in it is a name
use Rattle.std.proofs.Common.{◌≡◌, refl, sym, ◌∙◌, ap, subst, ℕ, zero, suc, ◌+◌, ◌<◌, Bool, true, false, ◌&&◌, not, ◌==◌, if◌then◌else◌, List, [], ◌∷◌, ◌++◌, length, take, slice_index, Option, Some, None, codes, arith}
use Rattle.std.specs.List.{starts_with}
use Rattle.std.proofs.lemmas.Bool.{eqb-true, true≢false}
use Rattle.std.proofs.lemmas.Slice.Eq.{bytes_eq-Decides}
use Rattle.slices.specs.White.{Rest, after_white}
use Rattle.slices.specs.CTable.{is_letter, is_digit, is_inside_word, is_sign, span, word_length, digits_length, number_length, sign_length, same_bytes, sign_of_length, c_token}
use Rattle.slices.specs.Tokens.{Token, Next, finished, no_token, token, next_of, next_at, next_by, without_white, ahead_by, ahead_within, tokens_from}
use Rattle.slices.specs.declared.toks.TokKind.{TokKind}
use Rattle.c_text.specs.Lowest.{first, second}
use Rattle.c_text.specs.Lawful.{all_inside, is_name}
use Rattle.c_text.specs.Stream.{Stream}
use Rattle.c_text.proofs.Eats.{Eats, first_eaten, shift_ok, none_eaten}
use Rattle.c_text.proofs.Apart.{both}

-- no `_` is among the bytes
abbrev pub no_score : List ℕ → Bool
no_score [] = true
no_score (b ∷ bs) = not (b == 95) && no_score bs

pub data IsTok (w : List ℕ) : Type 0 where
  name : is_name w ≡ true → IsTok w
  other : no_score w ≡ true → IsTok w

word_inside : (bs : List ℕ) → all_inside (take (span is_inside_word bs) bs) ≡ true
word_inside [] = refl
word_inside (b ∷ bs) = word_by (is_inside_word b) b bs refl (word_inside bs)
  where
    word_by : (t : Bool) (b : ℕ) (bs : List ℕ) → is_inside_word b ≡ t → all_inside (take (span is_inside_word bs) bs) ≡ true → all_inside (take (span is_inside_word (b ∷ bs)) (b ∷ bs)) ≡ true
    word_by true b bs e more = rw e (rw e more)
    word_by false b bs e more = rw e refl

digit_no_score : (b : ℕ) → is_digit b ≡ true → not (b == 95) ≡ true
digit_no_score b h = score_by (b == 95) b refl h
  where
    score_by : (t : Bool) (b : ℕ) → (b == 95) ≡ t → is_digit b ≡ true → not t ≡ true
    score_by true b e h = absurd (true≢false (sym h ∙ ap is_digit (eqb-true b 95 e)))
    score_by false b e h = refl

digits_no_score : (bs : List ℕ) → no_score (take (span is_digit bs) bs) ≡ true
digits_no_score [] = refl
digits_no_score (b ∷ bs) = digits_by (is_digit b) b bs refl (digits_no_score bs)
  where
    digits_by : (t : Bool) (b : ℕ) (bs : List ℕ) → is_digit b ≡ t → no_score (take (span is_digit bs) bs) ≡ true → no_score (take (span is_digit (b ∷ bs)) (b ∷ bs)) ≡ true
    digits_by true b bs e more = rw e (both (not (b == 95)) _ (digit_no_score b e) more)
    digits_by false b bs e more = rw e refl

half_no_score : (bs : List ℕ) → slice_index bs (span is_digit bs) ≡ 117 → no_score (take (span is_digit bs + 1) bs) ≡ true
half_no_score [] h = refl
half_no_score (b ∷ bs) h = half_by (is_digit b) b bs refl h (half_no_score bs)
  where
    half_by : (t : Bool) (b : ℕ) (bs : List ℕ) → is_digit b ≡ t → slice_index (b ∷ bs) (span is_digit (b ∷ bs)) ≡ 117 → (slice_index bs (span is_digit bs) ≡ 117 → no_score (take (span is_digit bs + 1) bs) ≡ true)
        → no_score (take (span is_digit (b ∷ bs) + 1) (b ∷ bs)) ≡ true
    half_by true b bs e h more =
        let k : suc (span is_digit bs) + 1 ≡ suc (span is_digit bs + 1) = omega arith in
        rw e (rw k (both (not (b == 95)) _ (digit_no_score b e) (more (rw e at h))))
    half_by false b bs e h more =
        let u : b ≡ 117 = rw e at h in
        rw e (rw u refl)

number_no_score : (t : Bool) (bs : List ℕ) → (slice_index bs (span is_digit bs) == 117) ≡ t → no_score (take (if t then span is_digit bs + 1 else span is_digit bs) bs) ≡ true
number_no_score true bs e = half_no_score bs (eqb-true (slice_index bs (span is_digit bs)) 117 e)
number_no_score false bs e = digits_no_score bs

-- what a token may be
abbrev TokAt : List ℕ → Option (ℕ × TokKind) → Type 0
TokAt bs None = Unit {0}
TokAt bs (Some t) = IsTok (take t.0 bs)

record TokOf (bs : List ℕ) (o : Option (ℕ × TokKind)) : Type 0 where
  tok : TokAt bs o

tok_if : (t : Bool) (bs : List ℕ) (x y : Option (ℕ × TokKind)) → (t ≡ true → TokOf bs x) → (t ≡ false → TokOf bs y) → TokOf bs (if t then x else y)
tok_if true bs x y f g = f refl
tok_if false bs x y f g = g refl

prefix_same : (needle bs : List ℕ) → starts_with same_bytes bs needle ≡ true → take (length needle) bs ≡ needle
prefix_same needle bs h = sym ((bytes_eq-Decides needle (take (length needle) bs)).0 h)

not_score : (b : ℕ) → (b ≡ 95 → ⊥) → not (b == 95) ≡ true
not_score b h = score_by (b == 95) b refl h
  where
    score_by : (t : Bool) (b : ℕ) → (b == 95) ≡ t → (b ≡ 95 → ⊥) → not t ≡ true
    score_by true b e h = absurd (h (eqb-true b 95 e))
    score_by false b e h = refl

sign_tok : (b : ℕ) (bs : List ℕ) → (b ≡ 95 → ⊥) → TokOf (b ∷ bs) (sign_of_length (if b == 43 && slice_index bs 0 == 43 then 2 else if is_sign b then 1 else 0))
sign_tok b bs h = sign_by (b == 43 && slice_index bs 0 == 43) (is_sign b) b bs refl h
  where
    second_plus : (bs : List ℕ) → slice_index bs 0 ≡ 43 → no_score (take 1 bs) ≡ true
    second_plus [] e = refl
    second_plus (c ∷ cs) e = rw e refl

    sign_by : (t u : Bool) (b : ℕ) (bs : List ℕ) → (b == 43 && slice_index bs 0 == 43) ≡ t → (b ≡ 95 → ⊥) → TokOf (b ∷ bs) (sign_of_length (if t then 2 else if u then 1 else 0))
    sign_by true u b bs e h = record { tok = other (both (not (b == 95)) _ (not_score b h) (second_plus bs (eqb-true (slice_index bs 0) 43 (second (b == 43) _ e)))) }
    sign_by false true b bs e h = record { tok = other (both (not (b == 95)) true (not_score b h) refl) }
    sign_by false false b bs e h = record { tok = tt }

-- each token that begins these bytes
any_tok : (bs : List ℕ) → TokOf bs (c_token bs)
unfolding c_token word_length number_length digits_length sign_length
any_tok [] = record { tok = tt }
any_tok (b ∷ bs) =
    tok_if (is_letter b) (b ∷ bs) _ _ (λ l. record { tok = word_tok b bs l })
    (λ no_letter. tok_if (is_digit b) (b ∷ bs) _ _ (λ d. record { tok = number_tok b bs d })
    (λ e. tok_if (starts_with same_bytes (b ∷ bs) (codes "\"fr.h\"")) (b ∷ bs) _ _ (λ h. record { tok = other (ap no_score (prefix_same (codes "\"fr.h\"") (b ∷ bs) h)) })
    (λ f. tok_if (starts_with same_bytes (b ∷ bs) (codes "#include")) (b ∷ bs) _ _ (λ h. record { tok = other (ap no_score (prefix_same (codes "#include") (b ∷ bs) h)) })
    (λ g. sign_tok b bs (λ e. true≢false (sym (ap is_letter e) ∙ no_letter))))))
  where
    word_tok : (b : ℕ) (bs : List ℕ) → is_letter b ≡ true → IsTok (take (1 + span is_inside_word bs) (b ∷ bs))
    word_tok b bs l = let k : 1 + span is_inside_word bs ≡ suc (span is_inside_word bs) = omega arith in rw k (name (both (is_letter b) _ l (word_inside bs)))

    number_tok : (b : ℕ) (bs : List ℕ) → is_digit b ≡ true
        → IsTok (take (1 + (if slice_index bs (span is_digit bs) == 117 then span is_digit bs + 1 else span is_digit bs)) (b ∷ bs))
    number_tok b bs d =
        let n = if slice_index bs (span is_digit bs) == 117 then span is_digit bs + 1 else span is_digit bs in
        let k : 1 + n ≡ suc n = omega arith in
        subst (λ m. IsTok (take m (b ∷ bs))) (sym k) (other (both (not (b == 95)) _ (digit_no_score b d) (number_no_score (slice_index bs (span is_digit bs) == 117) bs refl)))

-- ---- all tokens

abbrev pub AllToks : List Token → Type 0
AllToks [] = Unit {0}
AllToks (t ∷ ts) = IsTok t.text × AllToks ts

abbrev NextTok : Next → Type 0
NextTok finished = Unit {0}
NextTok (no_token from line) = Unit {0}
NextTok (token t r) = IsTok t.text

next_by_tok : (o : Option (ℕ × TokKind)) (r : Rest) → TokAt r.bytes o → NextTok (next_by o r)
next_by_tok None r h = tt
next_by_tok (Some t) r h = h

next_at_tok : (r : Rest) (bs : List ℕ) → r.bytes ≡ bs → NextTok (next_at r bs)
next_at_tok r [] e = tt
next_at_tok r (b ∷ bs) e = next_by_tok (c_token (b ∷ bs)) r (subst (λ l. TokAt l (c_token (b ∷ bs))) (sym e) (any_tok (b ∷ bs)).tok)

next_tok : (r : Rest) → NextTok (next_of r)
unfolding next_of without_white
next_tok r = next_at_tok (after_white r.bytes r.from r.line) (after_white r.bytes r.from r.line).bytes refl

ahead_toks : (more : Rest → List Token × Option ℕ) (n : Next) → NextTok n → ((r : Rest) → AllToks (more r).0) → AllToks (ahead_by more n).0
ahead_toks more finished h k = tt
ahead_toks more (no_token from line) h k = tt
ahead_toks more (token t r) h k = (h, k r)

within_toks : (n : ℕ) (r : Rest) → AllToks (ahead_within n r).0
unfolding ahead_within
within_toks zero r = tt
within_toks (suc n) r = ahead_toks (ahead_within n) (next_of r) (next_tok r) (within_toks n)

pub all_toks : (r : Rest) → AllToks (tokens_from r).0
unfolding tokens_from
all_toks r = within_toks (suc (length r.bytes)) r

pub toks_left : (ws : List (List ℕ)) (s r : Stream) → Eats ws s r → AllToks s.tokens → AllToks r.tokens
toks_left [] s r e h = subst (λ m. AllToks m.tokens) (none_eaten s r e) h
toks_left (w ∷ ws) s r e h = let p = first_eaten w ws s r e in toks_left ws p.1 r p.4 (subst AllToks (shift_ok s (p.0, p.1) p.2) h).1

-- ---- names

score_behind : (name : List ℕ) → no_score (name ++ codes "_X") ≡ false
score_behind [] = refl
score_behind (b ∷ bs) = rw (score_behind bs) (never (not (b == 95)))
  where
    never : (b : Bool) → (b && false) ≡ false
    never true = refl
    never false = refl

inside_front : (bs cs : List ℕ) → all_inside (bs ++ cs) ≡ true → all_inside bs ≡ true
inside_front [] cs h = refl
inside_front (b ∷ bs) cs h = both (is_inside_word b) _ (first (is_inside_word b) _ h) (inside_front bs cs (second (is_inside_word b) _ h))

name_front : (name : List ℕ) → 0 < length name → is_name (name ++ codes "_X") ≡ true → is_name name ≡ true
name_front [] some h = absurd (omega (arith, some))
name_front (b ∷ bs) some h = both (is_letter b) _ (first (is_letter b) _ h) (inside_front bs (codes "_X") (second (is_letter b) _ h))

pub name_of_token : (w front : List ℕ) → IsTok w → w ≡ front ++ codes "_X" → 0 < length front → is_name front ≡ true
name_of_token w front (name h) e some = name_front front some (subst (λ w. is_name w ≡ true) e h)
name_of_token w front (other h) e some = absurd (true≢false (sym (subst (λ w. no_score w ≡ true) e h) ∙ score_behind front))
