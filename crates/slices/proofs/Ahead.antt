-- The tokens of a text, one by one
use Rattle.std.proofs.Common.{◌≡◌, refl, ap, ℕ, zero, suc, ◌+◌, ◌<◌, ◌≤◌, Bool, true, false, ◌==◌, if◌then◌else◌, List, [], ◌∷◌, length, Option, Some, None, arith}
use Rattle.std.proofs.lemmas.List.{length-drop}
use Rattle.slices.specs.White.{is_white, Rest, after_white}
use Rattle.slices.specs.CTable.{c_token, sign_of_length, word_length, number_length, sign_length}
use Rattle.slices.specs.Tokens.{Token, Next, finished, no_token, token, next_of, next_at, next_by, without_white, ahead_by, ahead_within, tokens_from}
use Rattle.slices.specs.declared.toks.TokKind.{TokKind}
use Rattle.slices.specs.declared.toks.TokKind.TheVariants.{Word, Number, Text, Symbol}

-- ---- each token takes a byte

abbrev IsPositive : Option (ℕ × TokKind) → Type 0
IsPositive None = Unit {0}
IsPositive (Some t) = 0 < t.0

record Positive (o : Option (ℕ × TokKind)) : Type 0 where
  holds : IsPositive o

either : (b : Bool) (x y : Option (ℕ × TokKind)) → Positive x → Positive y → Positive (if b then x else y)
either true x y p q = p
either false x y p q = q

some_positive : (n : ℕ) (k : TokKind) → 0 < n → Positive (Some (n, k))
some_positive n k h = record { holds = h }

sign_positive : (n : ℕ) → Positive (sign_of_length n)
sign_positive zero = record { holds = tt }
sign_positive (suc n) = record { holds = omega arith }

token_positive : (bs : List ℕ) → Positive (c_token bs)
unfolding c_token
token_positive [] = record { holds = tt }
token_positive (b ∷ bs) =
    either _ _ _ (some_positive (1 + word_length bs) Word (omega arith))
    (either _ _ _ (some_positive (1 + number_length bs) Number (omega arith))
    (either _ _ _ (some_positive 6 Text (omega arith)) (either _ _ _ (some_positive 8 Symbol (omega arith)) (sign_positive (sign_length (b ∷ bs))))))

abbrev Shorter : ℕ → Next → Type 0
Shorter n finished = Unit {0}
Shorter n (no_token from line) = Unit {0}
Shorter n (token t r) = length r.bytes < n

shorter_by : (o : Option (ℕ × TokKind)) (q : Rest) (n : ℕ) → 0 < length q.bytes → length q.bytes ≤ n → IsPositive o → Shorter n (next_by o q)
shorter_by None q n some h p = tt
shorter_by (Some t) q n some h p = omega (arith, length-drop t.0 q.bytes)

shorter_at : (q : Rest) (n : ℕ) (bs : List ℕ) → q.bytes ≡ bs → length q.bytes ≤ n → Shorter n (next_at q bs)
shorter_at q n [] e h = tt
shorter_at q n (b ∷ bs) e h = shorter_by (c_token (b ∷ bs)) q n (let l : length q.bytes ≡ length (b ∷ bs) = ap length e in omega (arith, l)) h (token_positive (b ∷ bs)).holds

abbrev Less : List ℕ → ℕ → ℕ → Type 0
Less bs from line = length (after_white bs from line).bytes ≤ length bs

less_by : (t : Bool) (b : ℕ) (bs : List ℕ) (from line : ℕ) → is_white b ≡ t → ((f l : ℕ) → Less bs f l) → Less (b ∷ bs) from line
less_by true b bs from line e more = rw e (let h : Less bs (from + 1) (if b == 10 then line + 1 else line) = more (from + 1) (if b == 10 then line + 1 else line) in omega (arith, h))
less_by false b bs from line e more = rw e (omega arith)

white_less : (bs : List ℕ) (from line : ℕ) → Less bs from line
white_less [] from line = omega arith
white_less (b ∷ bs) from line = less_by (is_white b) b bs from line refl (λ f l. white_less bs f l)

-- What is left behind a token is shorter.
pub token_shortens : (r : Rest) → Shorter (length r.bytes) (next_of r)
unfolding next_of without_white
token_shortens r = shorter_at (after_white r.bytes r.from r.line) (length r.bytes) (after_white r.bytes r.from r.line).bytes refl (white_less r.bytes r.from r.line)

-- ---- the tokens do not depend on the bound

same_by : (f g : Rest → List Token × Option ℕ) (n : ℕ) (x : Next) → Shorter n x → ((r : Rest) → length r.bytes < n → f r ≡ g r) → ahead_by f x ≡ ahead_by g x
same_by f g n finished s h = refl
same_by f g n (no_token from line) s h = refl
same_by f g n (token t r) s h = ap (λ p. (t ∷ p.0, p.1)) (h r s)

enough : (n m : ℕ) (r : Rest) → length r.bytes < n → length r.bytes < m → ahead_within n r ≡ ahead_within m r
unfolding ahead_within
enough zero m r h k = absurd (omega (arith, h))
enough (suc n) zero r h k = absurd (omega (arith, k))
enough (suc n) (suc m) r h k = same_by (ahead_within n) (ahead_within m) (length r.bytes) (next_of r) (token_shortens r) (λ q l. enough n m q (omega (arith, h, l)) (omega (arith, k, l)))

-- the next token, and the tokens behind it
pub tokens_next : (r : Rest) → tokens_from r ≡ ahead_by tokens_from (next_of r)
unfolding tokens_from ahead_within
tokens_next r = same_by (ahead_within (length r.bytes)) tokens_from (length r.bytes) (next_of r) (token_shortens r) (λ q l. enough (length r.bytes) (suc (length q.bytes)) q l (omega arith))
