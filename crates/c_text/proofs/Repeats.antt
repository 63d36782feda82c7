-- Reading one after the other
use Rattle.std.proofs.Common.{◌≡◌, refl, ◌∙◌, ap, ℕ, zero, suc, ◌<◌, ◌≤◌, Bool, true, false, List, [], ◌∷◌, length, Ok, if◌then◌else◌, arith}
use Rattle.std.specs.Str.{bytes_eq}
use Rattle.slices.specs.Tokens.{Token}
use Rattle.c_text.specs.declared.refusal.ReadFault.{ReadFault}
use Rattle.c_text.specs.Stream.{Stream, Read, Fails, ◌>>=◌, repeat, repeat_while, text_ahead, text_ahead_by, is_ahead}
use Rattle.c_text.specs.Units.{is_more, is_more_by}
use Rattle.c_text.proofs.ReadLaws.{fails_through, fails_as}

module _ {A : Type 0} (more : A → Stream → Bool) (one : A → Stream → Read A) where
  pub stops : (n : ℕ) (a : A) (s : Stream) → more a s ≡ false → repeat_while more one n a s ≡ Ok (a, s)
  unfolding repeat_while
  stops zero a s e = refl
  stops (suc n) a s e = ap (λ b. if b then (one a s >>= λ x. repeat_while more one n x.0 x.1) else Ok (a, s)) e

  pub takes : (n : ℕ) (a : A) (s : Stream) → more a s ≡ true → repeat_while more one (suc n) a s ≡ (one a s >>= λ x. repeat_while more one n x.0 x.1)
  unfolding repeat_while
  takes n a s e = ap (λ b. if b then (one a s >>= λ x. repeat_while more one n x.0 x.1) else Ok (a, s)) e

  -- One more was read: with fewer tokens left, fewer turns are enough.
  pub while_one_more : (m l l' : ℕ) (whole : Read A) (a : A) (s : Stream) (x : A × Stream)
      → l ≤ m → l' < l → whole ≡ repeat_while more one m a s → more a s ≡ true → one a s ≡ Ok x → (k : ℕ) × (l' ≤ k) × (whole ≡ repeat_while more one k x.0 x.1)
  while_one_more zero l l' whole a s x h k w e o = absurd (omega (arith, h, k))
  while_one_more (suc m) l l' whole a s x h k w e o = (m, omega (arith, h, k), w ∙ takes m a s e ∙ ap (λ r. r >>= λ x. repeat_while more one m x.0 x.1) o)

  -- One more can't be read.
  pub while_none_more : (f : ReadFault) (m l : ℕ) (whole : Read A) (a : A) (s : Stream)
      → 0 < l → l ≤ m → whole ≡ repeat_while more one m a s → more a s ≡ true → Fails f (one a s) → Fails f whole
  while_none_more f zero l whole a s z h w e o = absurd (omega (arith, h, z))
  while_none_more f (suc m) l whole a s z h w e o = fails_as f _ whole (w ∙ takes m a s e) (fails_through f (one a s) (λ x. repeat_while more one m x.0 x.1) o)

  -- no more is to be read
  pub while_all_read : (m : ℕ) (whole : Read A) (a : A) (s : Stream) → whole ≡ repeat_while more one m a s → more a s ≡ false → whole ≡ Ok (a, s)
  while_all_read m whole a s w e = w ∙ stops m a s e

-- the same where the test is of what is ahead alone
pub one_more : {A : Type 0} (more : Stream → Bool) (one : A → Stream → Read A) (m l l' : ℕ) (whole : Read A) (a : A) (s : Stream) (x : A × Stream)
    → l ≤ m → l' < l → whole ≡ repeat more one m a s → more s ≡ true → one a s ≡ Ok x → (k : ℕ) × (l' ≤ k) × (whole ≡ repeat more one k x.0 x.1)
one_more more one = while_one_more (λ _ s. more s) one

pub none_more : {A : Type 0} (f : ReadFault) (more : Stream → Bool) (one : A → Stream → Read A) (m l : ℕ) (whole : Read A) (a : A) (s : Stream)
    → 0 < l → l ≤ m → whole ≡ repeat more one m a s → more s ≡ true → Fails f (one a s) → Fails f whole
none_more f more one = while_none_more (λ _ s. more s) one f

pub all_read : {A : Type 0} (more : Stream → Bool) (one : A → Stream → Read A) (m : ℕ) (whole : Read A) (a : A) (s : Stream) → whole ≡ repeat more one m a s → more s ≡ false → whole ≡ Ok (a, s)
all_read more one = while_all_read (λ _ s. more s) one

some_by : (ts : List Token) (b : ℕ) (bs : List ℕ) → bytes_eq (text_ahead_by ts) (b ∷ bs) ≡ true → 0 < length ts
some_by [] b bs e = cc
some_by (t ∷ ts) b bs e = omega arith

-- where a word is ahead a token is left
pub some_ahead : (s : Stream) (b : ℕ) (bs : List ℕ) → is_ahead (b ∷ bs) s ≡ true → 0 < length s.tokens
unfolding text_ahead
some_ahead s b bs e = some_by s.tokens b bs e

more_by : (ts : List Token) → is_more_by ts ≡ true → 0 < length ts
more_by [] e = cc
more_by (t ∷ ts) e = omega arith

pub some_more : (s : Stream) → is_more s ≡ true → 0 < length s.tokens
unfolding is_more
some_more s e = more_by s.tokens e
