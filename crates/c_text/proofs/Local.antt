-- Reading looks at the tokens in their order: what was read, and where it is refused, depends on no token behind
use Rattle.std.proofs.Common.{◌≡◌, refl, sym, ◌∙◌, ap, subst, ℕ, zero, suc, ◌+◌, ◌<◌, ◌≤◌, Bool, true, false, if◌then◌else◌, List, [], ◌∷◌, ◌++◌, length, append_assoc, Result, Ok, Err, inl, inr, ◌⊎◌, arith}
use Rattle.slices.specs.Tokens.{Token}
use Rattle.c_text.specs.declared.refusal.KernelKind.{KernelKind}
use Rattle.c_text.specs.declared.refusal.KernelKind.TheVariants as kinds
use Rattle.c_text.specs.declared.refusal.KernelRefusal.{KernelRefusal}
use Rattle.std.specs.Str.{bytes_eq}
use Rattle.std.proofs.lemmas.Bool.{true≢false}
use Rattle.c_text.specs.Stream.{Stream, Read, ◌>>=◌, shift, shift_by, text_ahead, is_ahead, repeat_while}
use Rattle.c_text.proofs.Eats.{bind_ok}
use Rattle.c_text.proofs.Repeats.{stops, takes}

-- what a token is refused for
abbrev pub is_own : KernelKind → Bool
is_own kinds.Syntax = true
is_own kinds.Slot = true
is_own kinds.Bound = true
is_own kinds.TooLong = false
is_own kinds.Lex = false
is_own kinds.Sizes = false
is_own kinds.Memory = false

abbrev pub at : List Token → KernelRefusal → Stream
at ts end = record { tokens = ts; end = end }

-- the same token is next, or none
abbrev pub SameHead : List Token → List Token → Type 0
SameHead [] [] = Unit {0}
SameHead [] (u ∷ us) = ⊥
SameHead (t ∷ ts) [] = ⊥
SameHead (t ∷ ts) (u ∷ us) = t ≡ u

pub same_head : (ts : List Token) → SameHead ts ts
same_head [] = tt
same_head (t ∷ ts) = refl

head_append : (p qs us : List Token) → SameHead qs us → SameHead (p ++ qs) (p ++ us)
head_append [] qs us h = h
head_append (t ∷ p) qs us h = refl

head_kept : (p : List Token) (t : Token) (qs us : List Token) → SameHead (p ++ t ∷ qs) (p ++ t ∷ us)
head_kept p t qs us = head_append p (t ∷ qs) (t ∷ us) refl

-- a value was read: the same is read from the same tokens where the same token follows
pub record Reads {A : Type 0} (f : Stream → Read A) (ts : List Token) (end : KernelRefusal) (a : A) (r : Stream) : Type 0 where
  pub taken : List Token
  pub all : ts ≡ taken ++ r.tokens
  pub kept : r.end ≡ end
  pub same : (q : List Token) (e : KernelRefusal) → SameHead r.tokens q → f (at (taken ++ q) e) ≡ Ok (a, at q e)

-- The refusal: at a token, in its line, such that nothing is read of any tokens that begin with those up to it; or at the
-- end of the tokens, of which alone nothing is read.
pub data Stops {A : Type 0} (f : Stream → Read A) (ts : List Token) (end : KernelRefusal) (e : KernelRefusal) : Type 0 where
  at_token : (p : List Token) (t : Token) (q : List Token) → ts ≡ p ++ t ∷ q → e.line ≡ t.line → is_own e.kind ≡ true → ((q : List Token) (end : KernelRefusal) (x : A × Stream) → f (at (p ++ t ∷ q) end) ≡ Ok x → ⊥) → Stops f ts end e
  at_end : e ≡ end → ((end : KernelRefusal) (x : A × Stream) → f (at ts end) ≡ Ok x → ⊥) → Stops f ts end e

pub record Local {A : Type 0} (f : Stream → Read A) : Type 0 where
  pub ok : (ts : List Token) (end : KernelRefusal) (a : A) (r : Stream) → f (at ts end) ≡ Ok (a, r) → Reads f ts end a r
  pub err : (ts : List Token) (end e : KernelRefusal) → f (at ts end) ≡ Err e → Stops f ts end e

-- the same where the last token that is taken decides, whose line L relates to the value
pub record Takes {A : Type 0} (L : A → ℕ → Type 0) (f : Stream → Read A) (ts : List Token) (end : KernelRefusal) (a : A) (r : Stream) : Type 0 where
  pub before : List Token
  pub last : Token
  pub all : ts ≡ before ++ last ∷ r.tokens
  pub kept : r.end ≡ end
  pub line : L a last.line
  pub same : (q : List Token) (e : KernelRefusal) → f (at (before ++ last ∷ q) e) ≡ Ok (a, at q e)

pub record Firm {A : Type 0} (L : A → ℕ → Type 0) (f : Stream → Read A) : Type 0 where
  pub ok : (ts : List Token) (end : KernelRefusal) (a : A) (r : Stream) → f (at ts end) ≡ Ok (a, r) → Takes L f ts end a r
  pub err : (ts : List Token) (end e : KernelRefusal) → f (at ts end) ≡ Err e → Stops f ts end e

abbrev pub AnyLine : {A : Type 0} → A → ℕ → Type 0
AnyLine a line = Unit {0}

one_more : (p : List Token) (t : Token) (q : List Token) → (p ++ t ∷ []) ++ q ≡ p ++ t ∷ q
one_more p t q = append_assoc p (t ∷ []) q

pub local_of : {A : Type 0} {L : A → ℕ → Type 0} (f : Stream → Read A) → Firm L f → Local f
local_of f h = record {
  ok = λ ts end a r e.
      let t = h.ok ts end a r e in
      record {
        taken = t.before ++ t.last ∷ [];
        all = t.all ∙ sym (one_more t.before t.last r.tokens);
        kept = t.kept;
        same = λ q x s. ap (λ l. f (at l x)) (one_more t.before t.last q) ∙ t.same q x;
      };
  err = h.err;
}

-- fewer tokens are left
pub fewer : {A : Type 0} {L : A → ℕ → Type 0} (f : Stream → Read A) → Firm L f → (ts : List Token) (end : KernelRefusal) (a : A) (r : Stream) → f (at ts end) ≡ Ok (a, r) → length r.tokens < length ts
fewer f h ts end a r e = let t = h.ok ts end a r e in subst (λ l. length r.tokens < length l) (sym t.all) (long t.before t.last r.tokens)
  where
    long : (p : List Token) (t : Token) (q : List Token) → length q < length (p ++ t ∷ q)
    long [] t q = omega arith
    long (x ∷ p) t q = let l = long p t q in omega (arith, l)

-- ---- a token

pub ends_in : {A : Type 0} (y x : A) → ◌≡◌ {A = Result A KernelRefusal} (Ok y) (Ok x) → y ≡ x
ends_in y x h = cc

pub ends_with : {A : Type 0} (y x : KernelRefusal) → ◌≡◌ {A = Result A KernelRefusal} (Err y) (Err x) → y ≡ x
ends_with y x h = cc

pub no_value : {A : Type 0} (e : KernelRefusal) (x : A) → ◌≡◌ {A = Result A KernelRefusal} (Err e) (Ok x) → ⊥
no_value e x h = cc

pub no_refusal : {A : Type 0} (x : A) (e : KernelRefusal) → ◌≡◌ {A = Result A KernelRefusal} (Ok x) (Err e) → ⊥
no_refusal x e h = cc

shift_takes : (ts : List Token) (end : KernelRefusal) (a : Token) (r : Stream) → shift_by ts end ≡ Ok (a, r) → Takes (λ t l. t.line ≡ l) shift ts end a r
unfolding shift
shift_takes [] end a r h = cc
shift_takes (t ∷ ts) end a r h =
    let e : ◌≡◌ {A = Token × Stream} (t, at ts end) (a, r) = cc in
    subst (λ x. Takes (λ t l. t.line ≡ l) shift (t ∷ ts) end x.0 x.1) e (record { before = []; last = t; all = refl; kept = refl; line = refl; same = λ q x. refl })

shift_stops : (ts : List Token) (end e : KernelRefusal) → shift_by ts end ≡ Err e → Stops shift ts end e
unfolding shift
shift_stops [] end e h = at_end (sym (ends_with {A = Token × Stream} end e h)) (λ x y k. no_value x y k)
shift_stops (t ∷ ts) end e h = absurd (no_refusal (t, at ts end) e h)

pub firm_shift : Firm (λ t l. t.line ≡ l) shift
unfolding shift
firm_shift = record { ok = shift_takes; err = shift_stops }

-- ---- one after the other

abbrev then_ : {A B : Type 0} → (Stream → Read A) → (A × Stream → Read B) → Stream → Read B
then_ f g s = f s >>= g

pub bind_same : {A B : Type 0} (r : Read A) (x : A × Stream) (g : A × Stream → Read B) → r ≡ Ok x → (r >>= g) ≡ g x
bind_same r x g h = ap (λ q. q >>= g) h

-- how a reading in two parts was refused
pub data Where {A B : Type 0} (r : Read A) (g : A × Stream → Read B) (e : KernelRefusal) : Type 0 where
  first_part : r ≡ Err e → Where r g e
  second_part : (x : A × Stream) → r ≡ Ok x → g x ≡ Err e → Where r g e

pub refused_where : {A B : Type 0} (r : Read A) (g : A × Stream → Read B) (e : KernelRefusal) → (r >>= g) ≡ Err e → Where r g e
refused_where (Ok x) g e h = second_part x refl h
refused_where {A} (Err y) g e h = first_part cc

module _ {A B : Type 0} (f : Stream → Read A) (g : A × Stream → Read B) where
  -- where the first part reads nothing, both read nothing
  pub first_stops : (ts : List Token) (end e : KernelRefusal) → Stops f ts end e → Stops (then_ f g) ts end e
  first_stops ts end e (at_token p t q all line own never) = at_token p t q all line own (λ q end x h. let b = bind_ok (f (at (p ++ t ∷ q) end)) g x h in never q end b.0 b.1)
  first_stops ts end e (at_end same never) = at_end same (λ end x h. let b = bind_ok (f (at ts end)) g x h in never end b.0 b.1)

  nothing_then : (s : Stream) (a : A) (m : Stream) → f s ≡ Ok (a, m) → ((y : B × Stream) → g (a, m) ≡ Ok y → ⊥) → (x : B × Stream) → then_ f g s ≡ Ok x → ⊥
  nothing_then s a m e never x h = never x (sym (bind_same (f s) (a, m) g e) ∙ h)

  pub second_stops : (ts : List Token) (end e : KernelRefusal) (a : A) (r : Stream) → Reads f ts end a r → Stops (λ s. g (a, s)) r.tokens end e → Stops (then_ f g) ts end e
  second_stops ts end e a r h (at_token p t q all line own never) =
      at_token (h.taken ++ p) t q (h.all ∙ ap (λ l. h.taken ++ l) all ∙ sym (append_assoc h.taken p (t ∷ q))) line own
      (λ q' x y k.
      nothing_then (at (h.taken ++ (p ++ t ∷ q')) x) a (at (p ++ t ∷ q') x) (h.same (p ++ t ∷ q') x (subst (λ l. SameHead l (p ++ t ∷ q')) (sym all) (head_kept p t q q'))) (λ z j. never q' x z j) y
      (ap (λ l. then_ f g (at l x)) (sym (append_assoc h.taken p (t ∷ q'))) ∙ k))
  second_stops ts end e a r h (at_end same never) =
      at_end same
      (λ x y k. nothing_then (at (h.taken ++ r.tokens) x) a (at r.tokens x) (h.same r.tokens x (same_head r.tokens)) (λ z j. never x z j) y (ap (λ l. then_ f g (at l x)) (sym h.all) ∙ k))

  -- the stream behind the first part is that of its tokens
  pub behind : (ts : List Token) (end : KernelRefusal) (a : A) (r : Stream) → Reads f ts end a r → r ≡ at r.tokens end
  behind ts end a r h = ap (λ x. at r.tokens x) h.kept

  pub both_err : Local f → ((a : A) (ts : List Token) (end e : KernelRefusal) → g (a, at ts end) ≡ Err e → Stops (λ s. g (a, s)) ts end e) → (ts : List Token) (end e : KernelRefusal) → then_ f g (at ts end) ≡ Err e
      → Stops (then_ f g) ts end e
  both_err k l ts end e h = elim (refused_where (f (at ts end)) g e h) [
    | first_part w ↦ first_stops ts end e (k.err ts end e w)
    | second_part x w v ↦
        let o = k.ok ts end x.0 x.1 w in
        second_stops ts end e x.0 x.1 o (l x.0 x.1.tokens end e (ap (λ m. g (x.0, m)) (sym (behind ts end x.0 x.1 o)) ∙ v))
  ]

  pub both_ok : Local f → ((a : A) (ts : List Token) (end : KernelRefusal) (b : B) (r : Stream) → g (a, at ts end) ≡ Ok (b, r) → Reads (λ s. g (a, s)) ts end b r) → (ts : List Token) (end : KernelRefusal) (b : B) (r : Stream) → then_ f g (at ts end) ≡ Ok (b, r) → Reads (then_ f g) ts end b r
  both_ok k l ts end b r h =
      let p = bind_ok (f (at ts end)) g (b, r) h in
      let o = k.ok ts end p.0.0 p.0.1 p.1 in
      let i = l p.0.0 p.0.1.tokens end b r (ap (λ m. g (p.0.0, m)) (sym (behind ts end p.0.0 p.0.1 o)) ∙ p.2) in
      record {
        taken = o.taken ++ i.taken;
        all = o.all ∙ ap (λ l. o.taken ++ l) i.all ∙ sym (append_assoc o.taken i.taken r.tokens);
        kept = i.kept;
        same = λ q x s.
            ap (λ l. then_ f g (at l x)) (append_assoc o.taken i.taken q)
            ∙ bind_same (f (at (o.taken ++ (i.taken ++ q)) x)) (p.0.0, at (i.taken ++ q) x) g (o.same (i.taken ++ q) x (subst (λ l. SameHead l (i.taken ++ q)) (sym i.all) (head_append i.taken r.tokens q s)))
            ∙ i.same q x s;
      }

  pub local_bind : Local f → ((a : A) → Local (λ s. g (a, s))) → Local (λ s. f s >>= g)
  local_bind k l = record { ok = both_ok k (λ a. (l a).ok); err = both_err k (λ a. (l a).err) }

  firm_ok : {L : B → ℕ → Type 0} → Local f → ((a : A) → Firm L (λ s. g (a, s))) → (ts : List Token) (end : KernelRefusal) (b : B) (r : Stream) → then_ f g (at ts end) ≡ Ok (b, r) → Takes L (then_ f g) ts end b r
  firm_ok k l ts end b r h =
      let p = bind_ok (f (at ts end)) g (b, r) h in
      let o = k.ok ts end p.0.0 p.0.1 p.1 in
      let i = (l p.0.0).ok p.0.1.tokens end b r (ap (λ m. g (p.0.0, m)) (sym (behind ts end p.0.0 p.0.1 o)) ∙ p.2) in
      record {
        before = o.taken ++ i.before;
        last = i.last;
        all = o.all ∙ ap (λ l. o.taken ++ l) i.all ∙ sym (append_assoc o.taken i.before (i.last ∷ r.tokens));
        kept = i.kept;
        line = i.line;
        same = λ q x.
            ap (λ l. then_ f g (at l x)) (append_assoc o.taken i.before (i.last ∷ q))
            ∙ bind_same (f (at (o.taken ++ (i.before ++ i.last ∷ q)) x)) (p.0.0, at (i.before ++ i.last ∷ q) x) g
            (o.same (i.before ++ i.last ∷ q) x (subst (λ l. SameHead l (i.before ++ i.last ∷ q)) (sym i.all) (head_kept i.before i.last r.tokens q)))
            ∙ i.same q x;
      }

  pub firm_bind : {L : B → ℕ → Type 0} → Local f → ((a : A) → Firm L (λ s. g (a, s))) → Firm L (λ s. f s >>= g)
  firm_bind k l = record { ok = firm_ok k l; err = both_err k (λ a. (l a).err) }

-- ---- tests of what was read

-- What follows a value that ended in this line: it gives a value at once, or is refused in this line, or reads on.
pub data Follows {B : Type 0} (M : B → ℕ → Type 0) (line : ℕ) (h : Stream → Read B) : Type 0 where
  gives : (b : B) → M b line → ((s : Stream) → h s ≡ Ok (b, s)) → Follows M line h
  refuses : (e : KernelRefusal) → e.line ≡ line → is_own e.kind ≡ true → ((s : Stream) → h s ≡ Err e) → Follows M line h
  goes_on : Firm M h → Follows M line h

module _ {A B : Type 0} {L : A → ℕ → Type 0} {M : B → ℕ → Type 0} (f : Stream → Read A) (g : A × Stream → Read B) where
  follow_ok : (ts : List Token) (end : KernelRefusal) (a : A) (m : Stream) (b : B) (r : Stream) → (t : Takes L f ts end a m) → Follows M t.last.line (λ s. g (a, s)) → Firm L f → f (at ts end) ≡ Ok (a, m) → g (a, m) ≡ Ok (b, r)
      → Takes M (then_ f g) ts end b r
  follow_ok ts end a m b r t (gives c line all) k e h =
      let same : ◌≡◌ {A = B × Stream} (c, m) (b, r) = ends_in (c, m) (b, r) (sym (all m) ∙ h) in
      subst (λ x. Takes M (then_ f g) ts end x.0 x.1) same
      (record {
        before = t.before;
        last = t.last;
        all = t.all;
        kept = t.kept;
        line = line;
        same = λ q x. bind_same (f (at (t.before ++ t.last ∷ q) x)) (a, at q x) g (t.same q x) ∙ all (at q x);
      })
  follow_ok ts end a m b r t (refuses x line own all) k e h = absurd (no_value x (b, r) (sym (all m) ∙ h))
  follow_ok ts end a m b r t (goes_on l) k e h =
      let i = l.ok m.tokens end b r (ap (λ x. g (a, at m.tokens x)) (sym t.kept) ∙ h) in
      record {
        before = t.before ++ t.last ∷ i.before;
        last = i.last;
        all = t.all ∙ ap (λ l. t.before ++ t.last ∷ l) i.all ∙ sym (append_assoc t.before (t.last ∷ i.before) (i.last ∷ r.tokens));
        kept = i.kept;
        line = i.line;
        same = λ q x.
            ap (λ l. then_ f g (at l x)) (append_assoc t.before (t.last ∷ i.before) (i.last ∷ q))
            ∙ bind_same (f (at (t.before ++ t.last ∷ (i.before ++ i.last ∷ q)) x)) (a, at (i.before ++ i.last ∷ q) x) g (t.same (i.before ++ i.last ∷ q) x)
            ∙ i.same q x;
      }

  follow_err : (ts : List Token) (end e : KernelRefusal) (a : A) (m : Stream) → (t : Takes L f ts end a m) → Follows M t.last.line (λ s. g (a, s)) → Firm L f → f (at ts end) ≡ Ok (a, m) → g (a, m) ≡ Err e → Stops (then_ f g) ts end e
  follow_err ts end e a m t (gives c line all) k w h = absurd (no_refusal (c, m) e (sym (all m) ∙ h))
  follow_err ts end e a m t (refuses y line own all) k w h =
      let same : y ≡ e = ends_with y e (sym (all m) ∙ h) in
      at_token t.before t.last m.tokens t.all (ap (λ x. x.line) (sym same) ∙ line) (ap (λ x. is_own x.kind) (sym same) ∙ own)
      (λ q x z j. no_value y z (sym (bind_same (f (at (t.before ++ t.last ∷ q) x)) (a, at q x) g (t.same q x) ∙ all (at q x)) ∙ j))
  follow_err ts end e a m t (goes_on l) k w h =
      second_stops f g ts end e a m ((local_of f k).ok ts end a m w) (l.err m.tokens end e (ap (λ x. g (a, at m.tokens x)) (sym t.kept) ∙ h))

  -- what was read is tested, and the test tells in the line of its last token
  pub firm_check : Firm L f → ((a : A) (line : ℕ) → L a line → Follows M line (λ s. g (a, s))) → Firm M (λ s. f s >>= g)
  firm_check k l = record {
    ok = λ ts end b r h.
        let p = bind_ok (f (at ts end)) g (b, r) h in
        let t = k.ok ts end p.0.0 p.0.1 p.1 in
        follow_ok ts end p.0.0 p.0.1 b r t (l p.0.0 t.last.line t.line) k p.1 p.2;
    err = λ ts end e h.
        elim (refused_where (f (at ts end)) g e h) [
          | first_part w ↦ first_stops f g ts end e (k.err ts end e w)
          | second_part x w v ↦ let t = k.ok ts end x.0 x.1 w in follow_err ts end e x.0 x.1 t (l x.0 t.last.line t.line) k w v
        ];
  }

-- ---- forms of reading

pub follows_choice : {B : Type 0} {M : B → ℕ → Type 0} {line : ℕ} (b : Bool) {h k : Stream → Read B} → Follows M line h → Follows M line k → Follows M line (λ s. if b then h s else k s)
follows_choice true p q = p
follows_choice false p q = q

pub bind_local : {A B : Type 0} {f : Stream → Read A} → Local f → (g : A × Stream → Read B) → ((a : A) → Local (λ s. g (a, s))) → Local (λ s. f s >>= g)
bind_local {f = f} k g l = local_bind f g k l

pub local_then : {A B : Type 0} {M : B → ℕ → Type 0} {f : Stream → Read A} → Local f → (g : A × Stream → Read B) → ((a : A) → Firm M (λ s. g (a, s))) → Firm M (λ s. f s >>= g)
local_then {f = f} k g l = firm_bind f g k l

pub firm_then : {A B : Type 0} {L : A → ℕ → Type 0} {M : B → ℕ → Type 0} {f : Stream → Read A} → Firm L f → (g : A × Stream → Read B) → ((a : A) → Firm M (λ s. g (a, s))) → Firm M (λ s. f s >>= g)
firm_then {f = f} k g l = firm_bind f g (local_of f k) l

pub firm_test : {A B : Type 0} {L : A → ℕ → Type 0} {M : B → ℕ → Type 0} {f : Stream → Read A} → Firm L f → (g : A × Stream → Read B) → ((a : A) (line : ℕ) → L a line → Follows M line (λ s. g (a, s))) → Firm M (λ s. f s >>= g)
firm_test {f = f} k g l = firm_check f g k l

-- a value is made of what was read
pub firm_gives : {A B : Type 0} {L : A → ℕ → Type 0} {f : Stream → Read A} → Firm L f → (v : A → B) → Firm AnyLine (λ s. f s >>= λ x. Ok (v x.0, x.1))
firm_gives k v = firm_test k (λ x. Ok (v x.0, x.1)) (λ a line l. gives (v a) tt (λ s. refl))

pub local_ok : {A : Type 0} (a : A) → Local (λ s. Ok (a, s))
local_ok {A} a = record {
  ok = λ ts end b r h.
      let e : ◌≡◌ {A = A × Stream} (a, at ts end) (b, r) = ends_in (a, at ts end) (b, r) h in
      subst (λ x. Reads (λ s. Ok (a, s)) ts end x.0 x.1) e (record { taken = []; all = refl; kept = refl; same = λ q x s. refl });
  err = λ ts end e h. absurd (no_refusal (a, at ts end) e h);
}

-- what depends on the next token alone
abbrev pub OfHead : {X : Type 0} → (Stream → X) → Type 0
OfHead h = (ts us : List Token) (x y : KernelRefusal) → SameHead ts us → h (at ts x) ≡ h (at us y)

module _ {A X : Type 0} (h : Stream → X) (F : X → Stream → Read A) (head : OfHead h) where
  other_head : (ts us : List Token) (x y : KernelRefusal) → SameHead ts us → F (h (at us y)) (at us y) ≡ F (h (at ts x)) (at us y)
  other_head ts us x y s = ap (λ v. F v (at us y)) (sym (head ts us x y s))

  ahead_stops : (ts : List Token) (end e : KernelRefusal) → Stops (F (h (at ts end))) ts end e → Stops (λ s. F (h s) s) ts end e
  ahead_stops ts end e (at_token p t q all line own never) =
      at_token p t q all line own (λ q' y x j. never q' y x (sym (other_head ts (p ++ t ∷ q') end y (subst (λ l. SameHead l (p ++ t ∷ q')) (sym all) (head_kept p t q q'))) ∙ j))
  ahead_stops ts end e (at_end same never) = at_end same (λ y x j. never y x (sym (other_head ts ts end y (same_head ts)) ∙ j))

  pub local_ahead : ((x : X) → Local (F x)) → Local (λ s. F (h s) s)
  local_ahead k = record {
    ok = λ ts end a r e.
        let o = (k (h (at ts end))).ok ts end a r e in
        record {
          taken = o.taken;
          all = o.all;
          kept = o.kept;
          same = λ q y s. other_head ts (o.taken ++ q) end y (subst (λ l. SameHead l (o.taken ++ q)) (sym o.all) (head_append o.taken r.tokens q s)) ∙ o.same q y s;
        };
    err = λ ts end e w. ahead_stops ts end e ((k (h (at ts end))).err ts end e w);
  }

  pub firm_ahead : {L : A → ℕ → Type 0} → ((x : X) → Firm L (F x)) → Firm L (λ s. F (h s) s)
  firm_ahead k = record {
    ok = λ ts end a r e.
        let o = (k (h (at ts end))).ok ts end a r e in
        record {
          before = o.before;
          last = o.last;
          all = o.all;
          kept = o.kept;
          line = o.line;
          same = λ q y. other_head ts (o.before ++ o.last ∷ q) end y (subst (λ l. SameHead l (o.before ++ o.last ∷ q)) (sym o.all) (head_kept o.before o.last r.tokens q)) ∙ o.same q y;
        };
    err = λ ts end e w. ahead_stops ts end e ((k (h (at ts end))).err ts end e w);
  }

of_ahead : (w : List ℕ) → OfHead (λ s. is_ahead w s)
unfolding text_ahead
of_ahead w [] [] x y h = refl
of_ahead w [] (u ∷ us) x y h = absurd h
of_ahead w (t ∷ ts) [] x y h = absurd h
of_ahead w (t ∷ ts) (u ∷ us) x y h = ap (λ v. bytes_eq v.text w) h

pub head_ahead : (w : List ℕ) → OfHead (λ s. is_ahead w s)
head_ahead w = of_ahead w

local_choice : {A : Type 0} (b : Bool) {f g : Stream → Read A} → Local f → Local g → Local (λ s. if b then f s else g s)
local_choice true k l = k
local_choice false k l = l

firm_choice : {A : Type 0} {L : A → ℕ → Type 0} (b : Bool) {f g : Stream → Read A} → Firm L f → Firm L g → Firm L (λ s. if b then f s else g s)
firm_choice true k l = k
firm_choice false k l = l

pub local_if : {A : Type 0} (h : Stream → Bool) {f g : Stream → Read A} → OfHead h → Local f → Local g → Local (λ s. if h s then f s else g s)
local_if h {f = f} {g = g} e k l = local_ahead h (λ b s. if b then f s else g s) e (λ b. local_choice b k l)

pub firm_if : {A : Type 0} {L : A → ℕ → Type 0} (h : Stream → Bool) {f g : Stream → Read A} → OfHead h → Firm L f → Firm L g → Firm L (λ s. if h s then f s else g s)
firm_if h {f = f} {g = g} e k l = firm_ahead h (λ b s. if b then f s else g s) e (λ b. firm_choice b k l)

-- ---- one again and again

module _ {A : Type 0} {L : A → ℕ → Type 0} (more : A → Stream → Bool) (one : A → Stream → Read A) (head : (a : A) → OfHead (more a)) (none : (a : A) (x : KernelRefusal) → more a (at [] x) ≡ false) (firm : (a : A) → Firm L (one a)) where
  -- what was read on top of a: from the same tokens with others behind, reading comes to b and goes on
  pub record Goes (a : A) (ts : List Token) (end : KernelRefusal) (b : A) (r : Stream) : Type 0 where
    pub taken : List Token
    pub all : ts ≡ taken ++ r.tokens
    pub kept : r.end ≡ end
    pub stopped : more b r ≡ false
    pub resumes : (q : List Token) (e : KernelRefusal) (n : ℕ) → length (taken ++ q) ≤ n → (k : ℕ) × (length q ≤ k) × (repeat_while more one n a (at (taken ++ q) e) ≡ repeat_while more one k b (at q e))
    pub last : ((taken ≡ []) × (a ≡ b)) ⊎ ((p : List Token) × (t : Token) × (taken ≡ p ++ t ∷ []) × L b t.line)

  nothing_left : (a : A) (ts : List Token) (end : KernelRefusal) → length ts ≤ 0 → more a (at ts end) ≡ false
  nothing_left a [] end h = none a end
  nothing_left a (t ∷ ts) end h = absurd (omega (arith, h))

  halts : (a : A) (ts : List Token) (end : KernelRefusal) (b : A) (r : Stream) → ◌≡◌ {A = A × Stream} (a, at ts end) (b, r) → more a (at ts end) ≡ false → Goes a ts end b r
  halts a ts end b r e stop = subst (λ x. Goes a ts end x.0 x.1) e (record { taken = []; all = refl; kept = refl; stopped = stop; resumes = λ q x n h. (n, h, refl); last = inl (refl, refl) })

  enough : (p : List Token) (t : Token) (us q : List Token) (n : ℕ) → length ((p ++ t ∷ us) ++ q) ≤ suc n → length (us ++ q) ≤ n
  enough [] t us q n h = omega (arith, h)
  enough (x ∷ p) t us q n h = omega (arith, enough p t us q (suc n) (omega (arith, h)), h, longer p t us q)
    where
      longer : (p : List Token) (t : Token) (us q : List Token) → length (us ++ q) < length ((p ++ t ∷ us) ++ q)
      longer [] t us q = omega arith
      longer (x ∷ p) t us q = let l = longer p t us q in omega (arith, l)

  not_none : (p : List Token) (t : Token) (us q : List Token) → length ((p ++ t ∷ us) ++ q) ≤ 0 → ⊥
  not_none [] t us q h = absurd (omega (arith, h))
  not_none (x ∷ p) t us q h = absurd (omega (arith, h))

  one_goes : (a c : A) (ts : List Token) (end : KernelRefusal) (m : Stream) (b : A) (r : Stream) → more a (at ts end) ≡ true → Takes L (one a) ts end c m → Goes c m.tokens end b r → Goes a ts end b r
  one_goes a c ts end m b r test t g =
      let whole : ts ≡ (t.before ++ t.last ∷ g.taken) ++ r.tokens = t.all ∙ ap (λ l. t.before ++ t.last ∷ l) g.all ∙ sym (append_assoc t.before (t.last ∷ g.taken) r.tokens) in
      record {
        taken = t.before ++ t.last ∷ g.taken;
        all = whole;
        kept = g.kept;
        stopped = g.stopped;
        resumes = λ q x n. again q x n;
        last = inr (last_by g.last);
      }
    where
      again : (q : List Token) (x : KernelRefusal) (n : ℕ) → length ((t.before ++ t.last ∷ g.taken) ++ q) ≤ n
          → (k : ℕ) × (length q ≤ k) × (repeat_while more one n a (at ((t.before ++ t.last ∷ g.taken) ++ q) x) ≡ repeat_while more one k b (at q x))
      again q x zero h = absurd (not_none t.before t.last g.taken q h)
      again q x (suc n) h =
          let i = g.resumes q x n (enough t.before t.last g.taken q n h) in
          let flat : (t.before ++ t.last ∷ g.taken) ++ q ≡ t.before ++ t.last ∷ (g.taken ++ q) = append_assoc t.before (t.last ∷ g.taken) q in
          let still : more a (at (t.before ++ t.last ∷ (g.taken ++ q)) x) ≡ true
          = sym (head a ts (t.before ++ t.last ∷ (g.taken ++ q)) end x (subst (λ l. SameHead l (t.before ++ t.last ∷ (g.taken ++ q))) (sym t.all) (head_kept t.before t.last m.tokens (g.taken ++ q)))) ∙ test in (
            i.0,
            i.1,
            ap (λ l. repeat_while more one (suc n) a (at l x)) flat
                ∙ takes more one n a (at (t.before ++ t.last ∷ (g.taken ++ q)) x) still
                ∙ bind_same (one a (at (t.before ++ t.last ∷ (g.taken ++ q)) x)) (c, at (g.taken ++ q) x) (λ y. repeat_while more one n y.0 y.1) (t.same (g.taken ++ q) x)
                ∙ i.2,
          )

      last_by : ((g.taken ≡ []) × (c ≡ b)) ⊎ ((p : List Token) × (u : Token) × (g.taken ≡ p ++ u ∷ []) × L b u.line) → (p : List Token) × (u : Token) × (t.before ++ t.last ∷ g.taken ≡ p ++ u ∷ []) × L b u.line
      last_by (inl w) = (t.before, t.last, ap (λ l. t.before ++ t.last ∷ l) w.0, subst (λ v. L v t.last.line) w.1 t.line)
      last_by (inr w) = (t.before ++ t.last ∷ w.0, w.1, ap (λ l. t.before ++ t.last ∷ l) w.2 ∙ sym (append_assoc t.before (t.last ∷ w.0) (w.1 ∷ [])), w.3)

  repeat_by : (n : ℕ) (v : Bool) (a : A) (ts : List Token) (end : KernelRefusal) (b : A) (r : Stream) → more a (at ts end) ≡ v → length ts ≤ suc n
      → (if v then (one a (at ts end) >>= λ x. repeat_while more one n x.0 x.1) else Ok (a, at ts end)) ≡ Ok (b, r)
      → ((c : A) (us : List Token) → length us ≤ n → repeat_while more one n c (at us end) ≡ Ok (b, r) → Goes c us end b r) → Goes a ts end b r
  repeat_by n false a ts end b r test h e again = halts a ts end b r (ends_in (a, at ts end) (b, r) e) test
  repeat_by n true a ts end b r test h e again =
      let p = bind_ok (one a (at ts end)) (λ x. repeat_while more one n x.0 x.1) (b, r) e in
      let t = (firm a).ok ts end p.0.0 p.0.1 p.1 in
      let less = fewer (one a) (firm a) ts end p.0.0 p.0.1 p.1 in
      one_goes a p.0.0 ts end p.0.1 b r test t (again p.0.0 p.0.1.tokens (omega (arith, less, h)) (ap (λ x. repeat_while more one n p.0.0 (at p.0.1.tokens x)) (sym t.kept) ∙ p.2))

  pub repeat_ok : (n : ℕ) (a : A) (ts : List Token) (end : KernelRefusal) (b : A) (r : Stream) → length ts ≤ n → repeat_while more one n a (at ts end) ≡ Ok (b, r) → Goes a ts end b r
  unfolding repeat_while
  repeat_ok zero a ts end b r h e = halts a ts end b r (ends_in (a, at ts end) (b, r) e) (nothing_left a ts end h)
  repeat_ok (suc n) a ts end b r h e = repeat_by n (more a (at ts end)) a ts end b r refl h e (λ c us l w. repeat_ok n c us end b r l w)

  -- the same of a refusal
  data Breaks (a : A) (ts : List Token) (end : KernelRefusal) (e : KernelRefusal) : Type 0 where
    break_token : (p : List Token) (t : Token) (q : List Token) → ts ≡ p ++ t ∷ q → e.line ≡ t.line → is_own e.kind ≡ true
        → ((q : List Token) (end : KernelRefusal) (n : ℕ) (x : A × Stream) → length (p ++ t ∷ q) ≤ n → repeat_while more one n a (at (p ++ t ∷ q) end) ≡ Ok x → ⊥) → Breaks a ts end e
    break_end : e ≡ end → ((end : KernelRefusal) (n : ℕ) (x : A × Stream) → length ts ≤ n → repeat_while more one n a (at ts end) ≡ Ok x → ⊥) → Breaks a ts end e

  -- where the test holds, one is read
  taken_on : (a : A) (us : List Token) (y : KernelRefusal) (n : ℕ) (x : A × Stream) → more a (at us y) ≡ true → length us ≤ n → repeat_while more one n a (at us y) ≡ Ok x
      → (m : ℕ) × (n ≡ suc m) × ((one a (at us y) >>= λ x. repeat_while more one m x.0 x.1) ≡ Ok x)
  taken_on a us y zero x test h e = absurd (true≢false (sym test ∙ nothing_left a us y h))
  taken_on a us y (suc n) x test h e = (n, refl, sym (takes more one n a (at us y) test) ∙ e)

  one_breaks : (a : A) (ts : List Token) (end e : KernelRefusal) → more a (at ts end) ≡ true → Stops (one a) ts end e → Breaks a ts end e
  one_breaks a ts end e test (at_token p t q all line own never) =
      break_token p t q all line own
      (λ q' y n x h j.
      let still = sym (head a ts (p ++ t ∷ q') end y (subst (λ l. SameHead l (p ++ t ∷ q')) (sym all) (head_kept p t q q'))) ∙ test in
      let k = taken_on a (p ++ t ∷ q') y n x still h j in
      let b = bind_ok (one a (at (p ++ t ∷ q') y)) _ x k.2 in
      never q' y b.0 b.1)
  one_breaks a ts end e test (at_end same never) =
      break_end same
      (λ y n x h j.
      let still = sym (head a ts ts end y (same_head ts)) ∙ test in
      let k = taken_on a ts y n x still h j in
      let b = bind_ok (one a (at ts y)) _ x k.2 in
      never y b.0 b.1)

  more_breaks : (a c : A) (ts : List Token) (end : KernelRefusal) (m : Stream) (e : KernelRefusal) → more a (at ts end) ≡ true → Takes L (one a) ts end c m → Breaks c m.tokens end e → Breaks a ts end e
  more_breaks a c ts end m e test t (break_token p u q all line own never) =
      break_token (t.before ++ t.last ∷ p) u q (t.all ∙ ap (λ l. t.before ++ t.last ∷ l) all ∙ sym (append_assoc t.before (t.last ∷ p) (u ∷ q))) line own
      (λ q' y n x h j.
      let flat : (t.before ++ t.last ∷ p) ++ u ∷ q' ≡ t.before ++ t.last ∷ (p ++ u ∷ q') = append_assoc t.before (t.last ∷ p) (u ∷ q') in
      let still : more a (at (t.before ++ t.last ∷ (p ++ u ∷ q')) y) ≡ true
      = sym (head a ts (t.before ++ t.last ∷ (p ++ u ∷ q')) end y (subst (λ l. SameHead l (t.before ++ t.last ∷ (p ++ u ∷ q'))) (sym t.all) (head_kept t.before t.last m.tokens (p ++ u ∷ q')))) ∙ test in
      let k = taken_on a (t.before ++ t.last ∷ (p ++ u ∷ q')) y n x still (subst (λ l. length l ≤ n) flat h) (ap (λ l. repeat_while more one n a (at l y)) (sym flat) ∙ j) in
      let room = enough t.before t.last p (u ∷ q') k.0 (subst (λ i. length ((t.before ++ t.last ∷ p) ++ u ∷ q') ≤ i) k.1 h) in
      never q' y k.0 x room
      (sym (bind_same (one a (at (t.before ++ t.last ∷ (p ++ u ∷ q')) y)) (c, at (p ++ u ∷ q') y) (λ z. repeat_while more one k.0 z.0 z.1) (t.same (p ++ u ∷ q') y)) ∙ k.2))
  more_breaks a c ts end m e test t (break_end same never) =
      break_end same
      (λ y n x h j.
      let still = sym (head a ts ts end y (same_head ts)) ∙ test in
      let k = taken_on a ts y n x still h j in
      let whole : length m.tokens < length ts = less t.before t.last m.tokens in
      let room : length m.tokens ≤ k.0 = let i = k.1 in omega (arith, whole, h, i) in
      never y k.0 x room
      (sym (bind_same (one a (at ts y)) (c, at m.tokens y) (λ z. repeat_while more one k.0 z.0 z.1) (ap (λ l. one a (at l y)) t.all ∙ t.same m.tokens y)) ∙ k.2))
    where
      less : (p : List Token) (u : Token) (q : List Token) → length m.tokens < length ts
      less p u q = subst (λ l. length m.tokens < length l) (sym t.all) (longer t.before t.last m.tokens)
        where
          longer : (p : List Token) (t : Token) (q : List Token) → length q < length (p ++ t ∷ q)
          longer [] t q = omega arith
          longer (x ∷ p) t q = let l = longer p t q in omega (arith, l)

  breaks_by : (n : ℕ) (v : Bool) (a : A) (ts : List Token) (end e : KernelRefusal) → more a (at ts end) ≡ v → length ts ≤ suc n
      → (if v then (one a (at ts end) >>= λ x. repeat_while more one n x.0 x.1) else Ok (a, at ts end)) ≡ Err e
      → ((c : A) (us : List Token) → length us ≤ n → repeat_while more one n c (at us end) ≡ Err e → Breaks c us end e) → Breaks a ts end e
  breaks_by n false a ts end e test h w again = absurd (no_refusal (a, at ts end) e w)
  breaks_by n true a ts end e test h w again =
      elim (refused_where (one a (at ts end)) (λ x. repeat_while more one n x.0 x.1) e w) [
        | first_part v ↦ one_breaks a ts end e test ((firm a).err ts end e v)
        | second_part x v u ↦
            let t = (firm a).ok ts end x.0 x.1 v in
            let less = fewer (one a) (firm a) ts end x.0 x.1 v in
            more_breaks a x.0 ts end x.1 e test t (again x.0 x.1.tokens (omega (arith, less, h)) (ap (λ z. repeat_while more one n x.0 (at x.1.tokens z)) (sym t.kept) ∙ u))
      ]

  repeat_err : (n : ℕ) (a : A) (ts : List Token) (end e : KernelRefusal) → length ts ≤ n → repeat_while more one n a (at ts end) ≡ Err e → Breaks a ts end e
  unfolding repeat_while
  repeat_err zero a ts end e h w = absurd (no_refusal (a, at ts end) e w)
  repeat_err (suc n) a ts end e h w = breaks_by n (more a (at ts end)) a ts end e refl h w (λ c us l v. repeat_err n c us end e l v)

  broken : (a : A) (ts : List Token) (end e : KernelRefusal) → Breaks a ts end e → Stops (λ s. repeat_while more one (length s.tokens) a s) ts end e
  broken a ts end e (break_token p t q all line own never) = at_token p t q all line own (λ q' y x j. never q' y (length (p ++ t ∷ q')) x (omega arith) j)
  broken a ts end e (break_end same never) = at_end same (λ y x j. never y (length ts) x (omega arith) j)

  pub local_repeat : (a : A) → Local (λ s. repeat_while more one (length s.tokens) a s)
  local_repeat a = record {
    ok = λ ts end b r e.
        let g = repeat_ok (length ts) a ts end b r (omega arith) e in
        record {
          taken = g.taken;
          all = g.all;
          kept = g.kept;
          same = λ q y s.
              let i = g.resumes q y (length (g.taken ++ q)) (omega arith) in
              i.2 ∙ stops more one i.0 b (at q y) (sym (head b r.tokens q r.end y s) ∙ g.stopped);
        };
    err = λ ts end e w. broken a ts end e (repeat_err (length ts) a ts end e (omega arith) w);
  }
