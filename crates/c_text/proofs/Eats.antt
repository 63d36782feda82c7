-- Reading exactly these words
use Rattle.std.proofs.Common.{◌≡◌, refl, sym, ◌∙◌, ap, ℕ, Bool, true, false, if◌then◌else◌, List, [], ◌∷◌, ◌++◌, length, ◌+◌, Result, Ok, Err, arith}
use Rattle.std.proofs.lemmas.Slice.Eq.{bytes_eq-Decides}
use Rattle.std.specs.Str.{bytes_eq}
use Rattle.slices.specs.Tokens.{Token}
use Rattle.c_text.specs.declared.refusal.KernelRefusal.{KernelRefusal}
use Rattle.c_text.specs.declared.refusal.KernelKind.TheVariants as kinds
use Rattle.c_text.specs.Pieces.{Piece, Gap, Solid, Sign, words_of}
use Rattle.c_text.specs.Stream.{Stream, Read, ◌>>=◌, refusal, shift, shift_by, text_ahead, text_ahead_by, expect, expects, is_ahead}

abbrev pub Eats : List (List ℕ) → Stream → Stream → Type 0
Eats ws s r = expects ws s ≡ Ok (tt, r)

pub bind_ok : {A B : Type 0} (r : Result A KernelRefusal) (f : A → Result B KernelRefusal) (y : B) → (r >>= f) ≡ Ok y → (x : A) × (r ≡ Ok x) × (f x ≡ Ok y)
bind_ok (Ok x) f y h = (x, refl, h)
bind_ok (Err e) f y h = cc

pub eats_split : (ws vs : List (List ℕ)) (s r : Stream) → Eats (ws ++ vs) s r → (m : Stream) × Eats ws s m × Eats vs m r
unfolding expects
eats_split [] vs s r h = (s, refl, h)
eats_split (w ∷ ws) vs s r h =
    let p = bind_ok (expect w s) (λ t. expects (ws ++ vs) t.1) (tt, r) h in
    let q = eats_split ws vs p.0.1 r p.2 in
    (q.0, ap (λ x. x >>= λ t. expects ws t.1) p.1 ∙ q.1, q.2)

same_left : (s m : Stream) → ◌≡◌ {A = Read (Unit {0})} (Ok (tt, s)) (Ok (tt, m)) → s ≡ m
same_left s m h = let e : ◌≡◌ {A = Unit {0} × Stream} (tt, s) (tt, m) = cc in ap (λ x. x.1) e

pub none_eaten : (s r : Stream) → Eats [] s r → s ≡ r
unfolding expects
none_eaten s r e = same_left s r e

pub eats_join : (ws vs : List (List ℕ)) (s m r : Stream) → Eats ws s m → Eats vs m r → Eats (ws ++ vs) s r
unfolding expects
eats_join [] vs s m r h k = ap (expects vs) (same_left s m h) ∙ k
eats_join (w ∷ ws) vs s m r h k =
    let p = bind_ok (expect w s) (λ t. expects ws t.1) (tt, m) h in
    ap (λ x. x >>= λ t. expects (ws ++ vs) t.1) p.1 ∙ eats_join ws vs p.0.1 m r p.2 k

pub words_of-append : (ps qs : List Piece) → words_of (ps ++ qs) ≡ words_of ps ++ words_of qs
words_of-append [] qs = refl
words_of-append (Gap bs ∷ ps) qs = words_of-append ps qs
words_of-append (Solid bs ∷ ps) qs = ap (λ ws. bs ∷ ws) (words_of-append ps qs)
words_of-append (Sign bs ∷ ps) qs = ap (λ ws. bs ∷ ws) (words_of-append ps qs)

pub cut : (ps qs : List Piece) (s r : Stream) → Eats (words_of (ps ++ qs)) s r → (m : Stream) × Eats (words_of ps) s m × Eats (words_of qs) m r
cut ps qs s r h = eats_split (words_of ps) (words_of qs) s r (ap (λ ws. expects ws s) (sym (words_of-append ps qs)) ∙ h)

pub glue : (ps qs : List Piece) (s m r : Stream) → Eats (words_of ps) s m → Eats (words_of qs) m r → Eats (words_of (ps ++ qs)) s r
glue ps qs s m r h k = ap (λ ws. expects ws s) (words_of-append ps qs) ∙ eats_join (words_of ps) (words_of qs) s m r h k

-- ---- single tokens

shift_ok_by : (ts : List Token) (end : KernelRefusal) (x : Token × Stream) → shift_by ts end ≡ Ok x → ts ≡ x.0 ∷ x.1.tokens
shift_ok_by [] end x h = cc
shift_ok_by (t ∷ ts) end x h = let e : ◌≡◌ {A = Token × Stream} (t, record { tokens = ts; end = end }) x = cc in ap (λ y. y.0 ∷ y.1.tokens) e

pub shift_ok : (s : Stream) (x : Token × Stream) → shift s ≡ Ok x → s.tokens ≡ x.0 ∷ x.1.tokens
unfolding shift
shift_ok s x h = shift_ok_by s.tokens s.end x h

test_ok : (b : Bool) (l : ℕ) (m : Stream) (x : ℕ × Stream) → ◌≡◌ {A = Read ℕ} (if b then Ok (l, m) else Err (refusal kinds.Syntax l)) (Ok x) → (b ≡ true) × (◌≡◌ {A = ℕ × Stream} (l, m) x)
test_ok true l m x h = (refl, cc)
test_ok false l m x h = cc

-- the token that is taken
pub expect_ok : (w : List ℕ) (s : Stream) (x : ℕ × Stream) → expect w s ≡ Ok x → (t : Token) × (shift s ≡ Ok (t, x.1)) × (t.text ≡ w) × (t.line ≡ x.0)
unfolding expect
expect_ok w s x h =
    let p = bind_ok (shift s) (λ t. if bytes_eq t.0.text w then Ok (t.0.line, t.1) else Err (refusal kinds.Syntax t.0.line)) x h in
    let q = test_ok (bytes_eq p.0.0.text w) p.0.0.line p.0.1 x p.2 in
    (p.0.0, p.1 ∙ ap (λ m. Ok (p.0.0, m)) (ap (λ y. y.1) q.1), (bytes_eq-Decides p.0.0.text w).0 q.0, ap (λ y. y.0) q.1)

-- the first of these words is the next token
pub first_eaten : (w : List ℕ) (ws : List (List ℕ)) (s r : Stream) → Eats (w ∷ ws) s r → (t : Token) × (m : Stream) × (shift s ≡ Ok (t, m)) × (t.text ≡ w) × Eats ws m r
unfolding expects
first_eaten w ws s r h =
    let p = bind_ok (expect w s) (λ t. expects ws t.1) (tt, r) h in
    let q = expect_ok w s p.0 p.1 in
    (q.0, p.0.1, q.1, q.2, p.2)

pub one_eaten : (w : List ℕ) (s r : Stream) → Eats (w ∷ []) s r → (t : Token) × (shift s ≡ Ok (t, r)) × (t.text ≡ w)
unfolding expects
one_eaten w s r h = let p = first_eaten w [] s r h in (p.0, p.2 ∙ ap (λ m. Ok (p.0, m)) (same_left p.1 r p.4), p.3)

pub expected : (w : List ℕ) (s r : Stream) → Eats (w ∷ []) s r → (l : ℕ) × (expect w s ≡ Ok (l, r))
unfolding expects
expected w s r h =
    let p = bind_ok (expect w s) (λ t. expects [] t.1) (tt, r) h in
    (p.0.0, p.1 ∙ ap (λ m. Ok (p.0.0, m)) (same_left p.0.1 r p.2))

pub taken : (w : List ℕ) (s : Stream) (x : ℕ × Stream) → expect w s ≡ Ok x → Eats (w ∷ []) s x.1
unfolding expects
taken w s x h = ap (λ r. r >>= λ t. expects [] t.1) h

-- a token of this text is taken
pub shifted : (s : Stream) (x : Token × Stream) (w : List ℕ) → shift s ≡ Ok x → x.0.text ≡ w → Eats (w ∷ []) s x.1
unfolding expects expect
shifted s x w h e = rw h (rw ((bytes_eq-Decides x.0.text w).1 e) refl)

pub ahead_shifted : (s : Stream) (x : Token × Stream) → shift s ≡ Ok x → text_ahead s ≡ x.0.text
unfolding text_ahead
ahead_shifted s x h = ap text_ahead_by (shift_ok s x h)

pub ahead_eaten : (w : List ℕ) (ws : List (List ℕ)) (s r : Stream) → Eats (w ∷ ws) s r → text_ahead s ≡ w
ahead_eaten w ws s r h = let p = first_eaten w ws s r h in ahead_shifted s (p.0, p.1) p.2 ∙ p.3

-- whether this word is ahead, where the first word is known
pub is_ahead_of : (v w : List ℕ) (ws : List (List ℕ)) (s r : Stream) → Eats (w ∷ ws) s r → is_ahead v s ≡ bytes_eq w v
is_ahead_of v w ws s r h = ap (λ t. bytes_eq t v) (ahead_eaten w ws s r h)

pub eaten_length : (ws : List (List ℕ)) (s r : Stream) → Eats ws s r → length s.tokens ≡ length ws + length r.tokens
unfolding expects
eaten_length [] s r h = let e = ap (λ m. length m.tokens) (same_left s r h) in omega (arith, e)
eaten_length (w ∷ ws) s r h =
    let p = first_eaten w ws s r h in
    let e = ap length (shift_ok s (p.0, p.1) p.2) in
    let k = eaten_length ws p.1 r p.4 in
    omega (arith, e, k)

shift_end_by : (ts : List Token) (end : KernelRefusal) (x : Token × Stream) → shift_by ts end ≡ Ok x → x.1.end ≡ end
shift_end_by [] end x h = cc
shift_end_by (t ∷ ts) end x h = let e : ◌≡◌ {A = Token × Stream} (t, record { tokens = ts; end = end }) x = cc in ap (λ y. y.1.end) (sym e)

shift_end : (s : Stream) (x : Token × Stream) → shift s ≡ Ok x → x.1.end ≡ s.end
unfolding shift
shift_end s x h = shift_end_by s.tokens s.end x h

-- what is wrong behind the tokens stays
pub end_kept : (ws : List (List ℕ)) (s r : Stream) → Eats ws s r → r.end ≡ s.end
end_kept [] s r e = ap (λ m. m.end) (sym (none_eaten s r e))
end_kept (w ∷ ws) s r e = let p = first_eaten w ws s r e in end_kept ws p.1 r p.4 ∙ shift_end s (p.0, p.1) p.2
