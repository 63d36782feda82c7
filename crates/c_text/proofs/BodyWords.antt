-- Loops and bodies are read from their words
use Rattle.std.proofs.Common.{◌≡◌, refl, sym, ◌∙◌, ap, subst, ℕ, zero, suc, ◌+◌, ◌-◌, ◌*◌, ◌<◌, ◌≤◌, ◌^◌, Bool, true, false, ◌&&◌, ◌||◌, nat_lt, nat_le, leb-true, mul_comm, List, [], ◌∷◌, ◌++◌, append_assoc, length, map, slice_index_or, slice_set, Ok, codes, decimal, arith}
use Rattle.std.specs.Str.{bytes_eq}
use Rattle.std.proofs.lemmas.Bool.{eq-eqb, lt-ltb, leb-false}
use Rattle.std.proofs.lemmas.List.{append-nil}
use Rattle.ratio.specs.declared.reduced.Ratio.{Ratio}
use Rattle.c_unit.specs.declared.unit.Array.TheVariants.{T}
use Rattle.c_unit.specs.declared.unit.Place.{Place}
use Rattle.c_unit.specs.declared.unit.Slot.{Slot}
use Rattle.c_unit.specs.declared.unit.CStmt.{CStmt, Set, Copy, Abs, Inv, Add, Sub, Mul, Load}
use Rattle.c_unit.specs.declared.unit.CStmt.TheViews as View
use Rattle.c_unit.specs.Rules.{Sizes, KeepsTarget, KeepsSource, KeepsItem, Keeps, keeps_set, keeps_copy, keeps_abs, keeps_inv, keeps_add, keeps_sub, keeps_mul, keeps_load, keeps_loop, KeepAll, keep_none, keep_more}
use Rattle.c_unit.specs.Meaning.{deeper, counted, counted-For, counted_list}
use Rattle.c_text.specs.declared.statement.Body.{Body}
use Rattle.c_text.specs.Stream.{Stream, ◌>>=◌, repeat, is_ahead}
use Rattle.c_text.specs.Pieces.{words_of}
use Rattle.c_text.specs.Layout.{header_pieces, close_pieces, one_pieces, one_pieces-For, body_pieces, end_pieces, counter, indent}
use Rattle.c_text.specs.Statements.{call_at, own_counter_at, turns_at, header_at, capped, line_ahead, loop_by, is_call, is_statement, no_body, with_line, add_line, body_at, line_at}
use Rattle.c_text.proofs.NumberLaws.{eqb_ne}
use Rattle.c_text.proofs.Repeats.{one_more, all_read}
use Rattle.c_text.proofs.Bodies.{body_from, line_loop_at}
use Rattle.c_text.proofs.Eats.{Eats, eats_split, cut, one_eaten, expected, is_ahead_of, eaten_length, none_eaten}
use Rattle.c_text.proofs.NumberTexts.{counter_decimal}
use Rattle.c_text.proofs.PlaceWords.{scope_of, number_read}
use Rattle.c_text.proofs.StatementWords.{LineRead, never, called, calls_at, set_read, copy_read, abs_read, inverse_read, add_read, sub_read, mul_read, load_read}

-- ---- headers

own_read : (depth : ℕ) (s r : Stream) → depth < 2 ^ 32 → Eats (counter depth ∷ []) s r → own_counter_at depth s ≡ Ok (tt, r)
unfolding own_counter_at
own_read depth s r h e = let p = one_eaten (counter depth) s r e in rw p.1 (rw p.2 (rw (counter_decimal depth h) (rw (eq-eqb depth depth refl) refl)))

turns_read : (n : ℕ) (s r : Stream) → 0 < n → n < 2 ^ 32 → Eats (decimal n ∷ []) s r → turns_at s ≡ Ok (n, r)
unfolding turns_at
turns_read n s r some small e = let p = number_read n s r small e in rw p.1 (rw (eqb_ne n 0 (λ z. omega (arith, z, some))) refl)

header_read : (depth n : ℕ) (s r : Stream) → depth < 4 → 0 < n → n < 2 ^ 32 → Eats (words_of (header_pieces depth n)) s r → header_at depth s ≡ Ok (n, r)
unfolding header_at indent
header_read depth n s r four some small e =
    let a = eats_split (codes "for" ∷ codes "(" ∷ codes "int" ∷ []) _ s r e in
    let b = eats_split (counter depth ∷ []) _ a.0 r a.2 in
    let c = eats_split (codes "=" ∷ codes "0" ∷ codes ";" ∷ []) _ b.0 r b.2 in
    let d = eats_split (counter depth ∷ []) _ c.0 r c.2 in
    let f = eats_split (codes "<" ∷ []) _ d.0 r d.2 in
    let g = eats_split (decimal n ∷ []) _ f.0 r f.2 in
    let h = eats_split (codes ";" ∷ []) _ g.0 r g.2 in
    let i = eats_split (counter depth ∷ []) (codes "++" ∷ codes ")" ∷ codes "{" ∷ []) h.0 r h.2 in
    let below : depth < 2 ^ 32 = omega (arith, four) in
    let first = own_read depth a.0 b.0 below b.1 in
    let second = own_read depth c.0 d.0 below d.1 in
    let less = expected (codes "<") d.0 f.0 f.1 in
    let turns = turns_read n f.0 g.0 some small g.1 in
    let end = expected (codes ";") g.0 h.0 h.1 in
    let third = own_read depth h.0 i.0 below i.1 in
    rw a.1 (rw first (rw c.1 (rw second (rw less.1 (rw turns (rw end.1 (rw third (rw i.2 refl))))))))

-- ---- how many statements

pub cap_sum : (d l c more : ℕ) → l ≡ capped c → capped (capped (d + l) + more) ≡ capped (d + (c + more))
cap_sum d l c more h = omega (arith, h)

at_least : (x n : ℕ) → 0 < n → x ≤ x * n
at_least x n h = grind arith

cap_zero : (b c : ℕ) → capped (b * 0) ≡ capped (0 * c)
cap_zero b c = omega arith

cap_large : (b c n : ℕ) → b ≡ 67108865 → 67108865 ≤ c → capped (b * n) ≡ capped (n * c)
cap_large b c zero h k = cap_zero b c
cap_large b c (suc n) h k =
    let p = at_least b (suc n) (omega arith) in
    let q = at_least c (suc n) (omega arith) in
    let e : suc n * c ≡ c * suc n = mul_comm (suc n) c in
    omega (arith, h, k, p, q, e)

cap_by : (t : Bool) (b c n : ℕ) → nat_le c 67108865 ≡ t → b ≡ capped c → capped (b * n) ≡ capped (n * c)
cap_by true b c n e h =
    let k = leb-true c 67108865 e in
    let same : b ≡ c = omega (arith, h, k) in
    ap capped (ap (λ x. x * n) same ∙ mul_comm c n)
cap_by false b c n e h = let k = leb-false c 67108865 e in cap_large b c n (omega (arith, h, k)) (omega (arith, k))

pub cap_product : (b c n : ℕ) → b ≡ capped c → capped (b * n) ≡ capped (n * c)
cap_product b c n h = cap_by (nat_le c 67108865) b c n refl h

-- ---- statements and bodies

abbrev pub more_lines : ℕ → Stream → Bool
more_lines room s = is_statement (nat_lt 0 room) s

-- the statements cs were read on top of done, and r is left
record BodyOn (z : Sizes) (turns : List ℕ) (depth : ℕ) (tables : List (List Ratio)) (room m : ℕ) (done : Body) (cs : List CStmt) (s r : Stream) : Type 0 where
  body : Body
  read : repeat (more_lines room) (add_line (line_at room) (scope_of z turns depth) tables) m done s ≡ Ok (body, r)
  statements : body.statements ≡ done.statements ++ cs
  count : body.count ≡ capped (done.count + counted_list cs)

no_more : (z : Sizes) (turns : List ℕ) (depth : ℕ) (tables : List (List Ratio)) (room m : ℕ) (done : Body) (s r : Stream)
    → done.count ≤ 67108865 → Eats [] s r → more_lines room r ≡ false → BodyOn z turns depth tables room m done [] s r
no_more z turns depth tables room m done s r few e stop =
    let one = add_line (line_at room) (scope_of z turns depth) tables in
    record {
      body = done;
      read = all_read (more_lines room) one m _ done r (ap (repeat (more_lines room) one m done) (none_eaten s r e)) stop;
      statements = sym (append-nil done.statements);
      count = omega (arith, few);
    }

then_more : (z : Sizes) (turns : List ℕ) (depth : ℕ) (tables : List (List Ratio)) (room m k : ℕ) (done : Body) (c : CStmt) (cs : List CStmt) (s mid r : Stream)
    → (l : LineRead z turns depth tables room c s mid)
    → repeat (more_lines room) (add_line (line_at room) (scope_of z turns depth) tables) m done s ≡ repeat (more_lines room) (add_line (line_at room) (scope_of z turns depth) tables) k (with_line done l.line) mid
    → BodyOn z turns depth tables room k (with_line done l.line) cs mid r → BodyOn z turns depth tables room m done (c ∷ cs) s r
then_more z turns depth tables room m k done c cs s mid r l same b =
    record {
      body = b.body;
      read = same ∙ b.read;
      statements = b.statements ∙ append_assoc done.statements (l.line.statement ∷ []) cs ∙ ap (λ x. done.statements ++ x ∷ cs) l.statement;
      count = b.count ∙ cap_sum done.count l.line.count (counted c) (counted_list cs) l.count;
    }

-- the first words of what a statement can be are none of what ends a body
abbrev Here : Sizes → List ℕ → ℕ → CStmt → Type 0
Here z turns depth c = (tables : List (List Ratio)) (room : ℕ) (s r : Stream) → map length tables ≡ z.tables → length z.tables ≤ 2 ^ 32 → depth + room ≡ 4 → Eats (words_of (one_pieces depth c)) s r → LineRead z turns depth tables room c s r

set_line : {z : Sizes} {turns : List ℕ} {depth : ℕ} {to : Place} {v : Ratio} → KeepsTarget z turns depth to → Here z turns depth (Set to v)
unfolding call_at indent
set_line {z} {turns} {depth} {to} {v} k tables room s r known few deep e =
    called z turns depth tables room (Set to v) (codes "fr_set") _ s r e (calls_at (codes "fr_set") _ s r e) refl refl
    (rw (is_ahead_of (codes "fr_set") (codes "fr_set") _ s r e) (set_read z turns depth to v s r k e))

copy_line : {z : Sizes} {turns : List ℕ} {depth : ℕ} {to p : Place} → KeepsTarget z turns depth to → KeepsSource z turns depth p → Here z turns depth (Copy to p)
unfolding call_at indent
copy_line {z} {turns} {depth} {to} {p} k h tables room s r known few deep e =
    called z turns depth tables room (Copy to p) (codes "fr_copy") _ s r e (calls_at (codes "fr_copy") _ s r e) refl refl
    (rw (is_ahead_of (codes "fr_set") (codes "fr_copy") _ s r e)
    (rw (is_ahead_of (codes "fr_copy") (codes "fr_copy") _ s r e) (copy_read z turns depth to p s r k h e)))

abs_line : {z : Sizes} {turns : List ℕ} {depth : ℕ} {to p : Place} → KeepsTarget z turns depth to → KeepsSource z turns depth p → Here z turns depth (Abs to p)
unfolding call_at indent
abs_line {z} {turns} {depth} {to} {p} k h tables room s r known few deep e =
    called z turns depth tables room (Abs to p) (codes "fr_abs") _ s r e (calls_at (codes "fr_abs") _ s r e) refl refl
    (rw (is_ahead_of (codes "fr_set") (codes "fr_abs") _ s r e)
    (rw (is_ahead_of (codes "fr_copy") (codes "fr_abs") _ s r e) (rw (is_ahead_of (codes "fr_abs") (codes "fr_abs") _ s r e) (abs_read z turns depth to p s r k h e))))

inverse_line : {z : Sizes} {turns : List ℕ} {depth : ℕ} {to p : Place} → KeepsTarget z turns depth to → KeepsSource z turns depth p → Here z turns depth (Inv to p)
unfolding call_at indent
inverse_line {z} {turns} {depth} {to} {p} k h tables room s r known few deep e =
    called z turns depth tables room (Inv to p) (codes "if") _ s r e (calls_at (codes "if") _ s r e) refl refl
    (rw (is_ahead_of (codes "fr_set") (codes "if") _ s r e)
    (rw (is_ahead_of (codes "fr_copy") (codes "if") _ s r e)
    (rw (is_ahead_of (codes "fr_abs") (codes "if") _ s r e)
    (rw (is_ahead_of (codes "fr_load") (codes "if") _ s r e) (inverse_read z turns depth to p s r k h e)))))

sum_line : {z : Sizes} {turns : List ℕ} {depth : ℕ} {to p q : Place} → KeepsTarget z turns depth to → KeepsSource z turns depth p → KeepsSource z turns depth q → Here z turns depth (Add to p q)
unfolding call_at indent
sum_line {z} {turns} {depth} {to} {p} {q} k h i tables room s r known few deep e =
    called z turns depth tables room (Add to p q) (codes "if") _ s r e (calls_at (codes "if") _ s r e) refl refl
    (rw (is_ahead_of (codes "fr_set") (codes "if") _ s r e)
    (rw (is_ahead_of (codes "fr_copy") (codes "if") _ s r e)
    (rw (is_ahead_of (codes "fr_abs") (codes "if") _ s r e)
    (rw (is_ahead_of (codes "fr_load") (codes "if") _ s r e) (add_read z turns depth to p q s r k h i e)))))

sub_line : {z : Sizes} {turns : List ℕ} {depth : ℕ} {to p q : Place} → KeepsTarget z turns depth to → KeepsSource z turns depth p → KeepsSource z turns depth q → Here z turns depth (Sub to p q)
unfolding call_at indent
sub_line {z} {turns} {depth} {to} {p} {q} k h i tables room s r known few deep e =
    called z turns depth tables room (Sub to p q) (codes "if") _ s r e (calls_at (codes "if") _ s r e) refl refl
    (rw (is_ahead_of (codes "fr_set") (codes "if") _ s r e)
    (rw (is_ahead_of (codes "fr_copy") (codes "if") _ s r e)
    (rw (is_ahead_of (codes "fr_abs") (codes "if") _ s r e)
    (rw (is_ahead_of (codes "fr_load") (codes "if") _ s r e) (sub_read z turns depth to p q s r k h i e)))))

mul_line : {z : Sizes} {turns : List ℕ} {depth : ℕ} {to p q : Place} → KeepsTarget z turns depth to → KeepsSource z turns depth p → KeepsSource z turns depth q → Here z turns depth (Mul to p q)
unfolding call_at indent
mul_line {z} {turns} {depth} {to} {p} {q} k h i tables room s r known few deep e =
    called z turns depth tables room (Mul to p q) (codes "if") _ s r e (calls_at (codes "if") _ s r e) refl refl
    (rw (is_ahead_of (codes "fr_set") (codes "if") _ s r e)
    (rw (is_ahead_of (codes "fr_copy") (codes "if") _ s r e)
    (rw (is_ahead_of (codes "fr_abs") (codes "if") _ s r e)
    (rw (is_ahead_of (codes "fr_load") (codes "if") _ s r e) (mul_read z turns depth to p q s r k h i e)))))

of_array : (p : Place) → p.array ≡ T → p ≡ record { array = T; slot = p.slot }
of_array p h = ap (λ a. record { array = a; slot = p.slot }) h

load_slot_line : (z : Sizes) (turns : List ℕ) (depth : ℕ) (slot : Slot) (k : ℕ) (at : Slot) → KeepsTarget z turns depth (record { array = T; slot = slot }) → k < length z.tables → KeepsItem turns depth (slice_index_or z.tables k 0) at
    → Here z turns depth (Load (record { array = T; slot = slot }) k at)
unfolding call_at indent
load_slot_line z turns depth slot k at target h item tables room s r known few deep e =
    called z turns depth tables room (Load (record { array = T; slot = slot }) k at) (codes "fr_load") _ s r e (calls_at (codes "fr_load") _ s r e) refl refl
    (rw (is_ahead_of (codes "fr_set") (codes "fr_load") _ s r e)
    (rw (is_ahead_of (codes "fr_copy") (codes "fr_load") _ s r e)
    (rw (is_ahead_of (codes "fr_abs") (codes "fr_load") _ s r e)
    (rw (is_ahead_of (codes "fr_load") (codes "fr_load") _ s r e) (load_read z turns depth tables known slot k at s r target h (omega (arith, h, few)) item e)))))

load_line : {z : Sizes} {turns : List ℕ} {depth : ℕ} {to : Place} {k : ℕ} {at : Slot} → KeepsTarget z turns depth to → to.array ≡ T → k < length z.tables → KeepsItem turns depth (slice_index_or z.tables k 0) at
    → Here z turns depth (Load to k at)
load_line {z} {turns} {depth} {to} {k} {at} target t h item =
    subst (λ p. Here z turns depth (Load p k at)) (sym (of_array to t)) (load_slot_line z turns depth to.slot k at (subst (KeepsTarget z turns depth) (of_array to t) target) h item)

-- ---- loops

pub one_deeper : (depth : ℕ) → depth < 4 → deeper depth ≡ depth + 1
one_deeper depth h = rw (lt-ltb depth 4 h) refl

pub no_line : (room : ℕ) (w : List ℕ) (ws : List (List ℕ)) (s r : Stream) → Eats (w ∷ ws) s r
    → (bytes_eq w (codes "fr_set") || (bytes_eq w (codes "fr_copy") || (bytes_eq w (codes "fr_abs") || (bytes_eq w (codes "fr_load") || bytes_eq w (codes "if"))))) ≡ false → bytes_eq w (codes "for") ≡ false
    → more_lines room s ≡ false
no_line room w ws s r e calls no_for = rw (calls_at w ws s r e) (rw calls (rw (is_ahead_of (codes "for") w ws s r e) (rw no_for (never (nat_lt 0 room)))))

or_last : (a b : Bool) → b ≡ true → (a || b) ≡ true
or_last true b h = refl
or_last false b h = h

-- the body of a loop, as a whole
pub record BodyRead (z : Sizes) (turns : List ℕ) (depth : ℕ) (tables : List (List Ratio)) (room : ℕ) (cs : List CStmt) (s r : Stream) : Type 0 where
  pub body : Body
  pub read : body_at room (scope_of z turns depth) tables s ≡ Ok (body, r)
  pub statements : body.statements ≡ cs
  pub count : body.count ≡ capped (counted_list cs)

whole_body : (z : Sizes) (turns : List ℕ) (depth : ℕ) (tables : List (List Ratio)) (room : ℕ) (cs : List CStmt) (s r : Stream) → BodyOn z turns depth tables room (length s.tokens) no_body cs s r → BodyRead z turns depth tables room cs s r
whole_body z turns depth tables room cs s r b = record { body = b.body; read = body_from room (scope_of z turns depth) tables s ∙ b.read; statements = b.statements; count = b.count ∙ omega arith }

loop_line : (z : Sizes) (turns : List ℕ) (depth n : ℕ) (body : List CStmt) (tables : List (List Ratio)) (room : ℕ) (s a b r : Stream) → depth < 4 → 0 < n → n < 2 ^ 32 → depth + room ≡ 4
    → Eats (words_of (header_pieces depth n)) s a → BodyRead z (slice_set turns depth n) (depth + 1) tables (room - 1) body a b → Eats (codes "}" ∷ []) b r → length r.tokens < length s.tokens
    → LineRead z turns depth tables room (View.For n body) s r
unfolding loop_by indent
loop_line z turns depth n body tables room s a b r four some small deep e inner close shorter =
    let t = is_ahead_of (codes "for") (codes "for") _ s a e in
    let loops : (nat_lt 0 room && is_ahead (codes "for") s) ≡ true = rw t (rw (lt-ltb 0 room (omega (arith, four, deep))) refl) in
    let h = header_read depth n s a four some small e in
    let c = expected (codes "}") b r close in
    record {
      line = record { statement = View.For n inner.body.statements; lines = line_ahead s ∷ inner.body.lines; count = capped (inner.body.count * n) };
      read = line_loop_at room (scope_of z turns depth) tables s loops ∙ rw h (rw inner.read (rw c.1 refl));
      statement = ap (View.For n) inner.statements;
      count = cap_product inner.body.count (counted_list body) n inner.count ∙ ap capped (sym (counted-For n body));
      begins = or_last (is_call s) _ loops;
      shorter = shorter;
    }

closing : (depth : ℕ) (s r : Stream) → Eats (words_of (close_pieces depth)) s r → Eats (codes "}" ∷ []) s r
unfolding indent
closing depth s r e = e

end_of_loop : (depth room : ℕ) (s r : Stream) → Eats (words_of (close_pieces depth)) s r → more_lines room s ≡ false
end_of_loop depth room s r e = no_line room (codes "}") [] s r (closing depth s r e) refl refl

fewer : (depth n : ℕ) (body : List CStmt) (s a b r : Stream) → Eats (words_of (header_pieces depth n)) s a → Eats (words_of (body_pieces (depth + 1) body)) a b → Eats (words_of (close_pieces depth)) b r → length r.tokens < length s.tokens
fewer depth n body s a b r e f g =
    let i = eaten_length (words_of (header_pieces depth n)) s a e in
    let j = eaten_length (words_of (body_pieces (depth + 1) body)) a b f in
    let k = eaten_length (codes "}" ∷ []) b r (closing depth b r g) in
    omega (arith, i, j, k)

-- one statement more
on_with : (z : Sizes) (turns : List ℕ) (depth : ℕ) (tables : List (List Ratio)) (room m : ℕ) (done : Body) (c : CStmt) (s mid : Stream) → length s.tokens ≤ m → (l : LineRead z turns depth tables room c s mid)
    → (k : ℕ) × (length mid.tokens ≤ k)
    × (repeat (more_lines room) (add_line (line_at room) (scope_of z turns depth) tables) m done s ≡ repeat (more_lines room) (add_line (line_at room) (scope_of z turns depth) tables) k (with_line done l.line) mid)
on_with z turns depth tables room m done c s mid enough l =
    one_more (more_lines room) (add_line (line_at room) (scope_of z turns depth) tables) m (length s.tokens) (length mid.tokens) _ done s (with_line done l.line, mid) enough l.shorter refl l.begins
    (ap (λ x. x >>= λ x. Ok (with_line done x.0, x.1)) l.read)

-- ---- all statements

mutual
  line_read : {z : Sizes} {turns : List ℕ} {depth : ℕ} {c : CStmt} → Keeps z turns depth c → Here z turns depth c
  line_read (keeps_set k) = set_line k
  line_read (keeps_copy k h) = copy_line k h
  line_read (keeps_abs k h) = abs_line k h
  line_read (keeps_inv k h) = inverse_line k h
  line_read (keeps_add k h i) = sum_line k h i
  line_read (keeps_sub k h i) = sub_line k h i
  line_read (keeps_mul k h i) = mul_line k h i
  line_read (keeps_load k t h i) = load_line k t h i
  line_read {z} {turns} {depth} (keeps_loop {n = n} {body = body} four some small keep) = λ tables room s r known few deep e.
      let e' : Eats (words_of (header_pieces depth n ++ (body_pieces (depth + 1) body ++ close_pieces depth))) s r
      = subst (λ d. Eats (words_of (header_pieces depth n ++ (body_pieces d body ++ close_pieces depth))) s r) (one_deeper depth four) (subst (λ ps. Eats (words_of ps) s r) (one_pieces-For depth n body) e) in
      let a = cut (header_pieces depth n) (body_pieces (depth + 1) body ++ close_pieces depth) s r e' in
      let b = cut (body_pieces (depth + 1) body) (close_pieces depth) a.0 r a.2 in
      let inner = body_read keep tables (room - 1) (length a.0.tokens) no_body a.0 b.0 known few (omega (arith, four, deep)) (omega arith) (omega arith) b.1 (end_of_loop depth (room - 1) b.0 r b.2) in
      loop_line z turns depth n body tables room s a.0 b.0 r four some small deep a.1 (whole_body z (slice_set turns depth n) (depth + 1) tables (room - 1) body a.0 b.0 inner) (closing depth b.0 r b.2) (fewer depth n body s a.0 b.0 r a.1 b.1 b.2)

  body_read : {z : Sizes} {turns : List ℕ} {depth : ℕ} {cs : List CStmt} → KeepAll z turns depth cs
      → (tables : List (List Ratio)) (room m : ℕ) (done : Body) (s r : Stream) → map length tables ≡ z.tables → length z.tables ≤ 2 ^ 32 → depth + room ≡ 4 → length s.tokens ≤ m → done.count ≤ 67108865
      → Eats (words_of (body_pieces depth cs)) s r → more_lines room r ≡ false → BodyOn z turns depth tables room m done cs s r
  body_read {z} {turns} {depth} keep_none = λ tables room m done s r known few deep enough low e stop. no_more z turns depth tables room m done s r low e stop
  body_read {z} {turns} {depth} (keep_more {c = c} {cs = cs} k ks) = λ tables room m done s r known few deep enough low e stop.
      let a = cut (one_pieces depth c) (body_pieces depth cs) s r e in
      let l = line_read k tables room s a.0 known few deep a.1 in
      let o = on_with z turns depth tables room m done c s a.0 enough l in
      then_more z turns depth tables room m o.0 done c cs s a.0 r l o.2 (body_read ks tables room o.0 (with_line done l.line) a.0 r known few deep o.1 (omega arith) a.2 stop)

-- a whole body
pub body_whole : {z : Sizes} {turns : List ℕ} {depth : ℕ} {cs : List CStmt} → KeepAll z turns depth cs → (tables : List (List Ratio)) (room : ℕ) (s r : Stream) → map length tables ≡ z.tables → length z.tables ≤ 2 ^ 32 → depth + room ≡ 4
    → Eats (words_of (body_pieces depth cs)) s r → more_lines room r ≡ false → BodyRead z turns depth tables room cs s r
body_whole {z} {turns} {depth} {cs} keep tables room s r known few deep e stop =
    whole_body z turns depth tables room cs s r (body_read keep tables room (length s.tokens) no_body s r known few deep (omega arith) (omega arith) e stop)

-- no statement begins like a table
no_table : {z : Sizes} {turns : List ℕ} {depth : ℕ} {c : CStmt} → Keeps z turns depth c → (s r : Stream) → Eats (words_of (one_pieces depth c)) s r → is_ahead (codes "static") s ≡ false
unfolding indent
no_table (keeps_set k) = λ s r e. is_ahead_of (codes "static") (codes "fr_set") _ s r e
no_table (keeps_copy k h) = λ s r e. is_ahead_of (codes "static") (codes "fr_copy") _ s r e
no_table (keeps_abs k h) = λ s r e. is_ahead_of (codes "static") (codes "fr_abs") _ s r e
no_table (keeps_inv k h) = λ s r e. is_ahead_of (codes "static") (codes "if") _ s r e
no_table (keeps_add k h i) = λ s r e. is_ahead_of (codes "static") (codes "if") _ s r e
no_table (keeps_sub k h i) = λ s r e. is_ahead_of (codes "static") (codes "if") _ s r e
no_table (keeps_mul k h i) = λ s r e. is_ahead_of (codes "static") (codes "if") _ s r e
no_table (keeps_load k t h i) = λ s r e. is_ahead_of (codes "static") (codes "fr_load") _ s r e
no_table {depth = depth} (keeps_loop {n = n} {body = body} four some small keep) = λ s r e. is_ahead_of (codes "static") (codes "for") _ s r (subst (λ ps. Eats (words_of ps) s r) (one_pieces-For depth n body) e)

pub tables_end : {z : Sizes} {turns : List ℕ} {depth : ℕ} {cs : List CStmt} → KeepAll z turns depth cs → (s r : Stream) → Eats (words_of (body_pieces depth cs ++ end_pieces)) s r → is_ahead (codes "static") s ≡ false
unfolding indent
tables_end keep_none = λ s r e. is_ahead_of (codes "static") (codes "return") _ s r e
tables_end {depth = depth} (keep_more {c = c} {cs = cs} k ks) = λ s r e.
    let a = cut (one_pieces depth c ++ body_pieces depth cs) end_pieces s r e in
    let b = cut (one_pieces depth c) (body_pieces depth cs) s a.0 a.1 in
    no_table k s b.0 b.1
