-- Statements are read from their words
use Rattle.std.proofs.Common.{◌≡◌, refl, sym, ◌∙◌, ap, subst, ℕ, zero, suc, ◌<◌, ◌^◌, Bool, true, false, ◌&&◌, ◌||◌, nat_lt, List, [], ◌∷◌, ◌++◌, length, map, slice_get, slice_index_or, Some, Ok, codes, arith}
use Rattle.std.specs.Str.{bytes_eq}
use Rattle.ratio.specs.declared.reduced.Ratio.{Ratio}
use Rattle.c_unit.specs.declared.unit.Array.TheVariants.{T}
use Rattle.c_unit.specs.declared.unit.Slot.{Slot}
use Rattle.c_unit.specs.declared.unit.Place.{Place}
use Rattle.c_unit.specs.declared.unit.CStmt.{CStmt, Set, Copy, Abs, Inv, Add, Sub, Mul, Load}
use Rattle.c_unit.specs.Rules.{Sizes, KeepsItem, KeepsSource, KeepsTarget}
use Rattle.c_unit.specs.Meaning.{counted}
use Rattle.c_text.specs.declared.statement.Line.{Line}
use Rattle.c_text.specs.Stream.{Stream, is_ahead}
use Rattle.c_text.specs.Pieces.{Solid, Sign, blank, feed, words_of}
use Rattle.c_text.specs.Layout.{value_pieces, place_pieces, slot_pieces, call_pieces, test_pieces, both_pieces, item_pieces, table_name, indent}
use Rattle.c_text.specs.Statements.{set_at, pair_at, copy_at, abs_at, inverse_at, triple_at, add_at, sub_at, mul_at, step_call_at, test_at, table_used_at, load_at, call_at, capped, line_ahead, call_line_at, is_call, is_statement, line_at}
use Rattle.c_text.proofs.Bodies.{line_call_at}
use Rattle.c_text.proofs.Eats.{Eats, eats_split, eats_join, cut, one_eaten, expected, ahead_eaten, is_ahead_of, eaten_length}
use Rattle.c_text.proofs.NumberTexts.{table_decimal}
use Rattle.c_text.proofs.PlaceWords.{scope_of, target_read, source_read, slot_read, bracket}
use Rattle.c_text.proofs.TableWords.{value_read}

-- ---- calls

module _ (z : Sizes) (turns : List ℕ) (depth : ℕ) where
  pub set_read : (to : Place) (v : Ratio) (s r : Stream) → KeepsTarget z turns depth to → Eats (words_of (call_pieces depth (codes "fr_set") to (value_pieces v))) s r → set_at (scope_of z turns depth) s ≡ Ok (Set to v, r)
  unfolding set_at indent
  set_read to v s r keeps e =
      let a = eats_split (codes "fr_set" ∷ codes "(" ∷ []) _ s r e in
      let b = cut (place_pieces to) _ a.0 r a.2 in
      let c = eats_split (codes "," ∷ []) _ b.0 r b.2 in
      let d = cut (value_pieces v) (Sign (codes ")") ∷ Sign (codes ";") ∷ feed ∷ []) c.0 r c.2 in
      let p = target_read z turns depth to a.0 b.0 keeps b.1 in
      let q = expected (codes ",") b.0 c.0 c.1 in
      let u = value_read v c.0 d.0 d.1 in
      rw a.1 (rw p (rw q.1 (rw u (rw d.2 refl))))

  pair_read : (word : List ℕ) (to p : Place) (s a b c r : Stream) → KeepsTarget z turns depth to → KeepsSource z turns depth p
      → Eats (word ∷ codes "(" ∷ []) s a → Eats (words_of (place_pieces to)) a b → Eats (codes "," ∷ []) b c → Eats (words_of (place_pieces p)) c r
      → pair_at word (scope_of z turns depth) s ≡ Ok ((to, p), r)
  unfolding pair_at
  pair_read word to p s a b c r keeps source f g h i =
      let u = target_read z turns depth to a b keeps g in
      let q = expected (codes ",") b c h in
      let v = source_read z turns depth p c r source i in
      rw f (rw u (rw q.1 (rw v refl)))

  pub copy_read : (to p : Place) (s r : Stream) → KeepsTarget z turns depth to → KeepsSource z turns depth p → Eats (words_of (call_pieces depth (codes "fr_copy") to (place_pieces p))) s r
      → copy_at (scope_of z turns depth) s ≡ Ok (Copy to p, r)
  unfolding copy_at indent
  copy_read to p s r keeps source e =
      let a = eats_split (codes "fr_copy" ∷ codes "(" ∷ []) _ s r e in
      let b = cut (place_pieces to) _ a.0 r a.2 in
      let c = eats_split (codes "," ∷ []) _ b.0 r b.2 in
      let d = cut (place_pieces p) (Sign (codes ")") ∷ Sign (codes ";") ∷ feed ∷ []) c.0 r c.2 in
      rw (pair_read (codes "fr_copy") to p s a.0 b.0 c.0 d.0 keeps source a.1 b.1 c.1 d.1) (rw d.2 refl)

  pub abs_read : (to p : Place) (s r : Stream) → KeepsTarget z turns depth to → KeepsSource z turns depth p → Eats (words_of (call_pieces depth (codes "fr_abs") to (place_pieces p))) s r
      → abs_at (scope_of z turns depth) s ≡ Ok (Abs to p, r)
  unfolding abs_at indent
  abs_read to p s r keeps source e =
      let a = eats_split (codes "fr_abs" ∷ codes "(" ∷ []) _ s r e in
      let b = cut (place_pieces to) _ a.0 r a.2 in
      let c = eats_split (codes "," ∷ []) _ b.0 r b.2 in
      let d = cut (place_pieces p) (Sign (codes ")") ∷ Sign (codes ";") ∷ feed ∷ []) c.0 r c.2 in
      rw (pair_read (codes "fr_abs") to p s a.0 b.0 c.0 d.0 keeps source a.1 b.1 c.1 d.1) (rw d.2 refl)

  pub inverse_read : (to p : Place) (s r : Stream) → KeepsTarget z turns depth to → KeepsSource z turns depth p → Eats (words_of (test_pieces depth (codes "fr_inv") to (place_pieces p) (codes "2"))) s r
      → test_at (scope_of z turns depth) s ≡ Ok (Inv to p, r)
  unfolding test_at step_call_at inverse_at indent
  inverse_read to p s r keeps source e =
      let o = eats_split (codes "if" ∷ codes "(" ∷ []) _ s r e in
      let a = eats_split (codes "fr_inv" ∷ codes "(" ∷ []) _ o.0 r o.2 in
      let b = cut (place_pieces to) _ a.0 r a.2 in
      let c = eats_split (codes "," ∷ []) _ b.0 r b.2 in
      let d = cut (place_pieces p) (Sign (codes ")") ∷ Sign (codes ")") ∷ blank ∷ Solid (codes "return") ∷ blank ∷ Solid (codes "2") ∷ Sign (codes ";") ∷ feed ∷ []) c.0 r c.2 in
      rw o.1
      (rw (is_ahead_of (codes "fr_add") (codes "fr_inv") _ o.0 a.0 a.1)
      (rw (is_ahead_of (codes "fr_sub") (codes "fr_inv") _ o.0 a.0 a.1)
      (rw (is_ahead_of (codes "fr_mul") (codes "fr_inv") _ o.0 a.0 a.1)
      (rw (pair_read (codes "fr_inv") to p o.0 a.0 b.0 c.0 d.0 keeps source a.1 b.1 c.1 d.1) (rw d.2 refl)))))

  record Three (word : List ℕ) (to p q : Place) (s r : Stream) : Type 0 where
    behind : Stream
    begun : Eats (codes "if" ∷ codes "(" ∷ []) s behind
    rest : List (List ℕ)
    ahead : Eats (word ∷ rest) behind r
    read : triple_at word (scope_of z turns depth) behind ≡ Ok ((to, p, q), r)

  triple_read : (word : List ℕ) (to p q : Place) (s r : Stream) → KeepsTarget z turns depth to → KeepsSource z turns depth p → KeepsSource z turns depth q
      → Eats (words_of (test_pieces depth word to (both_pieces p q) (codes "1"))) s r → Three word to p q s r
  unfolding triple_at indent
  triple_read word to p q s r keeps left right e =
      let o = eats_split (codes "if" ∷ codes "(" ∷ []) _ s r e in
      let a = eats_split (word ∷ codes "(" ∷ []) _ o.0 r o.2 in
      let b = cut (place_pieces to) _ a.0 r a.2 in
      let c = eats_split (codes "," ∷ []) _ b.0 r b.2 in
      let d = cut (both_pieces p q) (Sign (codes ")") ∷ Sign (codes ")") ∷ blank ∷ Solid (codes "return") ∷ blank ∷ Solid (codes "1") ∷ Sign (codes ";") ∷ feed ∷ []) c.0 r c.2 in
      let f = cut (place_pieces p) (Sign (codes ",") ∷ blank ∷ place_pieces q) c.0 d.0 d.1 in
      let g = eats_split (codes "," ∷ []) (words_of (place_pieces q)) f.0 d.0 f.2 in
      let i = expected (codes ",") f.0 g.0 g.1 in
      record {
        behind = o.0;
        begun = o.1;
        rest = _;
        ahead = o.2;
        read =
            rw (pair_read word to p o.0 a.0 b.0 c.0 f.0 keeps left a.1 b.1 c.1 f.1) (rw i.1 (rw (source_read z turns depth q g.0 d.0 right g.2) (rw d.2 refl)));
      }

  pub add_read : (to p q : Place) (s r : Stream) → KeepsTarget z turns depth to → KeepsSource z turns depth p → KeepsSource z turns depth q
      → Eats (words_of (test_pieces depth (codes "fr_add") to (both_pieces p q) (codes "1"))) s r → test_at (scope_of z turns depth) s ≡ Ok (Add to p q, r)
  unfolding test_at step_call_at add_at
  add_read to p q s r keeps left right e =
      let t = triple_read (codes "fr_add") to p q s r keeps left right e in
      rw t.begun (rw (is_ahead_of (codes "fr_add") (codes "fr_add") t.rest t.behind r t.ahead) (rw t.read refl))

  pub sub_read : (to p q : Place) (s r : Stream) → KeepsTarget z turns depth to → KeepsSource z turns depth p → KeepsSource z turns depth q
      → Eats (words_of (test_pieces depth (codes "fr_sub") to (both_pieces p q) (codes "1"))) s r → test_at (scope_of z turns depth) s ≡ Ok (Sub to p q, r)
  unfolding test_at step_call_at sub_at
  sub_read to p q s r keeps left right e =
      let t = triple_read (codes "fr_sub") to p q s r keeps left right e in
      rw t.begun
      (rw (is_ahead_of (codes "fr_add") (codes "fr_sub") t.rest t.behind r t.ahead) (rw (is_ahead_of (codes "fr_sub") (codes "fr_sub") t.rest t.behind r t.ahead) (rw t.read refl)))

  pub mul_read : (to p q : Place) (s r : Stream) → KeepsTarget z turns depth to → KeepsSource z turns depth p → KeepsSource z turns depth q
      → Eats (words_of (test_pieces depth (codes "fr_mul") to (both_pieces p q) (codes "1"))) s r → test_at (scope_of z turns depth) s ≡ Ok (Mul to p q, r)
  unfolding test_at step_call_at mul_at
  mul_read to p q s r keeps left right e =
      let t = triple_read (codes "fr_mul") to p q s r keeps left right e in
      rw t.begun
      (rw (is_ahead_of (codes "fr_add") (codes "fr_mul") t.rest t.behind r t.ahead)
      (rw (is_ahead_of (codes "fr_sub") (codes "fr_mul") t.rest t.behind r t.ahead) (rw (is_ahead_of (codes "fr_mul") (codes "fr_mul") t.rest t.behind r t.ahead) (rw t.read refl))))

found : (tables : List (List Ratio)) (k : ℕ) → k < length (map length tables) → (t : List Ratio) × (slice_get tables k ≡ Some t) × (slice_index_or (map length tables) k 0 ≡ length t)
found [] k h = absurd (omega (arith, h))
found (t ∷ ts) zero h = (t, refl, refl)
found (t ∷ ts) (suc k) h = found ts k (omega (arith, h))

module _ (z : Sizes) (turns : List ℕ) (depth : ℕ) (tables : List (List Ratio)) (known : map length tables ≡ z.tables) where
  used_read : (k : ℕ) (s r : Stream) → k < length z.tables → k < 2 ^ 32 → Eats (table_name k ∷ []) s r → table_used_at tables s ≡ Ok ((k, slice_index_or z.tables k 0), r)
  unfolding table_used_at
  used_read k s r h small e =
      let p = one_eaten (table_name k) s r e in
      let t = found tables k (subst (λ l. k < length l) (sym known) h) in
      rw p.1 (rw p.2 (rw (table_decimal k small) (rw t.1 (rw (sym known) (rw t.2 refl)))))

  pub load_read : (slot : Slot) (k : ℕ) (at : Slot) (s r : Stream) → KeepsTarget z turns depth (record { array = T; slot = slot }) → k < length z.tables → k < 2 ^ 32 → KeepsItem turns depth (slice_index_or z.tables k 0) at
      → Eats (words_of (call_pieces depth (codes "fr_load") (record { array = T; slot = slot }) (item_pieces k at))) s r → load_at (scope_of z turns depth) tables s ≡ Ok (Load (record { array = T; slot = slot }) k at, r)
  unfolding load_at indent place_pieces
  load_read slot k at s r keeps h small item e =
      let a = eats_split (codes "fr_load" ∷ codes "(" ∷ []) _ s r e in
      let b = cut (place_pieces (record { array = T; slot = slot })) (Sign (codes ",") ∷ blank ∷ item_pieces k at ++ (Sign (codes ")") ∷ Sign (codes ";") ∷ feed ∷ [])) a.0 r a.2 in
      let c = eats_split (codes "&" ∷ codes "T" ∷ codes "[" ∷ []) (words_of (slot_pieces slot ++ Sign (codes "]") ∷ [])) a.0 b.0 b.1 in
      let d = cut (slot_pieces slot) (Sign (codes "]") ∷ []) c.0 b.0 c.2 in
      let f = eats_split (codes "," ∷ []) _ b.0 r b.2 in
      let g = cut (item_pieces k at) (Sign (codes ")") ∷ Sign (codes ";") ∷ feed ∷ []) f.0 r f.2 in
      let i = eats_split (codes "&" ∷ []) _ f.0 g.0 g.1 in
      let j = eats_split (table_name k ∷ []) _ i.0 g.0 i.2 in
      let l = eats_split (codes "[" ∷ []) (words_of (slot_pieces at ++ Sign (codes "]") ∷ [])) j.0 g.0 j.2 in
      let m = cut (slot_pieces at) (Sign (codes "]") ∷ []) l.0 g.0 l.2 in
      let opening = eats_join (codes "fr_load" ∷ codes "(" ∷ []) (codes "&" ∷ codes "T" ∷ codes "[" ∷ []) s a.0 c.0 a.1 c.1 in
      let middle = eats_join (codes "]" ∷ codes "," ∷ []) (codes "&" ∷ []) d.0 f.0 i.0 (eats_join (codes "]" ∷ []) (codes "," ∷ []) d.0 b.0 f.0 d.2 f.1) i.1 in
      let closing = eats_join (codes "]" ∷ []) (codes ")" ∷ codes ";" ∷ []) m.0 g.0 r m.2 g.2 in
      let to = slot_read (scope_of z turns depth) z.t slot c.0 d.0 (record { within = keeps.within.0; numbers = keeps.numbers }) d.1 (bracket d.0 b.0 d.2) in
      let used = used_read k i.0 j.0 h small j.1 in
      let b2 = expected (codes "[") j.0 l.0 l.1 in
      let from = slot_read (scope_of z turns depth) (slice_index_or z.tables k 0) at l.0 m.0 item m.1 (bracket m.0 g.0 m.2) in
      rw opening (rw to (rw middle (rw used (rw b2.1 (rw from (rw closing refl))))))

-- ---- statements and loops

pub calls_at : (w : List ℕ) (ws : List (List ℕ)) (s r : Stream) → Eats (w ∷ ws) s r
    → is_call s ≡ (bytes_eq w (codes "fr_set") || (bytes_eq w (codes "fr_copy") || (bytes_eq w (codes "fr_abs") || (bytes_eq w (codes "fr_load") || bytes_eq w (codes "if")))))
unfolding is_call
calls_at w ws s r e =
    ap (λ t. bytes_eq t (codes "fr_set") || (bytes_eq t (codes "fr_copy") || (bytes_eq t (codes "fr_abs") || (bytes_eq t (codes "fr_load") || bytes_eq t (codes "if"))))) (ahead_eaten w ws s r e)

-- a statement was read as c, and r is left
pub record LineRead (z : Sizes) (turns : List ℕ) (depth : ℕ) (tables : List (List Ratio)) (room : ℕ) (c : CStmt) (s r : Stream) : Type 0 where
  pub line : Line
  pub read : line_at room (scope_of z turns depth) tables s ≡ Ok (line, r)
  pub statement : line.statement ≡ c
  pub count : line.count ≡ capped (counted c)
  pub begins : is_statement (nat_lt 0 room) s ≡ true
  pub shorter : length r.tokens < length s.tokens

pub never : (b : Bool) → (b && false) ≡ false
never true = refl
never false = refl

either : (a b : Bool) → a ≡ true → (a || b) ≡ true
either a b h = cc

pub called : (z : Sizes) (turns : List ℕ) (depth : ℕ) (tables : List (List Ratio)) (room : ℕ) (c : CStmt) (w : List ℕ) (ws : List (List ℕ)) (s r : Stream)
    → Eats (w ∷ ws) s r → is_call s ≡ true → bytes_eq w (codes "for") ≡ false → counted c ≡ 1 → call_at (scope_of z turns depth) tables s ≡ Ok (c, r) → LineRead z turns depth tables room c s r
unfolding call_line_at
called z turns depth tables room c w ws s r e call no_for one h =
    let t : (nat_lt 0 room && is_ahead (codes "for") s) ≡ false = ap (λ b. nat_lt 0 room && b) (is_ahead_of (codes "for") w ws s r e ∙ no_for) ∙ never (nat_lt 0 room) in
    let k = eaten_length (w ∷ ws) s r e in
    record {
      line = record { statement = c; lines = line_ahead s ∷ []; count = 1 };
      read = line_call_at room (scope_of z turns depth) tables s t ∙ rw h refl;
      statement = refl;
      count = sym (ap capped one);
      begins = either (is_call s) _ call;
      shorter = omega (arith, k);
    }
