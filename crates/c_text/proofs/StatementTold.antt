-- What is read as a statement consists of its words, and keeps the rules
use Rattle.std.proofs.Common.{◌≡◌, refl, sym, ◌∙◌, ap, subst, ℕ, zero, suc, ◌<◌, ◌≤◌, List, [], ◌∷◌, ◌++◌, length, map, slice_get, slice_index_or, Option, Some, None, Ok, codes, arith, inl}
use Rattle.ratio.specs.declared.reduced.Ratio.{Ratio}
use Rattle.slices.specs.Tokens.{Token}
use Rattle.c_unit.specs.declared.unit.Array.TheVariants.{T}
use Rattle.c_unit.specs.declared.unit.Place.{Place}
use Rattle.c_unit.specs.declared.unit.CStmt.{CStmt, Set, Copy, Abs, Inv, Add, Sub, Mul, Load}
use Rattle.c_unit.specs.Rules.{Sizes, KeepsItem, KeepsSource, KeepsTarget, Keeps, keeps_set, keeps_copy, keeps_abs, keeps_inv, keeps_add, keeps_sub, keeps_mul, keeps_load}
use Rattle.c_unit.specs.Meaning.{counted}
use Rattle.c_text.specs.Stream.{Stream, shift, expect, expects, is_ahead}
use Rattle.c_text.specs.Pieces.{Piece, Solid, Sign, blank, feed, words_of}
use Rattle.c_text.specs.Layout.{value_pieces, place_pieces, slot_pieces, call_pieces, test_pieces, both_pieces, item_pieces, table_name, one_pieces, indent}
use Rattle.c_text.specs.Numbers.{table_value}
use Rattle.c_text.specs.Places.{target_at, source_at, slot_at}
use Rattle.c_text.specs.Fractions.{fraction_at}
use Rattle.c_text.specs.Statements.{set_at, pair_at, copy_at, abs_at, inverse_at, triple_at, add_at, sub_at, mul_at, step_call_at, test_at, table_of, table_by, table_used_at, load_at, call_at, line_of_first}
use Rattle.c_text.specs.Lines.{one_lines}
use Rattle.c_text.proofs.Eats.{Eats, bind_ok, eats_split, eats_join, glue, taken, shifted}
use Rattle.c_text.proofs.NumberTexts.{table_back}
use Rattle.c_text.proofs.PlaceWords.{scope_of}
use Rattle.c_text.proofs.PlaceTold.{ends, slot_told, source_told, target_told}
use Rattle.c_text.proofs.TableTold.{value_told, choose}

-- ---- the words of calls

call_eats : (depth : ℕ) (name : List ℕ) (to : Place) (more : List Piece) (s a b c d r : Stream) → Eats (name ∷ codes "(" ∷ []) s a → Eats (words_of (place_pieces to)) a b → Eats (codes "," ∷ []) b c → Eats (words_of more) c d → Eats (codes ")" ∷ codes ";" ∷ []) d r
    → Eats (words_of (call_pieces depth name to more)) s r
unfolding indent
call_eats depth name to more s a b c d r f g h i j =
    let end : List Piece = Sign (codes ")") ∷ Sign (codes ";") ∷ feed ∷ [] in
    eats_join (name ∷ codes "(" ∷ []) (words_of (place_pieces to ++ (Sign (codes ",") ∷ blank ∷ more ++ end))) s a r f
    (glue (place_pieces to) (Sign (codes ",") ∷ blank ∷ more ++ end) a b r g (eats_join (codes "," ∷ []) (words_of (more ++ end)) b c r h (glue more end c d r i j)))

test_eats : (depth : ℕ) (name : List ℕ) (to : Place) (more : List Piece) (digit : List ℕ) (o s a b c d r : Stream) → Eats (codes "if" ∷ codes "(" ∷ []) o s → Eats (name ∷ codes "(" ∷ []) s a → Eats (words_of (place_pieces to)) a b → Eats (codes "," ∷ []) b c
    → Eats (words_of more) c d → Eats (codes ")" ∷ codes ")" ∷ codes "return" ∷ digit ∷ codes ";" ∷ []) d r → Eats (words_of (test_pieces depth name to more digit)) o r
unfolding indent
test_eats depth name to more digit o s a b c d r e f g h i j =
    let end : List Piece = Sign (codes ")") ∷ Sign (codes ")") ∷ blank ∷ Solid (codes "return") ∷ blank ∷ Solid digit ∷ Sign (codes ";") ∷ feed ∷ [] in
    let behind = place_pieces to ++ (Sign (codes ",") ∷ blank ∷ more ++ end) in
    eats_join (codes "if" ∷ codes "(" ∷ []) (name ∷ codes "(" ∷ words_of behind) o s r e
    (eats_join (name ∷ codes "(" ∷ []) (words_of behind) s a r f
    (glue (place_pieces to) (Sign (codes ",") ∷ blank ∷ more ++ end) a b r g (eats_join (codes "," ∷ []) (words_of (more ++ end)) b c r h (glue more end c d r i j))))

-- ---- calls

module _ (z : Sizes) (turns : List ℕ) (depth : ℕ) (four : depth ≤ 4) where
  -- a statement that is no loop, and what is left
  pub record CallTold (s : Stream) (x : CStmt × Stream) : Type 0 where
    pub eats : Eats (words_of (one_pieces depth x.0)) s x.1
    pub keeps : Keeps z turns depth x.0
    pub one : counted x.0 ≡ 1
    pub line : (ts : List Token) → one_lines depth x.0 ts ≡ line_of_first ts ∷ []

  set_told : (s : Stream) (x : CStmt × Stream) → set_at (scope_of z turns depth) s ≡ Ok x → CallTold s x
  unfolding set_at
  set_told s x h =
      let o = bind_ok (expects (codes "fr_set" ∷ codes "(" ∷ []) s) _ x h in
      let to = bind_ok (target_at (scope_of z turns depth) o.0.1) _ x o.2 in
      let c = bind_ok (expect (codes ",") to.0.1) _ x to.2 in
      let v = bind_ok (fraction_at c.0.1) _ x c.2 in
      let e = bind_ok (expects (codes ")" ∷ codes ";" ∷ []) v.0.1) _ x v.2 in
      let t = target_told z turns depth four o.0.1 to.0 to.1 in
      subst (CallTold s) (ends (Set to.0.0 v.0.0, e.0.1) x e.2)
      (record {
        eats = call_eats depth (codes "fr_set") to.0.0 (value_pieces v.0.0) s o.0.1 to.0.1 c.0.1 v.0.1 e.0.1 o.1 t.0 (taken (codes ",") to.0.1 c.0 c.1) (value_told c.0.1 v.0 v.1) e.1;
        keeps = keeps_set t.1;
        one = refl;
        line = λ ts. refl;
      })

  -- a target and what is read behind it
  record PairTold (word : List ℕ) (s : Stream) (x : (Place × Place) × Stream) : Type 0 where
    a : Stream
    b : Stream
    c : Stream
    opening : Eats (word ∷ codes "(" ∷ []) s a
    to : Eats (words_of (place_pieces x.0.0)) a b
    comma : Eats (codes "," ∷ []) b c
    from : Eats (words_of (place_pieces x.0.1)) c x.1
    target : KeepsTarget z turns depth x.0.0
    source : KeepsSource z turns depth x.0.1

  pair_told : (word : List ℕ) (s : Stream) (x : (Place × Place) × Stream) → pair_at word (scope_of z turns depth) s ≡ Ok x → PairTold word s x
  unfolding pair_at
  pair_told word s x h =
      let o = bind_ok (expects (word ∷ codes "(" ∷ []) s) _ x h in
      let to = bind_ok (target_at (scope_of z turns depth) o.0.1) _ x o.2 in
      let c = bind_ok (expect (codes ",") to.0.1) _ x to.2 in
      let p = bind_ok (source_at (scope_of z turns depth) c.0.1) _ x c.2 in
      let t = target_told z turns depth four o.0.1 to.0 to.1 in
      let f = source_told z turns depth four c.0.1 p.0 p.1 in
      subst (PairTold word s) (ends ((to.0.0, p.0.0), p.0.1) x p.2)
      (record {
        a = o.0.1;
        b = to.0.1;
        c = c.0.1;
        opening = o.1;
        to = t.0;
        comma = taken (codes ",") to.0.1 c.0 c.1;
        from = f.0;
        target = t.1;
        source = f.1;
      })

  copy_told : (s : Stream) (x : CStmt × Stream) → copy_at (scope_of z turns depth) s ≡ Ok x → CallTold s x
  unfolding copy_at
  copy_told s x h =
      let p = bind_ok (pair_at (codes "fr_copy") (scope_of z turns depth) s) _ x h in
      let e = bind_ok (expects (codes ")" ∷ codes ";" ∷ []) p.0.1) _ x p.2 in
      let t = pair_told (codes "fr_copy") s p.0 p.1 in
      subst (CallTold s) (ends (Copy p.0.0.0 p.0.0.1, e.0.1) x e.2)
      (record {
        eats = call_eats depth (codes "fr_copy") p.0.0.0 (place_pieces p.0.0.1) s t.a t.b t.c p.0.1 e.0.1 t.opening t.to t.comma t.from e.1;
        keeps = keeps_copy t.target t.source;
        one = refl;
        line = λ ts. refl;
      })

  abs_told : (s : Stream) (x : CStmt × Stream) → abs_at (scope_of z turns depth) s ≡ Ok x → CallTold s x
  unfolding abs_at
  abs_told s x h =
      let p = bind_ok (pair_at (codes "fr_abs") (scope_of z turns depth) s) _ x h in
      let e = bind_ok (expects (codes ")" ∷ codes ";" ∷ []) p.0.1) _ x p.2 in
      let t = pair_told (codes "fr_abs") s p.0 p.1 in
      subst (CallTold s) (ends (Abs p.0.0.0 p.0.0.1, e.0.1) x e.2)
      (record {
        eats = call_eats depth (codes "fr_abs") p.0.0.0 (place_pieces p.0.0.1) s t.a t.b t.c p.0.1 e.0.1 t.opening t.to t.comma t.from e.1;
        keeps = keeps_abs t.target t.source;
        one = refl;
        line = λ ts. refl;
      })

  -- behind `if (`, which begins at o
  inverse_told : (o s : Stream) (x : CStmt × Stream) → Eats (codes "if" ∷ codes "(" ∷ []) o s → inverse_at (scope_of z turns depth) s ≡ Ok x → CallTold o x
  unfolding inverse_at
  inverse_told o s x i h =
      let p = bind_ok (pair_at (codes "fr_inv") (scope_of z turns depth) s) _ x h in
      let e = bind_ok (expects (codes ")" ∷ codes ")" ∷ codes "return" ∷ codes "2" ∷ codes ";" ∷ []) p.0.1) _ x p.2 in
      let t = pair_told (codes "fr_inv") s p.0 p.1 in
      subst (CallTold o) (ends (Inv p.0.0.0 p.0.0.1, e.0.1) x e.2)
      (record {
        eats = test_eats depth (codes "fr_inv") p.0.0.0 (place_pieces p.0.0.1) (codes "2") o s t.a t.b t.c p.0.1 e.0.1 i t.opening t.to t.comma t.from e.1;
        keeps = keeps_inv t.target t.source;
        one = refl;
        line = λ ts. refl;
      })

  record TripleTold (word : List ℕ) (o : Stream) (x : (Place × Place × Place) × Stream) : Type 0 where
    eats : Eats (words_of (test_pieces depth word x.0.0 (both_pieces x.0.1 x.0.2) (codes "1"))) o x.1
    target : KeepsTarget z turns depth x.0.0
    left : KeepsSource z turns depth x.0.1
    right : KeepsSource z turns depth x.0.2

  triple_told : (word : List ℕ) (o s : Stream) (x : (Place × Place × Place) × Stream) → Eats (codes "if" ∷ codes "(" ∷ []) o s → triple_at word (scope_of z turns depth) s ≡ Ok x → TripleTold word o x
  unfolding triple_at
  triple_told word o s x i h =
      let p = bind_ok (pair_at word (scope_of z turns depth) s) _ x h in
      let c = bind_ok (expect (codes ",") p.0.1) _ x p.2 in
      let q = bind_ok (source_at (scope_of z turns depth) c.0.1) _ x c.2 in
      let e = bind_ok (expects (codes ")" ∷ codes ")" ∷ codes "return" ∷ codes "1" ∷ codes ";" ∷ []) q.0.1) _ x q.2 in
      let t = pair_told word s p.0 p.1 in
      let f = source_told z turns depth four c.0.1 q.0 q.1 in
      let both = glue (place_pieces p.0.0.1) (Sign (codes ",") ∷ blank ∷ place_pieces q.0.0) t.c p.0.1 q.0.1 t.from (eats_join (codes "," ∷ []) (words_of (place_pieces q.0.0)) p.0.1 c.0.1 q.0.1 (taken (codes ",") p.0.1 c.0 c.1) f.0) in
      subst (TripleTold word o) (ends ((p.0.0.0, p.0.0.1, q.0.0), e.0.1) x e.2)
      (record {
        eats = test_eats depth word p.0.0.0 (both_pieces p.0.0.1 q.0.0) (codes "1") o s t.a t.b t.c q.0.1 e.0.1 i t.opening t.to t.comma both e.1;
        target = t.target;
        left = t.source;
        right = f.1;
      })

  add_told : (o s : Stream) (x : CStmt × Stream) → Eats (codes "if" ∷ codes "(" ∷ []) o s → add_at (scope_of z turns depth) s ≡ Ok x → CallTold o x
  unfolding add_at
  add_told o s x i h =
      let p = bind_ok (triple_at (codes "fr_add") (scope_of z turns depth) s) _ x h in
      let t = triple_told (codes "fr_add") o s p.0 i p.1 in
      subst (CallTold o) (ends (Add p.0.0.0 p.0.0.1 p.0.0.2, p.0.1) x p.2) (record { eats = t.eats; keeps = keeps_add t.target t.left t.right; one = refl; line = λ ts. refl })

  sub_told : (o s : Stream) (x : CStmt × Stream) → Eats (codes "if" ∷ codes "(" ∷ []) o s → sub_at (scope_of z turns depth) s ≡ Ok x → CallTold o x
  unfolding sub_at
  sub_told o s x i h =
      let p = bind_ok (triple_at (codes "fr_sub") (scope_of z turns depth) s) _ x h in
      let t = triple_told (codes "fr_sub") o s p.0 i p.1 in
      subst (CallTold o) (ends (Sub p.0.0.0 p.0.0.1 p.0.0.2, p.0.1) x p.2) (record { eats = t.eats; keeps = keeps_sub t.target t.left t.right; one = refl; line = λ ts. refl })

  mul_told : (o s : Stream) (x : CStmt × Stream) → Eats (codes "if" ∷ codes "(" ∷ []) o s → mul_at (scope_of z turns depth) s ≡ Ok x → CallTold o x
  unfolding mul_at
  mul_told o s x i h =
      let p = bind_ok (triple_at (codes "fr_mul") (scope_of z turns depth) s) _ x h in
      let t = triple_told (codes "fr_mul") o s p.0 i p.1 in
      subst (CallTold o) (ends (Mul p.0.0.0 p.0.0.1 p.0.0.2, p.0.1) x p.2) (record { eats = t.eats; keeps = keeps_mul t.target t.left t.right; one = refl; line = λ ts. refl })

  test_told : (s : Stream) (x : CStmt × Stream) → test_at (scope_of z turns depth) s ≡ Ok x → CallTold s x
  unfolding test_at step_call_at
  test_told s x h =
      let o = bind_ok (expects (codes "if" ∷ codes "(" ∷ []) s) _ x h in
      choose (is_ahead (codes "fr_add") o.0.1) _ _ x (CallTold s x) o.2 (λ k. add_told s o.0.1 x o.1 k)
      (λ l. choose (is_ahead (codes "fr_sub") o.0.1) _ _ x (CallTold s x) l (λ k. sub_told s o.0.1 x o.1 k)
      (λ m. choose (is_ahead (codes "fr_mul") o.0.1) _ _ x (CallTold s x) m (λ k. mul_told s o.0.1 x o.1 k) (λ k. inverse_told s o.0.1 x o.1 k)))

-- ---- loads

found_by : (tables : List (List Ratio)) (k : ℕ) (t : List Ratio) → slice_get tables k ≡ Some t → (k < length (map length tables)) × (slice_index_or (map length tables) k 0 ≡ length t)
found_by [] k t h = cc
found_by (t ∷ ts) zero u h = let e : t ≡ u = cc in (omega arith, ap length e)
found_by (t ∷ ts) (suc k) u h = let f = found_by ts k u h in (let l = f.0 in omega (arith, l), f.1)

used_by : (tables : List (List Ratio)) (k : ℕ) (o : Option (List Ratio)) (x : ℕ × ℕ) → slice_get tables k ≡ o → Rattle.c_text.specs.Statements.with_size k o ≡ Some x → (x.0 ≡ k) × (k < length (map length tables)) × (slice_index_or (map length tables) k 0 ≡ x.1)
used_by tables k None x e h = cc
used_by tables k (Some t) x e h =
    let f = found_by tables k t e in
    let same : ◌≡◌ {A = ℕ × ℕ} (k, length t) x = cc in
    (ap (λ y. y.0) (sym same), f.0, f.1 ∙ ap (λ y. y.1) same)

table_ok : (tables : List (List Ratio)) (o : Option ℕ) (x : ℕ × ℕ) → table_of tables o ≡ Some x → (k : ℕ) × (o ≡ Some k) × (x.0 ≡ k) × (k < length (map length tables)) × (slice_index_or (map length tables) k 0 ≡ x.1)
table_ok tables None x h = cc
table_ok tables (Some k) x h = let u = used_by tables k (slice_get tables k) x refl h in (k, refl, u.0, u.1, u.2)

used_ok : (o : Option (ℕ × ℕ)) (line : ℕ) (s : Stream) (x : (ℕ × ℕ) × Stream) → table_by o line s ≡ Ok x → (o ≡ Some x.0) × (s ≡ x.1)
used_ok None line s x h = cc
used_ok (Some k) line s x h = let e : ◌≡◌ {A = (ℕ × ℕ) × Stream} (k, s) x = cc in (ap (λ y. Some y.0) e, ap (λ y. y.1) e)

used_told : (tables : List (List Ratio)) (s : Stream) (x : (ℕ × ℕ) × Stream) → table_used_at tables s ≡ Ok x → Eats (table_name x.0.0 ∷ []) s x.1 × (x.0.0 < length (map length tables)) × (slice_index_or (map length tables) x.0.0 0 ≡ x.0.1)
unfolding table_used_at
used_told tables s x h =
    let p = bind_ok (shift s) _ x h in
    let q = used_ok (table_of tables (table_value p.0.0.text)) p.0.0.line p.0.1 x p.2 in
    let t = table_ok tables (table_value p.0.0.text) x.0 q.0 in
    let n = table_back p.0.0.text t.0 t.1 in (
      subst (λ k. Eats (table_name k ∷ []) s x.1) (sym t.2) (subst (Eats (table_name t.0 ∷ []) s) q.1 (shifted s p.0 (table_name t.0) p.1 n.0)),
      subst (λ k. k < length (map length tables)) (sym t.2) t.3,
      ap (λ k. slice_index_or (map length tables) k 0) t.2 ∙ t.4,
    )

module _ (z : Sizes) (turns : List ℕ) (depth : ℕ) (four : depth ≤ 4) (tables : List (List Ratio)) (known : map length tables ≡ z.tables) where
  load_told : (s : Stream) (x : CStmt × Stream) → load_at (scope_of z turns depth) tables s ≡ Ok x → CallTold z turns depth four s x
  unfolding load_at place_pieces
  load_told s x h =
      let o = bind_ok (expects (codes "fr_load" ∷ codes "(" ∷ codes "&" ∷ codes "T" ∷ codes "[" ∷ []) s) _ x h in
      let to = bind_ok (slot_at (scope_of z turns depth) z.t o.0.1) _ x o.2 in
      let m = bind_ok (expects (codes "]" ∷ codes "," ∷ codes "&" ∷ []) to.0.1) _ x to.2 in
      let k = bind_ok (table_used_at tables m.0.1) _ x m.2 in
      let b = bind_ok (expect (codes "[") k.0.1) _ x k.2 in
      let at = bind_ok (slot_at (scope_of z turns depth) k.0.0.1 b.0.1) _ x b.2 in
      let e = bind_ok (expects (codes "]" ∷ codes ")" ∷ codes ";" ∷ []) at.0.1) _ x at.2 in
      let place : Place = record { array = T; slot = to.0.0 } in
      let t = slot_told (scope_of z turns depth) z.t o.0.1 to.0 four to.1 in
      let u = used_told tables m.0.1 k.0 k.1 in
      let f = slot_told (scope_of z turns depth) k.0.0.1 b.0.1 at.0 four at.1 in
      let opening = eats_split (codes "fr_load" ∷ codes "(" ∷ []) (codes "&" ∷ codes "T" ∷ codes "[" ∷ []) s o.0.1 o.1 in
      let middle = eats_split (codes "]" ∷ []) (codes "," ∷ codes "&" ∷ []) to.0.1 m.0.1 m.1 in
      let comma = eats_split (codes "," ∷ []) (codes "&" ∷ []) middle.0 m.0.1 middle.2 in
      let closing = eats_split (codes "]" ∷ []) (codes ")" ∷ codes ";" ∷ []) at.0.1 e.0.1 e.1 in
      let target = eats_join (codes "&" ∷ codes "T" ∷ codes "[" ∷ []) (words_of (slot_pieces to.0.0 ++ Sign (codes "]") ∷ [])) opening.0 o.0.1 middle.0 opening.2 (glue (slot_pieces to.0.0) (Sign (codes "]") ∷ []) o.0.1 to.0.1 middle.0 t.0 middle.1) in
      let item =
      eats_join (codes "&" ∷ []) (table_name k.0.0.0 ∷ codes "[" ∷ words_of (slot_pieces at.0.0 ++ Sign (codes "]") ∷ [])) comma.0 m.0.1 closing.0 comma.2
      (eats_join (table_name k.0.0.0 ∷ []) (codes "[" ∷ words_of (slot_pieces at.0.0 ++ Sign (codes "]") ∷ [])) m.0.1 k.0.1 closing.0 u.0
      (eats_join (codes "[" ∷ []) (words_of (slot_pieces at.0.0 ++ Sign (codes "]") ∷ [])) k.0.1 b.0.1 closing.0 (taken (codes "[") k.0.1 b.0 b.1)
      (glue (slot_pieces at.0.0) (Sign (codes "]") ∷ []) b.0.1 at.0.1 closing.0 f.0 closing.1))) in
      let keeps_target : KeepsTarget z turns depth place = record { within = (t.1.within, inl refl); numbers = t.1.numbers } in
      let keeps_item : KeepsItem turns depth (slice_index_or z.tables k.0.0.0 0) at.0.0
      = subst (λ l. KeepsItem turns depth (slice_index_or l k.0.0.0 0) at.0.0) known (subst (λ n. KeepsItem turns depth n at.0.0) (sym u.2) f.1) in
      subst (CallTold z turns depth four s) (ends (Load place k.0.0.0 at.0.0, e.0.1) x e.2)
      (record {
        eats = call_eats depth (codes "fr_load") place (item_pieces k.0.0.0 at.0.0) s opening.0 middle.0 comma.0 closing.0 e.0.1 opening.1 target comma.1 item closing.2;
        keeps = keeps_load keeps_target refl (subst (λ l. k.0.0.0 < length l) known u.1) keeps_item;
        one = refl;
        line = λ ts. refl;
      })

  pub call_told : (s : Stream) (x : CStmt × Stream) → call_at (scope_of z turns depth) tables s ≡ Ok x → CallTold z turns depth four s x
  unfolding call_at
  call_told s x h =
      choose (is_ahead (codes "fr_set") s) _ _ x (CallTold z turns depth four s x) h (λ k. set_told z turns depth four s x k)
      (λ l. choose (is_ahead (codes "fr_copy") s) _ _ x (CallTold z turns depth four s x) l (λ k. copy_told z turns depth four s x k)
      (λ m. choose (is_ahead (codes "fr_abs") s) _ _ x (CallTold z turns depth four s x) m (λ k. abs_told z turns depth four s x k)
      (λ n. choose (is_ahead (codes "fr_load") s) _ _ x (CallTold z turns depth four s x) n (λ k. load_told s x k) (λ k. test_told z turns depth four s x k))))
