-- What is read as statements consists of their words, keeps the rules, and has the lines of the text
use Rattle.std.proofs.Common.{◌≡◌, refl, sym, ◌∙◌, ap, ap₂, subst, ℕ, zero, suc, ◌+◌, ◌-◌, ◌*◌, ◌<◌, ◌≤◌, ◌^◌, Bool, true, false, ◌&&◌, ◌==◌, nat_lt, List, [], ◌∷◌, ◌++◌, append_assoc, length, map, drop, slice_set, Ok, codes, decimal, arith}
use Rattle.std.proofs.lemmas.List.{append-nil}
use Rattle.ratio.specs.declared.reduced.Ratio.{Ratio}
use Rattle.c_unit.specs.declared.unit.CStmt.{CStmt}
use Rattle.c_unit.specs.declared.unit.CStmt.TheViews as View
use Rattle.c_unit.specs.Rules.{Sizes, Keeps, keeps_loop, KeepAll, keep_none, keep_more}
use Rattle.c_unit.specs.Meaning.{deeper, counted, counted-For, counted_list}
use Rattle.c_text.specs.declared.refusal.KernelKind.TheVariants as kinds
use Rattle.c_text.specs.declared.statement.Body.{Body}
use Rattle.c_text.specs.declared.statement.Line.{Line}
use Rattle.c_text.specs.Stream.{Stream, refusal, shift, expect, expects, repeat, is_ahead}
use Rattle.c_text.specs.Pieces.{words_of}
use Rattle.c_text.specs.Layout.{header_pieces, close_pieces, one_pieces, one_pieces-For, body_pieces, counter, indent}
use Rattle.c_text.specs.Numbers.{counter_value}
use Rattle.c_text.specs.Fractions.{is_number}
use Rattle.c_text.specs.Places.{number_at}
use Rattle.c_text.specs.Statements.{call_at, own_counter_at, turns_at, header_at, capped, line_of_first, line_ahead, loop_by, call_line_at, is_statement, no_body, with_line, add_line, body_at, line_at}
use Rattle.c_text.specs.Lines.{behind, one_lines, one_lines-For, body_lines}
use Rattle.c_text.proofs.Bodies.{body_from, line_loop_at, line_call_at}
use Rattle.c_text.proofs.Eats.{Eats, bind_ok, eats_join, glue, taken, shifted, first_eaten, shift_ok, none_eaten}
use Rattle.c_text.proofs.NumberTexts.{counter_back}
use Rattle.c_text.proofs.PlaceWords.{scope_of}
use Rattle.c_text.proofs.PlaceTold.{ends, passed, held, number_told, nothing}
use Rattle.c_text.proofs.TableTold.{Repeats, stops, goes_on, repeats, repeats_none, is_same, positive}
use Rattle.c_text.proofs.StatementTold.{call_told}
use Rattle.c_text.proofs.BodyWords.{cap_sum, cap_product, one_deeper}

-- what is left behind these words
pub left_behind : (ws : List (List ℕ)) (s r : Stream) → Eats ws s r → r.tokens ≡ drop (length ws) s.tokens
left_behind [] s r e = ap (λ m. m.tokens) (sym (none_eaten s r e))
left_behind (w ∷ ws) s r e =
    let p = first_eaten w ws s r e in
    left_behind ws p.1 r p.4 ∙ ap (drop (suc (length ws))) (sym (shift_ok s (p.0, p.1) p.2))

-- ---- headers

own_told : (depth : ℕ) (s : Stream) (x : Unit {0} × Stream) → own_counter_at depth s ≡ Ok x → Eats (counter depth ∷ []) s x.1
unfolding own_counter_at
own_told depth s x h =
    let p = bind_ok (shift s) _ x h in
    let q = held (is_number depth (counter_value p.0.0.text)) (refusal kinds.Syntax p.0.0.line) (Ok (tt, p.0.1)) x p.2 in
    let n = counter_back p.0.0.text depth (is_same depth (counter_value p.0.0.text) q.0) in
    subst (λ y. Eats (counter depth ∷ []) s y.1) (ends (tt, p.0.1) x q.1) (shifted s p.0 (counter depth) p.1 n.0)

turns_told : (s : Stream) (x : ℕ × Stream) → turns_at s ≡ Ok x → Eats (decimal x.0 ∷ []) s x.1 × (0 < x.0) × (x.0 < 2 ^ 32)
unfolding turns_at
turns_told s x h =
    let p = bind_ok (number_at s) _ x h in
    let n = number_told s p.0 p.1 in
    let q = passed (p.0.0.0 == 0) (refusal kinds.Bound p.0.0.1) (p.0.0.0, p.0.1) x p.2 in
    subst (λ x. Eats (decimal x.0 ∷ []) s x.1 × (0 < x.0) × (x.0 < 2 ^ 32)) q.1 (n.0, positive p.0.0.0 q.0, n.1)

header_told : (depth : ℕ) (s : Stream) (x : ℕ × Stream) → header_at depth s ≡ Ok x → Eats (words_of (header_pieces depth x.0)) s x.1 × (0 < x.0) × (x.0 < 2 ^ 32)
unfolding header_at indent
header_told depth s x h =
    let o = bind_ok (expects (codes "for" ∷ codes "(" ∷ codes "int" ∷ []) s) _ x h in
    let i = bind_ok (own_counter_at depth o.0.1) _ x o.2 in
    let e = bind_ok (expects (codes "=" ∷ codes "0" ∷ codes ";" ∷ []) i.0.1) _ x i.2 in
    let j = bind_ok (own_counter_at depth e.0.1) _ x e.2 in
    let l = bind_ok (expect (codes "<") j.0.1) _ x j.2 in
    let n = bind_ok (turns_at l.0.1) _ x l.2 in
    let m = bind_ok (expect (codes ";") n.0.1) _ x n.2 in
    let k = bind_ok (own_counter_at depth m.0.1) _ x m.2 in
    let z = bind_ok (expects (codes "++" ∷ codes ")" ∷ codes "{" ∷ []) k.0.1) _ x k.2 in
    let t = turns_told l.0.1 n.0 n.1 in
    let c = counter depth in
    let d = decimal n.0.0 in
    let w8 = codes "++" ∷ codes ")" ∷ codes "{" ∷ [] in
    let w7 = c ∷ w8 in
    let w6 = codes ";" ∷ w7 in
    let w5 = d ∷ w6 in
    let w4 = codes "<" ∷ w5 in
    let w3 = c ∷ w4 in
    let w2 = codes "=" ∷ codes "0" ∷ codes ";" ∷ w3 in
    let w1 = c ∷ w2 in
    let eats =
    eats_join (codes "for" ∷ codes "(" ∷ codes "int" ∷ []) w1 s o.0.1 z.0.1 o.1
    (eats_join (c ∷ []) w2 o.0.1 i.0.1 z.0.1 (own_told depth o.0.1 i.0 i.1)
    (eats_join (codes "=" ∷ codes "0" ∷ codes ";" ∷ []) w3 i.0.1 e.0.1 z.0.1 e.1
    (eats_join (c ∷ []) w4 e.0.1 j.0.1 z.0.1 (own_told depth e.0.1 j.0 j.1)
    (eats_join (codes "<" ∷ []) w5 j.0.1 l.0.1 z.0.1 (taken (codes "<") j.0.1 l.0 l.1)
    (eats_join (d ∷ []) w6 l.0.1 n.0.1 z.0.1 t.0
    (eats_join (codes ";" ∷ []) w7 n.0.1 m.0.1 z.0.1 (taken (codes ";") n.0.1 m.0 m.1) (eats_join (c ∷ []) w8 m.0.1 k.0.1 z.0.1 (own_told depth m.0.1 k.0 k.1) z.1))))))) in
    subst (λ x. Eats (words_of (header_pieces depth x.0)) s x.1 × (0 < x.0) × (x.0 < 2 ^ 32)) (ends (n.0.0, z.0.1) x z.2) (eats, t.1, t.2)

-- ---- statements

-- a statement was read, and what is left
pub record LineTold (z : Sizes) (turns : List ℕ) (depth : ℕ) (s : Stream) (x : Line × Stream) : Type 0 where
  pub eats : Eats (words_of (one_pieces depth x.0.statement)) s x.1
  pub keeps : Keeps z turns depth x.0.statement
  pub count : x.0.count ≡ capped (counted x.0.statement)
  pub lines : x.0.lines ≡ one_lines depth x.0.statement s.tokens

-- statements were read, and what is left
pub record BodyTold (z : Sizes) (turns : List ℕ) (depth : ℕ) (s : Stream) (x : Body × Stream) : Type 0 where
  pub eats : Eats (words_of (body_pieces depth x.0.statements)) s x.1
  pub keeps : KeepAll z turns depth x.0.statements
  pub count : x.0.count ≡ capped (counted_list x.0.statements)
  pub lines : x.0.lines ≡ body_lines depth x.0.statements s.tokens

-- the same of what was read on top of done
record OnTold (z : Sizes) (turns : List ℕ) (depth : ℕ) (done : Body) (s : Stream) (x : Body × Stream) : Type 0 where
  more : List CStmt
  same : x.0.statements ≡ done.statements ++ more
  eats : Eats (words_of (body_pieces depth more)) s x.1
  keeps : KeepAll z turns depth more
  count : x.0.count ≡ capped (done.count + counted_list more)
  lines : x.0.lines ≡ done.lines ++ body_lines depth more s.tokens

call_line_told : (z : Sizes) (turns : List ℕ) (depth : ℕ) (four : depth ≤ 4) (tables : List (List Ratio)) (known : map length tables ≡ z.tables) (s : Stream) (x : Line × Stream)
    → call_line_at (line_ahead s) (scope_of z turns depth) tables s ≡ Ok x → LineTold z turns depth s x
unfolding call_line_at line_ahead
call_line_told z turns depth four tables known s x h =
    let c = bind_ok (call_at (scope_of z turns depth) tables s) _ x h in
    let t = call_told z turns depth four tables known s c.0 c.1 in
    subst (LineTold z turns depth s) (ends (record { statement = c.0.0; lines = line_of_first s.tokens ∷ []; count = 1 }, c.0.1) x c.2)
    (record { eats = t.eats; keeps = t.keeps; count = sym (ap capped t.one); lines = sym (t.line s.tokens) })

module _ (z : Sizes) (tables : List (List Ratio)) (known : map length tables ≡ z.tables) where
  abbrev LinesTold : ℕ → Type 0
  LinesTold room = (turns : List ℕ) (depth : ℕ) (s : Stream) (x : Line × Stream) → depth + room ≡ 4 → line_at room (scope_of z turns depth) tables s ≡ Ok x → LineTold z turns depth s x

  abbrev more_lines : ℕ → Stream → Bool
  more_lines room s = is_statement (nat_lt 0 room) s

  no_more : (turns : List ℕ) (depth : ℕ) (done : Body) (s : Stream) (x : Body × Stream) → done.count ≤ 67108865 → (done, s) ≡ x → OnTold z turns depth done s x
  no_more turns depth done s x few e =
      subst (OnTold z turns depth done s) e
      (record {
        more = [];
        same = sym (append-nil done.statements);
        eats = nothing s;
        keeps = keep_none;
        count = omega (arith, few);
        lines = sym (append-nil done.lines);
      })

  one_more : (turns : List ℕ) (depth : ℕ) (done : Body) (s : Stream) (l : Line × Stream) (x : Body × Stream) → LineTold z turns depth s l → OnTold z turns depth (with_line done l.0) l.1 x → OnTold z turns depth done s x
  one_more turns depth done s l x t o =
      record {
        more = l.0.statement ∷ o.more;
        same = o.same ∙ append_assoc done.statements (l.0.statement ∷ []) o.more;
        eats = glue (one_pieces depth l.0.statement) (body_pieces depth o.more) s l.1 x.1 t.eats o.eats;
        keeps = keep_more t.keeps o.keeps;
        count = o.count ∙ cap_sum done.count l.0.count (counted l.0.statement) (counted_list o.more) t.count;
        lines =
            o.lines
            ∙ append_assoc done.lines l.0.lines (body_lines depth o.more l.1.tokens)
            ∙ ap₂ (λ ls ts. done.lines ++ (ls ++ body_lines depth o.more ts)) t.lines (left_behind (words_of (one_pieces depth l.0.statement)) s l.1 t.eats);
      }

  body_by : (turns : List ℕ) (depth room n : ℕ) (done : Body) (s : Stream) (x : Body × Stream) → depth + room ≡ 4 → done.count ≤ 67108865 → LinesTold room
      → Repeats (more_lines room) (add_line (line_at room) (scope_of z turns depth) tables) n done s x
      → ((done : Body) (s : Stream) → done.count ≤ 67108865 → repeat (more_lines room) (add_line (line_at room) (scope_of z turns depth) tables) n done s ≡ Ok x → OnTold z turns depth done s x) → OnTold z turns depth done s x
  body_by turns depth room n done s x deep few line (stops m e) again = no_more turns depth done s x few e
  body_by turns depth room n done s x deep few line (goes_on y one rest) again =
      let l = bind_ok (line_at room (scope_of z turns depth) tables s) _ y one in
      let e = ends (with_line done l.0.0, l.0.1) y l.2 in
      let t = line turns depth s l.0 deep l.1 in
      one_more turns depth done s l.0 x t (again (with_line done l.0.0) l.0.1 (omega arith) (subst (λ y. repeat (more_lines room) (add_line (line_at room) (scope_of z turns depth) tables) n y.0 y.1 ≡ Ok x) (sym e) rest))

  body_on : (turns : List ℕ) (depth room n : ℕ) (done : Body) (s : Stream) (x : Body × Stream) → depth + room ≡ 4 → done.count ≤ 67108865 → LinesTold room
      → repeat (more_lines room) (add_line (line_at room) (scope_of z turns depth) tables) n done s ≡ Ok x → OnTold z turns depth done s x
  body_on turns depth room zero done s x deep few line h = no_more turns depth done s x few (repeats_none (more_lines room) (add_line (line_at room) (scope_of z turns depth) tables) done s x h)
  body_on turns depth room (suc n) done s x deep few line h =
      body_by turns depth room n done s x deep few line (repeats (more_lines room) (add_line (line_at room) (scope_of z turns depth) tables) n done s x h)
      (λ done s few k. body_on turns depth room n done s x deep few line k)

  from_none : (turns : List ℕ) (depth : ℕ) (s : Stream) (x : Body × Stream) → OnTold z turns depth no_body s x → BodyTold z turns depth s x
  from_none turns depth s x o =
      record {
        eats = subst (λ cs. Eats (words_of (body_pieces depth cs)) s x.1) (sym o.same) o.eats;
        keeps = subst (KeepAll z turns depth) (sym o.same) o.keeps;
        count = o.count ∙ ap capped (let e : 0 + counted_list o.more ≡ counted_list o.more = omega arith in e) ∙ ap (λ cs. capped (counted_list cs)) (sym o.same);
        lines = o.lines ∙ ap (λ cs. body_lines depth cs s.tokens) (sym o.same);
      }

  body_with : (turns : List ℕ) (depth room : ℕ) (s : Stream) (x : Body × Stream) → depth + room ≡ 4 → LinesTold room → body_at room (scope_of z turns depth) tables s ≡ Ok x → BodyTold z turns depth s x
  body_with turns depth room s x deep line h =
      from_none turns depth s x (body_on turns depth room (length s.tokens) no_body s x deep (omega arith) line (sym (body_from room (scope_of z turns depth) tables s) ∙ h))

  loop_told : (turns : List ℕ) (depth room : ℕ) (s : Stream) (x : Line × Stream) → depth + suc room ≡ 4
      → ((turns : List ℕ) (s : Stream) (x : Body × Stream) → body_at room (scope_of z turns (depth + 1)) tables s ≡ Ok x → BodyTold z turns (depth + 1) s x)
      → loop_by (body_at room) (line_ahead s) (scope_of z turns depth) tables s ≡ Ok x → LineTold z turns depth s x
  unfolding loop_by line_ahead indent
  loop_told turns depth room s x deep body h =
      let n = bind_ok (header_at depth s) _ x h in
      let b = bind_ok (body_at room (scope_of z (slice_set turns depth n.0.0) (depth + 1)) tables n.0.1) _ x n.2 in
      let c = bind_ok (expect (codes "}") b.0.1) _ x b.2 in
      let t = header_told depth s n.0 n.1 in
      let inner = body (slice_set turns depth n.0.0) n.0.1 b.0 b.1 in
      let below : depth < 4 = omega (arith, deep) in
      let d = one_deeper depth below in
      let close : Eats (words_of (close_pieces depth)) b.0.1 c.0.1 = taken (codes "}") b.0.1 c.0 c.1 in
      let eats =
      glue (header_pieces depth n.0.0) (body_pieces (depth + 1) b.0.0.statements ++ close_pieces depth) s n.0.1 c.0.1 t.0
      (glue (body_pieces (depth + 1) b.0.0.statements) (close_pieces depth) n.0.1 b.0.1 c.0.1 inner.eats close) in
      let same : header_pieces depth n.0.0 ++ (body_pieces (depth + 1) b.0.0.statements ++ close_pieces depth) ≡ one_pieces depth (View.For n.0.0 b.0.0.statements)
      = ap (λ d. header_pieces depth n.0.0 ++ (body_pieces d b.0.0.statements ++ close_pieces depth)) (sym d) ∙ sym (one_pieces-For depth n.0.0 b.0.0.statements) in
      let lines : b.0.0.lines ≡ body_lines (deeper depth) b.0.0.statements (behind (header_pieces depth n.0.0) s.tokens)
      = inner.lines ∙ ap₂ (λ d ts. body_lines d b.0.0.statements ts) (sym d) (left_behind (words_of (header_pieces depth n.0.0)) s n.0.1 t.0) in
      subst (LineTold z turns depth s) (ends (record { statement = View.For n.0.0 b.0.0.statements; lines = line_of_first s.tokens ∷ b.0.0.lines; count = capped (b.0.0.count * n.0.0) }, c.0.1) x c.2)
      (record {
        eats = subst (λ ps. Eats (words_of ps) s c.0.1) same eats;
        keeps = keeps_loop below t.1 t.2 inner.keeps;
        count = cap_product b.0.0.count (counted_list b.0.0.statements) n.0.0 inner.count ∙ ap capped (sym (counted-For n.0.0 b.0.0.statements));
        lines = ap (λ ls. line_of_first s.tokens ∷ ls) lines ∙ sym (one_lines-For depth n.0.0 b.0.0.statements s.tokens);
      })

  line_by : (t : Bool) (turns : List ℕ) (depth room : ℕ) (s : Stream) (x : Line × Stream) → depth + suc room ≡ 4 → LinesTold room → (nat_lt 0 (suc room) && is_ahead (codes "for") s) ≡ t
      → line_at (suc room) (scope_of z turns depth) tables s ≡ Ok x → LineTold z turns depth s x
  line_by true turns depth room s x deep line e h =
      let r : suc room - 1 ≡ room = omega arith in
      loop_told turns depth room s x deep (λ turns s x k. body_with turns (depth + 1) room s x (omega (arith, deep)) line k)
      (subst (λ r. loop_by (body_at r) (line_ahead s) (scope_of z turns depth) tables s ≡ Ok x) r (sym (line_loop_at (suc room) (scope_of z turns depth) tables s e) ∙ h))
  line_by false turns depth room s x deep line e h = call_line_told z turns depth (omega (arith, deep)) tables known s x (sym (line_call_at (suc room) (scope_of z turns depth) tables s e) ∙ h)

  line_told : (room : ℕ) → LinesTold room
  line_told zero = λ turns depth s x deep h. call_line_told z turns depth (omega (arith, deep)) tables known s x (sym (line_call_at 0 (scope_of z turns depth) tables s refl) ∙ h)
  line_told (suc room) = λ turns depth s x deep h. line_by (nat_lt 0 (suc room) && is_ahead (codes "for") s) turns depth room s x deep (line_told room) refl h

  pub body_told : (turns : List ℕ) (depth room : ℕ) (s : Stream) (x : Body × Stream) → depth + room ≡ 4 → body_at room (scope_of z turns depth) tables s ≡ Ok x → BodyTold z turns depth s x
  body_told turns depth room s x deep h = body_with turns depth room s x deep (line_told room) h
