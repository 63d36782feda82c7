-- What is read as a unit consists of its words, keeps the rules, and has the lines of the text
use Rattle.std.proofs.Common.{◌≡◌, refl, sym, ◌∙◌, ap, ap₂, subst, ℕ, zero, suc, ◌-◌, ◌<◌, ◌≤◌, ◌^◌, Bool, true, false, ◌||◌, ◌==◌, nat_lt, if◌then◌else◌, List, [], ◌∷◌, ◌++◌, append_assoc, length, map, take, drop, Option, Some, None, Ok, codes, decimal, arith}
use Rattle.std.specs.Str.{bytes_eq}
use Rattle.std.proofs.lemmas.Bool.{eqb-true, ltb-false, true≢false}
use Rattle.std.proofs.lemmas.List.{append-nil, take-append-drop}
use Rattle.std.proofs.lemmas.Slice.Eq.{bytes_eq-Decides}
use Rattle.ratio.specs.declared.reduced.Ratio.{Ratio}
use Rattle.slices.specs.Tokens.{Token, begins, rest_of}
use Rattle.c_unit.specs.declared.unit.CStmt.{CStmt}
use Rattle.c_unit.specs.declared.unit.CFun.{CFun}
use Rattle.c_unit.specs.Meaning.{counted_list}
use Rattle.c_text.specs.declared.refusal.KernelKind.TheVariants as kinds
use Rattle.c_text.specs.declared.refusal.KernelRefusal.{KernelRefusal}
use Rattle.c_text.specs.declared.place.Scope.{Scope}
use Rattle.c_text.specs.declared.read.ReadUnit.{ReadUnit}
use Rattle.c_text.specs.declared.read.ReadFun.{ReadFun}
use Rattle.c_text.specs.Stream.{Stream, end_by, last_line, stream_of, refusal, shift, expect, expects, repeat}
use Rattle.c_text.specs.Pieces.{words_of}
use Rattle.c_text.specs.Layout.{indent, enum_pieces, signature_pieces, clear_pieces, slots_pieces, tables_pieces, body_pieces, end_pieces, fun_pieces, funs_pieces}
use Rattle.c_text.specs.Places.{number_at}
use Rattle.c_text.specs.Fractions.{tables_at}
use Rattle.c_text.specs.Statements.{body_at, capped, line_of_first}
use Rattle.c_text.specs.Units.{without_suffix, is_among, new_name, name_at, size_at, is_name, named_size_at, repeated_at, parameters, signature_at, clear_at, slots_at, end_at, one_turn_each, sizes_at, function_at, is_more, is_more_by, with_function, add_function, no_functions, functions_at, fault_by, fault_at_end, finished, reading}
use Rattle.c_unit.specs.Rules.{NewName, sizes_of, KeepTables}
use Rattle.c_text.specs.Lawful.{KeepsRules, AllKeepRules, MeetsRules}
use Rattle.c_text.specs.Spelling.{tokens_of, texts, Spells}
use Rattle.c_text.specs.Lines.{behind, body_lines, head_pieces, enum_lines, statement_lines, IsLined}
use Rattle.c_text.proofs.Eats.{Eats, bind_ok, eats_split, eats_join, glue, taken, shifted, shift_ok, expect_ok, first_eaten, none_eaten, eaten_length, end_kept}
use Rattle.c_text.proofs.PlaceWords.{scope_of}
use Rattle.c_text.proofs.PlaceTold.{ends, passed, passed_on, held, number_told, nothing}
use Rattle.c_text.proofs.TableTold.{Repeats, stops, goes_on, repeats, repeats_none, tables_told, positive}
use Rattle.c_text.proofs.TokenTold.{AllToks, all_toks, toks_left, name_of_token}
use Rattle.c_text.proofs.BodyTold.{body_told, left_behind}

-- ---- names

without_by : (t u : Bool) (text suffix front : List ℕ) → bytes_eq (drop (length text - length suffix) text) suffix ≡ u → (if t then None else if u then Some (take (length text - length suffix) text) else None) ≡ Some front → text ≡ front ++ suffix
without_by true u text suffix front e h = cc
without_by false true text suffix front e h =
    let same : take (length text - length suffix) text ≡ front = cc in
    sym (take-append-drop (length text - length suffix) text) ∙ ap₂ (λ a b. a ++ b) same ((bytes_eq-Decides (drop (length text - length suffix) text) suffix).0 e)
without_by false false text suffix front e h = cc

without_back : (text suffix front : List ℕ) → without_suffix text suffix ≡ Some front → text ≡ front ++ suffix
unfolding without_suffix
without_back text suffix front h = without_by (nat_lt (length text) (length suffix)) (bytes_eq (drop (length text - length suffix) text) suffix) text suffix front refl h

new_back : (funs : List CFun) (name : List ℕ) → is_among funs name ≡ false → NewName funs name
new_back [] name h = tt
new_back (f ∷ fs) name h = new_by (bytes_eq f.name name) f fs name refl h (λ k. new_back fs name k)
  where
    new_by : (t : Bool) (f : CFun) (fs : List CFun) (name : List ℕ) → bytes_eq f.name name ≡ t → (t || is_among fs name) ≡ false → (is_among fs name ≡ false → NewName fs name) → NewName (f ∷ fs) name
    new_by true f fs name e h more = absurd (true≢false h)
    new_by false f fs name e h more = (λ s. true≢false (sym ((bytes_eq-Decides f.name name).1 s) ∙ e), more h)

new_ok : (funs : List CFun) (o : Option (List ℕ)) (line : ℕ) (s : Stream) (x : List ℕ × Stream) → new_name funs o line s ≡ Ok x → (o ≡ Some x.0) × (s ≡ x.1) × (0 < length x.0) × NewName funs x.0
new_ok funs None line s x h = cc
new_ok funs (Some name) line s x h =
    let p = passed_on (length name == 0) (refusal kinds.Syntax line) _ x h in
    let q = passed (is_among funs name) (refusal kinds.Bound line) (name, s) x p.1 in
    (ap (λ y. Some y.0) q.1, ap (λ y. y.1) q.1, subst (λ y. 0 < length y.0) q.1 (positive (length name) p.0), subst (λ y. NewName funs y.0) q.1 (new_back funs name q.0))

record NameTold (funs : List CFun) (s : Stream) (x : List ℕ × Stream) : Type 0 where
  eats : Eats ((x.0 ++ codes "_X") ∷ []) s x.1
  good : Rattle.c_text.specs.Lawful.is_name x.0 ≡ true
  new : NewName funs x.0

name_told : (funs : List CFun) (s : Stream) (x : List ℕ × Stream) → AllToks s.tokens → name_at funs s ≡ Ok x → NameTold funs s x
unfolding name_at
name_told funs s x toks h =
    let p = bind_ok (shift s) _ x h in
    let q = new_ok funs (without_suffix p.0.0.text (codes "_X")) p.0.0.line p.0.1 x p.2 in
    let w = without_back p.0.0.text (codes "_X") x.0 q.0 in
    record {
      eats = subst (Eats ((x.0 ++ codes "_X") ∷ []) s) q.1 (shifted s p.0 (x.0 ++ codes "_X") p.1 w);
      good = name_of_token p.0.0.text x.0 (subst AllToks (shift_ok s p.0 p.1) toks).0 w q.2;
      new = q.3;
    }

-- ---- sizes

or_none : (a b : Bool) → (a || b) ≡ false → (a ≡ false) × (b ≡ false)
or_none true b h = cc
or_none false b h = (refl, h)

size_told : (least : ℕ) (s : Stream) (x : ℕ × Stream) → size_at least s ≡ Ok x → Eats (codes "=" ∷ decimal x.0 ∷ []) s x.1 × (least ≤ x.0) × (x.0 ≤ 2 ^ 24)
unfolding size_at
size_told least s x h =
    let e = bind_ok (expect (codes "=") s) _ x h in
    let n = bind_ok (number_at e.0.1) _ x e.2 in
    let q = passed (nat_lt n.0.0.0 least || nat_lt 16777216 n.0.0.0) (refusal kinds.Bound n.0.0.1) (n.0.0.0, n.0.1) x n.2 in
    let b = or_none (nat_lt n.0.0.0 least) (nat_lt 16777216 n.0.0.0) q.0 in
    subst (λ x. Eats (codes "=" ∷ decimal x.0 ∷ []) s x.1 × (least ≤ x.0) × (x.0 ≤ 2 ^ 24)) q.1 (
      eats_join (codes "=" ∷ []) (decimal n.0.0.0 ∷ []) s e.0.1 n.0.1 (taken (codes "=") s e.0 e.1) (number_told e.0.1 n.0 n.1).0,
      ltb-false n.0.0.0 least b.0,
      ltb-false 16777216 n.0.0.0 b.1,
    )

same_name : (name : List ℕ) (o : Option (List ℕ)) → is_name name o ≡ true → o ≡ Some name
same_name name None h = cc
same_name name (Some front) h = ap Some ((bytes_eq-Decides front name).0 h)

named_told : (name suffix : List ℕ) (least : ℕ) (s : Stream) (x : ℕ × Stream) → named_size_at name suffix least s ≡ Ok x → Eats (codes "," ∷ (name ++ suffix) ∷ codes "=" ∷ decimal x.0 ∷ []) s x.1 × (least ≤ x.0) × (x.0 ≤ 2 ^ 24)
unfolding named_size_at
named_told name suffix least s x h =
    let c = bind_ok (expect (codes ",") s) _ x h in
    let t = bind_ok (shift c.0.1) _ x c.2 in
    let q = held (is_name name (without_suffix t.0.0.text suffix)) (refusal kinds.Syntax t.0.0.line) (size_at least t.0.1) x t.2 in
    let w = without_back t.0.0.text suffix name (same_name name (without_suffix t.0.0.text suffix) q.0) in
    let n = size_told least t.0.1 x q.1 in (
      eats_join (codes "," ∷ []) ((name ++ suffix) ∷ codes "=" ∷ decimal x.0 ∷ []) s c.0.1 x.1 (taken (codes ",") s c.0 c.1)
          (eats_join ((name ++ suffix) ∷ []) (codes "=" ∷ decimal x.0 ∷ []) c.0.1 t.0.1 x.1 (shifted c.0.1 t.0 (name ++ suffix) t.1 w) n.0),
      n.1,
      n.2,
    )

again_told : (n : ℕ) (s : Stream) (x : Unit {0} × Stream) → repeated_at n s ≡ Ok x → Eats (decimal n ∷ []) s x.1
unfolding repeated_at
again_told n s x h =
    let p = bind_ok (number_at s) _ x h in
    let q = held (p.0.0.0 == n) (refusal kinds.Bound p.0.0.1) (Ok (tt, p.0.1)) x p.2 in
    subst (λ y. Eats (decimal n ∷ []) s y.1) (ends (tt, p.0.1) x q.1) (subst (λ k. Eats (decimal k ∷ []) s p.0.1) (eqb-true p.0.0.0 n q.0) (number_told s p.0 p.1).0)

clear_told : (array : List ℕ) (n : ℕ) (s : Stream) (x : Unit {0} × Stream) → clear_at array n s ≡ Ok x → Eats (words_of (clear_pieces array n)) s x.1
unfolding clear_at indent
clear_told array n s x h =
    let o = bind_ok (expects (codes "fr_clear" ∷ codes "(" ∷ array ∷ codes "," ∷ []) s) _ x h in
    let m = bind_ok (repeated_at n o.0.1) _ x o.2 in
    eats_join (codes "fr_clear" ∷ codes "(" ∷ array ∷ codes "," ∷ []) (decimal n ∷ codes ")" ∷ codes ";" ∷ []) s o.0.1 x.1 o.1 (eats_join (decimal n ∷ []) (codes ")" ∷ codes ";" ∷ []) o.0.1 m.0.1 x.1 (again_told n o.0.1 m.0 m.1) m.2)

-- from the opening brace on
abbrev slots_words : ℕ → ℕ → List (List ℕ)
slots_words t a = codes "{" ∷ codes "fr" ∷ codes "T" ∷ codes "[" ∷ decimal t ∷ codes "]" ∷ codes ";" ∷ words_of (clear_pieces (codes "T") t ++ clear_pieces (codes "A") a)

slots_told : (t a : ℕ) (s : Stream) (x : Unit {0} × Stream) → slots_at t a s ≡ Ok x → Eats (slots_words t a) s x.1
unfolding slots_at
slots_told t a s x h =
    let o = bind_ok (expects (codes "{" ∷ codes "fr" ∷ codes "T" ∷ codes "[" ∷ []) s) _ x h in
    let n = bind_ok (repeated_at t o.0.1) _ x o.2 in
    let c = bind_ok (expects (codes "]" ∷ codes ";" ∷ []) n.0.1) _ x n.2 in
    let m = bind_ok (clear_at (codes "T") t c.0.1) _ x c.2 in
    let clears = words_of (clear_pieces (codes "T") t ++ clear_pieces (codes "A") a) in
    eats_join (codes "{" ∷ codes "fr" ∷ codes "T" ∷ codes "[" ∷ []) (decimal t ∷ codes "]" ∷ codes ";" ∷ clears) s o.0.1 x.1 o.1
    (eats_join (decimal t ∷ []) (codes "]" ∷ codes ";" ∷ clears) o.0.1 n.0.1 x.1 (again_told t o.0.1 n.0 n.1)
    (eats_join (codes "]" ∷ codes ";" ∷ []) clears n.0.1 c.0.1 x.1 c.1
    (glue (clear_pieces (codes "T") t) (clear_pieces (codes "A") a) c.0.1 m.0.1 x.1 (clear_told (codes "T") t c.0.1 m.0 m.1) (clear_told (codes "A") a m.0.1 x m.2))))

signature_told : (name : List ℕ) (s : Stream) (x : Unit {0} × Stream) → signature_at name s ≡ Ok x → Eats (codes "int" ∷ name ∷ parameters) s x.1
unfolding signature_at
signature_told name s x h =
    let i = bind_ok (expect (codes "int") s) _ x h in
    let n = bind_ok (expect name i.0.1) _ x i.2 in
    eats_join (codes "int" ∷ []) (name ∷ parameters) s i.0.1 x.1 (taken (codes "int") s i.0 i.1) (eats_join (name ∷ []) parameters i.0.1 n.0.1 x.1 (taken name i.0.1 n.0 n.1) n.2)

end_told : (count : ℕ) (s : Stream) (x : Unit {0} × Stream) → end_at count s ≡ Ok x → Eats (words_of end_pieces) s x.1 × (count ≤ 67108864)
unfolding end_at indent
end_told count s x h =
    let r = bind_ok (expects (codes "return" ∷ codes "0" ∷ codes ";" ∷ []) s) _ x h in
    let z = bind_ok (expect (codes "}") r.0.1) _ x r.2 in
    let q = passed (nat_lt 67108864 count) (refusal kinds.Bound z.0.0) (tt, z.0.1) x z.2 in (
      subst (λ y. Eats (codes "return" ∷ codes "0" ∷ codes ";" ∷ codes "}" ∷ []) s y.1) q.1 (eats_join (codes "return" ∷ codes "0" ∷ codes ";" ∷ []) (codes "}" ∷ []) s r.0.1 z.0.1 r.1 (taken (codes "}") r.0.1 z.0 z.1)),
      ltb-false 67108864 count q.0,
    )

-- ---- functions

-- from the opening bracket on
abbrev sizes_words : List ℕ → Scope → List (List ℕ)
sizes_words name z =
    codes "{" ∷ (name ++ codes "_X") ∷ codes "=" ∷ decimal z.x ∷ codes "," ∷ (name ++ codes "_W") ∷ codes "=" ∷ decimal z.w ∷ codes "," ∷ (name ++ codes "_T") ∷ codes "=" ∷ decimal z.t ∷ codes "," ∷ (name ++ codes "_A") ∷ codes "=" ∷ decimal z.a ∷ codes "}" ∷ codes ";" ∷ []

record SizesTold (funs : List CFun) (s : Stream) (y : (List ℕ × Scope) × Stream) : Type 0 where
  eats : Eats (sizes_words y.0.0 y.0.1) s y.1
  good : Rattle.c_text.specs.Lawful.is_name y.0.0 ≡ true
  new : NewName funs y.0.0
  x : y.0.1.x ≤ 2 ^ 24
  w : y.0.1.w ≤ 2 ^ 24
  t : y.0.1.t ≤ 2 ^ 24
  some : 1 ≤ y.0.1.t
  a : y.0.1.a ≤ 2 ^ 24
  turns : y.0.1.turns ≡ one_turn_each
  outside : y.0.1.depth ≡ 0

sizes_told : (funs : List CFun) (s : Stream) (y : (List ℕ × Scope) × Stream) → AllToks s.tokens → sizes_at funs s ≡ Ok y → SizesTold funs s y
unfolding sizes_at
sizes_told funs s y toks h =
    let o = bind_ok (expect (codes "{") s) _ y h in
    let n = bind_ok (name_at funs o.0.1) _ y o.2 in
    let x = bind_ok (size_at 0 n.0.1) _ y n.2 in
    let w = bind_ok (named_size_at n.0.0 (codes "_W") 0 x.0.1) _ y x.2 in
    let t = bind_ok (named_size_at n.0.0 (codes "_T") 1 w.0.1) _ y w.2 in
    let a = bind_ok (named_size_at n.0.0 (codes "_A") 0 t.0.1) _ y t.2 in
    let z = bind_ok (expects (codes "}" ∷ codes ";" ∷ []) a.0.1) _ y a.2 in
    let open_eats = taken (codes "{") s o.0 o.1 in
    let name = name_told funs o.0.1 n.0 (toks_left (codes "{" ∷ []) s o.0.1 open_eats toks) n.1 in
    let sx = size_told 0 n.0.1 x.0 x.1 in
    let sw = named_told n.0.0 (codes "_W") 0 x.0.1 w.0 w.1 in
    let st = named_told n.0.0 (codes "_T") 1 w.0.1 t.0 t.1 in
    let sa = named_told n.0.0 (codes "_A") 0 t.0.1 a.0 a.1 in
    let w5 = codes "}" ∷ codes ";" ∷ [] in
    let w4 = codes "," ∷ (n.0.0 ++ codes "_A") ∷ codes "=" ∷ decimal a.0.0 ∷ w5 in
    let w3 = codes "," ∷ (n.0.0 ++ codes "_T") ∷ codes "=" ∷ decimal t.0.0 ∷ w4 in
    let w2 = codes "," ∷ (n.0.0 ++ codes "_W") ∷ codes "=" ∷ decimal w.0.0 ∷ w3 in
    let w1 = codes "=" ∷ decimal x.0.0 ∷ w2 in
    let eats =
    eats_join (codes "{" ∷ []) ((n.0.0 ++ codes "_X") ∷ w1) s o.0.1 z.0.1 open_eats
    (eats_join ((n.0.0 ++ codes "_X") ∷ []) w1 o.0.1 n.0.1 z.0.1 name.eats
    (eats_join (codes "=" ∷ decimal x.0.0 ∷ []) w2 n.0.1 x.0.1 z.0.1 sx.0
    (eats_join (codes "," ∷ (n.0.0 ++ codes "_W") ∷ codes "=" ∷ decimal w.0.0 ∷ []) w3 x.0.1 w.0.1 z.0.1 sw.0
    (eats_join (codes "," ∷ (n.0.0 ++ codes "_T") ∷ codes "=" ∷ decimal t.0.0 ∷ []) w4 w.0.1 t.0.1 z.0.1 st.0
    (eats_join (codes "," ∷ (n.0.0 ++ codes "_A") ∷ codes "=" ∷ decimal a.0.0 ∷ []) w5 t.0.1 a.0.1 z.0.1 sa.0 z.1))))) in
    subst (SizesTold funs s) (ends ((n.0.0, record { x = x.0.0; w = w.0.0; t = t.0.0; a = a.0.0; turns = one_turn_each; depth = 0 }), z.0.1) y z.2)
    (record {
      eats = eats;
      good = name.good;
      new = name.new;
      x = sx.2;
      w = sw.2;
      t = st.2;
      some = st.1;
      a = sa.2;
      turns = refl;
      outside = refl;
    })

-- a function was read, and what is left
record FunTold (funs : List CFun) (s : Stream) (y : ReadFun × Stream) : Type 0 where
  eats : Eats (words_of (fun_pieces y.0.fun)) s y.1
  keeps : KeepsRules y.0.fun
  new : NewName funs y.0.fun.name
  line : y.0.line ≡ line_of_first s.tokens
  lines : y.0.lines ≡ body_lines 0 y.0.fun.body (behind (head_pieces y.0.fun) s.tokens)

first_line : (s : Stream) (x : ℕ × Stream) → expect (codes "enum") s ≡ Ok x → x.0 ≡ line_of_first s.tokens
first_line s x h = let t = expect_ok (codes "enum") s x h in sym t.3 ∙ ap line_of_first (sym (shift_ok s (t.0, x.1) t.1))

few_counted : (count counted : ℕ) → count ≡ capped counted → count ≤ 67108864 → counted ≤ 2 ^ 26
few_counted count counted e h = omega (arith, e, h)

-- a function of these parts
abbrev made : List ℕ → Scope → List (List Ratio) → List CStmt → CFun
made name z tables body = record { name = name; x = z.x; w = z.w; t = z.t; a = z.a; tables = tables; body = body }

head_eats : (name : List ℕ) (z : Scope) (tables : List (List Ratio)) (body : List CStmt) (s e b g o k : Stream) → Eats (codes "enum" ∷ []) s e → Eats (sizes_words name z) e b → Eats (codes "int" ∷ name ∷ parameters) b g → Eats (slots_words z.t z.a) g o
    → Eats (words_of (tables_pieces 0 tables)) o k → Eats (words_of (head_pieces (made name z tables body))) s k
unfolding indent
head_eats name z tables body s e b g o k p q r u v =
    let f = made name z tables body in
    let m = eats_split (codes "{" ∷ []) (codes "fr" ∷ codes "T" ∷ codes "[" ∷ decimal z.t ∷ codes "]" ∷ codes ";" ∷ words_of (clear_pieces (codes "T") z.t ++ clear_pieces (codes "A") z.a)) g o u in
    glue (enum_pieces f) (signature_pieces name ++ (slots_pieces f ++ tables_pieces 0 tables)) s b k (eats_join (codes "enum" ∷ []) (sizes_words name z) s e b p q)
    (glue (signature_pieces name) (slots_pieces f ++ tables_pieces 0 tables) b m.0 k (eats_join (codes "int" ∷ name ∷ parameters) (codes "{" ∷ []) b g m.0 r m.1) (glue (slots_pieces f) (tables_pieces 0 tables) m.0 o k m.2 v))

whole_function : (f : CFun) → head_pieces f ++ (body_pieces 0 f.body ++ end_pieces) ≡ fun_pieces f
whole_function f = simp append_assoc

same_scope : (z : Scope) (ts : List ℕ) → z.turns ≡ one_turn_each → z.depth ≡ 0 → z ≡ scope_of (record { x = z.x; w = z.w; t = z.t; a = z.a; tables = ts }) one_turn_each 0
same_scope z ts a b = ap₂ (λ u d. scope_of (record { x = z.x; w = z.w; t = z.t; a = z.a; tables = ts }) u d) a b

function_told : (funs : List CFun) (s : Stream) (y : ReadFun × Stream) → AllToks s.tokens → function_at funs s ≡ Ok y → FunTold funs s y
unfolding function_at
function_told funs s y toks h =
    let e = bind_ok (expect (codes "enum") s) _ y h in
    let z = bind_ok (sizes_at funs e.0.1) _ y e.2 in
    let g = bind_ok (signature_at z.0.0.0 z.0.1) _ y z.2 in
    let o = bind_ok (slots_at z.0.0.1.t z.0.0.1.a g.0.1) _ y g.2 in
    let k = bind_ok (tables_at o.0.1) _ y o.2 in
    let b = bind_ok (body_at 4 z.0.0.1 k.0.0 k.0.1) _ y k.2 in
    let r = bind_ok (end_at b.0.0.count b.0.1) _ y b.2 in
    let f = made z.0.0.0 z.0.0.1 k.0.0 b.0.0.statements in
    let enum = taken (codes "enum") s e.0 e.1 in
    let sizes = sizes_told funs e.0.1 z.0 (toks_left (codes "enum" ∷ []) s e.0.1 enum toks) z.1 in
    let tables = tables_told o.0.1 k.0 k.1 in
    let own : Eats (words_of (tables_pieces 0 k.0.0)) o.0.1 k.0.1 = subst (λ ts. Eats (words_of (tables_pieces 0 ts)) o.0.1 k.0.1) (sym tables.same) tables.eats in
    let scope = same_scope z.0.0.1 (map length k.0.0) sizes.turns sizes.outside in
    let body = body_told (sizes_of f) k.0.0 refl one_turn_each 0 4 k.0.1 b.0 (omega arith) (ap (λ z. body_at 4 z k.0.0 k.0.1) (sym scope) ∙ b.1) in
    let end = end_told b.0.0.count b.0.1 r.0 r.1 in
    let head = head_eats z.0.0.0 z.0.0.1 k.0.0 b.0.0.statements s e.0.1 z.0.1 g.0.1 o.0.1 k.0.1 enum sizes.eats (signature_told z.0.0.0 z.0.1 g.0 g.1) (slots_told z.0.0.1.t z.0.0.1.a g.0.1 o.0 o.1) own in
    let eats = glue (head_pieces f) (body_pieces 0 b.0.0.statements ++ end_pieces) s k.0.1 r.0.1 head (glue (body_pieces 0 b.0.0.statements) end_pieces k.0.1 b.0.1 r.0.1 body.eats end.0) in
    subst (FunTold funs s) (ends (record { fun = f; line = e.0.0; lines = b.0.0.lines }, r.0.1) y r.2)
    (record {
      eats = subst (λ ps. Eats (words_of ps) s r.0.1) (whole_function f) eats;
      keeps =
          record {
            name = sizes.good;
            sizes =
                record {
                  x = sizes.x;
                  w = sizes.w;
                  t = sizes.t;
                  a = sizes.a;
                  some_temporaries = let k = sizes.some in omega (arith, k);
                  numbered = tables.few;
                  tables = subst KeepTables (sym tables.same) tables.keeps;
                  statements = body.keeps;
                };
            count = few_counted b.0.0.count (counted_list b.0.0.statements) body.count end.1;
          };
      new = sizes.new;
      line = first_line s e.0 e.1;
      lines = body.lines ∙ ap (body_lines 0 b.0.0.statements) (left_behind (words_of (head_pieces f)) s k.0.1 head);
    })

-- ---- units

-- the functions that were read on top of done, up to the last token
record UnitTold (done : ReadUnit) (s : Stream) (x : ReadUnit × Stream) : Type 0 where
  more : List CFun
  same : x.0.unit.funs ≡ done.unit.funs ++ more
  eats : Eats (words_of (funs_pieces more)) s x.1
  keeps : AllKeepRules done.unit.funs more
  enums : x.0.enums ≡ done.enums ++ enum_lines more s.tokens
  lines : x.0.lines ≡ done.lines ++ statement_lines more s.tokens
  all : x.1.tokens ≡ []

no_functions_more : (done : ReadUnit) (s : Stream) (x : ReadUnit × Stream) → s.tokens ≡ [] → (done, s) ≡ x → UnitTold done s x
no_functions_more done s x all e =
    subst (UnitTold done s) e
    (record {
      more = [];
      same = sym (append-nil done.unit.funs);
      eats = nothing s;
      keeps = tt;
      enums = sym (append-nil done.enums);
      lines = sym (append-nil done.lines);
      all = all;
    })

none_by : (ts : List Token) → is_more_by ts ≡ false → ts ≡ []
none_by [] h = refl
none_by (t ∷ ts) h = cc

none_left : (s : Stream) → is_more s ≡ false → s.tokens ≡ []
unfolding is_more
none_left s h = none_by s.tokens h

no_length : (ts : List Token) → length ts ≤ 0 → ts ≡ []
no_length [] h = refl
no_length (t ∷ ts) h = absurd (omega (arith, h))

one_function : (done : ReadUnit) (s : Stream) (g : ReadFun × Stream) (x : ReadUnit × Stream) → FunTold done.unit.funs s g → UnitTold (with_function done g.0) g.1 x → UnitTold done s x
one_function done s g x t u =
    let left = left_behind (words_of (fun_pieces g.0.fun)) s g.1 t.eats in
    record {
      more = g.0.fun ∷ u.more;
      same = u.same ∙ append_assoc done.unit.funs (g.0.fun ∷ []) u.more;
      eats = glue (fun_pieces g.0.fun) (funs_pieces u.more) s g.1 x.1 t.eats u.eats;
      keeps = (t.keeps, t.new, u.keeps);
      enums =
          u.enums ∙ append_assoc done.enums (g.0.line ∷ []) (enum_lines u.more g.1.tokens) ∙ ap₂ (λ l ts. done.enums ++ l ∷ enum_lines u.more ts) t.line left;
      lines =
          u.lines ∙ append_assoc done.lines (g.0.lines ∷ []) (statement_lines u.more g.1.tokens) ∙ ap₂ (λ l ts. done.lines ++ l ∷ statement_lines u.more ts) t.lines left;
      all = u.all;
    }

fewer : (f : CFun) (s r : Stream) → Eats (words_of (fun_pieces f)) s r → length r.tokens < length s.tokens
fewer f s r e = let k = eaten_length (words_of (fun_pieces f)) s r e in omega (arith, k)

unit_by : (n : ℕ) (done : ReadUnit) (s : Stream) (x : ReadUnit × Stream) → AllToks s.tokens → length s.tokens ≤ suc n → Repeats is_more add_function n done s x
    → ((done : ReadUnit) (s : Stream) → AllToks s.tokens → length s.tokens ≤ n → repeat is_more add_function n done s ≡ Ok x → UnitTold done s x) → UnitTold done s x
unit_by n done s x toks enough (stops m e) again = no_functions_more done s x (none_left s m) e
unit_by n done s x toks enough (goes_on y one rest) again =
    let g = bind_ok (function_at done.unit.funs s) _ y one in
    let e = ends (with_function done g.0.0, g.0.1) y g.2 in
    let t = function_told done.unit.funs s g.0 toks g.1 in
    let l = fewer g.0.0.fun s g.0.1 t.eats in
    one_function done s g.0 x t
    (again (with_function done g.0.0) g.0.1 (toks_left (words_of (fun_pieces g.0.0.fun)) s g.0.1 t.eats toks) (omega (arith, l, enough)) (subst (λ y. repeat is_more add_function n y.0 y.1 ≡ Ok x) (sym e) rest))

unit_on : (n : ℕ) (done : ReadUnit) (s : Stream) (x : ReadUnit × Stream) → AllToks s.tokens → length s.tokens ≤ n → repeat is_more add_function n done s ≡ Ok x → UnitTold done s x
unit_on zero done s x toks enough h = no_functions_more done s x (no_length s.tokens enough) (repeats_none is_more add_function done s x h)
unit_on (suc n) done s x toks enough h = unit_by n done s x toks enough (repeats is_more add_function n done s x h) (λ done s toks enough k. unit_on n done s x toks enough k)

-- all words of the tokens were taken
texts_eaten : (ws : List (List ℕ)) (s r : Stream) → Eats ws s r → r.tokens ≡ [] → texts s.tokens ≡ ws
texts_eaten [] s r e all = ap (λ m. texts m.tokens) (none_eaten s r e) ∙ ap texts all
texts_eaten (w ∷ ws) s r e all =
    let p = first_eaten w ws s r e in
    ap texts (shift_ok s (p.0, p.1) p.2) ∙ ap₂ (λ v vs. v ∷ vs) p.3 (texts_eaten ws p.1 r p.4 all)

finished_ok : (u : ReadUnit) (o : Option KernelRefusal) (r : ReadUnit) → finished u o ≡ Ok r → (o ≡ None) × (u ≡ r)
finished_ok u None r h = (refl, ends u r h)
finished_ok u (Some e) r h = cc

no_fault_by : (o : Option ℕ) (end : KernelRefusal) → fault_by [] (end_by o end) ≡ None → o ≡ None
no_fault_by None end h = refl
no_fault_by (Some l) end h = cc

-- what was read of a text
pub record Sound (text : List ℕ) (r : ReadUnit) : Type 0 where
  pub spells : Spells text r.unit
  pub rules : MeetsRules r.unit
  pub lines : IsLined text r

pub unit_told : (text : List ℕ) (r : ReadUnit) → reading text ≡ Ok r → Sound text r
unfolding reading stream_of tokens_of functions_at fault_at_end
unit_told text r h =
    let p = passed_on (nat_lt 268435456 (length text)) (refusal kinds.TooLong 0) _ r h in
    let first = bind_ok (expects (codes "#include" ∷ codes "\"fr.h\"" ∷ []) (stream_of text)) _ r p.1 in
    let u = bind_ok (repeat is_more add_function (length first.0.1.tokens) no_functions first.0.1) _ r first.2 in
    let q = finished_ok u.0.0 (fault_by u.0.1.tokens u.0.1.end) r u.2 in
    let toks = toks_left (codes "#include" ∷ codes "\"fr.h\"" ∷ []) (stream_of text) first.0.1 first.1 (all_toks (rest_of (begins text))) in
    let t = unit_on (length first.0.1.tokens) no_functions first.0.1 u.0 toks (omega arith) u.1 in
    let eats = eats_join (codes "#include" ∷ codes "\"fr.h\"" ∷ []) (words_of (funs_pieces t.more)) (stream_of text) first.0.1 u.0.1 first.1 t.eats in
    let words : texts (tokens_of text).0 ≡ codes "#include" ∷ codes "\"fr.h\"" ∷ words_of (funs_pieces t.more) = texts_eaten _ (stream_of text) u.0.1 eats t.all in
    let funs : u.0.0.unit.funs ≡ t.more = t.same in
    let end = end_kept (codes "#include" ∷ codes "\"fr.h\"" ∷ words_of (funs_pieces t.more)) (stream_of text) u.0.1 eats in
    let none : (tokens_of text).1 ≡ None
    = no_fault_by (tokens_of text).1 (refusal kinds.Syntax (last_line text)) (ap (fault_by []) (sym end) ∙ ap (λ ts. fault_by ts u.0.1.end) (sym t.all) ∙ q.0) in
    let left : first.0.1.tokens ≡ drop 2 (tokens_of text).0 = left_behind (codes "#include" ∷ codes "\"fr.h\"" ∷ []) (stream_of text) first.0.1 first.1 in
    subst (Sound text) q.1
    (record {
      spells = record { words = words ∙ ap (λ fs. codes "#include" ∷ codes "\"fr.h\"" ∷ words_of (funs_pieces fs)) (sym funs); nothing_else = none };
      rules = subst (AllKeepRules []) (sym funs) t.keeps;
      lines =
          record {
            enums = t.enums ∙ ap₂ (λ fs ts. enum_lines fs ts) (sym funs) left;
            statements = t.lines ∙ ap₂ (λ fs ts. statement_lines fs ts) (sym funs) left;
          };
    })
