-- Functions and units are read from their words
use Rattle.std.proofs.Common.{◌≡◌, ◌≢◌, refl, sym, ◌∙◌, ap, subst, ℕ, suc, ◌-◌, ◌<◌, ◌≤◌, ◌^◌, Bool, true, false, ◌==◌, List, [], ◌∷◌, ◌++◌, append_assoc, length, map, Some, None, Ok, codes, decimal, arith}
use Rattle.std.specs.Str.{bytes_eq}
use Rattle.std.proofs.lemmas.Bool.{eq-eqb, le-ltb}
use Rattle.std.proofs.lemmas.List.{append-nil, length-append}
use Rattle.std.proofs.lemmas.Slice.Eq.{bytes_eq-Decides}
use Rattle.std.proofs.Math.Seq.{take-append_seam, drop-append_seam}
use Rattle.ratio.specs.declared.reduced.Ratio.{Ratio}
use Rattle.slices.specs.Tokens.{Token}
use Rattle.c_unit.specs.declared.unit.CFun.{CFun}
use Rattle.c_unit.specs.declared.unit.CUnit.{CUnit}
use Rattle.c_unit.specs.Meaning.{counted_list}
use Rattle.c_text.specs.declared.refusal.KernelKind.TheVariants as kinds
use Rattle.c_text.specs.declared.refusal.KernelRefusal.{KernelRefusal}
use Rattle.c_text.specs.declared.place.Scope.{Scope}
use Rattle.c_text.specs.declared.read.ReadUnit.{ReadUnit}
use Rattle.c_text.specs.declared.read.ReadFun.{ReadFun}
use Rattle.c_text.specs.Stream.{Stream, end_by, last_line, stream_of, refusal, ◌>>=◌, shift, expect, expects, repeat}
use Rattle.c_text.specs.Pieces.{words_of}
use Rattle.c_text.specs.Layout.{indent, enum_pieces, signature_pieces, clear_pieces, slots_pieces, tables_pieces, body_pieces, end_pieces, fun_pieces, funs_pieces, unit_pieces}
use Rattle.c_text.specs.Fractions.{tables_at}
use Rattle.c_text.specs.Statements.{capped}
use Rattle.c_text.specs.Units.{without_suffix, is_among, name_at, size_at, named_size_at, repeated_at, parameters, signature_at, clear_at, slots_at, end_at, one_turn_each, sizes_at, function_at, is_more, is_more_by, with_function, add_function, no_functions, functions_at, fault_at_end, reading}
use Rattle.c_unit.specs.Rules.{NewName, sizes_of}
use Rattle.c_text.specs.Lawful.{KeepsRules, AllKeepRules, MeetsRules}
use Rattle.c_text.specs.Spelling.{tokens_of, texts, Spells}
use Rattle.c_text.proofs.NumberLaws.{eqb_ne}
use Rattle.c_text.proofs.Repeats.{one_more, all_read}
use Rattle.c_text.proofs.Eats.{Eats, first_eaten, shift_ok, eats_split, eats_join, cut, one_eaten, expected, eaten_length, none_eaten}
use Rattle.c_text.proofs.PlaceWords.{scope_of, number_read}
use Rattle.c_text.proofs.TableWords.{tables_read}
use Rattle.c_text.proofs.BodyWords.{BodyRead, body_whole, no_line, tables_end, more_lines}

-- ---- names

pub without : (name suffix : List ℕ) → without_suffix (name ++ suffix) suffix ≡ Some name
unfolding without_suffix
without name suffix =
    let l = length-append name suffix in
    let n : length (name ++ suffix) - length suffix ≡ length name = omega (arith, l) in
    rw (le-ltb (length (name ++ suffix)) (length suffix) (omega (arith, l))) (rw n (rw (drop-append_seam name suffix) (rw ((bytes_eq-Decides suffix suffix).1 refl) (rw (take-append_seam name suffix) refl))))

differs_by : (t : Bool) (a b : List ℕ) → bytes_eq a b ≡ t → a ≢ b → bytes_eq a b ≡ false
differs_by true a b e h = absurd (h ((bytes_eq-Decides a b).0 e))
differs_by false a b e h = e

pub no_other : (funs : List CFun) (name : List ℕ) → NewName funs name → is_among funs name ≡ false
no_other [] name h = refl
no_other (f ∷ fs) name h = rw (differs_by (bytes_eq f.name name) f.name name refl h.0) (no_other fs name h.1)

some_name : (name : List ℕ) → Rattle.c_text.specs.Lawful.is_name name ≡ true → (length name == 0) ≡ false
some_name [] h = cc
some_name (b ∷ bs) h = eqb_ne (length (b ∷ bs)) 0 (λ z. omega (arith, z))

name_read : (funs : List CFun) (name : List ℕ) (s r : Stream) → NewName funs name → Rattle.c_text.specs.Lawful.is_name name ≡ true → Eats ((name ++ codes "_X") ∷ []) s r → name_at funs s ≡ Ok (name, r)
unfolding name_at
name_read funs name s r new good e =
    let p = one_eaten (name ++ codes "_X") s r e in
    rw p.1 (rw p.2 (rw (without name (codes "_X")) (rw (some_name name good) (rw (no_other funs name new) refl))))

-- ---- sizes

size_read : (least n : ℕ) (s r : Stream) → least ≤ n → n ≤ 2 ^ 24 → Eats (codes "=" ∷ decimal n ∷ []) s r → size_at least s ≡ Ok (n, r)
unfolding size_at
size_read least n s r low high e =
    let a = eats_split (codes "=" ∷ []) (decimal n ∷ []) s r e in
    let p = expected (codes "=") s a.0 a.1 in
    let q = number_read n a.0 r (omega (arith, high)) a.2 in
    rw p.1 (rw q.1 (rw (le-ltb n least low) (rw (le-ltb 16777216 n high) refl)))

named_read : (name suffix : List ℕ) (least n : ℕ) (s r : Stream) → least ≤ n → n ≤ 2 ^ 24 → Eats (codes "," ∷ (name ++ suffix) ∷ codes "=" ∷ decimal n ∷ []) s r → named_size_at name suffix least s ≡ Ok (n, r)
unfolding named_size_at
named_read name suffix least n s r low high e =
    let a = eats_split (codes "," ∷ []) _ s r e in
    let b = eats_split ((name ++ suffix) ∷ []) (codes "=" ∷ decimal n ∷ []) a.0 r a.2 in
    let p = expected (codes ",") s a.0 a.1 in
    let q = one_eaten (name ++ suffix) a.0 b.0 b.1 in
    rw p.1 (rw q.1 (rw q.2 (rw (without name suffix) (rw ((bytes_eq-Decides name name).1 refl) (size_read least n b.0 r low high b.2)))))

again_read : (n : ℕ) (s r : Stream) → n < 2 ^ 32 → Eats (decimal n ∷ []) s r → repeated_at n s ≡ Ok (tt, r)
unfolding repeated_at
again_read n s r h e = let p = number_read n s r h e in rw p.1 (rw (eq-eqb n n refl) refl)

clear_read : (array : List ℕ) (n : ℕ) (s r : Stream) → n < 2 ^ 32 → Eats (words_of (clear_pieces array n)) s r → clear_at array n s ≡ Ok (tt, r)
unfolding clear_at indent
clear_read array n s r h e =
    let a = eats_split (codes "fr_clear" ∷ codes "(" ∷ array ∷ codes "," ∷ []) _ s r e in
    let b = eats_split (decimal n ∷ []) (codes ")" ∷ codes ";" ∷ []) a.0 r a.2 in
    rw a.1 (rw (again_read n a.0 b.0 h b.1) b.2)

-- the opening brace ends the pieces of the signature
slots_read : (f : CFun) (s r : Stream) → KeepsRules f → Eats (codes "{" ∷ words_of (slots_pieces f)) s r → slots_at f.t f.a s ≡ Ok (tt, r)
unfolding slots_at indent
slots_read f s r keeps e =
    let a = eats_split (codes "{" ∷ codes "fr" ∷ codes "T" ∷ codes "[" ∷ []) _ s r e in
    let b = eats_split (decimal f.t ∷ []) _ a.0 r a.2 in
    let c = eats_split (codes "]" ∷ codes ";" ∷ []) _ b.0 r b.2 in
    let d = cut (clear_pieces (codes "T") f.t) (clear_pieces (codes "A") f.a) c.0 r c.2 in
    let small : f.t < 2 ^ 32 = let h = keeps.sizes.t in omega (arith, h) in
    let few : f.a < 2 ^ 32 = let h = keeps.sizes.a in omega (arith, h) in
    rw a.1 (rw (again_read f.t a.0 b.0 small b.1) (rw c.1 (rw (clear_read (codes "T") f.t c.0 d.0 small d.1) (clear_read (codes "A") f.a d.0 r few d.2))))

abbrev scope_in : CFun → Scope
scope_in f = scope_of (sizes_of f) one_turn_each 0

sizes_read : (funs : List CFun) (f : CFun) (s r : Stream) → KeepsRules f → NewName funs f.name
    → Eats (codes "{" ∷ (f.name ++ codes "_X") ∷ codes "=" ∷ decimal f.x ∷ codes "," ∷ (f.name ++ codes "_W") ∷ codes "=" ∷ decimal f.w ∷ codes "," ∷ (f.name ++ codes "_T") ∷ codes "=" ∷ decimal f.t ∷ codes "," ∷ (f.name ++ codes "_A") ∷ codes "=" ∷ decimal f.a ∷ codes "}" ∷ codes ";" ∷ []) s r
    → sizes_at funs s ≡ Ok ((f.name, scope_in f), r)
unfolding sizes_at
sizes_read funs f s r keeps new e =
    let a = eats_split (codes "{" ∷ []) _ s r e in
    let b = eats_split ((f.name ++ codes "_X") ∷ []) _ a.0 r a.2 in
    let c = eats_split (codes "=" ∷ decimal f.x ∷ []) _ b.0 r b.2 in
    let d = eats_split (codes "," ∷ (f.name ++ codes "_W") ∷ codes "=" ∷ decimal f.w ∷ []) _ c.0 r c.2 in
    let g = eats_split (codes "," ∷ (f.name ++ codes "_T") ∷ codes "=" ∷ decimal f.t ∷ []) _ d.0 r d.2 in
    let h = eats_split (codes "," ∷ (f.name ++ codes "_A") ∷ codes "=" ∷ decimal f.a ∷ []) (codes "}" ∷ codes ";" ∷ []) g.0 r g.2 in
    let o = expected (codes "{") s a.0 a.1 in
    rw o.1
    (rw (name_read funs f.name a.0 b.0 new keeps.name b.1)
    (rw (size_read 0 f.x b.0 c.0 (omega arith) keeps.sizes.x c.1)
    (rw (named_read f.name (codes "_W") 0 f.w c.0 d.0 (omega arith) keeps.sizes.w d.1)
    (rw (named_read f.name (codes "_T") 1 f.t d.0 g.0 (let k = keeps.sizes.some_temporaries in omega (arith, k)) keeps.sizes.t g.1)
    (rw (named_read f.name (codes "_A") 0 f.a g.0 h.0 (omega arith) keeps.sizes.a h.1) (rw h.2 refl))))))

-- ---- functions

signature_read : (name : List ℕ) (s r : Stream) → Eats (codes "int" ∷ name ∷ parameters) s r → signature_at name s ≡ Ok (tt, r)
unfolding signature_at
signature_read name s r e =
    let a = eats_split (codes "int" ∷ []) (name ∷ parameters) s r e in
    let b = eats_split (name ∷ []) parameters a.0 r a.2 in
    let p = expected (codes "int") s a.0 a.1 in
    let q = expected name a.0 b.0 b.1 in
    rw p.1 (rw q.1 b.2)

end_read : (count : ℕ) (s r : Stream) → count ≤ 67108864 → Eats (words_of end_pieces) s r → end_at count s ≡ Ok (tt, r)
unfolding end_at indent
end_read count s r few e =
    let a = eats_split (codes "return" ∷ codes "0" ∷ codes ";" ∷ []) (codes "}" ∷ []) s r e in
    let p = expected (codes "}") a.0 r a.2 in
    rw a.1 (rw p.1 (rw (le-ltb 67108864 count few) refl))

length_lengths : (ts : List (List Ratio)) → length (map length ts) ≡ length ts
length_lengths [] = refl
length_lengths (t ∷ ts) = ap suc (length_lengths ts)

at_return : (s r : Stream) → Eats (words_of end_pieces) s r → more_lines 4 s ≡ false
unfolding indent
at_return s r e = no_line 4 (codes "return") _ s r e refl refl

-- a function was read as f, and r is left
pub record FunRead (funs : List CFun) (f : CFun) (s r : Stream) : Type 0 where
  pub found : ReadFun
  pub read : function_at funs s ≡ Ok (found, r)
  pub fun : found.fun ≡ f

rest_read : (f : CFun) (s r : Stream) → KeepsRules f → Eats (words_of (tables_pieces 0 f.tables ++ (body_pieces 0 f.body ++ end_pieces))) s r
    → (m n : Stream) × (tables_at s ≡ Ok (f.tables, m)) × BodyRead (sizes_of f) one_turn_each 0 f.tables 4 f.body m n × Eats (words_of end_pieces) n r
rest_read f s r keeps e =
    let a = cut (tables_pieces 0 f.tables) (body_pieces 0 f.body ++ end_pieces) s r e in
    let b = cut (body_pieces 0 f.body) end_pieces a.0 r a.2 in (
      a.0,
      b.0,
      tables_read f.tables s a.0 keeps.sizes.numbered keeps.sizes.tables a.1 (tables_end keeps.sizes.statements a.0 r a.2),
      body_whole keeps.sizes.statements f.tables 4 a.0 b.0 refl (rw (length_lengths f.tables) keeps.sizes.numbered) (omega arith) b.1 (at_return b.0 r b.2),
      b.2,
    )

few_counted : (count counted : ℕ) → count ≡ capped counted → counted ≤ 2 ^ 26 → count ≤ 67108864
few_counted count counted e h = omega (arith, e, h)

pub function_read : (funs : List CFun) (f : CFun) (s r : Stream) → KeepsRules f → NewName funs f.name → Eats (words_of (fun_pieces f)) s r → FunRead funs f s r
unfolding function_at
function_read funs f s r keeps new e =
    let a = cut (enum_pieces f) (signature_pieces f.name ++ (slots_pieces f ++ (tables_pieces 0 f.tables ++ (body_pieces 0 f.body ++ end_pieces)))) s r e in
    let b = eats_split (codes "enum" ∷ []) _ s a.0 a.1 in
    let c = cut (signature_pieces f.name) (slots_pieces f ++ (tables_pieces 0 f.tables ++ (body_pieces 0 f.body ++ end_pieces))) a.0 r a.2 in
    let d = eats_split (codes "int" ∷ f.name ∷ parameters) (codes "{" ∷ []) a.0 c.0 c.1 in
    let g = cut (slots_pieces f) (tables_pieces 0 f.tables ++ (body_pieces 0 f.body ++ end_pieces)) c.0 r c.2 in
    let h = rest_read f g.0 r keeps g.2 in
    let o = expected (codes "enum") s b.0 b.1 in
    let body = h.3 in
    record {
      found =
          record {
            fun = record { name = f.name; x = f.x; w = f.w; t = f.t; a = f.a; tables = f.tables; body = body.body.statements };
            line = o.0;
            lines = body.body.lines;
          };
      read =
          rw o.1
          (rw (sizes_read funs f b.0 a.0 keeps new b.2)
          (rw (signature_read f.name a.0 d.0 d.1)
          (rw (slots_read f d.0 g.0 keeps (eats_join (codes "{" ∷ []) (words_of (slots_pieces f)) d.0 c.0 g.0 d.2 g.1))
          (rw h.2 (rw body.read (rw (end_read body.body.count h.1 r (few_counted body.body.count (counted_list f.body) body.count keeps.count) h.4) refl))))));
      fun = ap (λ cs. record { name = f.name; x = f.x; w = f.w; t = f.t; a = f.a; tables = f.tables; body = cs }) body.statements;
    }

-- ---- units

some_left : (w : List ℕ) (ws : List (List ℕ)) (s r : Stream) → Eats (w ∷ ws) s r → is_more s ≡ true
unfolding is_more
some_left w ws s r e = let p = first_eaten w ws s r e in ap is_more_by (shift_ok s (p.0, p.1) p.2)

enum_first : (f : CFun) (s r : Stream) → Eats (words_of (fun_pieces f)) s r → is_more s ≡ true
enum_first f s r e = some_left (codes "enum") _ s r e

-- the functions fs were read on top of done
record UnitOn (m : ℕ) (done : ReadUnit) (fs : List CFun) (s r : Stream) : Type 0 where
  unit : ReadUnit
  read : repeat is_more add_function m done s ≡ Ok (unit, r)
  funs : unit.unit.funs ≡ done.unit.funs ++ fs

functions_on : (earlier fs : List CFun) (m : ℕ) (done : ReadUnit) (s r : Stream) → AllKeepRules earlier fs → done.unit.funs ≡ earlier → length s.tokens ≤ m → Eats (words_of (funs_pieces fs)) s r → is_more r ≡ false
    → UnitOn m done fs s r
functions_on earlier [] m done s r keeps same enough e stop =
    record {
      unit = done;
      read = all_read is_more add_function m _ done r (ap (repeat is_more add_function m done) (none_eaten s r e)) stop;
      funs = sym (append-nil done.unit.funs);
    }
functions_on earlier (f ∷ fs) m done s r keeps same enough e stop =
    let a = cut (fun_pieces f) (funs_pieces fs) s r e in
    let g = function_read done.unit.funs f s a.0 keeps.0 (subst (λ l. NewName l f.name) (sym same) keeps.1) a.1 in
    let k = eaten_length (words_of (fun_pieces f)) s a.0 a.1 in
    let next = with_function done g.found in
    let now : done.unit.funs ++ g.found.fun ∷ [] ≡ earlier ++ f ∷ [] = ap (λ l. l ++ g.found.fun ∷ []) same ∙ ap (λ x. earlier ++ x ∷ []) g.fun in
    let o = one_more is_more add_function m (length s.tokens) (length a.0.tokens) _ done s (next, a.0) enough (omega (arith, k)) refl (enum_first f s a.0 a.1) (ap (λ x. x >>= λ x. Ok (with_function done x.0, x.1)) g.read) in
    let u = functions_on (earlier ++ f ∷ []) fs o.0 next a.0 r keeps.2 now o.1 a.2 stop in
    record {
      unit = u.unit;
      read = o.2 ∙ u.read;
      funs = u.funs ∙ append_assoc done.unit.funs (g.found.fun ∷ []) fs ∙ ap (λ x. done.unit.funs ++ x ∷ fs) g.fun;
    }

-- all tokens are these words
own_eaten : (ts : List Token) (end : KernelRefusal) → Eats (texts ts) (record { tokens = ts; end = end }) (record { tokens = []; end = end })
unfolding expects expect shift
own_eaten [] end = refl
own_eaten (t ∷ ts) end = rw ((bytes_eq-Decides t.text t.text).1 refl) (own_eaten ts end)

pub all_eaten : (ws : List (List ℕ)) (ts : List Token) (end : KernelRefusal) → texts ts ≡ ws → Eats ws (record { tokens = ts; end = end }) (record { tokens = []; end = end })
all_eaten ws ts end h = subst (λ ws. Eats ws (record { tokens = ts; end = end }) (record { tokens = []; end = end })) h (own_eaten ts end)

no_tokens : (end : KernelRefusal) → is_more (record { tokens = []; end = end }) ≡ false
unfolding is_more
no_tokens end = refl

pub unit_read : (u : CUnit) (text : List ℕ) → MeetsRules u → Spells text u → length text ≤ 2 ^ 28 → (r : ReadUnit) × (reading text ≡ Ok r) × (r.unit ≡ u)
unfolding reading stream_of tokens_of functions_at fault_at_end
unit_read u text keeps spells short =
    let end = end_by None (refusal kinds.Syntax (last_line text)) in
    let s : Stream = record { tokens = (tokens_of text).0; end = end } in
    let e = all_eaten (words_of (unit_pieces u)) (tokens_of text).0 end spells.words in
    let a = eats_split (codes "#include" ∷ codes "\"fr.h\"" ∷ []) (words_of (funs_pieces u.funs)) s (record { tokens = []; end = end }) e in
    let f = functions_on [] u.funs (length a.0.tokens) no_functions a.0 (record { tokens = []; end = end }) keeps refl (omega arith) a.2 (no_tokens end) in (
      f.unit,
      rw (le-ltb 268435456 (length text) short) (rw spells.nothing_else (rw a.1 (rw f.read refl))),
      ap (λ fs. record { funs = fs }) f.funs,
    )

-- the tokens of a lawful unit's words are read to their end
pub words_read : (u : CUnit) (ts : List Token) (end : KernelRefusal) → MeetsRules u → texts ts ≡ words_of (unit_pieces u)
    → (r : ReadUnit) × ((expects (codes "#include" ∷ codes "\"fr.h\"" ∷ []) (record { tokens = ts; end = end }) >>= λ h. functions_at h.1) ≡ Ok (r, record { tokens = []; end = end }))
unfolding functions_at
words_read u ts end keeps words =
    let s : Stream = record { tokens = ts; end = end } in
    let e = all_eaten (words_of (unit_pieces u)) ts end words in
    let a = eats_split (codes "#include" ∷ codes "\"fr.h\"" ∷ []) (words_of (funs_pieces u.funs)) s (record { tokens = []; end = end }) e in
    let f = functions_on [] u.funs (length a.0.tokens) no_functions a.0 (record { tokens = []; end = end }) keeps refl (omega arith) a.2 (no_tokens end) in
    (f.unit, rw a.1 f.read)
