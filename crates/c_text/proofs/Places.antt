-- The place of a refusal
use Rattle.std.proofs.Common.{◌≡◌, refl, sym, ◌∙◌, ap, ap₂, subst, ℕ, ◌<◌, ◌≤◌, ◌^◌, nat_lt, Bool, true, false, if◌then◌else◌, List, [], ◌∷◌, ◌++◌, length, map, Option, Some, None, Result, Ok, Err, inl, inr, ◌⊎◌, codes, arith, ltb-true, ltb-false}
use Rattle.std.proofs.lemmas.Bool.{true≢false}
use Rattle.slices.specs.Tokens.{Token}
use Rattle.c_unit.specs.declared.unit.CUnit.{CUnit}
use Rattle.c_text.specs.declared.refusal.KernelRefusal.{KernelRefusal}
use Rattle.c_text.specs.declared.refusal.KernelKind.{KernelKind}
use Rattle.c_text.specs.declared.refusal.KernelKind.TheVariants as kinds
use Rattle.c_text.specs.declared.read.ReadUnit.{ReadUnit}
use Rattle.c_text.specs.Stream.{Stream, Read, ◌>>=◌, refusal, end_by, last_line, stream_of, expects}
use Rattle.c_text.specs.Pieces.{words_of}
use Rattle.c_text.specs.Layout.{unit_pieces}
use Rattle.c_text.specs.Lawful.{MeetsRules}
use Rattle.c_text.specs.Spelling.{Spells, tokens_of, texts}
use Rattle.c_text.specs.Refused.{BeginsNone, IsWrongToken, IsPlace}
use Rattle.c_text.specs.Units.{is_lex, fault_by, fault_at_end, finished, functions_at, reading}
use Rattle.c_text.proofs.UnitWords.{unit_read, words_read}
use Rattle.c_text.proofs.Local.{is_own, at, Stops, at_token, at_end, Where, first_part, second_part, refused_where, no_value, no_refusal, ends_with}
use Rattle.c_text.proofs.LocalUnits.{whole_at, local_whole}

-- tokens of these words
abbrev made : Token → List (List ℕ) → List Token
made t ws = map (λ w. record t { text = w }) ws

texts_made : (t : Token) (ws : List (List ℕ)) → texts (made t ws) ≡ ws
texts_made t [] = refl
texts_made t (w ∷ ws) = ap (λ vs. w ∷ vs) (texts_made t ws)

texts_between : (p : List Token) (t : Token) (q : List Token) → texts (p ++ t ∷ q) ≡ texts (p ++ t ∷ []) ++ texts q
texts_between [] t q = refl
texts_between (x ∷ p) t q = ap (λ vs. x.text ∷ vs) (texts_between p t q)

begins_none : (p : List Token) (t : Token) → ((q : List Token) (end : KernelRefusal) (x : ReadUnit × Stream) → whole_at (at (p ++ t ∷ q) end) ≡ Ok x → ⊥) → BeginsNone (p ++ t ∷ [])
begins_none p t never u more keeps h =
    let words : texts (p ++ t ∷ made t more) ≡ words_of (unit_pieces u) = texts_between p t (made t more) ∙ ap (λ vs. texts (p ++ t ∷ []) ++ vs) (texts_made t more) ∙ sym h in
    let r = words_read u (p ++ t ∷ made t more) (refusal kinds.Syntax 0) keeps words in
    never (made t more) (refusal kinds.Syntax 0) (r.0, at [] (refusal kinds.Syntax 0)) r.1

own_place : (k : KernelKind) (text : List ℕ) (line : ℕ) → is_own k ≡ true → IsWrongToken text line → IsPlace k text line
own_place kinds.Syntax text line h w = inl w
own_place kinds.Slot text line h w = w
own_place kinds.Bound text line h w = w
own_place kinds.TooLong text line h w = cc
own_place kinds.Lex text line h w = cc
own_place kinds.Sizes text line h w = cc
own_place kinds.Memory text line h w = cc

-- a refused text spells no lawful unit
none_spells : (text : List ℕ) (e : KernelRefusal) → length text ≤ 2 ^ 28 → reading text ≡ Err e → (u : CUnit) → MeetsRules u → Spells text u → ⊥
none_spells text e short h u keeps spells = let r = unit_read u text keeps spells short in no_refusal r.0 e (sym r.1 ∙ h)

end_place : (o : Option ℕ) (text : List ℕ) (e : KernelRefusal) → length text ≤ 2 ^ 28 → reading text ≡ Err e → (tokens_of text).1 ≡ o → end_by o (refusal kinds.Syntax (last_line text)) ≡ e → IsPlace e.kind text e.line
end_place None text e short h o w = subst (λ x. IsPlace x.kind text x.line) w (inr (o, refl, none_spells text e short h))
end_place (Some l) text e short h o w = subst (λ x. IsPlace x.kind text x.line) w o

bind_again : {A B C : Type 0} (r : Result A KernelRefusal) (f : A → Result B KernelRefusal) (g : B → Result C KernelRefusal) → (r >>= λ x. (f x >>= g)) ≡ ((r >>= f) >>= g)
bind_again (Ok x) f g = refl
bind_again (Err e) f g = refl

abbrev finish : ReadUnit × Stream → Result ReadUnit KernelRefusal
finish u = finished u.0 (fault_at_end u.1)

fault_is : (u : ReadUnit) (ts : List Token) (end e : KernelRefusal) → finished u (fault_by ts end) ≡ Err e → end ≡ e
fault_is u [] end e h = lex_is (is_lex end.kind) u end e h
  where
    lex_is : (b : Bool) (u : ReadUnit) (end e : KernelRefusal) → finished u (if b then Some end else None) ≡ Err e → end ≡ e
    lex_is true u end e h = ends_with {A = ReadUnit} end e h
    lex_is false u end e h = absurd (no_refusal u e h)
fault_is u (t ∷ ts) end e h = absurd (no_refusal u e h)

fault_last : (u : ReadUnit) (s : Stream) (e : KernelRefusal) → finished u (fault_at_end s) ≡ Err e → s.end ≡ e
unfolding fault_at_end
fault_last u s e h = fault_is u s.tokens s.end e h

data Whose (r : Read ReadUnit) (e : KernelRefusal) : Type 0 where
  in_tokens : r ≡ Err e → Whose r e
  at_last : (x : ReadUnit × Stream) → r ≡ Ok x → finish x ≡ Err e → Whose r e

whose : (r : Read ReadUnit) (e : KernelRefusal) → (r >>= finish) ≡ Err e → Whose r e
whose (Ok x) e h = at_last x refl h
whose (Err y) e h = in_tokens (ap Err (ends_with {A = ReadUnit} y e h))

stopped_place : (text : List ℕ) (end e : KernelRefusal) → end_by (tokens_of text).1 (refusal kinds.Syntax (last_line text)) ≡ end → length text ≤ 2 ^ 28 → reading text ≡ Err e
    → Stops whole_at (tokens_of text).0 end e → IsPlace e.kind text e.line
stopped_place text end e same short h (at_token p t q all line own never) = own_place e.kind text e.line own (p, t, q, all, line, begins_none p t never)
stopped_place text end e same short h (at_end w never) = end_place (tokens_of text).1 text e short h refl (same ∙ sym w)

place_by : (b : Bool) (text : List ℕ) (e : KernelRefusal) → nat_lt 268435456 (length text) ≡ b → reading text ≡ Err e
    → (if b then Err (refusal kinds.TooLong 0) else (whole_at (stream_of text) >>= finish)) ≡ Err e → IsPlace e.kind text e.line
unfolding stream_of tokens_of
place_by true text e long h w = subst (λ x. IsPlace x.kind text x.line) (ends_with {A = ReadUnit} (refusal kinds.TooLong 0) e w) (ltb-true 268435456 (length text) long, refl)
place_by false text e long h w =
    let short : length text ≤ 2 ^ 28 = ltb-false 268435456 (length text) long in
    let end = end_by (tokens_of text).1 (refusal kinds.Syntax (last_line text)) in
    elim (whose (whole_at (stream_of text)) e w) [
      | in_tokens v ↦ stopped_place text end e refl short h (local_whole.err (tokens_of text).0 end e v)
      | at_last x v f ↦
          let o = local_whole.ok (tokens_of text).0 end x.0 x.1 v in
          end_place (tokens_of text).1 text e short h refl (sym o.kept ∙ fault_last x.0 x.1 e f)
    ]

pub place_is : (text : List ℕ) (e : KernelRefusal) → reading text ≡ Err e → IsPlace e.kind text e.line
unfolding reading
place_is text e h =
    place_by (nat_lt 268435456 (length text)) text e refl h
    (ap (λ r. if nat_lt 268435456 (length text) then Err (refusal kinds.TooLong 0) else r)
    (sym (bind_again (expects (codes "#include" ∷ codes "\"fr.h\"" ∷ []) (stream_of text)) (λ h. functions_at h.1) finish))
    ∙ h)
