-- A word of a form file is an identifier, and a token that may be a name is a word
use Rattle.std.proofs.Common.{◌≡◌, ℕ, zero, suc, ◌+◌, ◌==◌, Bool, true, false, if◌then◌else◌, List, [], ◌∷◌, take, drop, Option, None, Some, refl, sym, subst, codes, arith}
use Rattle.std.specs.List.{AllByRecursion}
use Rattle.std.specs.Str.{bytes_eq}
use Rattle.std.proofs.lemmas.List.Elements.{All-from_recursion, recursion_from_All}
use Rattle.slices.specs.declared.toks.LexAt.{LexAt}
use Rattle.slices.specs.declared.toks.Tok.{Tok}
use Rattle.slices.specs.declared.toks.TokKind.{TokKind}
use Rattle.slices.specs.declared.toks.TokKind.TheVariants as t
use Rattle.slices.specs.CTable.{is_letter, is_inside_word, span, word_length, sign_of_length}
use Rattle.slices.specs.FormGap.{Spot}
use Rattle.slices.specs.FormTable.{begins_number, form_sign_length, form_token, string_length, string_of_length}
use Rattle.slices.specs.FormTokens.{FormReader, FormNext, finished, no_token, token, form_next, form_begins, gap_end, next_at, next_by, IsCut, Scan, no_more, lost, one_more}
use Rattle.slices.proofs.FormScan.{cut_tokens}
use Rattle.ufl_syntax.specs.declared.class.Class.{Class}
use Rattle.ufl_syntax.specs.declared.class.Class.TheVariants as k
use Rattle.ufl_syntax.specs.declared.class.Lexeme.{Lexeme}
use Rattle.ufl_syntax.specs.Classes.{class_by, lexeme_of, lexemes, sign_class}
use Rattle.ufl_syntax.specs.Spans.{word_at}
use Rattle.form_files.specs.Names.{IsIdentifier}

-- ---- the token at the front of a text
inside_by : (t : Bool) (b : ℕ) (bs : List ℕ) → is_inside_word b ≡ t → AllByRecursion (λ c. is_inside_word c ≡ true) (take (span is_inside_word bs) bs)
    → AllByRecursion (λ c. is_inside_word c ≡ true) (take (if t then suc (span is_inside_word bs) else 0) (b ∷ bs))
inside_by true b bs e h = (e, h)
inside_by false b bs e h = tt

inside : (bs : List ℕ) → AllByRecursion (λ c. is_inside_word c ≡ true) (take (span is_inside_word bs) bs)
inside [] = tt
inside (b ∷ bs) = inside_by (is_inside_word b) b bs refl (inside bs)

word_is : (b : ℕ) (bs : List ℕ) → is_letter b ≡ true → IsIdentifier (take (1 + word_length bs) (b ∷ bs))
unfolding word_length
word_is b bs e =
    let one : 1 + span is_inside_word bs ≡ suc (span is_inside_word bs) = omega arith in
    subst (λ n. IsIdentifier (take n (b ∷ bs))) (sym one) (e, All-from_recursion _ _ (inside bs))

-- where it is a word, it is an identifier
abbrev WordAt : List ℕ → Option (ℕ × TokKind) → Type 0
WordAt bytes None = Unit {0}
WordAt bytes (Some x) = x.1 ≡ t.Word → IsIdentifier (take x.0 bytes)

word_if : (b : Bool) (bytes : List ℕ) (x y : Option (ℕ × TokKind)) → WordAt bytes x → WordAt bytes y → WordAt bytes (if b then x else y)
word_if true bytes x y h i = h
word_if false bytes x y h i = i

word_by : (c : Bool) (b : ℕ) (bs : List ℕ) (other : Option (ℕ × TokKind)) → is_letter b ≡ c → WordAt (b ∷ bs) other
    → WordAt (b ∷ bs) (if c then Some (1 + word_length bs, t.Word) else other)
word_by true b bs other e h = λ w. word_is b bs e
word_by false b bs other e h = h

no_string : (n : ℕ) (bytes : List ℕ) → WordAt bytes (string_of_length n)
no_string zero bytes = tt
no_string (suc n) bytes = λ w. cc

no_sign : (n : ℕ) (bytes : List ℕ) → WordAt bytes (sign_of_length n)
no_sign zero bytes = tt
no_sign (suc n) bytes = λ w. cc

token_word : (bytes : List ℕ) → WordAt bytes (form_token bytes)
unfolding form_token
token_word [] = tt
token_word (b ∷ bs) =
    word_by (is_letter b) b bs _ refl
    (word_if (begins_number (b ∷ bs)) (b ∷ bs) _ _ (λ w. cc)
    (word_if _ (b ∷ bs) _ _ (no_string (string_length b bs) (b ∷ bs)) (no_sign (form_sign_length (b ∷ bs)) (b ∷ bs))))

-- ---- the tokens of a file
abbrev WordOf : FormNext → Type 0
WordOf finished = Unit {0}
WordOf (no_token from line) = Unit {0}
WordOf (token x q) = x.kind ≡ t.Word → IsIdentifier x.text

next_if : (b : Bool) (x y : FormNext) → WordOf x → WordOf y → WordOf (if b then x else y)
next_if true x y h i = h
next_if false x y h i = i

word_next : (o : Option (ℕ × TokKind)) (r : FormReader) (p : Spot) (b : ℕ) (bytes : List ℕ) → WordAt bytes o → WordOf (next_by r p b bytes o)
word_next None r p b bytes h = tt
word_next (Some x) r p b bytes h = h

next_words : (r : FormReader) (p : Spot) (bytes : List ℕ) → WordOf (next_at r p bytes)
next_words r p [] = next_if r.begun _ _ (λ w. cc) tt
next_words r p (b ∷ bs) = next_if (b == 10) _ _ (λ w. cc) (word_next (form_token (b ∷ bs)) r p b (b ∷ bs) (token_word (b ∷ bs)))

form_words : (r : FormReader) → WordOf (form_next r)
unfolding form_next
form_words r = next_words r (gap_end r) (drop (gap_end r).at r.source)

abbrev AreWords : List Tok → Type 0
AreWords = AllByRecursion (λ x. x.kind ≡ t.Word → IsIdentifier x.text.now)

scanned_words : (r : FormReader) (ts : List Tok) (e : Option LexAt) → Scan r ts e → AreWords ts
scanned_words r ts e (no_more x) = tt
scanned_words r ts e (lost x) = tt
scanned_words r ts e (one_more {t = u} {q = q} {ts = us} x s) = (subst WordOf x (form_words r), scanned_words q us e s)

-- ---- classes
abbrev NoName : Class → Type 0
NoName c = (b : Bool) → c ≡ k.Name b → ⊥

other_if : (t : Bool) (x y : Class) → NoName x → NoName y → NoName (if t then x else y)
other_if true x y h i = h
other_if false x y h i = i

sign_no_name : (s : List ℕ) → NoName (sign_class s)
unfolding sign_class
sign_no_name s =
    other_if (bytes_eq s (codes "+")) _ _ (λ b h. cc) (other_if (bytes_eq s (codes "-")) _ _ (λ b h. cc)
    (other_if (bytes_eq s (codes "*")) _ _ (λ b h. cc) (other_if (bytes_eq s (codes "/")) _ _ (λ b h. cc)
    (other_if (bytes_eq s (codes "**")) _ _ (λ b h. cc) (other_if (bytes_eq s (codes "=")) _ _ (λ b h. cc)
    (other_if (bytes_eq s (codes "+=")) _ _ (λ b h. cc) (other_if (bytes_eq s (codes "-=")) _ _ (λ b h. cc)
    (other_if (bytes_eq s (codes "(")) _ _ (λ b h. cc) (other_if (bytes_eq s (codes ")")) _ _ (λ b h. cc)
    (other_if (bytes_eq s (codes "[")) _ _ (λ b h. cc) (other_if (bytes_eq s (codes "]")) _ _ (λ b h. cc)
    (other_if (bytes_eq s (codes ",")) _ _ (λ b h. cc) (other_if (bytes_eq s (codes ".")) _ _ (λ b h. cc) (λ b h. cc))))))))))))))

name_is_word : (kind : TokKind) (w : List ℕ) (b : Bool) → class_by kind w ≡ k.Name b → kind ≡ t.Word
name_is_word t.Word w b h = refl
name_is_word t.Number w b h = cc
name_is_word t.Text w b h = cc
name_is_word t.Symbol w b h = absurd (sign_no_name w b h)
name_is_word t.End w b h = cc

-- a token that may be a name stands where an identifier stands
abbrev pub NamesIdentifier : List ℕ → Lexeme → Type 0
NamesIdentifier file x = (b : Bool) → x.class ≡ k.Name b → IsIdentifier (word_at file x.span)

lexeme_names : (file : List ℕ) (x : Tok) → IsCut file x → (x.kind ≡ t.Word → IsIdentifier x.text.now) → NamesIdentifier file (lexeme_of x)
lexeme_names file x c h = λ b e. subst IsIdentifier c.1 (h (name_is_word x.kind x.text.now b e))

lexemes_name : (file : List ℕ) (ts : List Tok) → AllByRecursion (IsCut file) ts → AreWords ts → AllByRecursion (NamesIdentifier file) (lexemes ts)
lexemes_name file [] c h = tt
lexemes_name file (x ∷ ts) c h = (lexeme_names file x c.0 h.0, lexemes_name file ts c.1 h.1)

pub identifiers : (file : List ℕ) (ts : List Tok) (e : Option LexAt) → Scan (form_begins file) ts e → AllByRecursion (NamesIdentifier file) (lexemes ts)
identifiers file ts e s =
    lexemes_name file ts (recursion_from_All (IsCut file) ts (cut_tokens (form_begins file) ts e (omega arith) s)) (scanned_words (form_begins file) ts e s)
