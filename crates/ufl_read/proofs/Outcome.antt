-- One text has one outcome.
use Rattle.std.proofs.Common.{[], ◌∷◌, ◌++◌, ◌≡◌, ◌≤◌, ◌+◌, ◌⊎◌, inl, inr, length, map, List, ℕ, suc, Option, Some, None, All, refl, sym, ap, subst, ◌∙◌, arith}
use Rattle.slices.specs.declared.toks.Tok.{Tok}
use Rattle.slices.specs.declared.toks.LexAt.{LexAt}
use Rattle.slices.specs.Tokens.{Token, token_of}
use Rattle.slices.specs.FormTokens.{form_begins, Scan, IsCut}
use Rattle.slices.proofs.FormScan.{same_scan, cut_tokens}
use Rattle.ufl_syntax.specs.declared.class.Lexeme.{Lexeme}
use Rattle.ufl_syntax.specs.declared.tree.Stmt.{Stmt}
use Rattle.ufl_syntax.specs.declared.span.Span.{Span}
use Rattle.ufl_syntax.specs.Spans.{EachStatement}
use Rattle.ufl_syntax.specs.Classes.{class_by, lexeme_of, lexemes}
use Rattle.ufl_syntax.specs.Grammar.{File}
use Rattle.ufl_syntax.specs.Refusal.{Begins, IsRefused, IsWrong, IsTooDeep}
use Rattle.ufl_syntax.proofs.SpanLaws.{EachLexeme, no_lexeme, lexeme, each_file}
use Rattle.ufl_syntax.proofs.Only.{one_refused, not_both}
use Rattle.ufl_syntax.proofs.Unique.{one_reading}
use Rattle.ufl_syntax.proofs.Whole.{never_begins, file_begins}
use Rattle.ufl_read.specs.declared.statements.TheConstants.{DEPTH_LIMIT}
use Rattle.ufl_read.specs.declared.refusal.FormKind.TheVariants as r
use Rattle.ufl_read.specs.declared.refusal.FormRefusal.{FormRefusal}
use Rattle.ufl_read.specs.Refusals.{IsFile, IsUnread, IsRefusedFile, no_token, statement_line, too_deep, wordless, wrong_at, wrong_token}

-- ---- the same tokens

none_is : (t : Token) (ts : List Token) → [] ≡ t ∷ ts → ⊥
none_is t ts h = cc

heads : (t u : Token) (ts us : List Token) → t ∷ ts ≡ u ∷ us → (t ≡ u) × (ts ≡ us)
heads t u ts us h = (cc, cc)

abbrev lexeme_by : Token → Lexeme
lexeme_by x = record { span = record { from = x.from; len = length x.text }; line = x.line; class = class_by x.kind x.text }

same_lexemes : (ts us : List Tok) → map token_of ts ≡ map token_of us → lexemes ts ≡ lexemes us
same_lexemes [] [] h = refl
same_lexemes [] (u ∷ us) h = absurd (none_is (token_of u) (map token_of us) h)
same_lexemes (t ∷ ts) [] h = absurd (none_is (token_of t) (map token_of ts) (sym h))
same_lexemes (t ∷ ts) (u ∷ us) h =
    let e = heads (token_of t) (token_of u) (map token_of ts) (map token_of us) h in
    ap (λ x. lexeme_by x ∷ lexemes ts) e.0 ∙ ap (λ l. lexeme_of u ∷ l) (same_lexemes ts us e.1)

-- ---- one refusal

abbrev Reason : List Lexeme → Lexeme → FormRefusal → Type 0
Reason front bad e = (IsWrong DEPTH_LIMIT front bad × (e ≡ wrong_at front bad)) ⊎ (IsTooDeep DEPTH_LIMIT front bad × (e ≡ wordless r.Deep (statement_line front bad.line)))

-- the refusal of the tokens of this scan
abbrev Told : List Lexeme → Option LexAt → FormRefusal → Type 0
Told us x e =
    ((y : LexAt) × (x ≡ Some y) × Begins DEPTH_LIMIT us × (e ≡ wordless r.Lex (statement_line us y.line)))
    ⊎ ((front : List Lexeme) × (bad : Lexeme) × (after : List Lexeme) × (us ≡ front ++ bad ∷ after) × IsRefused DEPTH_LIMIT front bad × Reason front bad e)

told : (text : List ℕ) (us : List Tok) (x : Option LexAt) (e : FormRefusal) → Scan (form_begins text) us x → IsUnread text e → Told (lexemes us) x e
told text us x e z (no_token ts y s b) =
    let a = same_scan (form_begins text) ts us (Some y) x s z in
    let p = same_lexemes ts us a.0 in
    inl (y, sym a.1, subst (Begins DEPTH_LIMIT) p b, ap (λ l. wordless r.Lex (statement_line l y.line)) p)
told text us x e z (wrong_token {ts = ts} {e = y} front bad after s h b w) =
    let a = same_scan (form_begins text) ts us y x s z in
    inr (front, bad, after, sym (same_lexemes ts us a.0) ∙ h, b, inl (w, refl))
told text us x e z (too_deep {ts = ts} {e = y} front bad after s h b w) =
    let a = same_scan (form_begins text) ts us y x s z in
    inr (front, bad, after, sym (same_lexemes ts us a.0) ∙ h, b, inr (w, refl))

some_one : (y z : LexAt) → Some y ≡ Some z → y ≡ z
some_one y z h = cc

none_some : (y : LexAt) → None ≡ Some y → ⊥
none_some y h = cc

reason_of : (front : List Lexeme) (bad : Lexeme) (e : FormRefusal) → Reason front bad e → IsWrong DEPTH_LIMIT front bad ⊎ IsTooDeep DEPTH_LIMIT front bad
reason_of front bad e (inl w) = inl w.0
reason_of front bad e (inr w) = inr w.0

clash : (front other : List Lexeme) (bad worse : Lexeme) → (front ≡ other) × (bad ≡ worse) → IsWrong DEPTH_LIMIT front bad → IsTooDeep DEPTH_LIMIT other worse → ⊥
clash front other bad worse o w d = not_both DEPTH_LIMIT front bad w (subst (λ z. IsTooDeep DEPTH_LIMIT front z) (sym o.1) (subst (λ l. IsTooDeep DEPTH_LIMIT l worse) (sym o.0) d))

one_reason : (front other : List Lexeme) (bad worse : Lexeme) (d e : FormRefusal) → (front ≡ other) × (bad ≡ worse) → Reason front bad d → Reason other worse e → d ≡ e
one_reason front other bad worse d e o (inl w) (inl v) = w.1 ∙ ap (λ l. wrong_at l bad) o.0 ∙ ap (wrong_at other) o.1 ∙ sym v.1
one_reason front other bad worse d e o (inl w) (inr v) = absurd (clash front other bad worse o w.0 v.0)
one_reason front other bad worse d e o (inr w) (inl v) = absurd (clash other front worse bad (sym o.0, sym o.1) v.0 w.0)
one_reason front other bad worse d e o (inr w) (inr v) =
    w.1 ∙ ap (λ l. wordless r.Deep (statement_line l bad.line)) o.0 ∙ ap (λ t. wordless r.Deep (statement_line other t.line)) o.1 ∙ sym v.1

one_told : (us : List Lexeme) (x : Option LexAt) (d e : FormRefusal) → Told us x d → Told us x e → d ≡ e
one_told us x d e (inl (y, i, b, h)) (inl (z, j, c, k)) = h ∙ ap (λ v. wordless r.Lex (statement_line us v.line)) (some_one y z (sym i ∙ j)) ∙ sym k
one_told us x d e (inl (y, i, b, h)) (inr (front, bad, after, m, q, w)) = absurd (never_begins DEPTH_LIMIT us (front, bad, (after, m, q, reason_of front bad e w)) b)
one_told us x d e (inr (front, bad, after, m, q, w)) (inl (y, i, b, h)) = absurd (never_begins DEPTH_LIMIT us (front, bad, (after, m, q, reason_of front bad d w)) b)
one_told us x d e (inr (front, bad, after, m, q, w)) (inr (other, worse, rest, l, s, v)) =
    one_reason front other bad worse d e (one_refused DEPTH_LIMIT front other bad worse after rest (sym m ∙ l) q s) w v

scan_of : (text : List ℕ) (e : FormRefusal) → IsUnread text e → (ts : List Tok) × (x : Option LexAt) × Scan (form_begins text) ts x
scan_of text e (no_token ts y s b) = (ts, Some y, s)
scan_of text e (wrong_token {ts = ts} {e = y} front bad after s h b w) = (ts, y, s)
scan_of text e (too_deep {ts = ts} {e = y} front bad after s h b w) = (ts, y, s)

pub one_refusal : (text : List ℕ) (d e : FormRefusal) → IsRefusedFile text d → IsRefusedFile text e → d ≡ e
one_refusal text d e (inl (h, x)) (inl (i, y)) = x ∙ sym y
one_refusal text d e (inl (h, x)) (inr (i, y)) = absurd (omega (arith, h, i))
one_refusal text d e (inr (h, x)) (inl (i, y)) = absurd (omega (arith, h, i))
one_refusal text d e (inr (h, x)) (inr (i, y)) = let s = scan_of text d x in one_told (lexemes s.0) s.1 d e (told text s.0 s.1 d s.2 x) (told text s.0 s.1 e s.2 y)

-- ---- statements

never_told : (us : List Lexeme) (e : FormRefusal) (sts : List Stmt) → File DEPTH_LIMIT us sts [] → Told us None e → ⊥
never_told us e sts d (inl (y, i, b, h)) = none_some y i
never_told us e sts d (inr (front, bad, after, m, q, w)) = never_begins DEPTH_LIMIT us (front, bad, (after, m, q, reason_of front bad e w)) (file_begins DEPTH_LIMIT us (sts, d))

pub not_refused : (text : List ℕ) (sts : List Stmt) (e : FormRefusal) → IsFile text sts → IsRefusedFile text e → ⊥
not_refused text sts e (h, ts, s, d) (inl (i, x)) = omega (arith, h, i)
not_refused text sts e (h, ts, s, d) (inr (i, x)) = never_told (lexemes ts) e sts d (told text ts None e s x)

pub one_file : (text : List ℕ) (sts xs : List Stmt) → IsFile text sts → IsFile text xs → sts ≡ xs
one_file text sts xs (h, ts, s, d) (i, us, z, f) =
    let a = same_scan (form_begins text) ts us None None s z in
    one_reading DEPTH_LIMIT (lexemes us) sts xs (subst (λ l. File DEPTH_LIMIT l sts []) (same_lexemes ts us a.0) d) f

-- ---- places in the text

abbrev Within : List ℕ → Span → Type 0
Within text t = t.from + t.len ≤ length text

within_lexemes : (text : List ℕ) (ts : List Tok) → All (IsCut text) ts → EachLexeme (Within text) (lexemes ts)
within_lexemes text [] a = no_lexeme
within_lexemes text (t ∷ ts) a = lexeme (a 0 t (omega arith)).0 (within_lexemes text ts (λ k d h. a (suc k) d (omega (arith, h))))

pub within_file : (text : List ℕ) (sts : List Stmt) → IsFile text sts → EachStatement (Within text) sts
within_file text sts (h, ts, s, d) = (each_file DEPTH_LIMIT d (within_lexemes text ts (cut_tokens (form_begins text) ts None (omega arith) s))).0
