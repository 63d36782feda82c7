-- The file as a whole
use Rattle.std.proofs.Common.{[], ◌∷◌, ◌++◌, ◌≡◌, ◌≤◌, ◌⊎◌, inl, inr, length, take, drop, List, ℕ, Option, Some, None, false, refl, sym, ap, subst, ◌∙◌, append_assoc, append-nil, arith}
use Rattle.std.proofs.lemmas.List.{take-append-drop}
use Rattle.slices.specs.declared.toks.Tok.{Tok}
use Rattle.slices.specs.declared.toks.LexAt.{LexAt}
use Rattle.slices.specs.Tokens.{token_of}
use Rattle.slices.specs.FormTokens.{FormReader, form_next, finished, no_token, token, form_begins, Scan, no_more, lost, one_more}
use Rattle.slices.specs.declared.form_toks.TheConstants.{FORM_LIMIT}
use Rattle.slices.proofs.FormEnd.{EndsALine, ends_a_line}
use Rattle.ufl_syntax.specs.declared.class.Lexeme.{Lexeme}
use Rattle.ufl_syntax.specs.declared.tree.Stmt.{Stmt}
use Rattle.ufl_syntax.specs.Grammar.{File, no_statement}
use Rattle.ufl_syntax.specs.Classes.{class_by, lexeme_of, lexemes}
use Rattle.ufl_syntax.proofs.Refusal.{closed_begins}
use Rattle.ufl_read.specs.declared.statements.TheConstants.{DEPTH_LIMIT}
use Rattle.ufl_read.specs.declared.tokens.Fault.{Fault}
use Rattle.ufl_read.specs.declared.tokens.Fault.TheVariants as f
use Rattle.ufl_syntax.specs.Refusal.{EndsEarly}
use Rattle.ufl_read.specs.Reads.{IsRefusal}
use Rattle.ufl_read.specs.Refusals as r
use Rattle.ufl_read.specs.Refusals.{started, statement_line, line_or, wrong_by, deep_by, refusal_for, IsUnread, IsFormRefusal}

pub line_at_end : (all : List Lexeme) (line : Option ℕ) (at own : ℕ) → started None all ≡ started line (drop at all) → drop at all ≡ [] → statement_line all own ≡ line_or line own
unfolding statement_line
line_at_end all line at own h e = ap (λ l. line_or l own) (h ∙ ap (started line) e)

pub lexemes_append : (ts us : List Tok) → lexemes (ts ++ us) ≡ lexemes ts ++ lexemes us
lexemes_append [] us = refl
lexemes_append (t ∷ ts) us = ap (λ l. lexeme_of t ∷ l) (lexemes_append ts us)

-- the tokens so far, behind which the others stand
abbrev pub Scanned : List ℕ → FormReader → List Lexeme → Type 0
Scanned text now all = (ts : List Tok) × ((us : List Tok) (e : Option LexAt) → Scan now us e → Scan (form_begins text) (ts ++ us) e) × (all ≡ lexemes ts)

pub scanned_none : (text : List ℕ) (now : FormReader) (all : List Lexeme) → Scanned text now all → form_next now ≡ finished → (ts : List Tok) × Scan (form_begins text) ts None × (all ≡ lexemes ts)
scanned_none text now all s h = (s.0, subst (λ ts. Scan (form_begins text) ts None) (append-nil s.0) (s.1 [] None (no_more h)), s.2)

pub scanned_lost : (text : List ℕ) (now : FormReader) (all : List Lexeme) (e : LexAt) → Scanned text now all → form_next now ≡ no_token e.from e.line → (ts : List Tok) × Scan (form_begins text) ts (Some e) × (all ≡ lexemes ts)
scanned_lost text now all e s h = (s.0, subst (λ ts. Scan (form_begins text) ts (Some e)) (append-nil s.0) (s.1 [] (Some e) (lost h)), s.2)

pub scanned_more : (text : List ℕ) (now next : FormReader) (old new : List Lexeme) (t : Tok) → new ≡ old ++ lexeme_of t ∷ [] → form_next now ≡ token (token_of t) next → Scanned text now old → Scanned text next new
scanned_more text now next old new t h e s = (
  s.0 ++ t ∷ [],
  λ us x d. subst (λ ts. Scan (form_begins text) ts x) (sym (append_assoc s.0 (t ∷ []) us)) (s.1 (t ∷ us) x (one_more e d)),
  h ∙ ap (λ l. l ++ lexeme_of t ∷ []) s.2 ∙ sym (lexemes_append s.0 (t ∷ [])),
)

split_at : (all : List Lexeme) (at : ℕ) (bad : Lexeme) (after : List Lexeme) → drop at all ≡ bad ∷ after → all ≡ take at all ++ bad ∷ after
split_at all at bad after d = sym (take-append-drop at all) ∙ ap (λ l. take at all ++ l) d

no_tokens : (n : ℕ) → EndsEarly n [] → ⊥
no_tokens n w = w.1 [] no_statement

-- the tokens of a whole file don't end too early
never_early : (ts : List Tok) → ((ts ≡ []) × (false ≡ false)) ⊎ EndsALine ts → EndsEarly DEPTH_LIMIT (lexemes ts) → ⊥
never_early ts (inl x) w = no_tokens DEPTH_LIMIT (subst (λ l. EndsEarly DEPTH_LIMIT (lexemes l)) x.0 w)
never_early ts (inr (front, end, x, i)) w =
    let e : lexemes ts ≡ lexemes front ++ lexeme_of end ∷ [] = ap lexemes x ∙ lexemes_append front (end ∷ []) in
    let v = subst (λ l. EndsEarly DEPTH_LIMIT l) e w in
    let d = closed_begins DEPTH_LIMIT (lexemes front) (lexeme_of end) (omega arith) (ap (λ j. class_by j end.text.now) i) v.0 in
    v.1 d.0 d.1

unread : (text : List ℕ) (ts : List Tok) (fault : Fault) (e : Option LexAt) → length text ≤ FORM_LIMIT → Scan (form_begins text) ts e → IsRefusal DEPTH_LIMIT (lexemes ts) fault → IsFormRefusal text (refusal_for (lexemes ts) fault e)
unread text ts f.Memory e h s w = inl refl
unread text ts f.Short None h s w = absurd (never_early ts (ends_a_line (form_begins text) ts None refl s) w)
unread text ts f.Short (Some e) h s w = inr (inr (h, r.no_token ts e s w.0))
unread text ts (f.Wrong at) e h s w =
    inr (inr (h, subst (λ l. IsUnread text (wrong_by (take at (lexemes ts)) l)) (sym w.2) (r.wrong_token (take at (lexemes ts)) w.0 w.1 s (split_at (lexemes ts) at w.0 w.1 w.2) w.3.0 w.3.1)))
unread text ts (f.Deep at) e h s w =
    inr (inr (h, subst (λ l. IsUnread text (deep_by (take at (lexemes ts)) l)) (sym w.2) (r.too_deep (take at (lexemes ts)) w.0 w.1 s (split_at (lexemes ts) at w.0 w.1 w.2) w.3.0 w.3.1)))

pub refused : (text : List ℕ) (ts : List Tok) (fault : Fault) (e : Option LexAt) (all : List Lexeme) → length text ≤ FORM_LIMIT → Scan (form_begins text) ts e → all ≡ lexemes ts → IsRefusal DEPTH_LIMIT all fault
    → IsFormRefusal text (refusal_for all fault e)
refused text ts fault e all h s i w = subst (λ l. IsFormRefusal text (refusal_for l fault e)) (sym i) (unread text ts fault e h s (subst (λ l. IsRefusal DEPTH_LIMIT l fault) i w))

-- statements, and then a place where no token starts
pub lost_after : (text : List ℕ) (ts : List Tok) (e : LexAt) (all : List Lexeme) (sts : List Stmt) → length text ≤ FORM_LIMIT → Scan (form_begins text) ts (Some e) → all ≡ lexemes ts → File DEPTH_LIMIT all sts []
    → IsFormRefusal text (refusal_for all f.Short (Some e))
lost_after text ts e all sts h s i d =
    subst (λ l. IsFormRefusal text (refusal_for l f.Short (Some e))) (sym i)
    (inr (inr (h, r.no_token ts e s ([], sts, subst (λ l. File DEPTH_LIMIT l sts []) (i ∙ sym (append-nil (lexemes ts))) d))))
