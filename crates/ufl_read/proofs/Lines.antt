-- One turn of the machine in a statement.
use Rattle.std.proofs.Common.{[], ◌∷◌, ◌++◌, ◌≡◌, ◌+◌, Result, Ok, Err, ◌<◌, ◌≤◌, true, false, Bool, length, take, drop, List, ℕ, Some, None, refl, sym, ap, subst, ◌∙◌, append_assoc, append-nil, arith, length-drop}
use Rattle.ufl_syntax.specs.declared.span.Span.{Span}
use Rattle.ufl_syntax.specs.declared.class.Class.{Class}
use Rattle.ufl_syntax.specs.declared.class.Class.TheVariants as k
use Rattle.ufl_syntax.specs.declared.class.Lexeme.{Lexeme}
use Rattle.ufl_syntax.specs.declared.tree.AssignOp.{AssignOp}
use Rattle.ufl_syntax.specs.declared.tree.AssignOp.TheVariants as o
use Rattle.ufl_syntax.specs.declared.tree.Stmt.{Stmt}
use Rattle.ufl_syntax.specs.declared.tree.Syn.{Syn}
use Rattle.ufl_syntax.specs.Grammar.{HasParts, first_line, LaterNames, no_name, last_name, further_name, Names, one_name, several_names, Targets, bare_targets, bracketed_targets, Statement, imports, assigns, updated, updates, File, no_statement, one_statement}
use Rattle.ufl_syntax.specs.Machine.{Part, takes, skips, wrong, part_on, first_on, statement_on, run, stopped, sank, same, begins_statement, statements, a_statement, after_first, later_names, a_value, token}
use Rattle.std.proofs.lemmas.List.{take-append-drop, append_cancel_right}
use Rattle.ufl_syntax.specs.Refusal.{IsRefused, IsWrong, IsTooDeep}
use Rattle.ufl_syntax.proofs.Steps.{run_skips, run_wrong}
use Rattle.ufl_syntax.proofs.Complete.{run_none, statements_begin, statements_skip, no_file_short}
use Rattle.ufl_syntax.proofs.Refusal.{ended_begins, is_refused, is_sunk, stops_at, sinks_at}
use Rattle.ufl_read.specs.declared.tokens.Fault.{Fault}
use Rattle.ufl_read.specs.declared.tokens.Fault.TheVariants as f
use Rattle.ufl_read.specs.Reads.{Fails, Reads, ReadsAll, ended_parts, assigned_parts, bracket_parts, IsRefusal, IsWord, IsSign, IsEnded, IsAssigned, IsImport}
use Rattle.ufl_read.proofs.Turns.{take_at, along}

-- names behind those before
abbrev pub NamesGrow : List Lexeme → List Lexeme → List Span → List Span → Type 0
NamesGrow start ts old before = (names : List Span) (rest : List Lexeme) → LaterNames ts names rest → (all : List Span) × LaterNames start all rest × (old ++ names ≡ before ++ all)

pub names_end : (start ts : List Lexeme) (old before : List Span) → NamesGrow start ts old before → (x : List Span) × LaterNames start x ts × (old ≡ before ++ x)
names_end start ts old before f = let r = f [] ts no_name in (r.0, r.1, sym (append-nil old) ∙ r.2)

pub names_last : (start ts us : List Lexeme) (t : Lexeme) (b : Bool) (old new before : List Span) → new ≡ old ++ t.span ∷ [] → ts ≡ t ∷ us → t.class ≡ k.Name b → NamesGrow start ts old before
    → (x : List Span) × LaterNames start x us × (new ≡ before ++ x)
names_last start ts us t b old new before h e i f =
    let r = f (t.span ∷ []) us (subst (λ l. LaterNames l (t.span ∷ []) us) (sym e) (last_name i)) in
    (r.0, r.1, h ∙ r.2)

pub names_more : (start ts us vs : List Lexeme) (t c : Lexeme) (b : Bool) (old new before : List Span) → new ≡ old ++ t.span ∷ [] → ts ≡ t ∷ us → t.class ≡ k.Name b → us ≡ c ∷ vs → k.Comma ≡ c.class
    → NamesGrow start ts old before → NamesGrow start vs new before
names_more start ts us vs t c b old new before h e i x j f = λ names rest l.
    let r = f (t.span ∷ names) rest (subst (λ y. LaterNames y (t.span ∷ names) rest) (sym (e ∙ ap (λ y. t ∷ y) x)) (further_name i (sym j) l)) in
    (r.0, r.1, ap (λ y. y ++ names) h ∙ append_assoc old (t.span ∷ []) names ∙ r.2)

pub no_name_on : (j : Class) → ((b : Bool) → j ≡ k.Name b → ⊥) → part_on later_names j ≡ skips
no_name_on (k.Name b) h = absurd (h b refl)
no_name_on _ h = refl

pub sign_takes : (n : ℕ) (j : Class) (op : AssignOp) → IsSign j (Some op) → first_on n j ≡ takes (a_value n ∷ token k.End ∷ [])
sign_takes n k.Assign op h = refl
sign_takes n k.AddAssign op h = refl
sign_takes n k.SubAssign op h = refl
sign_takes n _ op h = cc

pub no_sign_wrong : (n : ℕ) (j : Class) → IsSign j None → same k.Comma j ≡ false → first_on n j ≡ wrong
no_sign_wrong n k.Comma h e = cc
no_sign_wrong n k.Assign h e = cc
no_sign_wrong n k.AddAssign h e = cc
no_sign_wrong n k.SubAssign h e = cc
no_sign_wrong n _ h e = refl

some_is : (a b : AssignOp) → Some a ≡ Some b → a ≡ b
some_is a b h = cc

-- one target, a sign, a value
signed_by : (n : ℕ) (t u : Lexeme) (b : Bool) (us rest : List Lexeme) (op : AssignOp) (e : Syn) (st : Stmt) (j : Class) → u.class ≡ j → t.class ≡ k.Name b → IsSign j (Some op) → IsEnded n us e rest
    → HasParts st t.line (t.span ∷ []) false op (Some e) → Statement n (t ∷ u ∷ us) st rest
signed_by n t u b us rest op e st k.Assign y h x v p = assigns (bare_targets (one_name h)) y v.1 v.2 (p.0, p.1, p.2, p.3 ∙ some_is op o.Set x, p.4)
signed_by n t u b us rest op e st k.AddAssign y h x v p = updated h (subst (λ j. updates j op) (sym y) (some_is op o.Plus x)) v.1 v.2 p
signed_by n t u b us rest op e st k.SubAssign y h x v p = updated h (subst (λ j. updates j op) (sym y) (some_is op o.Minus x)) v.1 v.2 p
signed_by n t u b us rest op e st _ y h x v p = cc

pub signed_statement : (n : ℕ) (t u : Lexeme) (ts us rest : List Lexeme) (op : AssignOp) (e : Syn) (names : List Span) {st : Stmt} → IsWord t → ts ≡ u ∷ us → IsSign u.class (Some op) → names ≡ t.span ∷ [] → IsEnded n us e rest
    → HasParts st t.line names false op (Some e) → Statement n (t ∷ ts) st rest
signed_statement n t u ts us rest op e names {st} w x i h v p =
    subst (λ l. Statement n (t ∷ l) st rest) (sym x) (signed_by n t u w.0 us rest op e st u.class refl w.1 i v (p.0, p.1 ∙ h, p.2, p.3, p.4))

assigned_to : (n : ℕ) (ts us rest : List Lexeme) (names : List Span) (unpack : Bool) (e : Syn) (st : Stmt) → Targets ts names unpack us → IsAssigned n us e rest → HasParts st (first_line ts) names unpack o.Set (Some e) → Statement n ts st rest
assigned_to n ts us rest names unpack e st a v p = assigns (subst (λ l. Targets ts names unpack l) v.2 a) v.3 v.4.1 v.4.2 p

pub several_statement : (n : ℕ) (t c : Lexeme) (ts us mid rest : List Lexeme) (before names all : List Span) (e : Syn) {st : Stmt} → IsWord t → ts ≡ c ∷ us → k.Comma ≡ c.class → LaterNames us names mid
    → all ≡ before ++ names → before ≡ t.span ∷ [] → IsAssigned n mid e rest → HasParts st t.line all true o.Set (Some e) → Statement n (t ∷ ts) st rest
several_statement n t c ts us mid rest before names all e {st} w x i l h b v p =
    let list : all ≡ t.span ∷ names = h ∙ ap (λ y. y ++ names) b in
    subst (λ y. Statement n (t ∷ y) st rest) (sym x)
    (assigned_to n (t ∷ c ∷ us) mid rest (t.span ∷ names) true e st (bare_targets (several_names w.1 (sym i) l)) v (p.0, p.1 ∙ list, p.2, p.3, p.4))

pub one_of_names : (t : Lexeme) (ts : List Lexeme) (names : List Span) → IsWord t → names ≡ t.span ∷ [] → Names (t ∷ ts) names false ts
one_of_names t ts names w h = subst (λ l. Names (t ∷ ts) l false ts) (sym h) (one_name w.1)

pub several_of_names : (t c : Lexeme) (ts us rest : List Lexeme) (before names all : List Span) → IsWord t → ts ≡ c ∷ us → k.Comma ≡ c.class → LaterNames us names rest → all ≡ before ++ names → before ≡ t.span ∷ []
    → Names (t ∷ ts) all true rest
several_of_names t c ts us rest before names all w x i l h b =
    let list : all ≡ t.span ∷ names = h ∙ ap (λ y. y ++ names) b in
    subst (λ y. Names (t ∷ y) all true rest) (sym x) (subst (λ y. Names (t ∷ c ∷ us) y true rest) (sym list) (several_names w.1 (sym i) l))

pub bracket_statement : (n : ℕ) (t u c : Lexeme) (ts us vs mid rest : List Lexeme) (names : List Span) (unpack : Bool) (e : Syn) {st : Stmt} → t.class ≡ k.Open → ts ≡ u ∷ us → Names (u ∷ us) names unpack vs → vs ≡ c ∷ mid → c.class ≡ k.Close
    → IsAssigned n mid e rest → HasParts st t.line names unpack o.Set (Some e) → Statement n (t ∷ ts) st rest
bracket_statement n t u c ts us vs mid rest names unpack e {st} i x a y z v p =
    subst (λ l. Statement n (t ∷ l) st rest) (sym x)
    (assigned_to n (t ∷ u ∷ us) mid rest names unpack e st (bracketed_targets i (subst (λ l. Names (u ∷ us) names unpack l) y a) z) v p)

pub import_statement : (n : ℕ) (t : Lexeme) (ts us rest : List Lexeme) {st : Stmt} → t.class ≡ k.From → ts ≡ t ∷ us → IsImport us rest → HasParts st t.line [] false o.ImportAll None → Statement n ts st rest
import_statement n t ts us rest {st} h x i p =
    let list : ts ≡ t ∷ i.0 ∷ i.1 ∷ i.2 ∷ i.3 ∷ rest = x ∙ ap (λ l. t ∷ l) i.4 in
    subst (λ l. Statement n l st rest) (sym list) (imports h i.5 i.6 i.7 i.8 p)

pub no_statement_on : (n : ℕ) (j : Class) → ((b : Bool) → j ≡ k.Name b → ⊥) → (j ≡ k.Open → ⊥) → (j ≡ k.From → ⊥) → part_on (a_statement n) j ≡ wrong
no_statement_on n (k.Name x) a b c = absurd (a x refl)
no_statement_on n k.Open a b c = absurd (b refl)
no_statement_on n k.From a b c = absurd (c refl)
no_statement_on n _ a b c = refl

not_begun : (n : ℕ) (j : Class) → begins_statement j ≡ false → part_on (a_statement n) j ≡ wrong
not_begun n (k.Name b) h = cc
not_begun n k.Open h = cc
not_begun n k.From h = cc
not_begun n _ h = refl

-- with a token left, statements are a statement and then statements
next_by : (n : ℕ) (t : Lexeme) (ts : List Lexeme) (b : Bool) → begins_statement t.class ≡ b → run (statements n ∷ []) (t ∷ ts) ≡ run (a_statement n ∷ statements n ∷ []) (t ∷ ts)
next_by n t ts true h = statements_begin n [] (t ∷ ts) h
next_by n t ts false h =
    run_skips (statements n) [] t ts (statements_skip n t.class h) ∙ run_none t ts ∙ sym (run_wrong (a_statement n) (statements n ∷ []) t ts (not_begun n t.class h))

pub next_statement : (n : ℕ) (ts : List Lexeme) → 0 < length ts → run (statements n ∷ []) ts ≡ run (a_statement n ∷ statements n ∷ []) ts
next_statement n [] h = absurd (omega (arith, h))
next_statement n (t ∷ ts) h = next_by n t ts (begins_statement t.class) refl

abbrev pub Whole : ℕ → List Lexeme → ℕ → List Stmt → Type 0
Whole n all at old = (sts : List Stmt) (rest : List Lexeme) → File n (drop at all) sts rest → File n all (old ++ sts) rest

pub one_more : (n : ℕ) (all : List Lexeme) (at end : ℕ) (st : Stmt) (old new : List Stmt) → new ≡ old ++ st ∷ [] → Statement n (drop at all) st (drop end all) → Whole n all at old → Whole n all end new
one_more n all at end st old new h a f = λ sts rest d.
    subst (λ l. File n all l rest) (sym (ap (λ l. l ++ sts) h ∙ append_assoc old (st ∷ []) sts)) (f (st ∷ sts) rest (one_statement a d))

nothing_by : (us : List Lexeme) → length us ≤ 0 → us ≡ []
nothing_by [] h = refl
nothing_by (t ∷ us) h = absurd (omega (arith, h))

pub nothing_left : (all : List Lexeme) (at : ℕ) → length all ≤ at → drop at all ≡ []
nothing_left all at h = nothing_by (drop at all) (omega (arith, h, length-drop at all))

pub something_left : (all : List Lexeme) (at : ℕ) → at < length all → 0 < length (drop at all)
something_left all at h = omega (arith, h, length-drop at all)

pub all_read : (n : ℕ) (all : List Lexeme) (at : ℕ) (old : List Stmt) → length all ≤ at → Whole n all at old → File n all old []
all_read n all at old h f =
    subst (λ l. File n all l []) (append-nil old) (f [] [] (subst (λ l. File n l [] []) (sym (nothing_left all at h)) no_statement))

-- the tokens before the bad one are those before its place
before_at : (all front : List Lexeme) (bad : Lexeme) (after : List Lexeme) (at : ℕ) → drop at all ≡ bad ∷ after → all ≡ front ++ bad ∷ after → front ≡ take at all
before_at all front bad after at d e =
    let whole : take at all ++ bad ∷ after ≡ all = ap (λ l. take at all ++ l) (sym d) ∙ take-append-drop at all in
    sym (append_cancel_right (take at all) front (bad ∷ after) (whole ∙ e))

pub refusal_from : (n : ℕ) (all : List Lexeme) (e : Fault) → 2 ≤ n → Fails all e (run (statements n ∷ []) all) → IsRefusal n all e
refusal_from n all f.Memory l h = tt
refusal_from n all f.Short l h = (ended_begins n all false h, λ sts d. no_file_short n all sts d h)
refusal_from n all (f.Wrong at) l h =
    let s = stops_at all (statements n ∷ []) (drop at all) h in
    let r = is_refused n all s.0 s.1 l (h ∙ ap stopped s.2) in
    (s.0, s.1, s.2, subst (λ front. IsRefused n front s.0 × IsWrong n front s.0) (before_at all r.0 s.0 s.1 at s.2 r.1) (r.2, r.3))
refusal_from n all (f.Deep at) l h =
    let s = sinks_at all (statements n ∷ []) (drop at all) h in
    let r = is_sunk n all s.0 s.1 l (h ∙ ap sank s.2) in
    (s.0, s.1, s.2, subst (λ front. IsRefused n front s.0 × IsTooDeep n front s.0) (before_at all r.0 s.0 s.1 at s.2 r.1) (r.2, r.3))

-- what follows the first token of a statement, read on its own
pub reads_first : (n : ℕ) (all : List Lexeme) (at : ℕ) (t : Lexeme) (b : Bool) → drop at all ≡ t ∷ drop (at + 1) all → t.class ≡ k.Name b → (r : Result (Stmt × ℕ) Fault)
    → Reads (λ x ts rest. Statement n (t ∷ ts) x.0 rest) (λ x. x.1) (after_first n) all (at + 1) r → Reads (λ x ts rest. Statement n ts x.0 rest) (λ x. x.1) (a_statement n) all at r
reads_first n all at t b e h (Ok x) d = (
  omega (arith, d.0),
  subst (λ l. Statement n l x.0 (drop x.1 all)) (sym e) d.1,
  λ stack. take_at (a_statement n) stack _ t _ (after_first n ∷ []) e (ap (statement_on n) h) ∙ d.2 stack,
)
reads_first n all at t b e h (Err x) d = λ stack. along all x _ _ (take_at (a_statement n) stack _ t _ (after_first n ∷ []) e (ap (statement_on n) h)) (d stack)

pub reads_bracket : (n : ℕ) (all : List Lexeme) (at : ℕ) (t : Lexeme) → drop at all ≡ t ∷ drop (at + 1) all → t.class ≡ k.Open → (r : Result (Stmt × ℕ) Fault)
    → ReadsAll (λ x ts rest. Statement n (t ∷ ts) x.0 rest) (λ x. x.1) (bracket_parts n) all (at + 1) r → Reads (λ x ts rest. Statement n ts x.0 rest) (λ x. x.1) (a_statement n) all at r
reads_bracket n all at t e h (Ok x) d = (
  omega (arith, d.0),
  subst (λ l. Statement n l x.0 (drop x.1 all)) (sym e) d.1,
  λ stack. take_at (a_statement n) stack _ t _ (bracket_parts n) e (ap (statement_on n) h) ∙ d.2 stack,
)
reads_bracket n all at t e h (Err x) d = λ stack. along all x _ _ (take_at (a_statement n) stack _ t _ (bracket_parts n) e (ap (statement_on n) h)) (d stack)

-- a value and the end of its line, read behind a sign
pub reads_assigned : (n : ℕ) (all : List Lexeme) (at past : ℕ) (sign : Lexeme) → at < past → drop at all ≡ sign ∷ drop past all → sign.class ≡ k.Assign
    → ((stack : List Part) → run (token k.Assign ∷ stack) (drop at all) ≡ run stack (drop past all)) → (r : Result (Syn × ℕ) Fault)
    → ReadsAll (λ x ts rest. IsEnded n ts x.0 rest) (λ x. x.1) (ended_parts n) all past r → ReadsAll (λ x ts rest. IsAssigned n ts x.0 rest) (λ x. x.1) (assigned_parts n) all at r
reads_assigned n all at past sign l e h g (Ok x) d = (
  omega (arith, l, d.0),
  (sign, drop past all, e, h, d.1),
  λ stack. g (a_value n ∷ token k.End ∷ stack) ∙ d.2 stack,
)
reads_assigned n all at past sign l e h g (Err x) d = λ stack. along all x _ _ (g (a_value n ∷ token k.End ∷ stack)) (d stack)
