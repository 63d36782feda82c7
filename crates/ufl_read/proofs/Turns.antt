-- One turn of the machine at a place in the tokens.
use Rattle.std.proofs.Common.{[], ◌∷◌, ◌++◌, ◌≡◌, true, false, Bool, drop, List, ℕ, zero, suc, refl, sym, ap, subst, ◌∙◌, append_assoc, append-nil, Some, ◌+◌, arith, Result, Ok, Err}
use Rattle.ufl_syntax.specs.declared.class.Class.{Class}
use Rattle.ufl_syntax.specs.declared.class.Class.TheVariants as k
use Rattle.ufl_syntax.specs.declared.class.Lexeme.{Lexeme}
use Rattle.ufl_syntax.specs.declared.tree.Syn.{Syn}
use Rattle.ufl_syntax.specs.declared.tree.Next.{Next}
use Rattle.ufl_syntax.specs.declared.tree.Syn.TheVariants as s
use Rattle.ufl_syntax.specs.declared.tree.Post.{Post}
use Rattle.ufl_syntax.specs.declared.tree.Post.TheVariants as p
use Rattle.ufl_syntax.specs.declared.tree.Arg.{Arg}
use Rattle.ufl_syntax.specs.Grammar.{is_sign, is_factor, next, chain, applied, Value, tuple, Later, no_later, last, further, Sum, sum, Adds, no_add, add, Term, term, Muls, no_mul, mul, Signed, sign, plain, power, Postfix, postfix, Posts, no_post, one_post, OnePost, call, index, attr, Args, no_arg, last_arg, further_arg, OneArg, keyed, argument, Atom, bracketed, a_list}
use Rattle.ufl_syntax.proofs.Complete.{Heads, Ends, more_term, c_term, NotAssign, signed_begins, sum_begins, name_as}
use Rattle.ufl_syntax.specs.Machine.{Part, takes, skips, wrong, deep, part_on, atom_on, comma_on, word_on, run, Outcome, ended, stopped, sank, same, may_be_empty, is_first, power_on, post_on, a_value, a_later, a_sum, adds, a_term, muls, a_signed, a_power, a_postfix, an_atom, posts, a_post, args, after_name, an_arg, a_word, both_are, arg_on, name_on, token}
use Rattle.ufl_syntax.proofs.Steps.{run_begins, moves_term, run_takes, run_skips, run_may, run_short, run_wrong, run_deep}
use Rattle.ufl_read.specs.declared.tokens.Fault.{Fault}
use Rattle.ufl_read.specs.declared.tokens.Fault.TheVariants as f
use Rattle.ufl_read.specs.Reads.{Fails, Moves, Reads, EndsTerm, ends_term, unnamed_fault}

pub short_at : (q : Part) (stack : List Part) (ts : List Lexeme) → ts ≡ [] → may_be_empty q ≡ false → run (q ∷ stack) ts ≡ ended false
short_at q stack ts e h = ap (run (q ∷ stack)) e ∙ run_short q stack h

pub end_at : (q : Part) (stack : List Part) (ts : List Lexeme) → ts ≡ [] → may_be_empty q ≡ true → run (q ∷ stack) ts ≡ run stack ts
end_at q stack ts e h = ap (run (q ∷ stack)) e ∙ run_may q stack h ∙ ap (run stack) (sym e)

pub skip_at : (q : Part) (stack : List Part) (ts : List Lexeme) (t : Lexeme) (us : List Lexeme) → ts ≡ t ∷ us → part_on q t.class ≡ skips → run (q ∷ stack) ts ≡ run stack ts
skip_at q stack ts t us e h = ap (run (q ∷ stack)) e ∙ run_skips q stack t us h ∙ ap (run stack) (sym e)

pub take_at : (q : Part) (stack : List Part) (ts : List Lexeme) (t : Lexeme) (us : List Lexeme) (ps : List Part) → ts ≡ t ∷ us → part_on q t.class ≡ takes ps → run (q ∷ stack) ts ≡ run (ps ++ stack) us
take_at q stack ts t us ps e h = ap (run (q ∷ stack)) e ∙ run_takes q stack t us ps h

pub stop_at : (q : Part) (stack : List Part) (ts : List Lexeme) (t : Lexeme) (us : List Lexeme) → ts ≡ t ∷ us → part_on q t.class ≡ wrong → run (q ∷ stack) ts ≡ stopped ts
stop_at q stack ts t us e h = ap (run (q ∷ stack)) e ∙ run_wrong q stack t us h ∙ ap stopped (sym e)

pub sink_at : (q : Part) (stack : List Part) (ts : List Lexeme) (t : Lexeme) (us : List Lexeme) → ts ≡ t ∷ us → part_on q t.class ≡ deep → run (q ∷ stack) ts ≡ sank ts
sink_at q stack ts t us e h = ap (run (q ∷ stack)) e ∙ run_deep q stack t us h ∙ ap sank (sym e)

pub sunk : (all : List Lexeme) (e : Fault) (at : ℕ) (o : Outcome) → e ≡ f.Deep at → o ≡ sank (drop at all) → Fails all e o
sunk all e at o h d = subst (λ x. Fails all x o) (sym h) d

pub along : (all : List Lexeme) (e : Fault) (o p : Outcome) → o ≡ p → Fails all e p → Fails all e o
along all e o p h d = subst (Fails all e) (sym h) d

-- a part whose beginning is read, as the function for what follows it answers
pub goes_on : (IsFirst IsWhole : List Lexeme → Syn → List Lexeme → Type 0) (part more : Part) (all : List Lexeme) (at past : ℕ) (e : Syn) (r : Result (Syn × ℕ) Fault)
    → ((end : ℕ) → Moves (may_be_empty more) past end → Moves (may_be_empty part) at end) → IsFirst (drop at all) e (drop past all)
    → ((stack : List Part) → run (part ∷ stack) (drop at all) ≡ run (more ∷ stack) (drop past all))
    → Reads (λ x ts rest. (start : List Lexeme) → IsFirst start e ts → IsWhole start x.0 rest) (λ x. x.1) more all past r
    → Reads (λ x ts rest. IsWhole ts x.0 rest) (λ x. x.1) part all at r
goes_on IsFirst IsWhole part more all at past e (Ok x) moves first begins h = (moves x.1 h.0, h.1 (drop at all) first, λ stack. begins stack ∙ h.2 stack)
goes_on IsFirst IsWhole part more all at past e (Err fault) moves first begins h = λ stack. along all fault _ _ (begins stack) (h stack)

pub comma_not : (q : Part) (j : Class) → same k.Comma j ≡ false → comma_on q j ≡ skips
comma_not q k.Comma h = cc
comma_not q _ h = refl

pub factor_not : (n : ℕ) (j : Class) → is_factor j ≡ false → part_on (muls n) j ≡ skips
factor_not n k.Times h = cc
factor_not n k.Divide h = cc
factor_not n _ h = refl

pub sign_not : (n : ℕ) (j : Class) → is_sign j ≡ false → part_on (adds n) j ≡ skips
sign_not n k.Plus h = cc
sign_not n k.Minus h = cc
sign_not n _ h = refl

pub atom_deep : (n : ℕ) (j : Class) → n ≡ 0 → j ≡ k.Open → part_on (an_atom n) j ≡ deep
atom_deep n j e h = ap (λ i. atom_on n i) h ∙ ap (λ i. atom_on i k.Open) e

pub atom_open : (n m : ℕ) (j : Class) → n ≡ suc m → j ≡ k.Open → part_on (an_atom n) j ≡ takes (a_value m ∷ token k.Close ∷ [])
atom_open n m j e h = ap (λ i. atom_on n i) h ∙ ap (λ i. atom_on i k.Open) e

pub list_deep : (n : ℕ) (j : Class) → n ≡ 0 → j ≡ k.OpenList → part_on (an_atom n) j ≡ deep
list_deep n j e h = ap (λ i. atom_on n i) h ∙ ap (λ i. atom_on i k.OpenList) e

pub list_open : (n m : ℕ) (j : Class) → n ≡ suc m → j ≡ k.OpenList → part_on (an_atom n) j ≡ takes (a_later m ∷ token k.CloseList ∷ [])
list_open n m j e h = ap (λ i. atom_on n i) h ∙ ap (λ i. atom_on i k.OpenList) e

pub atom_wrong : (n : ℕ) (j : Class) → ((b : Bool) → j ≡ k.Name b → ⊥) → (j ≡ k.Number → ⊥) → (j ≡ k.Text → ⊥) → (j ≡ k.Open → ⊥) → (j ≡ k.OpenList → ⊥) → part_on (an_atom n) j ≡ wrong
atom_wrong n (k.Name x) a b c d e = absurd (a x refl)
atom_wrong n k.Number a b c d e = absurd (b refl)
atom_wrong n k.Text a b c d e = absurd (c refl)
atom_wrong n k.Open a b c d e = absurd (d refl)
atom_wrong n k.OpenList a b c d e = absurd (e refl)
atom_wrong n _ a b c d e = refl

pub bracketed_at : (n m : ℕ) (ts us vs rest : List Lexeme) (t c : Lexeme) (e : Syn) → n ≡ suc m → t.class ≡ k.Open → ts ≡ t ∷ us → Value m us e vs → vs ≡ c ∷ rest → c.class ≡ k.Close → Atom n ts e rest
bracketed_at n m ts us vs rest t c e h o x v y z =
    subst (λ i. Atom i ts e rest) (sym h) (subst (λ l. Atom (suc m) l e rest) (sym x) (bracketed o (subst (λ l. Value m us e l) y v) z))

pub list_at : (n m : ℕ) (ts us vs rest : List Lexeme) (t c : Lexeme) (none es items : List Syn) → n ≡ suc m → t.class ≡ k.OpenList → ts ≡ t ∷ us → Later m us es vs → vs ≡ c ∷ rest → c.class ≡ k.CloseList
    → items ≡ none ++ es → none ≡ [] → Atom n ts (s.List t.span items) rest
list_at n m ts us vs rest t c none es items h o x v y z i w =
    let same_list : items ≡ es = i ∙ ap (λ l. l ++ es) w in
    subst (λ l. Atom n ts (s.List t.span l) rest) (sym same_list)
    (subst (λ i. Atom i ts (s.List t.span es) rest) (sym h) (subst (λ l. Atom (suc m) l (s.List t.span es) rest) (sym x) (a_list o (subst (λ l. Later m us es l) y v) z)))

-- a chain that ends here
pub sum_at : (n : ℕ) (ts mid rest : List Lexeme) (e all : Syn) (ns : List Next) → all ≡ chain e ns → Term n ts e mid
    → ((more : List Next) (end : List Lexeme) → Adds n rest more end → Adds n mid (ns ++ more) end) → Sum n ts all rest
sum_at n ts mid rest e all ns h a b =
    subst (λ x. Sum n ts x rest) (sym h) (sum a (subst (λ l. Adds n mid l rest) (append-nil ns) (b [] rest no_add)))

pub added_at : (n : ℕ) (start ts us mid rest : List Lexeme) (op : Lexeme) (e : Syn) (old new ns : List Next) → new ≡ old ++ next op e ∷ [] → ts ≡ op ∷ us → is_sign op.class ≡ true
    → Term n us e mid → Adds n mid ns rest → (Adds n ts (next op e ∷ ns) rest → Adds n start (old ++ next op e ∷ ns) rest) → Adds n start (new ++ ns) rest
added_at n start ts us mid rest op e old new ns h x o a b f =
    let whole : Adds n ts (next op e ∷ ns) rest = subst (λ l. Adds n l (next op e ∷ ns) rest) (sym x) (add o a b) in
    let same_list : new ++ ns ≡ old ++ next op e ∷ ns = ap (λ l. l ++ ns) h ∙ append_assoc old (next op e ∷ []) ns in
    subst (λ l. Adds n start l rest) (sym same_list) (f whole)

pub term_at : (n : ℕ) (ts mid rest : List Lexeme) (e all : Syn) (ns : List Next) → all ≡ chain e ns → Signed n ts e mid
    → ((more : List Next) (end : List Lexeme) → Muls n rest more end → Muls n mid (ns ++ more) end) → Term n ts all rest
term_at n ts mid rest e all ns h a b =
    subst (λ x. Term n ts x rest) (sym h) (term a (subst (λ l. Muls n mid l rest) (append-nil ns) (b [] rest no_mul)))

pub multiplied_at : (n : ℕ) (start ts us mid rest : List Lexeme) (op : Lexeme) (e : Syn) (old new ns : List Next) → new ≡ old ++ next op e ∷ [] → ts ≡ op ∷ us → is_factor op.class ≡ true
    → Signed n us e mid → Muls n mid ns rest → (Muls n ts (next op e ∷ ns) rest → Muls n start (old ++ next op e ∷ ns) rest) → Muls n start (new ++ ns) rest
multiplied_at n start ts us mid rest op e old new ns h x o a b f =
    let whole : Muls n ts (next op e ∷ ns) rest = subst (λ l. Muls n l (next op e ∷ ns) rest) (sym x) (mul o a b) in
    let same_list : new ++ ns ≡ old ++ next op e ∷ ns = ap (λ l. l ++ ns) h ∙ append_assoc old (next op e ∷ []) ns in
    subst (λ l. Muls n start l rest) (sym same_list) (f whole)

pub heads_at : (f : Class → Bool) (b : Bool) (ts : List Lexeme) (t : Lexeme) (us : List Lexeme) → ts ≡ t ∷ us → f t.class ≡ b → Heads f b ts
heads_at f b ts t us e h = subst (Heads f b) (sym e) h

pub signed_deep : (n : ℕ) (j : Class) → n ≡ 0 → is_sign j ≡ true → part_on (a_signed n) j ≡ deep
signed_deep n k.Plus e h = ap (λ i. part_on (a_signed i) k.Plus) e
signed_deep n k.Minus e h = ap (λ i. part_on (a_signed i) k.Minus) e
signed_deep n _ e h = cc

pub signed_open : (n m : ℕ) (j : Class) → n ≡ suc m → is_sign j ≡ true → part_on (a_signed n) j ≡ takes (a_signed m ∷ [])
signed_open n m k.Plus e h = ap (λ i. part_on (a_signed i) k.Plus) e
signed_open n m k.Minus e h = ap (λ i. part_on (a_signed i) k.Minus) e
signed_open n m _ e h = cc

pub plain_at : (n : ℕ) (stack : List Part) (ts : List Lexeme) (t : Lexeme) (us : List Lexeme) → ts ≡ t ∷ us → is_sign t.class ≡ false → run (a_signed n ∷ stack) ts ≡ run (a_postfix n ∷ a_power n ∷ stack) ts
plain_at n stack ts t us e h = signed_begins n stack ts (heads_at is_sign false ts t us e h)

pub power_not : (n : ℕ) (j : Class) → same k.Power j ≡ false → part_on (a_power n) j ≡ skips
power_not n k.Power h = cc
power_not n _ h = refl

pub power_deep : (n : ℕ) (j : Class) → n ≡ 0 → k.Power ≡ j → part_on (a_power n) j ≡ deep
power_deep n j e h = ap (λ i. power_on n i) (sym h) ∙ ap (λ i. power_on i k.Power) e

pub power_open : (n m : ℕ) (j : Class) → n ≡ suc m → k.Power ≡ j → part_on (a_power n) j ≡ takes (a_signed m ∷ [])
power_open n m j e h = ap (λ i. power_on n i) (sym h) ∙ ap (λ i. power_on i k.Power) e

pub signed_at : (n m : ℕ) (ts us rest : List Lexeme) (t : Lexeme) (e x : Syn) → n ≡ suc m → is_sign t.class ≡ true → ts ≡ t ∷ us → Signed m us e rest → x ≡ e → Signed n ts (s.Sign t.span x) rest
signed_at n m ts us rest t e x h o y a z =
    subst (λ i. Signed i ts (s.Sign t.span x) rest) (sym h) (subst (λ l. Signed (suc m) l (s.Sign t.span x) rest) (sym y) (subst (λ v. Signed (suc m) (t ∷ us) (s.Sign t.span v) rest) (sym z) (sign o a)))

pub power_at : (n m : ℕ) (ts mid us rest : List Lexeme) (op : Lexeme) (e b x : Syn) (ns ch : List Next) → n ≡ suc m → Postfix n ts e mid → mid ≡ op ∷ us → k.Power ≡ op.class → Signed m us x rest
    → b ≡ e → ch ≡ ns ++ next op x ∷ [] → ns ≡ [] → Signed n ts (s.Binary b ch) rest
power_at n m ts mid us rest op e b x ns ch h a y o c z w v =
    let list : ch ≡ next op x ∷ [] = w ∙ ap (λ l. l ++ next op x ∷ []) v in
    let whole : Signed (suc m) ts (s.Binary e (next op x ∷ [])) rest = power (subst (λ i. Postfix i ts e (op ∷ us)) h (subst (λ l. Postfix n ts e l) y a)) (sym o) c in
    subst (λ i. Signed i ts (s.Binary b ch) rest) (sym h) (subst (λ l. Signed (suc m) ts (s.Binary b l) rest) (sym list) (subst (λ q. Signed (suc m) ts (s.Binary q (next op x ∷ [])) rest) (sym z) whole))

pub postfix_at : (n : ℕ) (ts mid rest : List Lexeme) (e all : Syn) (ps : List Post) → all ≡ applied e ps → Atom n ts e mid
    → ((more : List Post) (end : List Lexeme) → Posts n rest more end → Posts n mid (ps ++ more) end) → Postfix n ts all rest
postfix_at n ts mid rest e all ps h a b =
    subst (λ x. Postfix n ts x rest) (sym h) (postfix a (subst (λ l. Posts n mid l rest) (append-nil ps) (b [] rest no_post)))

pub posted_at : (n : ℕ) (start ts mid rest : List Lexeme) (q : Post) (old new ps : List Post) → new ≡ old ++ q ∷ [] → OnePost n ts q mid → Posts n mid ps rest
    → (Posts n ts (q ∷ ps) rest → Posts n start (old ++ q ∷ ps) rest) → Posts n start (new ++ ps) rest
posted_at n start ts mid rest q old new ps h a b f =
    subst (λ l. Posts n start l rest) (sym (ap (λ l. l ++ ps) h ∙ append_assoc old (q ∷ []) ps)) (f (one_post a b))

pub later_not : (n : ℕ) (j : Class) → is_first j ≡ false → part_on (a_later n) j ≡ skips
later_not n (k.Name b) h = cc
later_not n k.Number h = cc
later_not n k.Text h = cc
later_not n k.OpenList h = cc
later_not n k.Open h = cc
later_not n k.Plus h = cc
later_not n k.Minus h = cc
later_not n _ h = refl

pub args_not : (n : ℕ) (j : Class) → is_first j ≡ false → part_on (args n) j ≡ skips
args_not n (k.Name b) h = cc
args_not n k.Number h = cc
args_not n k.Text h = cc
args_not n k.OpenList h = cc
args_not n k.Open h = cc
args_not n k.Plus h = cc
args_not n k.Minus h = cc
args_not n _ h = refl

abbrev pub Grows : ℕ → List Lexeme → List Lexeme → List Syn → List Syn → Type 0
Grows n start ts old before = (es : List Syn) (rest : List Lexeme) → Later n ts es rest → (all : List Syn) × Later n start all rest × (old ++ es ≡ before ++ all)

pub later_end : (n : ℕ) (start ts : List Lexeme) (old before : List Syn) → Grows n start ts old before → (x : List Syn) × Later n start x ts × (old ≡ before ++ x)
later_end n start ts old before f = let r = f [] ts no_later in (r.0, r.1, sym (append-nil old) ∙ r.2)

pub later_last : (n : ℕ) (start ts mid : List Lexeme) (e : Syn) (old new before : List Syn) → new ≡ old ++ e ∷ [] → Sum n ts e mid → Grows n start ts old before → (x : List Syn) × Later n start x mid × (new ≡ before ++ x)
later_last n start ts mid e old new before h a f = let r = f (e ∷ []) mid (last a) in (r.0, r.1, h ∙ r.2)

pub later_more : (n : ℕ) (start ts mid us : List Lexeme) (c : Lexeme) (e : Syn) (old new before : List Syn) → new ≡ old ++ e ∷ [] → Sum n ts e mid → mid ≡ c ∷ us → k.Comma ≡ c.class → Grows n start ts old before → Grows n start us new before
later_more n start ts mid us c e old new before h a y o f = λ es rest l.
    let r = f (e ∷ es) rest (further (subst (λ v. Sum n ts e v) y a) (sym o) l) in
    (r.0, r.1, ap (λ v. v ++ es) h ∙ append_assoc old (e ∷ []) es ∙ r.2)

abbrev pub ArgsGrow : ℕ → List Lexeme → List Lexeme → List Arg → Type 0
ArgsGrow n start ts old = (as_ : List Arg) (rest : List Lexeme) → Args n ts as_ rest → Args n start (old ++ as_) rest

pub args_end : (n : ℕ) (start ts : List Lexeme) (old : List Arg) → ArgsGrow n start ts old → Args n start old ts
args_end n start ts old f = subst (λ l. Args n start l ts) (append-nil old) (f [] ts no_arg)

pub args_last : (n : ℕ) (start ts mid : List Lexeme) (a : Arg) (old new : List Arg) → new ≡ old ++ a ∷ [] → OneArg n ts a mid → ArgsGrow n start ts old → Args n start new mid
args_last n start ts mid a old new h d f = subst (λ l. Args n start l mid) (sym h) (f (a ∷ []) mid (last_arg d))

pub args_more : (n : ℕ) (start ts mid us : List Lexeme) (c : Lexeme) (a : Arg) (old new : List Arg) → new ≡ old ++ a ∷ [] → OneArg n ts a mid → mid ≡ c ∷ us → k.Comma ≡ c.class → ArgsGrow n start ts old → ArgsGrow n start us new
args_more n start ts mid us c a old new h d y o f = λ as_ rest l.
    subst (λ v. Args n start v rest) (sym (ap (λ v. v ++ as_) h ∙ append_assoc old (a ∷ []) as_)) (f (a ∷ as_) rest (further_arg (subst (λ v. OneArg n ts a v) y d) (sym o) l))

pub tuple_at : (n : ℕ) (ts mid us rest : List Lexeme) (c : Lexeme) (e : Syn) (none before items es : List Syn) → Sum n ts e mid → mid ≡ c ∷ us → k.Comma ≡ c.class → Later n us es rest
    → items ≡ before ++ es → before ≡ none ++ e ∷ [] → none ≡ [] → Value n ts (s.Tuple c.span items) rest
tuple_at n ts mid us rest c e none before items es a y o l h b z =
    let list : items ≡ e ∷ es = h ∙ ap (λ v. v ++ es) (b ∙ ap (λ v. v ++ e ∷ []) z) in
    subst (λ v. Value n ts (s.Tuple c.span v) rest) (sym list) (tuple (subst (λ v. Sum n ts e v) y a) (sym o) l)

pub post_deep : (n : ℕ) (j : Class) → n ≡ 0 → j ≡ k.Open → part_on (a_post n) j ≡ deep
post_deep n j e h = ap (λ i. post_on n i) h ∙ ap (λ i. post_on i k.Open) e

pub post_open : (n m : ℕ) (j : Class) → n ≡ suc m → j ≡ k.Open → part_on (a_post n) j ≡ takes (args m ∷ token k.Close ∷ [])
post_open n m j e h = ap (λ i. post_on n i) h ∙ ap (λ i. post_on i k.Open) e

pub index_deep : (n : ℕ) (j : Class) → n ≡ 0 → j ≡ k.OpenList → part_on (a_post n) j ≡ deep
index_deep n j e h = ap (λ i. post_on n i) h ∙ ap (λ i. post_on i k.OpenList) e

pub index_open : (n m : ℕ) (j : Class) → n ≡ suc m → j ≡ k.OpenList → part_on (a_post n) j ≡ takes (a_value m ∷ token k.CloseList ∷ [])
index_open n m j e h = ap (λ i. post_on n i) h ∙ ap (λ i. post_on i k.OpenList) e

pub post_wrong : (n : ℕ) (j : Class) → (j ≡ k.Open → ⊥) → (j ≡ k.OpenList → ⊥) → (j ≡ k.Dot → ⊥) → part_on (a_post n) j ≡ wrong
post_wrong n k.Open a b c = absurd (a refl)
post_wrong n k.OpenList a b c = absurd (b refl)
post_wrong n k.Dot a b c = absurd (c refl)
post_wrong n _ a b c = refl

pub call_at : (n m : ℕ) (ts us vs rest : List Lexeme) (t c : Lexeme) (as_ : List Arg) → n ≡ suc m → t.class ≡ k.Open → ts ≡ t ∷ us → Args m us as_ vs → vs ≡ c ∷ rest → k.Close ≡ c.class → OnePost n ts (p.Call t.span as_) rest
call_at n m ts us vs rest t c as_ h o x v y z =
    subst (λ i. OnePost i ts (p.Call t.span as_) rest) (sym h) (subst (λ l. OnePost (suc m) l (p.Call t.span as_) rest) (sym x) (call o (subst (λ l. Args m us as_ l) y v) (sym z)))

pub index_at : (n m : ℕ) (ts us vs rest : List Lexeme) (t c : Lexeme) (e b : Syn) → n ≡ suc m → t.class ≡ k.OpenList → ts ≡ t ∷ us → Value m us e vs → vs ≡ c ∷ rest → k.CloseList ≡ c.class → b ≡ e → OnePost n ts (p.Index t.span b) rest
index_at n m ts us vs rest t c e b h o x v y z w =
    subst (λ i. OnePost i ts (p.Index t.span b) rest) (sym h) (subst (λ l. OnePost (suc m) l (p.Index t.span b) rest) (sym x) (subst (λ q. OnePost (suc m) (t ∷ us) (p.Index t.span q) rest) (sym w) (index o (subst (λ l. Value m us e l) y v) (sym z))))

pub attr_at : (n : ℕ) (ts us rest : List Lexeme) (t c : Lexeme) (b : Bool) → t.class ≡ k.Dot → ts ≡ t ∷ us → us ≡ c ∷ rest → c.class ≡ k.Name b → OnePost n ts (p.Attr c.span) rest
attr_at n ts us rest t c b o x y z = subst (λ l. OnePost n l (p.Attr c.span) rest) (sym (x ∙ ap (λ l. t ∷ l) y)) (attr o z)

abbrev pub Keyed : List Lexeme → ℕ → Lexeme → Type 0
Keyed all at name = (u : Lexeme) × (b : Bool) × (drop (at + 1) all ≡ u ∷ drop (at + 2) all) × (name.class ≡ k.Name b) × (u.class ≡ k.Assign)

both_is : (i j : Class) → both_are i j ≡ true → (b : Bool) × (i ≡ k.Name b) × (j ≡ k.Assign)
both_is (k.Name b) k.Assign h = (b, refl, refl)
both_is _ _ h = absurd (let x : false ≡ true = h in cc)

both_not : (i j : Class) (b : Bool) → both_are i j ≡ false → i ≡ k.Name b → j ≡ k.Assign → ⊥
both_not i j b h x y = let z : true ≡ false = sym (ap (λ l. both_are l j) x ∙ ap (both_are (k.Name b)) y) ∙ h in cc

pub keyed_at : (all : List Lexeme) (at : ℕ) (name u : Lexeme) → drop (at + 1) all ≡ u ∷ drop (at + 1 + 1) all → both_are name.class u.class ≡ true → Keyed all at name
keyed_at all at name u e h =
    let two : at + 1 + 1 ≡ at + 2 = omega arith in
    let r = both_is name.class u.class h in
    (u, r.0, e ∙ ap (λ i. u ∷ drop i all) two, r.1, r.2)

pub keyed_arg : (n : ℕ) (ts us vs rest : List Lexeme) (t u : Lexeme) (b : Bool) (e : Syn) → ts ≡ t ∷ us → us ≡ u ∷ vs → t.class ≡ k.Name b → u.class ≡ k.Assign → Sum n vs e rest → OneArg n ts (argument (Some t.span) e) rest
keyed_arg n ts us vs rest t u b e x y i j v = subst (λ l. OneArg n l (argument (Some t.span) e) rest) (sym (x ∙ ap (λ l. t ∷ l) y)) (keyed i j v)

pub keyed_run : (n : ℕ) (stack : List Part) (ts us vs : List Lexeme) (t u : Lexeme) (b : Bool) → ts ≡ t ∷ us → us ≡ u ∷ vs → t.class ≡ k.Name b → u.class ≡ k.Assign → run (an_arg n ∷ stack) ts ≡ run (a_sum n ∷ stack) vs
keyed_run n stack ts us vs t u b x y i j =
    take_at (an_arg n) stack ts t us (after_name n ∷ []) x (ap (arg_on n) i) ∙ take_at (after_name n) stack us u vs (a_sum n ∷ []) y (ap (name_on n) j)

-- what may be a keyword isn't, where no `=` follows
abbrev pub NotKeyed : Lexeme → List Lexeme → Type 0
NotKeyed t us = (b : Bool) → t.class ≡ k.Name b → NotAssign us

raw : (n : ℕ) (stack : List Part) (t : Lexeme) (us : List Lexeme) (j : Class) → t.class ≡ j → arg_on n j ≡ part_on (a_sum n) j → run (an_arg n ∷ stack) (t ∷ us) ≡ run (a_sum n ∷ stack) (t ∷ us)
raw n stack t us j e h =
    run_begins (an_arg n) (a_term n) (adds n ∷ []) stack t us (ap (λ i. arg_on n i) e ∙ h ∙ ap (λ i. part_on (a_sum n) i) (sym e)) (moves_term n t.class)
    ∙ sym (sum_begins n stack (t ∷ us))

unkeyed_by : (n : ℕ) (stack : List Part) (t : Lexeme) (us : List Lexeme) (j : Class) → t.class ≡ j → NotKeyed t us → run (an_arg n ∷ stack) (t ∷ us) ≡ run (a_sum n ∷ stack) (t ∷ us)
unkeyed_by n stack t us (k.Name b) e h =
    run_takes (an_arg n) stack t us (after_name n ∷ []) (ap (arg_on n) e) ∙ name_as n stack us (h b e)
    ∙ sym (run_takes (a_sum n) stack t us (posts n ∷ a_power n ∷ muls n ∷ adds n ∷ []) (ap (λ i. part_on (a_sum n) i) e))
unkeyed_by n stack t us j e h = raw n stack t us j e refl

pub unkeyed : (n : ℕ) (stack : List Part) (ts : List Lexeme) (t : Lexeme) (us : List Lexeme) → ts ≡ t ∷ us → NotKeyed t us → run (an_arg n ∷ stack) ts ≡ run (a_sum n ∷ stack) ts
unkeyed n stack ts t us e h = ap (run (an_arg n ∷ stack)) e ∙ unkeyed_by n stack t us t.class refl h ∙ ap (run (a_sum n ∷ stack)) (sym e)

pub not_assign_some : (us vs : List Lexeme) (t u : Lexeme) → us ≡ u ∷ vs → both_are t.class u.class ≡ false → NotKeyed t us
not_assign_some us vs t u e h b a = subst NotAssign (sym e) (both_not t.class u.class b h a)

pub not_assign_none : (us : List Lexeme) → us ≡ [] → NotAssign us
not_assign_none us e = subst NotAssign (sym e) tt

pub unnamed_fails : (n : ℕ) (j : Class) (stack : List Part) (all : List Lexeme) (at : ℕ) (t : Lexeme) (us : List Lexeme) → drop at all ≡ t ∷ us → t.class ≡ j → ((b : Bool) → j ≡ k.Name b → ⊥)
    → Fails all (unnamed_fault j n at) (run (a_word n ∷ stack) (drop at all))
unnamed_fails n (k.Name b) stack all at t us e h x = absurd (x b refl)
unnamed_fails zero k.Open stack all at t us e h x = sink_at (a_word zero) stack (drop at all) t us e (ap (word_on zero) h)
unnamed_fails (suc n) k.Open stack all at t us e h x = stop_at (a_word (suc n)) stack (drop at all) t us e (ap (word_on (suc n)) h)
unnamed_fails zero k.OpenList stack all at t us e h x = sink_at (a_word zero) stack (drop at all) t us e (ap (word_on zero) h)
unnamed_fails (suc n) k.OpenList stack all at t us e h x = stop_at (a_word (suc n)) stack (drop at all) t us e (ap (word_on (suc n)) h)
unnamed_fails n j stack all at t us e h x = stop_at (a_word n) stack (drop at all) t us e (ap (word_on n) h)

pub one_token : (n : ℕ) (ts us : List Lexeme) (t : Lexeme) (e : Syn) → ts ≡ t ∷ us → Atom n (t ∷ us) e us → Term n ts e us
one_token n ts us t e h a = subst (λ l. Term n l e us) (sym h) (term (plain (postfix a no_post)) no_mul)

more_not : (j : Class) → ends_term j ≡ true → more_term j ≡ false
more_not k.Times h = cc
more_not k.Divide h = cc
more_not k.Power h = cc
more_not k.Open h = cc
more_not k.OpenList h = cc
more_not k.Dot h = cc
more_not _ h = refl

term_ended : (ts : List Lexeme) → EndsTerm ts → Ends more_term ts
term_ended [] h = tt
term_ended (t ∷ ts) h = more_not t.class h

-- a term behind which it doesn't go on
pub short_run : (n : ℕ) (ts us : List Lexeme) (e : Syn) (stack : List Part) → Term n ts e us → EndsTerm us → run (a_term n ∷ stack) ts ≡ run stack us
short_run n ts us e stack d h = c_term d (term_ended us h) stack
