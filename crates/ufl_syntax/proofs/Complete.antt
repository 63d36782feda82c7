-- The machine goes along with each derivation.
use Rattle.std.proofs.Common.{[], ◌∷◌, ◌++◌, ◌≡◌, true, false, Bool, List, ℕ, zero, suc, refl, sym, ap, ◌∙◌}
use Rattle.ufl_syntax.specs.declared.span.Span.{Span}
use Rattle.ufl_syntax.specs.declared.class.Class.{Class}
use Rattle.ufl_syntax.specs.declared.class.Class.TheVariants as k
use Rattle.ufl_syntax.specs.declared.class.Lexeme.{Lexeme}
use Rattle.ufl_syntax.specs.declared.tree.AssignOp.{AssignOp}
use Rattle.ufl_syntax.specs.declared.tree.Stmt.{Stmt}
use Rattle.ufl_syntax.specs.declared.tree.Syn.{Syn}
use Rattle.ufl_syntax.specs.declared.tree.Next.{Next}
use Rattle.ufl_syntax.specs.declared.tree.Post.{Post}
use Rattle.ufl_syntax.specs.declared.tree.Arg.{Arg}
use Rattle.ufl_syntax.specs.Grammar.{is_sign, is_factor, updates, Value, single, tuple, Later, no_later, last, further, Sum, sum, Adds, no_add, add, Term, term, Muls, no_mul, mul, Signed, sign, plain, power, Postfix, postfix, Posts, no_post, one_post, OnePost, call, index, attr, Args, no_arg, last_arg, further_arg, OneArg, positional, keyed, Atom, a_name, a_number, a_text, bracketed, a_list, LaterNames, no_name, last_name, further_name, Names, one_name, several_names, Targets, bare_targets, bracketed_targets, Statement, imports, assigns, updated, File, no_statement, one_statement}
use Rattle.ufl_syntax.specs.Machine.{Part, takes, skips, then_, part_on, atom_on, post_on, posts_on, power_on, muls_on, adds_on, arg_on, name_on, names_on, first_on, statement_on, word_on, comma_on, step, run, Outcome, ended, stopped, sank, if_same, same, is_first, is_post, begins_statement, may_be_empty, statements, a_statement, after_first, later_names, after_target, a_value, a_later, after_sum, a_sum, adds, a_term, muls, a_signed, a_power, a_postfix, an_atom, posts, a_post, args, an_arg, after_arg, after_name, a_word, token}
use Rattle.ufl_syntax.proofs.Steps.{moves, moves_then, moves_signed, moves_term, moves_sum, moves_atom, run_takes, run_skips, run_may, run_short, run_begins}

-- the tokens that would go on with a part
abbrev pub more_signed : Class → Bool
more_signed k.Power = true
more_signed j = is_post j

abbrev pub more_term : Class → Bool
more_term k.Times = true
more_term k.Divide = true
more_term j = more_signed j

abbrev pub more_sum : Class → Bool
more_sum k.Plus = true
more_sum k.Minus = true
more_sum j = more_term j

abbrev pub more_arg : Class → Bool
more_arg k.Assign = true
more_arg j = more_sum j

abbrev pub more : Class → Bool
more k.Comma = true
more (k.Name b) = true
more k.Number = true
more k.Text = true
more j = more_arg j

abbrev pub more_names : Class → Bool
more_names k.Comma = true
more_names (k.Name b) = true
more_names _ = false

abbrev pub Ends : (Class → Bool) → List Lexeme → Type 0
Ends f [] = Unit {0}
Ends f (t ∷ ts) = f t.class ≡ false

pub ends_by : (f h : Class → Bool) → ((j : Class) → f j ≡ false → h j ≡ false) → (ts : List Lexeme) → Ends f ts → Ends h ts
ends_by f h sub [] e = tt
ends_by f h sub (t ∷ ts) e = sub t.class e

pub signed_post : (j : Class) → more_signed j ≡ false → is_post j ≡ false
signed_post k.Power h = refl
signed_post _ h = h

pub term_signed : (j : Class) → more_term j ≡ false → more_signed j ≡ false
term_signed k.Times h = refl
term_signed k.Divide h = refl
term_signed _ h = h

pub sum_term : (j : Class) → more_sum j ≡ false → more_term j ≡ false
sum_term k.Plus h = refl
sum_term k.Minus h = refl
sum_term _ h = h

pub arg_sum : (j : Class) → more_arg j ≡ false → more_sum j ≡ false
arg_sum k.Assign h = refl
arg_sum _ h = h

pub more_more_arg : (j : Class) → more j ≡ false → more_arg j ≡ false
more_more_arg k.Comma h = refl
more_more_arg (k.Name b) h = refl
more_more_arg k.Number h = refl
more_more_arg k.Text h = refl
more_more_arg _ h = h

pub more_more_sum : (j : Class) → more j ≡ false → more_sum j ≡ false
more_more_sum j h = arg_sum j (more_more_arg j h)

pub posts_skip : (n : ℕ) (j : Class) → is_post j ≡ false → posts_on n j ≡ skips
posts_skip n k.Open h = cc
posts_skip n k.OpenList h = cc
posts_skip n k.Dot h = cc
posts_skip n _ h = refl

pub power_skip : (n : ℕ) (j : Class) → more_signed j ≡ false → power_on n j ≡ skips
power_skip n k.Power h = cc
power_skip n _ h = refl

pub muls_skip : (n : ℕ) (j : Class) → more_term j ≡ false → muls_on n j ≡ skips
muls_skip n k.Times h = cc
muls_skip n k.Divide h = cc
muls_skip n _ h = refl

pub adds_skip : (n : ℕ) (j : Class) → more_sum j ≡ false → adds_on n j ≡ skips
adds_skip n k.Plus h = cc
adds_skip n k.Minus h = cc
adds_skip n _ h = refl

pub comma_skip : (q : Part) (j : Class) → more j ≡ false → comma_on q j ≡ skips
comma_skip q k.Comma h = cc
comma_skip q _ h = refl

pub target_skip : (q : Part) (j : Class) → more_names j ≡ false → comma_on q j ≡ skips
target_skip q k.Comma h = cc
target_skip q _ h = refl

pub names_skip : (j : Class) → more_names j ≡ false → names_on j ≡ skips
names_skip (k.Name b) h = cc
names_skip _ h = refl

pub statements_skip : (n : ℕ) (j : Class) → begins_statement j ≡ false → part_on (statements n) j ≡ skips
statements_skip n (k.Name b) h = cc
statements_skip n k.Open h = cc
statements_skip n k.From h = cc
statements_skip n _ h = refl

pub later_skip : (n : ℕ) (j : Class) → more j ≡ false → part_on (a_later n) j ≡ skips
later_skip n (k.Name b) h = cc
later_skip n k.Number h = cc
later_skip n k.Text h = cc
later_skip n k.Open h = cc
later_skip n k.OpenList h = cc
later_skip n k.Plus h = cc
later_skip n k.Minus h = cc
later_skip n _ h = refl

pub args_skip : (n : ℕ) (j : Class) → more j ≡ false → part_on (args n) j ≡ skips
args_skip n (k.Name b) h = cc
args_skip n k.Number h = cc
args_skip n k.Text h = cc
args_skip n k.Open h = cc
args_skip n k.OpenList h = cc
args_skip n k.Plus h = cc
args_skip n k.Minus h = cc
args_skip n _ h = refl

abbrev pub Passed : Part → (Class → Bool) → Type 0
Passed q f = (j : Class) → f j ≡ false → part_on q j ≡ skips

pub passes : (q : Part) (f : Class → Bool) → Passed q f → may_be_empty q ≡ true → (ts : List Lexeme) → Ends f ts → (stack : List Part) → run (q ∷ stack) ts ≡ run stack ts
passes q f pass may [] e stack = run_may q stack may
passes q f pass may (t ∷ ts) e stack = run_skips q stack t ts (pass t.class e)

-- what a part begins with
begins : (q r : Part) (qs : List Part) → ((j : Class) → part_on q j ≡ then_ (part_on r j) qs) → ((j : Class) → moves (part_on r j) ≡ true)
    → may_be_empty q ≡ false → may_be_empty r ≡ false → (stack : List Part) (ts : List Lexeme) → run (q ∷ stack) ts ≡ run (r ∷ (qs ++ stack)) ts
begins q r qs e h a b stack [] = run_short q stack a ∙ sym (run_short r (qs ++ stack) b)
begins q r qs e h a b stack (t ∷ ts) = run_begins q r qs stack t ts (e t.class) (h t.class)

pub moves_postfix : (n : ℕ) (j : Class) → moves (part_on (a_postfix n) j) ≡ true
moves_postfix n j = moves_then (atom_on n j) _ ∙ moves_atom n j

pub value_begins : (n : ℕ) (stack : List Part) (ts : List Lexeme) → run (a_value n ∷ stack) ts ≡ run (a_sum n ∷ after_sum n ∷ stack) ts
value_begins n stack ts = begins (a_value n) (a_sum n) (after_sum n ∷ []) (λ j. refl) (moves_sum n) refl refl stack ts

pub sum_begins : (n : ℕ) (stack : List Part) (ts : List Lexeme) → run (a_sum n ∷ stack) ts ≡ run (a_term n ∷ adds n ∷ stack) ts
sum_begins n stack ts = begins (a_sum n) (a_term n) (adds n ∷ []) (λ j. refl) (moves_term n) refl refl stack ts

pub term_begins : (n : ℕ) (stack : List Part) (ts : List Lexeme) → run (a_term n ∷ stack) ts ≡ run (a_signed n ∷ muls n ∷ stack) ts
term_begins n stack ts = begins (a_term n) (a_signed n) (muls n ∷ []) (λ j. refl) (moves_signed n) refl refl stack ts

pub postfix_begins : (n : ℕ) (stack : List Part) (ts : List Lexeme) → run (a_postfix n ∷ stack) ts ≡ run (an_atom n ∷ posts n ∷ stack) ts
postfix_begins n stack ts = begins (a_postfix n) (an_atom n) (posts n ∷ []) (λ j. refl) (moves_atom n) refl refl stack ts

-- the first token of a part
abbrev pub Heads : (Class → Bool) → Bool → List Lexeme → Type 0
Heads f b [] = ⊥
Heads f b (t ∷ ts) = f t.class ≡ b

atom_plain : {n : ℕ} {ts : List Lexeme} {e : Syn} {rest : List Lexeme} → Atom n ts e rest → Heads is_sign false ts
atom_plain (a_name h) = ap is_sign h
atom_plain (a_number h) = ap is_sign h
atom_plain (a_text h) = ap is_sign h
atom_plain (bracketed h v c) = ap is_sign h
atom_plain (a_list h v c) = ap is_sign h

atom_first : {n : ℕ} {ts : List Lexeme} {e : Syn} {rest : List Lexeme} → Atom n ts e rest → Heads is_first true ts
atom_first (a_name h) = ap is_first h
atom_first (a_number h) = ap is_first h
atom_first (a_text h) = ap is_first h
atom_first (bracketed h v c) = ap is_first h
atom_first (a_list h v c) = ap is_first h

sign_first : (j : Class) → is_sign j ≡ true → is_first j ≡ true
sign_first k.Plus h = refl
sign_first k.Minus h = refl
sign_first _ h = cc

sign_ends : (j : Class) → is_sign j ≡ true → more_term j ≡ false
sign_ends k.Plus h = refl
sign_ends k.Minus h = refl
sign_ends _ h = cc

factor_ends : (j : Class) → is_factor j ≡ true → more_signed j ≡ false
factor_ends k.Times h = refl
factor_ends k.Divide h = refl
factor_ends _ h = cc

pub postfix_plain : {n : ℕ} {ts : List Lexeme} {e : Syn} {rest : List Lexeme} → Postfix n ts e rest → Heads is_sign false ts
postfix_plain (postfix a b) = atom_plain a

postfix_first : {n : ℕ} {ts : List Lexeme} {e : Syn} {rest : List Lexeme} → Postfix n ts e rest → Heads is_first true ts
postfix_first (postfix a b) = atom_first a

signed_first : {n : ℕ} {ts : List Lexeme} {e : Syn} {rest : List Lexeme} → Signed n ts e rest → Heads is_first true ts
signed_first (sign {op = op} h a) = sign_first op.class h
signed_first (plain a) = postfix_first a
signed_first (power a h b) = postfix_first a

term_first : {n : ℕ} {ts : List Lexeme} {e : Syn} {rest : List Lexeme} → Term n ts e rest → Heads is_first true ts
term_first (term a b) = signed_first a

pub sum_first : {n : ℕ} {ts : List Lexeme} {e : Syn} {rest : List Lexeme} → Sum n ts e rest → Heads is_first true ts
sum_first (sum a b) = term_first a

pub arg_first : {n : ℕ} {ts : List Lexeme} {a : Arg} {rest : List Lexeme} → OneArg n ts a rest → Heads is_first true ts
arg_first (positional a) = sum_first a
arg_first (keyed h i a) = ap is_first h

pub post_first : {n : ℕ} {ts : List Lexeme} {q : Post} {rest : List Lexeme} → OnePost n ts q rest → Heads is_post true ts
post_first (call h a c) = ap is_post h
post_first (index h a c) = ap is_post h
post_first (attr h i) = ap is_post h

pub adds_end : {n : ℕ} {ts : List Lexeme} {ns : List Next} {rest : List Lexeme} → Adds n ts ns rest → Ends more_sum rest → Ends more_term ts
adds_end {rest = rest} no_add e = ends_by more_sum more_term sum_term rest e
adds_end (add {op = op} h a b) e = sign_ends op.class h

pub muls_end : {n : ℕ} {ts : List Lexeme} {ns : List Next} {rest : List Lexeme} → Muls n ts ns rest → Ends more_term rest → Ends more_signed ts
muls_end {rest = rest} no_mul e = ends_by more_term more_signed term_signed rest e
muls_end (mul {op = op} h a b) e = factor_ends op.class h

plain_on : (n : ℕ) (j : Class) → is_sign j ≡ false → part_on (a_signed n) j ≡ then_ (part_on (a_postfix n) j) (a_power n ∷ [])
plain_on n k.Plus h = cc
plain_on n k.Minus h = cc
plain_on n _ h = refl

pub signed_begins : (n : ℕ) (stack : List Part) (ts : List Lexeme) → Heads is_sign false ts → run (a_signed n ∷ stack) ts ≡ run (a_postfix n ∷ a_power n ∷ stack) ts
signed_begins n stack [] h = absurd h
signed_begins n stack (t ∷ ts) h = run_begins (a_signed n) (a_postfix n) (a_power n ∷ []) stack t ts (plain_on n t.class h) (moves_postfix n t.class)

later_on : (n : ℕ) (j : Class) → is_first j ≡ true → part_on (a_later n) j ≡ then_ (part_on (a_sum n) j) (after_sum n ∷ [])
later_on n (k.Name b) h = refl
later_on n k.Number h = refl
later_on n k.Text h = refl
later_on zero k.Open h = refl
later_on (suc n) k.Open h = refl
later_on zero k.OpenList h = refl
later_on (suc n) k.OpenList h = refl
later_on zero k.Plus h = refl
later_on (suc n) k.Plus h = refl
later_on zero k.Minus h = refl
later_on (suc n) k.Minus h = refl
later_on n _ h = cc

pub later_begins : (n : ℕ) (stack : List Part) (ts : List Lexeme) → Heads is_first true ts → run (a_later n ∷ stack) ts ≡ run (a_sum n ∷ after_sum n ∷ stack) ts
later_begins n stack [] h = absurd h
later_begins n stack (t ∷ ts) h = run_begins (a_later n) (a_sum n) (after_sum n ∷ []) stack t ts (later_on n t.class h) (moves_sum n t.class)

moves_arg : (n : ℕ) (j : Class) → is_first j ≡ true → moves (part_on (an_arg n) j) ≡ true
moves_arg n (k.Name b) h = refl
moves_arg n k.Number h = moves_sum n k.Number
moves_arg n k.Text h = moves_sum n k.Text
moves_arg n k.Open h = moves_sum n k.Open
moves_arg n k.OpenList h = moves_sum n k.OpenList
moves_arg n k.Plus h = moves_sum n k.Plus
moves_arg n k.Minus h = moves_sum n k.Minus
moves_arg n _ h = cc

list_on : (n : ℕ) (j : Class) → is_first j ≡ true → part_on (args n) j ≡ then_ (part_on (an_arg n) j) (after_arg n ∷ [])
list_on n (k.Name b) h = refl
list_on n k.Number h = refl
list_on n k.Text h = refl
list_on zero k.Open h = refl
list_on (suc n) k.Open h = refl
list_on zero k.OpenList h = refl
list_on (suc n) k.OpenList h = refl
list_on zero k.Plus h = refl
list_on (suc n) k.Plus h = refl
list_on zero k.Minus h = refl
list_on (suc n) k.Minus h = refl
list_on n _ h = cc

pub args_begins : (n : ℕ) (stack : List Part) (ts : List Lexeme) → Heads is_first true ts → run (args n ∷ stack) ts ≡ run (an_arg n ∷ after_arg n ∷ stack) ts
args_begins n stack [] h = absurd h
args_begins n stack (t ∷ ts) h = run_begins (args n) (an_arg n) (after_arg n ∷ []) stack t ts (list_on n t.class h) (moves_arg n t.class h)

follow_on : (n : ℕ) (j : Class) → is_post j ≡ true → (part_on (posts n) j ≡ then_ (part_on (a_post n) j) (posts n ∷ [])) × (moves (part_on (a_post n) j) ≡ true)
follow_on zero k.Open h = (refl, refl)
follow_on (suc n) k.Open h = (refl, refl)
follow_on zero k.OpenList h = (refl, refl)
follow_on (suc n) k.OpenList h = (refl, refl)
follow_on n k.Dot h = (refl, refl)
follow_on n _ h = (cc, cc)

pub posts_begins : (n : ℕ) (stack : List Part) (ts : List Lexeme) → Heads is_post true ts → run (posts n ∷ stack) ts ≡ run (a_post n ∷ posts n ∷ stack) ts
posts_begins n stack [] h = absurd h
posts_begins n stack (t ∷ ts) h = let r = follow_on n t.class h in run_begins (posts n) (a_post n) (posts n ∷ []) stack t ts r.0 r.1

statement_follows : (n : ℕ) (j : Class) → begins_statement j ≡ true
    → (part_on (statements n) j ≡ then_ (part_on (a_statement n) j) (statements n ∷ [])) × (moves (part_on (a_statement n) j) ≡ true)
statement_follows n (k.Name b) h = (refl, refl)
statement_follows n k.Open h = (refl, refl)
statement_follows n k.From h = (refl, refl)
statement_follows n _ h = (cc, cc)

pub statements_begin : (n : ℕ) (stack : List Part) (ts : List Lexeme) → Heads begins_statement true ts → run (statements n ∷ stack) ts ≡ run (a_statement n ∷ statements n ∷ stack) ts
statements_begin n stack [] h = absurd h
statements_begin n stack (t ∷ ts) h = let r = statement_follows n t.class h in run_begins (statements n) (a_statement n) (statements n ∷ []) stack t ts r.0 r.1

pub sign_on : (n : ℕ) (j : Class) → is_sign j ≡ true → part_on (a_signed (suc n)) j ≡ takes (a_signed n ∷ [])
sign_on n k.Plus h = refl
sign_on n k.Minus h = refl
sign_on n _ h = cc

pub add_on : (n : ℕ) (j : Class) → is_sign j ≡ true → part_on (adds n) j ≡ takes (a_term n ∷ adds n ∷ [])
add_on n k.Plus h = refl
add_on n k.Minus h = refl
add_on n _ h = cc

pub mul_on : (n : ℕ) (j : Class) → is_factor j ≡ true → part_on (muls n) j ≡ takes (a_signed n ∷ muls n ∷ [])
mul_on n k.Times h = refl
mul_on n k.Divide h = refl
mul_on n _ h = cc

pub takes_token : (j : Class) (stack : List Part) (t : Lexeme) (ts : List Lexeme) → t.class ≡ j → same j j ≡ true → run (token j ∷ stack) (t ∷ ts) ≡ run stack ts
takes_token j stack t ts e h = run_takes (token j) stack t ts [] (ap (λ i. if_same (same j i)) e ∙ ap if_same h)

pub name_skip : (n : ℕ) (j : Class) → more_arg j ≡ false → part_on (after_name n) j ≡ skips
name_skip n k.Assign h = cc
name_skip n k.Power h = cc
name_skip n k.Times h = cc
name_skip n k.Divide h = cc
name_skip n k.Plus h = cc
name_skip n k.Minus h = cc
name_skip n k.Open h = cc
name_skip n k.OpenList h = cc
name_skip n k.Dot h = cc
name_skip n _ h = refl

abbrev pub NotAssign : List Lexeme → Type 0
NotAssign [] = Unit {0}
NotAssign (t ∷ ts) = t.class ≡ k.Assign → ⊥

moves_posts : (n : ℕ) (j : Class) → is_post j ≡ true → moves (part_on (posts n) j) ≡ true
moves_posts zero k.Open h = refl
moves_posts (suc n) k.Open h = refl
moves_posts zero k.OpenList h = refl
moves_posts (suc n) k.OpenList h = refl
moves_posts n k.Dot h = refl
moves_posts n _ h = cc

moves_power : (n : ℕ) → moves (part_on (a_power n) k.Power) ≡ true
moves_power zero = refl
moves_power (suc n) = refl

abbrev pub chain_parts : ℕ → List Part → List Part
chain_parts n stack = posts n ∷ a_power n ∷ muls n ∷ adds n ∷ stack

skip_posts : (n : ℕ) (stack : List Part) (t : Lexeme) (ts : List Lexeme) → is_post t.class ≡ false → run (posts n ∷ stack) (t ∷ ts) ≡ run stack (t ∷ ts)
skip_posts n stack t ts h = run_skips (posts n) stack t ts (posts_skip n t.class h)

skip_signed : (n : ℕ) (stack : List Part) (t : Lexeme) (ts : List Lexeme) → more_signed t.class ≡ false → run (posts n ∷ a_power n ∷ stack) (t ∷ ts) ≡ run stack (t ∷ ts)
skip_signed n stack t ts h = skip_posts n (a_power n ∷ stack) t ts (signed_post t.class h) ∙ run_skips (a_power n) stack t ts (power_skip n t.class h)

skip_term : (n : ℕ) (stack : List Part) (t : Lexeme) (ts : List Lexeme) → more_term t.class ≡ false → run (posts n ∷ a_power n ∷ muls n ∷ stack) (t ∷ ts) ≡ run stack (t ∷ ts)
skip_term n stack t ts h = skip_signed n (muls n ∷ stack) t ts (term_signed t.class h) ∙ run_skips (muls n) stack t ts (muls_skip n t.class h)

skip_sum : (n : ℕ) (stack : List Part) (t : Lexeme) (ts : List Lexeme) → more_sum t.class ≡ false → run (chain_parts n stack) (t ∷ ts) ≡ run stack (t ∷ ts)
skip_sum n stack t ts h = skip_term n (adds n ∷ stack) t ts (sum_term t.class h) ∙ run_skips (adds n) stack t ts (adds_skip n t.class h)

by_posts : (n : ℕ) (stack : List Part) (t : Lexeme) (ts : List Lexeme) (j : Class) → t.class ≡ j → is_post j ≡ true → name_on n j ≡ then_ (posts_on n j) (a_power n ∷ muls n ∷ adds n ∷ [])
    → run (after_name n ∷ stack) (t ∷ ts) ≡ run (chain_parts n stack) (t ∷ ts)
by_posts n stack t ts j e h same_step =
    run_begins (after_name n) (posts n) (a_power n ∷ muls n ∷ adds n ∷ []) stack t ts
    (ap (λ i. name_on n i) e ∙ same_step ∙ ap (λ i. then_ (posts_on n i) (a_power n ∷ muls n ∷ adds n ∷ [])) (sym e))
    (ap (λ i. moves (part_on (posts n) i)) e ∙ moves_posts n j h)

by_sign : (n : ℕ) (stack : List Part) (t : Lexeme) (ts : List Lexeme) (j : Class) → t.class ≡ j → is_sign j ≡ true → name_on n j ≡ takes (a_term n ∷ adds n ∷ [])
    → run (after_name n ∷ stack) (t ∷ ts) ≡ run (chain_parts n stack) (t ∷ ts)
by_sign n stack t ts j e h same_step =
    run_takes (after_name n) stack t ts (a_term n ∷ adds n ∷ []) (ap (λ i. name_on n i) e ∙ same_step)
    ∙ sym (run_takes (adds n) stack t ts (a_term n ∷ adds n ∷ []) (ap (λ i. adds_on n i) e ∙ add_on n j h))
    ∙ sym (skip_term n (adds n ∷ stack) t ts (ap more_term e ∙ sign_ends j h))

by_factor : (n : ℕ) (stack : List Part) (t : Lexeme) (ts : List Lexeme) (j : Class) → t.class ≡ j → is_factor j ≡ true → name_on n j ≡ takes (a_signed n ∷ muls n ∷ adds n ∷ [])
    → run (after_name n ∷ stack) (t ∷ ts) ≡ run (chain_parts n stack) (t ∷ ts)
by_factor n stack t ts j e h same_step =
    run_takes (after_name n) stack t ts (a_signed n ∷ muls n ∷ adds n ∷ []) (ap (λ i. name_on n i) e ∙ same_step)
    ∙ sym (run_takes (muls n) (adds n ∷ stack) t ts (a_signed n ∷ muls n ∷ []) (ap (λ i. muls_on n i) e ∙ mul_on n j h))
    ∙ sym (skip_signed n (muls n ∷ adds n ∷ stack) t ts (ap more_signed e ∙ factor_ends j h))

by_none : (n : ℕ) (stack : List Part) (t : Lexeme) (ts : List Lexeme) (j : Class) → t.class ≡ j → more_arg j ≡ false → run (after_name n ∷ stack) (t ∷ ts) ≡ run (chain_parts n stack) (t ∷ ts)
by_none n stack t ts j e h =
    run_skips (after_name n) stack t ts (ap (λ i. name_on n i) e ∙ name_skip n j h)
    ∙ sym (skip_sum n stack t ts (ap more_sum e ∙ arg_sum j h))

by_class : (n : ℕ) (stack : List Part) (t : Lexeme) (ts : List Lexeme) (j : Class) → t.class ≡ j → (t.class ≡ k.Assign → ⊥) → run (after_name n ∷ stack) (t ∷ ts) ≡ run (chain_parts n stack) (t ∷ ts)
by_class n stack t ts k.Assign e h = absurd (h e)
by_class n stack t ts k.Power e h =
    run_begins (after_name n) (a_power n) (muls n ∷ adds n ∷ []) stack t ts
    (ap (λ i. name_on n i) e ∙ ap (λ i. then_ (power_on n i) (muls n ∷ adds n ∷ [])) (sym e)) (ap (λ i. moves (power_on n i)) e ∙ moves_power n)
    ∙ sym (skip_posts n (a_power n ∷ muls n ∷ adds n ∷ stack) t ts (ap is_post e))
by_class n stack t ts k.Times e h = by_factor n stack t ts k.Times e refl refl
by_class n stack t ts k.Divide e h = by_factor n stack t ts k.Divide e refl refl
by_class n stack t ts k.Plus e h = by_sign n stack t ts k.Plus e refl refl
by_class n stack t ts k.Minus e h = by_sign n stack t ts k.Minus e refl refl
by_class n stack t ts k.Open e h = by_posts n stack t ts k.Open e refl refl
by_class n stack t ts k.OpenList e h = by_posts n stack t ts k.OpenList e refl refl
by_class n stack t ts k.Dot e h = by_posts n stack t ts k.Dot e refl refl
by_class n stack t ts j e h = by_none n stack t ts j e refl

pub name_as : (n : ℕ) (stack : List Part) (ts : List Lexeme) → NotAssign ts → run (after_name n ∷ stack) ts ≡ run (chain_parts n stack) ts
name_as n stack [] h =
    run_may (after_name n) stack refl
    ∙ sym (run_may (posts n) (a_power n ∷ muls n ∷ adds n ∷ stack) refl ∙ run_may (a_power n) (muls n ∷ adds n ∷ stack) refl ∙ run_may (muls n) (adds n ∷ stack) refl ∙ run_may (adds n) stack refl)
name_as n stack (t ∷ ts) h = by_class n stack t ts t.class refl h

abbrev class_left : Outcome → Class
class_left (stopped (t ∷ ts)) = t.class
class_left _ = k.Comma

pub run_none : (t : Lexeme) (ts : List Lexeme) → run [] (t ∷ ts) ≡ stopped (t ∷ ts)
unfolding run step
run_none t ts = refl

pub run_nothing : run [] [] ≡ ended true
unfolding run
run_nothing = refl

-- what is left isn't the `=` of a keyword
pub not_assign : (t : Lexeme) (ts rest : List Lexeme) → Ends more_arg rest → run [] (t ∷ ts) ≡ run [] rest → t.class ≡ k.Assign → ⊥
not_assign t ts [] e h a =
    let x : t.class ≡ k.Comma = ap class_left (sym (run_none t ts) ∙ h ∙ run_nothing) in
    let y : k.Assign ≡ k.Comma = sym a ∙ x in
    cc
not_assign t ts (u ∷ us) e h a =
    let x : t.class ≡ u.class = ap class_left (sym (run_none t ts) ∙ h ∙ run_none u us) in
    let y : true ≡ false = ap more_arg (sym a) ∙ ap more_arg x ∙ e in
    cc

sum_after_name : (n : ℕ) (stack : List Part) (t : Lexeme) (ts : List Lexeme) (b : Bool) → t.class ≡ k.Name b → run (a_sum n ∷ stack) (t ∷ ts) ≡ run (chain_parts n stack) ts
sum_after_name n stack t ts b e = run_takes (a_sum n) stack t ts (posts n ∷ a_power n ∷ muls n ∷ adds n ∷ []) (ap (λ i. part_on (a_sum n) i) e)

pub rest_not_assign : (n : ℕ) (t : Lexeme) (ts rest : List Lexeme) (b : Bool) → t.class ≡ k.Name b → Ends more_arg rest → run (a_sum n ∷ []) (t ∷ ts) ≡ run [] rest → NotAssign ts
rest_not_assign n t [] rest b e end h = tt
rest_not_assign n t (u ∷ us) rest b e end h =
    λ a. not_assign u us rest end (sym (skip_sum n [] u us (ap more_sum a)) ∙ sym (sum_after_name n [] t (u ∷ us) b e) ∙ h) a

pub as_sum : (n : ℕ) (t : Lexeme) (ts rest : List Lexeme) (j : Class) → t.class ≡ j → arg_on n j ≡ part_on (a_sum n) j → (stack : List Part)
    → run (a_sum n ∷ stack) (t ∷ ts) ≡ run stack rest → run (an_arg n ∷ stack) (t ∷ ts) ≡ run stack rest
as_sum n t ts rest j e h stack c =
    run_begins (an_arg n) (a_term n) (adds n ∷ []) stack t ts (ap (λ i. arg_on n i) e ∙ h ∙ ap (λ i. part_on (a_sum n) i) (sym e)) (moves_term n t.class)
    ∙ sym (sum_begins n stack (t ∷ ts)) ∙ c

arg_by : (n : ℕ) (t : Lexeme) (ts rest : List Lexeme) (j : Class) → t.class ≡ j → is_first j ≡ true → Ends more_arg rest
    → ((stack : List Part) → run (a_sum n ∷ stack) (t ∷ ts) ≡ run stack rest) → (stack : List Part) → run (an_arg n ∷ stack) (t ∷ ts) ≡ run stack rest
arg_by n t ts rest (k.Name b) e h end c stack =
    run_takes (an_arg n) stack t ts (after_name n ∷ []) (ap (λ i. arg_on n i) e)
    ∙ name_as n stack ts (rest_not_assign n t ts rest b e end (c []))
    ∙ sym (sum_after_name n stack t ts b e) ∙ c stack
arg_by n t ts rest k.Number e h end c stack = as_sum n t ts rest k.Number e refl stack (c stack)
arg_by n t ts rest k.Text e h end c stack = as_sum n t ts rest k.Text e refl stack (c stack)
arg_by n t ts rest k.Open e h end c stack = as_sum n t ts rest k.Open e refl stack (c stack)
arg_by n t ts rest k.OpenList e h end c stack = as_sum n t ts rest k.OpenList e refl stack (c stack)
arg_by n t ts rest k.Plus e h end c stack = as_sum n t ts rest k.Plus e refl stack (c stack)
arg_by n t ts rest k.Minus e h end c stack = as_sum n t ts rest k.Minus e refl stack (c stack)
arg_by n t ts rest _ e h end c stack = cc

arg_as_sum : (n : ℕ) (ts rest : List Lexeme) → Heads is_first true ts → Ends more_arg rest
    → ((stack : List Part) → run (a_sum n ∷ stack) ts ≡ run stack rest) → (stack : List Part) → run (an_arg n ∷ stack) ts ≡ run stack rest
arg_as_sum n [] rest h end c stack = absurd h
arg_as_sum n (t ∷ ts) rest h end c stack = arg_by n t ts rest t.class refl h end c stack

mutual
  pub c_value : {n : ℕ} {ts : List Lexeme} {e : Syn} {rest : List Lexeme} → Value n ts e rest → Ends more rest → (stack : List Part) → run (a_value n ∷ stack) ts ≡ run stack rest
  c_value {n = n} {ts = ts} {rest = rest} (single d) end stack =
      value_begins n stack ts ∙ c_sum d (ends_by more more_sum more_more_sum rest end) (after_sum n ∷ stack)
      ∙ passes (after_sum n) more (comma_skip (a_later n)) refl rest end stack
  c_value {n = n} {ts = ts} (tuple {comma = comma} {mid = mid} d h l) end stack =
      value_begins n stack ts ∙ c_sum d (ap more_sum h) (after_sum n ∷ stack)
      ∙ run_takes (after_sum n) stack comma mid (a_later n ∷ []) (ap (comma_on (a_later n)) h) ∙ c_later l end stack

  pub c_later : {n : ℕ} {ts : List Lexeme} {es : List Syn} {rest : List Lexeme} → Later n ts es rest → Ends more rest → (stack : List Part) → run (a_later n ∷ stack) ts ≡ run stack rest
  c_later {n = n} {rest = rest} no_later end stack = passes (a_later n) more (later_skip n) refl rest end stack
  c_later {n = n} {ts = ts} {rest = rest} (last d) end stack =
      later_begins n stack ts (sum_first d) ∙ c_sum d (ends_by more more_sum more_more_sum rest end) (after_sum n ∷ stack)
      ∙ passes (after_sum n) more (comma_skip (a_later n)) refl rest end stack
  c_later {n = n} {ts = ts} (further {comma = comma} {mid = mid} d h l) end stack =
      later_begins n stack ts (sum_first d) ∙ c_sum d (ap more_sum h) (after_sum n ∷ stack)
      ∙ run_takes (after_sum n) stack comma mid (a_later n ∷ []) (ap (comma_on (a_later n)) h) ∙ c_later l end stack

  pub c_sum : {n : ℕ} {ts : List Lexeme} {e : Syn} {rest : List Lexeme} → Sum n ts e rest → Ends more_sum rest → (stack : List Part) → run (a_sum n ∷ stack) ts ≡ run stack rest
  c_sum {n = n} {ts = ts} (sum a b) end stack = sum_begins n stack ts ∙ c_term a (adds_end b end) (adds n ∷ stack) ∙ c_adds b end stack

  pub c_adds : {n : ℕ} {ts : List Lexeme} {ns : List Next} {rest : List Lexeme} → Adds n ts ns rest → Ends more_sum rest → (stack : List Part) → run (adds n ∷ stack) ts ≡ run stack rest
  c_adds {n = n} {rest = rest} no_add end stack = passes (adds n) more_sum (adds_skip n) refl rest end stack
  c_adds {n = n} (add {op = op} {ts = us} h a b) end stack =
      run_takes (adds n) stack op us (a_term n ∷ adds n ∷ []) (add_on n op.class h) ∙ c_term a (adds_end b end) (adds n ∷ stack) ∙ c_adds b end stack

  pub c_term : {n : ℕ} {ts : List Lexeme} {e : Syn} {rest : List Lexeme} → Term n ts e rest → Ends more_term rest → (stack : List Part) → run (a_term n ∷ stack) ts ≡ run stack rest
  c_term {n = n} {ts = ts} (term a b) end stack = term_begins n stack ts ∙ c_signed a (muls_end b end) (muls n ∷ stack) ∙ c_muls b end stack

  pub c_muls : {n : ℕ} {ts : List Lexeme} {ns : List Next} {rest : List Lexeme} → Muls n ts ns rest → Ends more_term rest → (stack : List Part) → run (muls n ∷ stack) ts ≡ run stack rest
  c_muls {n = n} {rest = rest} no_mul end stack = passes (muls n) more_term (muls_skip n) refl rest end stack
  c_muls {n = n} (mul {op = op} {ts = us} h a b) end stack =
      run_takes (muls n) stack op us (a_signed n ∷ muls n ∷ []) (mul_on n op.class h) ∙ c_signed a (muls_end b end) (muls n ∷ stack) ∙ c_muls b end stack

  pub c_signed : {n : ℕ} {ts : List Lexeme} {e : Syn} {rest : List Lexeme} → Signed n ts e rest → Ends more_signed rest → (stack : List Part) → run (a_signed n ∷ stack) ts ≡ run stack rest
  c_signed (sign {n = m} {op = op} {ts = us} h a) end stack = run_takes (a_signed (suc m)) stack op us (a_signed m ∷ []) (sign_on m op.class h) ∙ c_signed a end stack
  c_signed {n = n} {ts = ts} {rest = rest} (plain a) end stack =
      signed_begins n stack ts (postfix_plain a) ∙ c_postfix a (ends_by more_signed is_post signed_post rest end) (a_power n ∷ stack)
      ∙ passes (a_power n) more_signed (power_skip n) refl rest end stack
  c_signed {ts = ts} (power {n = m} {op = op} {mid = mid} a h b) end stack =
      signed_begins (suc m) stack ts (postfix_plain a) ∙ c_postfix a (ap is_post h) (a_power (suc m) ∷ stack)
      ∙ run_takes (a_power (suc m)) stack op mid (a_signed m ∷ []) (ap (power_on (suc m)) h) ∙ c_signed b end stack

  pub c_postfix : {n : ℕ} {ts : List Lexeme} {e : Syn} {rest : List Lexeme} → Postfix n ts e rest → Ends is_post rest → (stack : List Part) → run (a_postfix n ∷ stack) ts ≡ run stack rest
  c_postfix {n = n} {ts = ts} (postfix a b) end stack = postfix_begins n stack ts ∙ c_atom a (posts n ∷ stack) ∙ c_posts b end stack

  pub c_posts : {n : ℕ} {ts : List Lexeme} {ps : List Post} {rest : List Lexeme} → Posts n ts ps rest → Ends is_post rest → (stack : List Part) → run (posts n ∷ stack) ts ≡ run stack rest
  c_posts {n = n} {rest = rest} no_post end stack = passes (posts n) is_post (posts_skip n) refl rest end stack
  c_posts {n = n} {ts = ts} (one_post a b) end stack = posts_begins n stack ts (post_first a) ∙ c_post a (posts n ∷ stack) ∙ c_posts b end stack

  pub c_post : {n : ℕ} {ts : List Lexeme} {q : Post} {rest : List Lexeme} → OnePost n ts q rest → (stack : List Part) → run (a_post n ∷ stack) ts ≡ run stack rest
  c_post (call {n = m} {open_ = t} {ts = us} {close = c} {rest = rest} h a i) stack =
      run_takes (a_post (suc m)) stack t us (args m ∷ token k.Close ∷ []) (ap (post_on (suc m)) h)
      ∙ c_args a (ap more i) (token k.Close ∷ stack) ∙ takes_token k.Close stack c rest i refl
  c_post (index {n = m} {open_ = t} {ts = us} {close = c} {rest = rest} h a i) stack =
      run_takes (a_post (suc m)) stack t us (a_value m ∷ token k.CloseList ∷ []) (ap (post_on (suc m)) h)
      ∙ c_value a (ap more i) (token k.CloseList ∷ stack) ∙ takes_token k.CloseList stack c rest i refl
  c_post (attr {n = m} {dot = t} {name = u} {rest = rest} h i) stack =
      run_takes (a_post m) stack t (u ∷ rest) (a_word m ∷ []) (ap (post_on m) h) ∙ run_takes (a_word m) stack u rest [] (ap (word_on m) i)

  pub c_args : {n : ℕ} {ts : List Lexeme} {as_ : List Arg} {rest : List Lexeme} → Args n ts as_ rest → Ends more rest → (stack : List Part) → run (args n ∷ stack) ts ≡ run stack rest
  c_args {n = n} {rest = rest} no_arg end stack = passes (args n) more (args_skip n) refl rest end stack
  c_args {n = n} {ts = ts} {rest = rest} (last_arg d) end stack =
      args_begins n stack ts (arg_first d) ∙ c_arg d (ends_by more more_arg more_more_arg rest end) (after_arg n ∷ stack)
      ∙ passes (after_arg n) more (comma_skip (args n)) refl rest end stack
  c_args {n = n} {ts = ts} (further_arg {comma = comma} {mid = mid} d h l) end stack =
      args_begins n stack ts (arg_first d) ∙ c_arg d (ap more_arg h) (after_arg n ∷ stack)
      ∙ run_takes (after_arg n) stack comma mid (args n ∷ []) (ap (comma_on (args n)) h) ∙ c_args l end stack

  pub c_arg : {n : ℕ} {ts : List Lexeme} {a : Arg} {rest : List Lexeme} → OneArg n ts a rest → Ends more_arg rest → (stack : List Part) → run (an_arg n ∷ stack) ts ≡ run stack rest
  c_arg {n = n} {ts = ts} {rest = rest} (positional d) end stack = arg_as_sum n ts rest (sum_first d) end (c_sum d (ends_by more_arg more_sum arg_sum rest end)) stack
  c_arg {n = n} {rest = rest} (keyed {name = t} {eq = u} {ts = us} h i d) end stack =
      run_takes (an_arg n) stack t (u ∷ us) (after_name n ∷ []) (ap (arg_on n) h)
      ∙ run_takes (after_name n) stack u us (a_sum n ∷ []) (ap (name_on n) i)
      ∙ c_sum d (ends_by more_arg more_sum arg_sum rest end) stack

  pub c_atom : {n : ℕ} {ts : List Lexeme} {e : Syn} {rest : List Lexeme} → Atom n ts e rest → (stack : List Part) → run (an_atom n ∷ stack) ts ≡ run stack rest
  c_atom {n = n} {rest = rest} (a_name {t = t} h) stack = run_takes (an_atom n) stack t rest [] (ap (atom_on n) h)
  c_atom {n = n} {rest = rest} (a_number {t = t} h) stack = run_takes (an_atom n) stack t rest [] (ap (atom_on n) h)
  c_atom {n = n} {rest = rest} (a_text {t = t} h) stack = run_takes (an_atom n) stack t rest [] (ap (atom_on n) h)
  c_atom (bracketed {n = m} {open_ = t} {ts = us} {close = c} {rest = rest} h a i) stack =
      run_takes (an_atom (suc m)) stack t us (a_value m ∷ token k.Close ∷ []) (ap (atom_on (suc m)) h)
      ∙ c_value a (ap more i) (token k.Close ∷ stack) ∙ takes_token k.Close stack c rest i refl
  c_atom (a_list {n = m} {open_ = t} {ts = us} {close = c} {rest = rest} h a i) stack =
      run_takes (an_atom (suc m)) stack t us (a_later m ∷ token k.CloseList ∷ []) (ap (atom_on (suc m)) h)
      ∙ c_later a (ap more i) (token k.CloseList ∷ stack) ∙ takes_token k.CloseList stack c rest i refl

pub c_later_names : {ts : List Lexeme} {names : List Span} {rest : List Lexeme} → LaterNames ts names rest → Ends more_names rest → (stack : List Part) → run (later_names ∷ stack) ts ≡ run stack rest
c_later_names {rest = rest} no_name end stack = passes later_names more_names names_skip refl rest end stack
c_later_names {rest = rest} (last_name {t = t} h) end stack =
    run_takes later_names stack t rest (after_target ∷ []) (ap names_on h) ∙ passes after_target more_names (target_skip later_names) refl rest end stack
c_later_names (further_name {t = t} {comma = comma} {mid = mid} h i l) end stack =
    run_takes later_names stack t (comma ∷ mid) (after_target ∷ []) (ap names_on h)
    ∙ run_takes after_target stack comma mid (later_names ∷ []) (ap (comma_on later_names) i) ∙ c_later_names l end stack

pub c_names : {ts : List Lexeme} {names : List Span} {unpack : Bool} {rest : List Lexeme} → Names ts names unpack rest → Ends more_names rest → (n : ℕ) (stack : List Part)
    → run (a_word n ∷ after_target ∷ stack) ts ≡ run stack rest
c_names {rest = rest} (one_name {t = t} h) end n stack =
    run_takes (a_word n) (after_target ∷ stack) t rest [] (ap (word_on n) h) ∙ passes after_target more_names (target_skip later_names) refl rest end stack
c_names (several_names {t = t} {comma = comma} {mid = mid} h i l) end n stack =
    run_takes (a_word n) (after_target ∷ stack) t (comma ∷ mid) [] (ap (word_on n) h)
    ∙ run_takes after_target stack comma mid (later_names ∷ []) (ap (comma_on later_names) i) ∙ c_later_names l end stack

-- targets and the `=` after them
pub c_targets : {ts : List Lexeme} {names : List Span} {unpack : Bool} {eq : Lexeme} {us : List Lexeme} → Targets ts names unpack (eq ∷ us) → eq.class ≡ k.Assign → (n : ℕ) (stack : List Part)
    → run (a_statement n ∷ stack) ts ≡ run (a_value n ∷ token k.End ∷ stack) us
c_targets {eq = eq} {us = us} (bare_targets (one_name {t = t} h)) e n stack =
    run_takes (a_statement n) stack t (eq ∷ us) (after_first n ∷ []) (ap (statement_on n) h)
    ∙ run_takes (after_first n) stack eq us (a_value n ∷ token k.End ∷ []) (ap (first_on n) e)
c_targets {eq = eq} {us = us} (bare_targets (several_names {t = t} {comma = comma} {mid = mid} h i l)) e n stack =
    run_takes (a_statement n) stack t (comma ∷ mid) (after_first n ∷ []) (ap (statement_on n) h)
    ∙ run_takes (after_first n) stack comma mid (later_names ∷ token k.Assign ∷ a_value n ∷ token k.End ∷ []) (ap (first_on n) i)
    ∙ c_later_names l (ap more_names e) (token k.Assign ∷ a_value n ∷ token k.End ∷ stack)
    ∙ takes_token k.Assign (a_value n ∷ token k.End ∷ stack) eq us e refl
c_targets {eq = eq} {us = us} (bracketed_targets {open_ = t} {ts = ts} {close = close} h a i) e n stack =
    run_takes (a_statement n) stack t ts (a_word n ∷ after_target ∷ token k.Close ∷ token k.Assign ∷ a_value n ∷ token k.End ∷ []) (ap (statement_on n) h)
    ∙ c_names a (ap more_names i) n (token k.Close ∷ token k.Assign ∷ a_value n ∷ token k.End ∷ stack)
    ∙ takes_token k.Close (token k.Assign ∷ a_value n ∷ token k.End ∷ stack) close (eq ∷ us) i refl
    ∙ takes_token k.Assign (a_value n ∷ token k.End ∷ stack) eq us e refl

-- a value and the end of its line
pub c_ended : {n : ℕ} {us : List Lexeme} {e : Syn} {end : Lexeme} {rest : List Lexeme} → Value n us e (end ∷ rest) → end.class ≡ k.End → (stack : List Part)
    → run (a_value n ∷ token k.End ∷ stack) us ≡ run stack rest
c_ended {end = end} {rest = rest} v h stack = c_value v (ap more h) (token k.End ∷ stack) ∙ takes_token k.End stack end rest h refl

pub update_on : (n : ℕ) (j : Class) (op : AssignOp) → updates j op → first_on n j ≡ takes (a_value n ∷ token k.End ∷ [])
update_on n k.AddAssign op h = refl
update_on n k.SubAssign op h = refl
update_on n _ op h = absurd h

pub c_statement : {n : ℕ} {ts : List Lexeme} {st : Stmt} {rest : List Lexeme} → Statement n ts st rest → (stack : List Part) → run (a_statement n ∷ stack) ts ≡ run stack rest
c_statement {n = n} (imports {from_ = f} {ufl = u} {import_ = i} {star = s} {end = e} {rest = rest} hf hu hi hs he p) stack =
    run_takes (a_statement n) stack f (u ∷ i ∷ s ∷ e ∷ rest) (token (k.Name true) ∷ token k.Import ∷ token k.Times ∷ token k.End ∷ []) (ap (statement_on n) hf)
    ∙ takes_token (k.Name true) (token k.Import ∷ token k.Times ∷ token k.End ∷ stack) u (i ∷ s ∷ e ∷ rest) hu refl
    ∙ takes_token k.Import (token k.Times ∷ token k.End ∷ stack) i (s ∷ e ∷ rest) hi refl
    ∙ takes_token k.Times (token k.End ∷ stack) s (e ∷ rest) hs refl
    ∙ takes_token k.End stack e rest he refl
c_statement {n = n} (assigns a h v e p) stack = c_targets a h n stack ∙ c_ended v e stack
c_statement {n = n} (updated {t = t} {sign = u} {op = op} {us = us} h x v e p) stack =
    run_takes (a_statement n) stack t (u ∷ us) (after_first n ∷ []) (ap (statement_on n) h)
    ∙ run_takes (after_first n) stack u us (a_value n ∷ token k.End ∷ []) (update_on n u.class op x) ∙ c_ended v e stack

names_first : {ts : List Lexeme} {names : List Span} {unpack : Bool} {rest : List Lexeme} → Names ts names unpack rest → Heads begins_statement true ts
names_first (one_name h) = ap begins_statement h
names_first (several_names h i l) = ap begins_statement h

targets_first : {ts : List Lexeme} {names : List Span} {unpack : Bool} {rest : List Lexeme} → Targets ts names unpack rest → Heads begins_statement true ts
targets_first (bare_targets a) = names_first a
targets_first (bracketed_targets h a i) = ap begins_statement h

pub statement_first : {n : ℕ} {ts : List Lexeme} {st : Stmt} {rest : List Lexeme} → Statement n ts st rest → Heads begins_statement true ts
statement_first (imports hf hu hi hs he p) = ap begins_statement hf
statement_first (assigns a h v e p) = targets_first a
statement_first (updated h x v e p) = ap begins_statement h

pub c_file : {n : ℕ} {ts : List Lexeme} {sts : List Stmt} {rest : List Lexeme} → File n ts sts rest → Ends begins_statement rest → (stack : List Part) → run (statements n ∷ stack) ts ≡ run stack rest
c_file {n = n} {rest = rest} no_statement end stack = passes (statements n) begins_statement (statements_skip n) refl rest end stack
c_file {n = n} {ts = ts} (one_statement a b) end stack = statements_begin n stack ts (statement_first a) ∙ c_statement a (statements n ∷ stack) ∙ c_file b end stack

pub runs_whole : {n : ℕ} {ts : List Lexeme} {sts : List Stmt} → File n ts sts [] → run (statements n ∷ []) ts ≡ ended true
runs_whole d = c_file d tt [] ∙ run_nothing

-- No list of statements is these tokens where the machine stops in them.
pub no_file : (n : ℕ) (ts : List Lexeme) (sts : List Stmt) (us : List Lexeme) → File n ts sts [] → run (statements n ∷ []) ts ≡ stopped us → ⊥
no_file n ts sts us d h =
    let x : ended true ≡ stopped us = sym (runs_whole d) ∙ h in
    cc

pub no_file_deep : (n : ℕ) (ts : List Lexeme) (sts : List Stmt) (us : List Lexeme) → File n ts sts [] → run (statements n ∷ []) ts ≡ sank us → ⊥
no_file_deep n ts sts us d h =
    let x : ended true ≡ sank us = sym (runs_whole d) ∙ h in
    cc

pub no_file_short : (n : ℕ) (ts : List Lexeme) (sts : List Stmt) → File n ts sts [] → run (statements n ∷ []) ts ≡ ended false → ⊥
no_file_short n ts sts d h =
    let x : ended true ≡ ended false = sym (runs_whole d) ∙ h in
    cc
