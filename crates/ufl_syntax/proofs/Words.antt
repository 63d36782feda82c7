-- What each part may be, and that what the machine takes can be gone on with.
use Rattle.std.proofs.Common.{[], ◌∷◌, ◌++◌, ◌≡◌, ◌==◌, ◌⊎◌, inl, inr, true, false, Bool, List, ℕ, zero, suc, Some, None, refl, sym, ap, subst, ◌∙◌, arith}
use Rattle.std.proofs.lemmas.Bool.{eqb-true}
use Rattle.ufl_syntax.specs.declared.span.Span.{Span}
use Rattle.ufl_syntax.specs.declared.class.Class.{Class}
use Rattle.ufl_syntax.specs.declared.class.Class.TheVariants as k
use Rattle.ufl_syntax.specs.declared.class.Lexeme.{Lexeme}
use Rattle.ufl_syntax.specs.declared.tree.AssignOp.{AssignOp}
use Rattle.ufl_syntax.specs.declared.tree.AssignOp.TheVariants as o
use Rattle.ufl_syntax.specs.declared.tree.Stmt.{Stmt}
use Rattle.ufl_syntax.specs.declared.tree.Syn.{Syn}
use Rattle.ufl_syntax.specs.declared.tree.Syn.TheVariants as s
use Rattle.ufl_syntax.specs.declared.tree.Post.TheVariants as p
use Rattle.ufl_syntax.specs.declared.tree.Next.{Next}
use Rattle.ufl_syntax.specs.declared.tree.Post.{Post}
use Rattle.ufl_syntax.specs.declared.tree.Arg.{Arg}
use Rattle.ufl_syntax.specs.Grammar as g
use Rattle.ufl_syntax.proofs.Statements.{assignment_of, import_of, some_targets}
use Rattle.ufl_syntax.specs.Grammar.{is_sign, is_factor, updates}
use Rattle.ufl_syntax.specs.Machine.{Part, Step, takes, skips, wrong, deep, then_, maybe, inside, part_on, atom_on, signed_on, term_on, sum_on, post_on, posts_on, power_on, muls_on, adds_on, arg_on, args_on, name_on, names_on, first_on, statement_on, word_on, comma_on, same, number_of, if_same, statements, a_statement, after_first, later_names, after_target, a_value, a_later, after_sum, a_sum, adds, a_term, muls, a_signed, a_power, a_postfix, an_atom, posts, a_post, args, an_arg, after_arg, after_name, a_word, token}

abbrev Comma : (List Lexeme → List Lexeme → Type 0) → List Lexeme → List Lexeme → Type 0
Comma P ts rest = (ts ≡ rest) ⊎ ((c : Lexeme) × (mid : List Lexeme) × (ts ≡ c ∷ mid) × (c.class ≡ k.Comma) × P mid rest)

abbrev Power : ℕ → List Lexeme → List Lexeme → Type 0
Power zero ts rest = ts ≡ rest
Power (suc n) ts rest = (ts ≡ rest) ⊎ ((op : Lexeme) × (mid : List Lexeme) × (ts ≡ op ∷ mid) × (op.class ≡ k.Power) × (x : Syn) × g.Signed n mid x rest)

abbrev Posts : ℕ → List Lexeme → List Lexeme → Type 0
Posts n ts rest = (ps : List Post) × g.Posts n ts ps rest

abbrev Adds : ℕ → List Lexeme → List Lexeme → Type 0
Adds n ts rest = (ns : List Next) × g.Adds n ts ns rest

abbrev Muls : ℕ → List Lexeme → List Lexeme → Type 0
Muls n ts rest = (ns : List Next) × g.Muls n ts ns rest

abbrev LaterNames : List Lexeme → List Lexeme → Type 0
LaterNames ts rest = (names : List Span) × g.LaterNames ts names rest

-- a token of this class
abbrev One : Class → List Lexeme → List Lexeme → Type 0
One j ts rest = (t : Lexeme) × (ts ≡ t ∷ rest) × (t.class ≡ j)

abbrev Word : List Lexeme → List Lexeme → Type 0
Word ts rest = (t : Lexeme) × (b : Bool) × (ts ≡ t ∷ rest) × (t.class ≡ k.Name b)

-- a value and the end of its line
abbrev Ended : ℕ → List Lexeme → List Lexeme → Type 0
Ended n ts rest = (e : Syn) × (end : Lexeme) × g.Value n ts e (end ∷ rest) × (end.class ≡ k.End)

-- an `=`, and then that
abbrev Assigned : ℕ → List Lexeme → List Lexeme → Type 0
Assigned n ts rest = (eq : Lexeme) × (us : List Lexeme) × (ts ≡ eq ∷ us) × (eq.class ≡ k.Assign) × Ended n us rest

-- what follows the first name of a statement
abbrev AfterFirst : ℕ → List Lexeme → List Lexeme → Type 0
AfterFirst n ts rest =
    Assigned n ts rest
    ⊎ ((sign : Lexeme) × (us : List Lexeme) × (op : AssignOp) × (ts ≡ sign ∷ us) × updates sign.class op × Ended n us rest)
    ⊎ ((comma : Lexeme) × (us : List Lexeme) × (mid : List Lexeme) × (ts ≡ comma ∷ us) × (comma.class ≡ k.Comma) × LaterNames us mid × Assigned n mid rest)

-- these tokens, up to the rest, are such a part
abbrev pub Is : Part → List Lexeme → List Lexeme → Type 0
Is (statements n) ts rest = (sts : List Stmt) × g.File n ts sts rest
Is (a_statement n) ts rest = (st : Stmt) × g.Statement n ts st rest
Is (after_first n) ts rest = AfterFirst n ts rest
Is later_names ts rest = LaterNames ts rest
Is after_target ts rest = Comma LaterNames ts rest
Is (a_value n) ts rest = (e : Syn) × g.Value n ts e rest
Is (a_later n) ts rest = (es : List Syn) × g.Later n ts es rest
Is (after_sum n) ts rest = Comma (λ us vs. (es : List Syn) × g.Later n us es vs) ts rest
Is (a_sum n) ts rest = (e : Syn) × g.Sum n ts e rest
Is (adds n) ts rest = Adds n ts rest
Is (a_term n) ts rest = (e : Syn) × g.Term n ts e rest
Is (muls n) ts rest = Muls n ts rest
Is (a_signed n) ts rest = (e : Syn) × g.Signed n ts e rest
Is (a_power n) ts rest = Power n ts rest
Is (a_postfix n) ts rest = (e : Syn) × g.Postfix n ts e rest
Is (an_atom n) ts rest = (e : Syn) × g.Atom n ts e rest
Is (posts n) ts rest = Posts n ts rest
Is (a_post n) ts rest = (q : Post) × g.OnePost n ts q rest
Is (args n) ts rest = (as_ : List Arg) × g.Args n ts as_ rest
Is (an_arg n) ts rest = (a : Arg) × g.OneArg n ts a rest
Is (after_arg n) ts rest = Comma (λ us vs. (as_ : List Arg) × g.Args n us as_ vs) ts rest
Is (after_name n) ts rest =
    ((eq : Lexeme) × (mid : List Lexeme) × (ts ≡ eq ∷ mid) × (eq.class ≡ k.Assign) × (e : Syn) × g.Sum n mid e rest)
    ⊎ ((us : List Lexeme) × (vs : List Lexeme) × (ws : List Lexeme) × Posts n ts us × Power n us vs × Muls n vs ws × Adds n ws rest)
Is (a_word n) ts rest = Word ts rest
Is (token j) ts rest = One j ts rest

abbrev pub All : List Part → List Lexeme → List Lexeme → Type 0
All [] ts rest = ts ≡ rest
All (p ∷ ps) ts rest = (mid : List Lexeme) × Is p ts mid × All ps mid rest

abbrev pub AllOf : Step → List Lexeme → List Lexeme → Type 0
AllOf (takes ps) ts rest = All ps ts rest
AllOf _ ts rest = ⊥

pub all_append : (ps qs : List Part) (ts rest : List Lexeme) → All (ps ++ qs) ts rest → (mid : List Lexeme) × All ps ts mid × All qs mid rest
all_append [] qs ts rest h = (ts, refl, h)
all_append (p ∷ ps) qs ts rest h = let r = all_append ps qs h.0 rest h.2 in (r.0, (h.0, h.1, r.1), r.2)

of_then : (x : Step) (qs : List Part) (ts rest : List Lexeme) → AllOf (then_ x qs) ts rest → (mid : List Lexeme) × AllOf x ts mid × All qs mid rest
of_then (takes ps) qs ts rest h = all_append ps qs ts rest h
of_then skips qs ts rest h = absurd h
of_then wrong qs ts rest h = absurd h
of_then deep qs ts rest h = absurd h

of_maybe : (x : Step) (ts rest : List Lexeme) → AllOf (maybe x) ts rest → AllOf x ts rest
of_maybe (takes ps) ts rest h = h
of_maybe skips ts rest h = h
of_maybe wrong ts rest h = h
of_maybe deep ts rest h = h

one : (part : Part) (ts rest : List Lexeme) → All (part ∷ []) ts rest → Is part ts rest
one part ts rest h = subst (λ r. Is part ts r) h.2 h.1

closed : (j : Class) (ts rest : List Lexeme) → All (token j ∷ []) ts rest → (c : Lexeme) × (ts ≡ c ∷ rest) × (c.class ≡ j)
closed j ts rest h = one (token j) ts rest h

-- what is a part after a token, is one with it
atom_back : (n : ℕ) (t : Lexeme) (ts rest : List Lexeme) (j : Class) → t.class ≡ j → AllOf (atom_on n j) ts rest → Is (an_atom n) (t ∷ ts) rest
atom_back n t ts rest (k.Name b) e h = (s.Name t.span, subst (λ r. g.Atom n (t ∷ ts) (s.Name t.span) r) h (g.a_name e))
atom_back n t ts rest k.Number e h = (s.Number t.span, subst (λ r. g.Atom n (t ∷ ts) (s.Number t.span) r) h (g.a_number e))
atom_back n t ts rest k.Text e h = (s.Text t.span, subst (λ r. g.Atom n (t ∷ ts) (s.Text t.span) r) h (g.a_text e))
atom_back zero t ts rest k.Open e h = absurd h
atom_back (suc n) t ts rest k.Open e h =
    let c = closed k.Close h.0 rest h.2 in
    (h.1.0, g.bracketed e (subst (λ m. g.Value n ts h.1.0 m) c.1 h.1.1) c.2)
atom_back zero t ts rest k.OpenList e h = absurd h
atom_back (suc n) t ts rest k.OpenList e h =
    let c = closed k.CloseList h.0 rest h.2 in
    (s.List t.span h.1.0, g.a_list e (subst (λ m. g.Later n ts h.1.0 m) c.1 h.1.1) c.2)
atom_back n t ts rest _ e h = absurd h

postfix_back : (n : ℕ) (t : Lexeme) (ts rest : List Lexeme) (j : Class) → t.class ≡ j → AllOf (then_ (atom_on n j) (posts n ∷ [])) ts rest → Is (a_postfix n) (t ∷ ts) rest
postfix_back n t ts rest j e h =
    let r = of_then (atom_on n j) (posts n ∷ []) ts rest h in
    let a = atom_back n t ts r.0 j e r.1 in
    let b = one (posts n) r.0 rest r.2 in
    (g.applied a.0 b.0, g.postfix a.1 b.1)

with_power : (n : ℕ) (us mid rest : List Lexeme) (e : Syn) → g.Postfix n us e mid → Power n mid rest → Is (a_signed n) us rest
with_power zero us mid rest e a h = (e, g.plain (subst (λ r. g.Postfix zero us e r) h a))
with_power (suc n) us mid rest e a (inl h) = (e, g.plain (subst (λ r. g.Postfix (suc n) us e r) h a))
with_power (suc n) us mid rest e a (inr h) = (s.Binary e (g.next h.0 h.4 ∷ []), g.power (subst (λ r. g.Postfix (suc n) us e r) h.2 a) h.3 h.5)

base_back : (n : ℕ) (t : Lexeme) (ts rest : List Lexeme) (j : Class) → t.class ≡ j → AllOf (then_ (then_ (atom_on n j) (posts n ∷ [])) (a_power n ∷ [])) ts rest → Is (a_signed n) (t ∷ ts) rest
base_back n t ts rest j e h =
    let r = of_then (then_ (atom_on n j) (posts n ∷ [])) (a_power n ∷ []) ts rest h in
    let a = postfix_back n t ts r.0 j e r.1 in
    with_power n (t ∷ ts) r.0 rest a.0 a.1 (one (a_power n) r.0 rest r.2)

sign_back : (n : ℕ) (t : Lexeme) (ts rest : List Lexeme) → is_sign t.class ≡ true → AllOf (inside n (λ m. a_signed m ∷ [])) ts rest → Is (a_signed n) (t ∷ ts) rest
sign_back zero t ts rest e h = absurd h
sign_back (suc n) t ts rest e h = let r = one (a_signed n) ts rest h in (s.Sign t.span r.0, g.sign e r.1)

signed_back : (n : ℕ) (t : Lexeme) (ts rest : List Lexeme) (j : Class) → t.class ≡ j → AllOf (signed_on n j) ts rest → Is (a_signed n) (t ∷ ts) rest
signed_back n t ts rest k.Plus e h = sign_back n t ts rest (ap is_sign e) h
signed_back n t ts rest k.Minus e h = sign_back n t ts rest (ap is_sign e) h
signed_back n t ts rest (k.Name b) e h = base_back n t ts rest (k.Name b) e h
signed_back n t ts rest k.Number e h = base_back n t ts rest k.Number e h
signed_back n t ts rest k.Text e h = base_back n t ts rest k.Text e h
signed_back n t ts rest k.Open e h = base_back n t ts rest k.Open e h
signed_back n t ts rest k.OpenList e h = base_back n t ts rest k.OpenList e h
signed_back n t ts rest _ e h = absurd h

term_back : (n : ℕ) (t : Lexeme) (ts rest : List Lexeme) (j : Class) → t.class ≡ j → AllOf (term_on n j) ts rest → Is (a_term n) (t ∷ ts) rest
term_back n t ts rest j e h =
    let r = of_then (signed_on n j) (muls n ∷ []) ts rest h in
    let a = signed_back n t ts r.0 j e r.1 in
    let b = one (muls n) r.0 rest r.2 in
    (g.chain a.0 b.0, g.term a.1 b.1)

sum_back : (n : ℕ) (t : Lexeme) (ts rest : List Lexeme) (j : Class) → t.class ≡ j → AllOf (sum_on n j) ts rest → Is (a_sum n) (t ∷ ts) rest
sum_back n t ts rest j e h =
    let r = of_then (term_on n j) (adds n ∷ []) ts rest h in
    let a = term_back n t ts r.0 j e r.1 in
    let b = one (adds n) r.0 rest r.2 in
    (g.chain a.0 b.0, g.sum a.1 b.1)

add_back : (n : ℕ) (t : Lexeme) (ts rest : List Lexeme) → is_sign t.class ≡ true → All (a_term n ∷ adds n ∷ []) ts rest → Is (adds n) (t ∷ ts) rest
add_back n t ts rest e h =
    let b = one (adds n) h.0 rest h.2 in
    (g.next t h.1.0 ∷ b.0, g.add e h.1.1 b.1)

mul_back : (n : ℕ) (t : Lexeme) (ts rest : List Lexeme) → is_factor t.class ≡ true → All (a_signed n ∷ muls n ∷ []) ts rest → Is (muls n) (t ∷ ts) rest
mul_back n t ts rest e h =
    let b = one (muls n) h.0 rest h.2 in
    (g.next t h.1.0 ∷ b.0, g.mul e h.1.1 b.1)

muls_back : (n : ℕ) (t : Lexeme) (ts rest : List Lexeme) (j : Class) → t.class ≡ j → AllOf (muls_on n j) ts rest → Is (muls n) (t ∷ ts) rest
muls_back n t ts rest k.Times e h = mul_back n t ts rest (ap is_factor e) h
muls_back n t ts rest k.Divide e h = mul_back n t ts rest (ap is_factor e) h
muls_back n t ts rest _ e h = absurd h

adds_back : (n : ℕ) (t : Lexeme) (ts rest : List Lexeme) (j : Class) → t.class ≡ j → AllOf (adds_on n j) ts rest → Is (adds n) (t ∷ ts) rest
adds_back n t ts rest k.Plus e h = add_back n t ts rest (ap is_sign e) h
adds_back n t ts rest k.Minus e h = add_back n t ts rest (ap is_sign e) h
adds_back n t ts rest _ e h = absurd h

comma_back : (next : Part) (t : Lexeme) (ts rest : List Lexeme) (j : Class) → t.class ≡ j → AllOf (comma_on next j) ts rest → Comma (Is next) (t ∷ ts) rest
comma_back next t ts rest k.Comma e h = inr (t, ts, refl, e, one next ts rest h)
comma_back next t ts rest _ e h = absurd h

value_by : (n : ℕ) (ts mid rest : List Lexeme) (e : Syn) → g.Sum n ts e mid → Comma (Is (a_later n)) mid rest → Is (a_value n) ts rest
value_by n ts mid rest e a (inl h) = (e, g.single (subst (λ r. g.Sum n ts e r) h a))
value_by n ts mid rest e a (inr h) = (s.Tuple h.0.span (e ∷ h.4.0), g.tuple (subst (λ r. g.Sum n ts e r) h.2 a) h.3 h.4.1)

later_by : (n : ℕ) (ts mid rest : List Lexeme) (e : Syn) → g.Sum n ts e mid → Comma (Is (a_later n)) mid rest → Is (a_later n) ts rest
later_by n ts mid rest e a (inl h) = (e ∷ [], g.last (subst (λ r. g.Sum n ts e r) h a))
later_by n ts mid rest e a (inr h) = (e ∷ h.4.0, g.further (subst (λ r. g.Sum n ts e r) h.2 a) h.3 h.4.1)

args_by : (n : ℕ) (ts mid rest : List Lexeme) (x : Arg) → g.OneArg n ts x mid → Comma (Is (args n)) mid rest → Is (args n) ts rest
args_by n ts mid rest x a (inl h) = (x ∷ [], g.last_arg (subst (λ r. g.OneArg n ts x r) h a))
args_by n ts mid rest x a (inr h) = (x ∷ h.4.0, g.further_arg (subst (λ r. g.OneArg n ts x r) h.2 a) h.3 h.4.1)

summed_back : (n : ℕ) (t : Lexeme) (ts rest : List Lexeme) (j : Class) → t.class ≡ j → AllOf (then_ (sum_on n j) (after_sum n ∷ [])) ts rest
    → (mid : List Lexeme) × (e : Syn) × g.Sum n (t ∷ ts) e mid × Comma (Is (a_later n)) mid rest
summed_back n t ts rest j e h =
    let r = of_then (sum_on n j) (after_sum n ∷ []) ts rest h in
    let a = sum_back n t ts r.0 j e r.1 in
    (r.0, a.0, a.1, one (after_sum n) r.0 rest r.2)

post_back : (n : ℕ) (t : Lexeme) (ts rest : List Lexeme) (j : Class) → t.class ≡ j → AllOf (post_on n j) ts rest → Is (a_post n) (t ∷ ts) rest
post_back zero t ts rest k.Open e h = absurd h
post_back (suc n) t ts rest k.Open e h =
    let c = closed k.Close h.0 rest h.2 in
    (p.Call t.span h.1.0, g.call e (subst (λ m. g.Args n ts h.1.0 m) c.1 h.1.1) c.2)
post_back zero t ts rest k.OpenList e h = absurd h
post_back (suc n) t ts rest k.OpenList e h =
    let c = closed k.CloseList h.0 rest h.2 in
    (p.Index t.span h.1.0, g.index e (subst (λ m. g.Value n ts h.1.0 m) c.1 h.1.1) c.2)
post_back n t ts rest k.Dot e h =
    let c = one (a_word n) ts rest h in
    (p.Attr c.0.span, subst (λ us. g.OnePost n (t ∷ us) (p.Attr c.0.span) rest) (sym c.2) (g.attr e c.3))
post_back n t ts rest _ e h = absurd h

posts_back : (n : ℕ) (t : Lexeme) (ts rest : List Lexeme) (j : Class) → t.class ≡ j → AllOf (posts_on n j) ts rest → Is (posts n) (t ∷ ts) rest
posts_back n t ts rest j e h =
    let r = of_then (post_on n j) (posts n ∷ []) ts rest (of_maybe (then_ (post_on n j) (posts n ∷ [])) ts rest h) in
    let a = post_back n t ts r.0 j e r.1 in
    let b = one (posts n) r.0 rest r.2 in
    (a.0 ∷ b.0, g.one_post a.1 b.1)

power_back : (n : ℕ) (t : Lexeme) (ts rest : List Lexeme) (j : Class) → t.class ≡ j → AllOf (power_on n j) ts rest → Is (a_power n) (t ∷ ts) rest
power_back zero t ts rest k.Power e h = absurd h
power_back (suc n) t ts rest k.Power e h = let r = one (a_signed n) ts rest h in inr (t, ts, refl, e, r.0, r.1)
power_back n t ts rest _ e h = absurd h

pub no_power : (n : ℕ) (ts : List Lexeme) → Power n ts ts
no_power zero ts = refl
no_power (suc n) ts = inl refl

by_posts : (n : ℕ) (t : Lexeme) (ts rest : List Lexeme) (j : Class) → t.class ≡ j → AllOf (then_ (posts_on n j) (a_power n ∷ muls n ∷ adds n ∷ [])) ts rest → Is (after_name n) (t ∷ ts) rest
by_posts n t ts rest j e h =
    let r = of_then (posts_on n j) (a_power n ∷ muls n ∷ adds n ∷ []) ts rest h in
    inr (r.0, r.2.0, r.2.2.0, posts_back n t ts r.0 j e r.1, r.2.1, r.2.2.1, one (adds n) r.2.2.0 rest r.2.2.2)

by_muls : (n : ℕ) (t : Lexeme) (ts rest : List Lexeme) (j : Class) → t.class ≡ j → AllOf (then_ (muls_on n j) (adds n ∷ [])) ts rest → Is (after_name n) (t ∷ ts) rest
by_muls n t ts rest j e h =
    let r = of_then (muls_on n j) (adds n ∷ []) ts rest h in
    inr (t ∷ ts, t ∷ ts, r.0, ([], g.no_post), no_power n (t ∷ ts), muls_back n t ts r.0 j e r.1, one (adds n) r.0 rest r.2)

by_adds : (n : ℕ) (t : Lexeme) (ts rest : List Lexeme) (j : Class) → t.class ≡ j → AllOf (adds_on n j) ts rest → Is (after_name n) (t ∷ ts) rest
by_adds n t ts rest j e h = inr (t ∷ ts, t ∷ ts, t ∷ ts, ([], g.no_post), no_power n (t ∷ ts), ([], g.no_mul), adds_back n t ts rest j e h)

name_back : (n : ℕ) (t : Lexeme) (ts rest : List Lexeme) (j : Class) → t.class ≡ j → AllOf (name_on n j) ts rest → Is (after_name n) (t ∷ ts) rest
name_back n t ts rest k.Assign e h = let r = one (a_sum n) ts rest h in inl (t, ts, refl, e, r.0, r.1)
name_back n t ts rest k.Power e h =
    let r = of_then (power_on n k.Power) (muls n ∷ adds n ∷ []) ts rest h in
    inr (t ∷ ts, r.0, r.2.0, ([], g.no_post), power_back n t ts r.0 k.Power e r.1, r.2.1, one (adds n) r.2.0 rest r.2.2)
name_back n t ts rest k.Times e h = by_muls n t ts rest k.Times e h
name_back n t ts rest k.Divide e h = by_muls n t ts rest k.Divide e h
name_back n t ts rest k.Plus e h = by_adds n t ts rest k.Plus e h
name_back n t ts rest k.Minus e h = by_adds n t ts rest k.Minus e h
name_back n t ts rest k.Open e h = by_posts n t ts rest k.Open e h
name_back n t ts rest k.OpenList e h = by_posts n t ts rest k.OpenList e h
name_back n t ts rest k.Dot e h = by_posts n t ts rest k.Dot e h
name_back n t ts rest _ e h = absurd h

named : (n : ℕ) (t : Lexeme) (ts rest : List Lexeme) (b : Bool) → t.class ≡ k.Name b → Is (after_name n) ts rest → Is (an_arg n) (t ∷ ts) rest
named n t ts rest b e (inl h) = (g.argument (Some t.span) h.4, subst (λ us. g.OneArg n (t ∷ us) (g.argument (Some t.span) h.4) rest) (sym h.2) (g.keyed e h.3 h.5))
named n t ts rest b e (inr h) =
    let a = with_power n (t ∷ ts) h.0 h.1 (g.applied (s.Name t.span) h.3.0) (g.postfix (g.a_name e) h.3.1) h.4 in
    (g.argument None (g.chain (g.chain a.0 h.5.0) h.6.0), g.positional (g.sum (g.term a.1 h.5.1) h.6.1))

unnamed : (n : ℕ) (t : Lexeme) (ts rest : List Lexeme) (j : Class) → t.class ≡ j → AllOf (sum_on n j) ts rest → Is (an_arg n) (t ∷ ts) rest
unnamed n t ts rest j e h = let a = sum_back n t ts rest j e h in (g.argument None a.0, g.positional a.1)

arg_back : (n : ℕ) (t : Lexeme) (ts rest : List Lexeme) (j : Class) → t.class ≡ j → AllOf (arg_on n j) ts rest → Is (an_arg n) (t ∷ ts) rest
arg_back n t ts rest (k.Name b) e h = named n t ts rest b e (one (after_name n) ts rest h)
arg_back n t ts rest k.Number e h = unnamed n t ts rest k.Number e h
arg_back n t ts rest k.Text e h = unnamed n t ts rest k.Text e h
arg_back n t ts rest k.Open e h = unnamed n t ts rest k.Open e h
arg_back n t ts rest k.OpenList e h = unnamed n t ts rest k.OpenList e h
arg_back n t ts rest k.Plus e h = unnamed n t ts rest k.Plus e h
arg_back n t ts rest k.Minus e h = unnamed n t ts rest k.Minus e h
arg_back n t ts rest _ e h = absurd h

args_back : (n : ℕ) (t : Lexeme) (ts rest : List Lexeme) (j : Class) → t.class ≡ j → AllOf (args_on n j) ts rest → Is (args n) (t ∷ ts) rest
args_back n t ts rest j e h =
    let r = of_then (arg_on n j) (after_arg n ∷ []) ts rest (of_maybe (then_ (arg_on n j) (after_arg n ∷ [])) ts rest h) in
    let a = arg_back n t ts r.0 j e r.1 in
    args_by n (t ∷ ts) r.0 rest a.0 a.1 (one (after_arg n) r.0 rest r.2)

class_of_number : ℕ → Class
class_of_number n =
    elim (n == 0) [
      | true ↦ k.Name true
      | false ↦ elim (n == 1) [
        | true ↦ k.Name false
        | false ↦ elim (n == 2) [
          | true ↦ k.Number
          | false ↦ elim (n == 3) [
            | true ↦ k.Text
            | false ↦
                elim (n == 4) [
                  | true ↦ k.From
                  | false ↦ elim (n == 5) [
                    | true ↦ k.Import
                    | false ↦ elim (n == 6) [
                      | true ↦ k.Foreign
                      | false ↦ elim (n == 7) [
                        | true ↦ k.Plus
                        | false ↦
                            elim (n == 8) [
                              | true ↦ k.Minus
                              | false ↦ elim (n == 9) [
                                | true ↦ k.Times
                                | false ↦ elim (n == 10) [
                                  | true ↦ k.Divide
                                  | false ↦ elim (n == 11) [
                                    | true ↦ k.Power
                                    | false ↦
                                        elim (n == 12) [
                                          | true ↦ k.Assign
                                          | false ↦ elim (n == 13) [
                                            | true ↦ k.AddAssign
                                            | false ↦ elim (n == 14) [
                                              | true ↦ k.SubAssign
                                              | false ↦ elim (n == 15) [
                                                | true ↦ k.Open
                                                | false ↦
                                                    elim (n == 16) [
                                                      | true ↦ k.Close
                                                      | false ↦ elim (n == 17) [
                                                        | true ↦ k.OpenList
                                                        | false ↦ elim (n == 18) [
                                                          | true ↦ k.CloseList
                                                          | false ↦ elim (n == 19) [
                                                            | true ↦ k.Comma
                                                            | false ↦
                                                                elim (n == 20) [ true ↦ k.Dot | false ↦ k.End ]
                                                          ]
                                                        ]
                                                      ]
                                                    ]
                                              ]
                                            ]
                                          ]
                                        ]
                                  ]
                                ]
                              ]
                            ]
                      ]
                    ]
                  ]
                ]
          ]
        ]
      ]
    ]

numbered : (j : Class) → class_of_number (number_of j) ≡ j
unfolding class_of_number
numbered (k.Name true) = refl
numbered (k.Name false) = refl
numbered _ = refl

pub same_is : (i j : Class) → same i j ≡ true → i ≡ j
same_is i j h = sym (numbered i) ∙ ap class_of_number (eqb-true (number_of i) (number_of j) h) ∙ numbered j

pub same_self : (i : Class) → same i i ≡ true
same_self (k.Name true) = refl
same_self (k.Name false) = refl
same_self _ = refl

token_back : (i : Class) (t : Lexeme) (ts rest : List Lexeme) (b : Bool) → same i t.class ≡ b → AllOf (if_same b) ts rest → Is (token i) (t ∷ ts) rest
token_back i t ts rest true e h = (t, ap (λ us. t ∷ us) h, sym (same_is i t.class e))
token_back i t ts rest false e h = absurd h

word_back : (n : ℕ) (t : Lexeme) (ts rest : List Lexeme) (j : Class) → t.class ≡ j → AllOf (word_on n j) ts rest → Is (a_word n) (t ∷ ts) rest
word_back n t ts rest (k.Name b) e h = (t, b, ap (λ us. t ∷ us) h, e)
word_back zero t ts rest k.Open e h = absurd h
word_back (suc n) t ts rest k.Open e h = absurd h
word_back zero t ts rest k.OpenList e h = absurd h
word_back (suc n) t ts rest k.OpenList e h = absurd h
word_back n t ts rest _ e h = absurd h

names_by : (t : Lexeme) (ts rest : List Lexeme) (b : Bool) → t.class ≡ k.Name b → Comma LaterNames ts rest → LaterNames (t ∷ ts) rest
names_by t ts rest b e (inl h) = (t.span ∷ [], subst (λ r. g.LaterNames (t ∷ ts) (t.span ∷ []) r) h (g.last_name e))
names_by t ts rest b e (inr h) = (t.span ∷ h.4.0, subst (λ l. g.LaterNames (t ∷ l) (t.span ∷ h.4.0) rest) (sym h.2) (g.further_name e h.3 h.4.1))

names_back : (t : Lexeme) (ts rest : List Lexeme) (j : Class) → t.class ≡ j → AllOf (names_on j) ts rest → LaterNames (t ∷ ts) rest
names_back t ts rest (k.Name b) e h = names_by t ts rest b e (one after_target ts rest h)
names_back t ts rest _ e h = absurd h

-- an ended value, or one after `=`, of its parts
ended_by : (n : ℕ) (ts rest : List Lexeme) → All (a_value n ∷ token k.End ∷ []) ts rest → Ended n ts rest
ended_by n ts rest h =
    let c = closed k.End h.0 rest h.2 in
    (h.1.0, c.0, subst (λ m. g.Value n ts h.1.0 m) c.1 h.1.1, c.2)

assigned_by : (n : ℕ) (ts rest : List Lexeme) → All (token k.Assign ∷ a_value n ∷ token k.End ∷ []) ts rest → Assigned n ts rest
assigned_by n ts rest h = (h.1.0, h.0, h.1.1, h.1.2, ended_by n h.0 rest h.2)

first_back : (n : ℕ) (t : Lexeme) (ts rest : List Lexeme) (j : Class) → t.class ≡ j → AllOf (first_on n j) ts rest → AfterFirst n (t ∷ ts) rest
first_back n t ts rest k.Assign e h = inl (t, ts, refl, e, ended_by n ts rest h)
first_back n t ts rest k.AddAssign e h = inr (inl (t, ts, o.Plus, refl, subst (λ j. updates j o.Plus) (sym e) refl, ended_by n ts rest h))
first_back n t ts rest k.SubAssign e h = inr (inl (t, ts, o.Minus, refl, subst (λ j. updates j o.Minus) (sym e) refl, ended_by n ts rest h))
first_back n t ts rest k.Comma e h = inr (inr (t, ts, h.0, refl, e, h.1, assigned_by n h.0 rest h.2))
first_back n t ts rest _ e h = absurd h

assigned_to : (n : ℕ) (ts us rest : List Lexeme) (names : List Span) (unpack : Bool) → g.Targets ts names unpack us → Assigned n us rest → Is (a_statement n) ts rest
assigned_to n ts us rest names unpack a h =
    let st = assignment_of (g.first_line ts) names unpack o.Set h.4.0 (some_targets a) in
    (st, g.assigns (subst (λ l. g.Targets ts names unpack l) h.2 a) h.3 h.4.2 h.4.3 (refl, refl, refl, refl, refl))

pub first_of : (n : ℕ) (t : Lexeme) (ts rest : List Lexeme) (b : Bool) → t.class ≡ k.Name b → AfterFirst n ts rest → Is (a_statement n) (t ∷ ts) rest
first_of n t ts rest b e (inl h) = assigned_to n (t ∷ ts) ts rest (t.span ∷ []) false (g.bare_targets (g.one_name e)) h
first_of n t ts rest b e (inr (inl h)) =
    let st = assignment_of t.line (t.span ∷ []) false h.2 h.5.0 (omega arith) in
    (st, subst (λ l. g.Statement n (t ∷ l) st rest) (sym h.3) (g.updated e h.4 h.5.2 h.5.3 (refl, refl, refl, refl, refl)))
first_of n t ts rest b e (inr (inr h)) =
    assigned_to n (t ∷ ts) h.2 rest (t.span ∷ h.5.0) true
    (subst (λ l. g.Targets (t ∷ l) (t.span ∷ h.5.0) true h.2) (sym h.3) (g.bare_targets (g.several_names e h.4 h.5.1))) h.6

-- a name and what may follow it among targets
names_of : (t : Lexeme) (ts rest : List Lexeme) (b : Bool) → t.class ≡ k.Name b → Comma LaterNames ts rest → (names : List Span) × (unpack : Bool) × g.Names (t ∷ ts) names unpack rest
names_of t ts rest b e (inl h) = (t.span ∷ [], false, subst (λ r. g.Names (t ∷ ts) (t.span ∷ []) false r) h (g.one_name e))
names_of t ts rest b e (inr h) =
    (t.span ∷ h.4.0, true, subst (λ l. g.Names (t ∷ l) (t.span ∷ h.4.0) true rest) (sym h.2) (g.several_names e h.3 h.4.1))

bracket_back : (n : ℕ) (t : Lexeme) (ts rest : List Lexeme) → t.class ≡ k.Open
    → All (a_word n ∷ after_target ∷ token k.Close ∷ token k.Assign ∷ a_value n ∷ token k.End ∷ []) ts rest → Is (a_statement n) (t ∷ ts) rest
bracket_back n t ts rest e h =
    let w = h.1 in
    let a = names_of w.0 h.0 h.2.0 w.1 w.3 h.2.1 in
    let c = h.2.2.1 in
    assigned_to n (t ∷ ts) h.2.2.0 rest a.0 a.1
    (g.bracketed_targets e (subst (λ l. g.Names l a.0 a.1 (c.0 ∷ h.2.2.0)) (sym w.2) (subst (λ l. g.Names (w.0 ∷ h.0) a.0 a.1 l) c.1 a.2)) c.2)
    (assigned_by n h.2.2.0 rest h.2.2.2)

import_back : (n : ℕ) (t : Lexeme) (ts rest : List Lexeme) → t.class ≡ k.From → All (token (k.Name true) ∷ token k.Import ∷ token k.Times ∷ token k.End ∷ []) ts rest → Is (a_statement n) (t ∷ ts) rest
import_back n t ts rest e h =
    let u = h.1 in
    let i = h.2.1 in
    let x = h.2.2.1 in
    let c = closed k.End h.2.2.0 rest h.2.2.2 in
    let st = import_of t.line in
    let list : ts ≡ u.0 ∷ i.0 ∷ x.0 ∷ c.0 ∷ rest =
    u.1 ∙ ap (λ l. u.0 ∷ l) i.1 ∙ ap (λ l. u.0 ∷ i.0 ∷ l) x.1 ∙ ap (λ l. u.0 ∷ i.0 ∷ x.0 ∷ l) c.1 in
    (st, subst (λ l. g.Statement n (t ∷ l) st rest) (sym list) (g.imports e u.2 i.2 x.2 c.2 (refl, refl, refl, refl, refl)))

statement_back : (n : ℕ) (t : Lexeme) (ts rest : List Lexeme) (j : Class) → t.class ≡ j → AllOf (statement_on n j) ts rest → Is (a_statement n) (t ∷ ts) rest
statement_back n t ts rest (k.Name b) e h = first_of n t ts rest b e (one (after_first n) ts rest h)
statement_back n t ts rest k.Open e h = bracket_back n t ts rest e h
statement_back n t ts rest k.From e h = import_back n t ts rest e h
statement_back n t ts rest _ e h = absurd h

statements_back : (n : ℕ) (t : Lexeme) (ts rest : List Lexeme) (j : Class) → t.class ≡ j → AllOf (maybe (then_ (statement_on n j) (statements n ∷ []))) ts rest → Is (statements n) (t ∷ ts) rest
statements_back n t ts rest j e h =
    let r = of_then (statement_on n j) (statements n ∷ []) ts rest (of_maybe (then_ (statement_on n j) (statements n ∷ [])) ts rest h) in
    let a = statement_back n t ts r.0 j e r.1 in
    let b = one (statements n) r.0 rest r.2 in
    (a.0 ∷ b.0, g.one_statement a.1 b.1)

pub part_back : (q : Part) (t : Lexeme) (ts rest : List Lexeme) → AllOf (part_on q t.class) ts rest → Is q (t ∷ ts) rest
part_back (a_value n) t ts rest h = let r = summed_back n t ts rest t.class refl h in value_by n (t ∷ ts) r.0 rest r.1 r.2 r.3
part_back (a_later n) t ts rest h =
    let r = summed_back n t ts rest t.class refl (of_maybe (then_ (sum_on n t.class) (after_sum n ∷ [])) ts rest h) in
    later_by n (t ∷ ts) r.0 rest r.1 r.2 r.3
part_back (after_sum n) t ts rest h = comma_back (a_later n) t ts rest t.class refl h
part_back (a_sum n) t ts rest h = sum_back n t ts rest t.class refl h
part_back (adds n) t ts rest h = adds_back n t ts rest t.class refl h
part_back (a_term n) t ts rest h = term_back n t ts rest t.class refl h
part_back (muls n) t ts rest h = muls_back n t ts rest t.class refl h
part_back (statements n) t ts rest h = statements_back n t ts rest t.class refl h
part_back (a_statement n) t ts rest h = statement_back n t ts rest t.class refl h
part_back (after_first n) t ts rest h = first_back n t ts rest t.class refl h
part_back later_names t ts rest h = names_back t ts rest t.class refl h
part_back after_target t ts rest h = comma_back later_names t ts rest t.class refl h
part_back (a_word n) t ts rest h = word_back n t ts rest t.class refl h
part_back (a_signed n) t ts rest h = signed_back n t ts rest t.class refl h
part_back (a_power n) t ts rest h = power_back n t ts rest t.class refl h
part_back (a_postfix n) t ts rest h = postfix_back n t ts rest t.class refl h
part_back (an_atom n) t ts rest h = atom_back n t ts rest t.class refl h
part_back (posts n) t ts rest h = posts_back n t ts rest t.class refl h
part_back (a_post n) t ts rest h = post_back n t ts rest t.class refl h
part_back (args n) t ts rest h = args_back n t ts rest t.class refl h
part_back (an_arg n) t ts rest h = arg_back n t ts rest t.class refl h
part_back (after_arg n) t ts rest h = comma_back (args n) t ts rest t.class refl h
part_back (after_name n) t ts rest h = name_back n t ts rest t.class refl h
part_back (token i) t ts rest h = token_back i t ts rest (same i t.class) refl h

pub inr_name : (n : ℕ) (ts : List Lexeme) → Is (after_name n) ts ts
inr_name n ts = inr (ts, ts, ts, ([], g.no_post), no_power n ts, ([], g.no_mul), ([], g.no_add))
