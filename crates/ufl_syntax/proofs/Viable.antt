-- Up to the refused token the text can be gone on with, and the refusal hangs on nothing after it.
use Rattle.std.proofs.Common.{[], ◌∷◌, ◌++◌, ◌≡◌, true, false, Bool, if◌then◌else◌, List, inl, ℕ, zero, suc, refl, sym, ap, subst, ◌∙◌}
use Rattle.ufl_syntax.specs.declared.class.Class.{Class}
use Rattle.ufl_syntax.specs.declared.class.Class.TheVariants as k
use Rattle.ufl_syntax.specs.declared.class.Lexeme.{Lexeme}
use Rattle.ufl_syntax.specs.declared.tree.Syn.TheVariants as s
use Rattle.ufl_syntax.specs.Grammar as g
use Rattle.ufl_syntax.specs.Machine as m
use Rattle.ufl_syntax.specs.Machine.{Part, Step, takes, skips, wrong, deep, then_, part_on, signed_on, atom_on, sum_on, term_on, first_on, statement_on, word_on, opening, step, step_by, run, resume, goes_on, is_wrong, is_deep, Outcome, ended, stopped, sank, may_be_empty, all_may, if_same, same, statements, a_statement, after_first, later_names, after_target, a_value, a_later, after_sum, a_sum, adds, a_term, muls, a_signed, a_power, a_postfix, an_atom, posts, a_post, args, an_arg, after_arg, after_name, a_word, token}
use Rattle.ufl_syntax.proofs.Steps.{moves, moves_then, moves_signed, moves_term, moves_sum, moves_atom, moves_inside}
use Rattle.ufl_syntax.proofs.Complete.{moves_postfix}
use Rattle.ufl_syntax.proofs.Words.{Is, All, AllOf, all_append, part_back, no_power, inr_name, first_of}

no_skip : (x : Step) → moves x ≡ true → x ≡ skips → (b : Bool) → b ≡ true
no_skip x h e b = cc

moves_value : (n : ℕ) (j : Class) → moves (part_on (a_value n) j) ≡ true
moves_value n j = moves_then (sum_on n j) _ ∙ moves_sum n j

moves_first : (n : ℕ) (j : Class) → moves (first_on n j) ≡ true
moves_first n k.Comma = refl
moves_first n _ = refl

moves_statement : (n : ℕ) (j : Class) → moves (statement_on n j) ≡ true
moves_statement n k.Open = refl
moves_statement n _ = refl

moves_opening : (n : ℕ) → moves (opening n) ≡ true
moves_opening zero = refl
moves_opening (suc n) = refl

moves_word : (n : ℕ) (j : Class) → moves (word_on n j) ≡ true
moves_word n k.Open = moves_opening n
moves_word n k.OpenList = moves_opening n
moves_word n _ = refl

moves_post : (n : ℕ) (j : Class) → moves (part_on (a_post n) j) ≡ true
moves_post n k.Open = moves_inside n _
moves_post n k.OpenList = moves_inside n _
moves_post n _ = refl

moves_arg : (n : ℕ) (j : Class) → moves (part_on (an_arg n) j) ≡ true
moves_arg n (k.Name b) = refl
moves_arg n k.Number = moves_sum n k.Number
moves_arg n k.Text = moves_sum n k.Text
moves_arg n k.Open = moves_sum n k.Open
moves_arg n k.OpenList = moves_sum n k.OpenList
moves_arg n k.Plus = moves_sum n k.Plus
moves_arg n k.Minus = moves_sum n k.Minus
moves_arg n _ = refl

moves_same : (b : Bool) → moves (if_same b) ≡ true
moves_same true = refl
moves_same false = refl

skips_may : (q : Part) (j : Class) → part_on q j ≡ skips → may_be_empty q ≡ true
skips_may (a_value n) j e = no_skip (part_on (a_value n) j) (moves_value n j) e _
skips_may (a_sum n) j e = no_skip (part_on (a_sum n) j) (moves_sum n j) e _
skips_may (a_statement n) j e = no_skip (part_on (a_statement n) j) (moves_statement n j) e _
skips_may (after_first n) j e = no_skip (part_on (after_first n) j) (moves_first n j) e _
skips_may (a_word n) j e = no_skip (part_on (a_word n) j) (moves_word n j) e _
skips_may (a_term n) j e = no_skip (part_on (a_term n) j) (moves_term n j) e _
skips_may (a_signed n) j e = no_skip (part_on (a_signed n) j) (moves_signed n j) e _
skips_may (a_postfix n) j e = no_skip (part_on (a_postfix n) j) (moves_postfix n j) e _
skips_may (an_atom n) j e = no_skip (part_on (an_atom n) j) (moves_atom n j) e _
skips_may (a_post n) j e = no_skip (part_on (a_post n) j) (moves_post n j) e _
skips_may (an_arg n) j e = no_skip (part_on (an_arg n) j) (moves_arg n j) e _
skips_may (token i) j e = no_skip (if_same (same i j)) (moves_same (same i j)) e _
skips_may _ j e = refl

empty : (q : Part) (ts : List Lexeme) → may_be_empty q ≡ true → Is q ts ts
empty (statements n) ts h = ([], g.no_statement)
empty later_names ts h = ([], g.no_name)
empty after_target ts h = inl refl
empty (muls n) ts h = ([], g.no_mul)
empty (a_statement n) ts h = cc
empty (after_first n) ts h = cc
empty (a_term n) ts h = cc
empty (a_word n) ts h = cc
empty (a_later n) ts h = ([], g.no_later)
empty (after_sum n) ts h = inl refl
empty (adds n) ts h = ([], g.no_add)
empty (a_power n) ts h = no_power n ts
empty (posts n) ts h = ([], g.no_post)
empty (args n) ts h = ([], g.no_arg)
empty (after_arg n) ts h = inl refl
empty (after_name n) ts h = inr_name n ts
empty (a_value n) ts h = cc
empty (a_sum n) ts h = cc
empty (a_signed n) ts h = cc
empty (a_postfix n) ts h = cc
empty (an_atom n) ts h = cc
empty (a_post n) ts h = cc
empty (an_arg n) ts h = cc
empty (token i) ts h = cc

abbrev AllNext : m.Next → List Lexeme → List Lexeme → Type 0
AllNext (goes_on ps) ts rest = All ps ts rest
AllNext _ ts rest = ⊥

back_by : (q : Part) (stack : List Part) (t : Lexeme) (ts rest : List Lexeme) (x : Step) → part_on q t.class ≡ x
    → (AllNext (step stack t.class) ts rest → All stack (t ∷ ts) rest) → AllNext (step_by x stack (step stack t.class)) ts rest → All (q ∷ stack) (t ∷ ts) rest
back_by q stack t ts rest (takes ps) e below h =
    let r = all_append ps stack ts rest h in
    (r.0, part_back q t ts r.0 (subst (λ y. AllOf y ts r.0) (sym e) r.1), r.2)
back_by q stack t ts rest skips e below h = (t ∷ ts, empty q (t ∷ ts) (skips_may q t.class e), below h)
back_by q stack t ts rest wrong e below h = absurd h
back_by q stack t ts rest deep e below h = absurd h

step_back : (stack : List Part) (t : Lexeme) (ts rest : List Lexeme) → AllNext (step stack t.class) ts rest → All stack (t ∷ ts) rest
unfolding step
step_back [] t ts rest h = absurd h
step_back (q ∷ stack) t ts rest h = back_by q stack t ts rest (part_on q t.class) refl (step_back stack t ts rest) h

of_class : Lexeme → Class → Lexeme
of_class t j = record t { class = j }

a_short_sum : {n : ℕ} (t : Lexeme) (rest : List Lexeme) → t.class ≡ k.Name false → g.Sum n (t ∷ rest) (s.Name t.span) rest
a_short_sum t rest h = g.sum (g.term (g.plain (g.postfix (g.a_name h) g.no_post)) g.no_mul) g.no_add

word : (t : Lexeme) (q : Part) (rest : List Lexeme) → (ts : List Lexeme) × Is q ts rest
unfolding of_class
word t (token i) rest = (of_class t i ∷ rest, (of_class t i, refl, refl))
word t (a_word n) rest = (of_class t (k.Name false) ∷ rest, (of_class t (k.Name false), false, refl, refl))
word t (an_atom n) rest = (of_class t (k.Name false) ∷ rest, (_, g.a_name refl))
word t (a_postfix n) rest = (of_class t (k.Name false) ∷ rest, (_, g.postfix (g.a_name refl) g.no_post))
word t (a_signed n) rest = (of_class t (k.Name false) ∷ rest, (_, g.plain (g.postfix (g.a_name refl) g.no_post)))
word t (a_term n) rest = (of_class t (k.Name false) ∷ rest, (_, g.term (g.plain (g.postfix (g.a_name refl) g.no_post)) g.no_mul))
word t (a_sum n) rest = (of_class t (k.Name false) ∷ rest, (_, a_short_sum (of_class t (k.Name false)) rest refl))
word t (a_value n) rest = (of_class t (k.Name false) ∷ rest, (_, g.single (a_short_sum (of_class t (k.Name false)) rest refl)))
word t (an_arg n) rest = (of_class t (k.Name false) ∷ rest, (_, g.positional (a_short_sum (of_class t (k.Name false)) rest refl)))
word t (a_post n) rest = (of_class t k.Dot ∷ of_class t (k.Name false) ∷ rest, (_, g.attr refl refl))
word t (after_first n) rest =
    let name = of_class t (k.Name false) in
    let end = of_class t k.End in
    let eq = of_class t k.Assign in
    (eq ∷ name ∷ end ∷ rest, inl (eq, name ∷ end ∷ rest, refl, refl, (_, end, g.single (a_short_sum name (end ∷ rest) refl), refl)))
word t (a_statement n) rest =
    let name = of_class t (k.Name false) in
    let end = of_class t k.End in
    let eq = of_class t k.Assign in
    (name ∷ eq ∷ name ∷ end ∷ rest, first_of n name (eq ∷ name ∷ end ∷ rest) rest false refl (inl (eq, name ∷ end ∷ rest, refl, refl, (_, end, g.single (a_short_sum name (end ∷ rest) refl), refl))))
word t (statements n) rest = (rest, empty (statements n) rest refl)
word t later_names rest = (rest, empty later_names rest refl)
word t after_target rest = (rest, empty after_target rest refl)
word t (a_later n) rest = (rest, empty (a_later n) rest refl)
word t (after_sum n) rest = (rest, empty (after_sum n) rest refl)
word t (adds n) rest = (rest, empty (adds n) rest refl)
word t (muls n) rest = (rest, empty (muls n) rest refl)
word t (a_power n) rest = (rest, empty (a_power n) rest refl)
word t (posts n) rest = (rest, empty (posts n) rest refl)
word t (args n) rest = (rest, empty (args n) rest refl)
word t (after_arg n) rest = (rest, empty (after_arg n) rest refl)
word t (after_name n) rest = (rest, empty (after_name n) rest refl)

words : (t : Lexeme) (stack : List Part) (rest : List Lexeme) → (ts : List Lexeme) × All stack ts rest
words t [] rest = (rest, refl)
words t (q ∷ stack) rest =
    let r = words t stack rest in
    let w = word t q r.0 in
    (w.0, (r.0, w.1, r.1))

-- The tokens before the bad one can be gone on with, and with the bad one the machine stops there, whatever follows.
abbrev pub Refuses : List Part → List Lexeme → Lexeme → List Lexeme → Type 0
Refuses stack ts bad after =
    (front : List Lexeme) × (ts ≡ front ++ bad ∷ after)
    × ((more : List Lexeme) × All stack (front ++ more) [])
    × ((other : List Lexeme) → run stack (front ++ bad ∷ other) ≡ stopped (bad ∷ other))

abbrev pub left_of : Outcome → List Lexeme
left_of (ended b) = []
left_of (stopped ts) = ts
left_of (sank ts) = ts

abbrev first_of_ : Lexeme → List Lexeme → Lexeme
first_of_ t [] = t
first_of_ t (u ∷ us) = u

run_on : (stack : List Part) (t : Lexeme) (ts : List Lexeme) (x : m.Next) → step stack t.class ≡ x → run stack (t ∷ ts) ≡ resume (λ s. run s ts) (t ∷ ts) x
unfolding run
run_on stack t ts x e = ap (resume (λ s. run s ts) (t ∷ ts)) e

refuses_by : (t : Lexeme) (ts : List Lexeme) (stack : List Part) (bad : Lexeme) (after : List Lexeme) (x : m.Next) → step stack t.class ≡ x
    → ((next : List Part) → run next ts ≡ stopped (bad ∷ after) → Refuses next ts bad after) → resume (λ s. run s ts) (t ∷ ts) x ≡ stopped (bad ∷ after) → Refuses stack (t ∷ ts) bad after
refuses_by t ts stack bad after (goes_on next) e below h =
    let r = below next h in (
      t ∷ r.0,
      ap (λ us. t ∷ us) r.1,
      (r.2.0, step_back stack t (r.0 ++ r.2.0) [] (subst (λ y. AllNext y (r.0 ++ r.2.0) []) (sym e) r.2.1)),
      λ other. run_on stack t (r.0 ++ bad ∷ other) (goes_on next) e ∙ r.3 other,
    )
refuses_by t ts stack bad after is_wrong e below h =
    let same_list : t ∷ ts ≡ bad ∷ after = ap left_of h in
    let same_token : t ≡ bad = ap (first_of_ t) same_list in (
      [],
      same_list,
      words bad stack [],
      λ other. run_on stack bad other is_wrong (ap (λ u. step stack u.class) (sym same_token) ∙ e),
    )
refuses_by t ts stack bad after is_deep e below h = cc

pub refuses : (ts : List Lexeme) (stack : List Part) (bad : Lexeme) (after : List Lexeme) → run stack ts ≡ stopped (bad ∷ after) → Refuses stack ts bad after
unfolding run
refuses [] stack bad after h = cc
refuses (t ∷ ts) stack bad after h = refuses_by t ts stack bad after (step stack t.class) refl (λ next e. refuses ts next bad after e) h

-- The tokens before the bad one can be gone on with, and with the bad one the machine stops there, whatever follows.
abbrev pub Sinks : List Part → List Lexeme → Lexeme → List Lexeme → Type 0
Sinks stack ts bad after =
    (front : List Lexeme) × (ts ≡ front ++ bad ∷ after)
    × ((more : List Lexeme) × All stack (front ++ more) [])
    × ((other : List Lexeme) → run stack (front ++ bad ∷ other) ≡ sank (bad ∷ other))

sinks_by : (t : Lexeme) (ts : List Lexeme) (stack : List Part) (bad : Lexeme) (after : List Lexeme) (x : m.Next) → step stack t.class ≡ x
    → ((next : List Part) → run next ts ≡ sank (bad ∷ after) → Sinks next ts bad after) → resume (λ s. run s ts) (t ∷ ts) x ≡ sank (bad ∷ after) → Sinks stack (t ∷ ts) bad after
sinks_by t ts stack bad after (goes_on next) e below h =
    let r = below next h in (
      t ∷ r.0,
      ap (λ us. t ∷ us) r.1,
      (r.2.0, step_back stack t (r.0 ++ r.2.0) [] (subst (λ y. AllNext y (r.0 ++ r.2.0) []) (sym e) r.2.1)),
      λ other. run_on stack t (r.0 ++ bad ∷ other) (goes_on next) e ∙ r.3 other,
    )
sinks_by t ts stack bad after is_deep e below h =
    let same_list : t ∷ ts ≡ bad ∷ after = ap left_of h in
    let same_token : t ≡ bad = ap (first_of_ t) same_list in (
      [],
      same_list,
      words bad stack [],
      λ other. run_on stack bad other is_deep (ap (λ u. step stack u.class) (sym same_token) ∙ e),
    )
sinks_by t ts stack bad after is_wrong e below h = cc

pub sinks : (ts : List Lexeme) (stack : List Part) (bad : Lexeme) (after : List Lexeme) → run stack ts ≡ sank (bad ∷ after) → Sinks stack ts bad after
unfolding run
sinks [] stack bad after h = cc
sinks (t ∷ ts) stack bad after h = sinks_by t ts stack bad after (step stack t.class) refl (λ next e. sinks ts next bad after e) h

ends_by : (u t : Lexeme) (ts : List Lexeme) (stack : List Part) (b : Bool) (x : m.Next) → step stack t.class ≡ x → ((next : List Part) → run next ts ≡ ended b → (more : List Lexeme) × All next (ts ++ more) [])
    → resume (λ s. run s ts) (t ∷ ts) x ≡ ended b → (more : List Lexeme) × All stack (t ∷ (ts ++ more)) []
ends_by u t ts stack b (goes_on next) e below h =
    let r = below next h in
    (r.0, step_back stack t (ts ++ r.0) [] (subst (λ y. AllNext y (ts ++ r.0) []) (sym e) r.1))
ends_by u t ts stack b is_wrong e below h = cc
ends_by u t ts stack b is_deep e below h = cc

-- tokens that run out can be gone on with
pub ends : (u : Lexeme) (ts : List Lexeme) (stack : List Part) (b : Bool) → run stack ts ≡ ended b → (more : List Lexeme) × All stack (ts ++ more) []
unfolding run
ends u [] stack b h = words u stack []
ends u (t ∷ ts) stack b h = ends_by u t ts stack b (step stack t.class) refl (λ next e. ends u ts next b e) h

empty_by : (q : Part) (stack : List Part) (b : Bool) → may_be_empty q ≡ b → (if b then all_may stack else false) ≡ true → (all_may stack ≡ true → All stack [] []) → All (q ∷ stack) [] []
empty_by q stack true e h below = ([], empty q [] e, below h)
empty_by q stack false e h below = cc

empties : (stack : List Part) → all_may stack ≡ true → All stack [] []
empties [] h = refl
empties (q ∷ stack) h = empty_by q stack (may_be_empty q) refl h (empties stack)

ended_is : (a b : Bool) → ended a ≡ ended b → a ≡ b
ended_is a b e = cc

whole_by : (t : Lexeme) (ts : List Lexeme) (stack : List Part) (x : m.Next) → step stack t.class ≡ x → ((next : List Part) → run next ts ≡ ended true → All next ts [])
    → resume (λ s. run s ts) (t ∷ ts) x ≡ ended true → All stack (t ∷ ts) []
whole_by t ts stack (goes_on next) e below h = step_back stack t ts [] (subst (λ y. AllNext y ts []) (sym e) (below next h))
whole_by t ts stack is_wrong e below h = cc
whole_by t ts stack is_deep e below h = cc

-- tokens that run out where nothing more is wanted are all that was wanted
pub whole : (ts : List Lexeme) (stack : List Part) → run stack ts ≡ ended true → All stack ts []
unfolding run
whole [] stack h = empties stack (ended_is (all_may stack) true h)
whole (t ∷ ts) stack h = whole_by t ts stack (step stack t.class) refl (λ next. whole ts next) h

split_by : (t : Lexeme) (front more : List Lexeme) (b : Bool) (x : m.Next) → ((s : List Part) → run s (front ++ more) ≡ ended b → (z : List Part) × ((rest : List Lexeme) → run s (front ++ rest) ≡ run z rest))
    → resume (λ s. run s (front ++ more)) (t ∷ (front ++ more)) x ≡ ended b → (z : List Part) × ((rest : List Lexeme) → resume (λ s. run s (front ++ rest)) (t ∷ (front ++ rest)) x ≡ run z rest)
split_by t front more b (goes_on s) below e = below s e
split_by t front more b is_wrong below e = cc
split_by t front more b is_deep below e = cc

-- what is still to be read behind the first of tokens that run out
pub split : (front more : List Lexeme) (stack : List Part) (b : Bool) → run stack (front ++ more) ≡ ended b → (z : List Part) × ((rest : List Lexeme) → run stack (front ++ rest) ≡ run z rest)
unfolding run
split [] more stack b e = (stack, λ rest. refl)
split (t ∷ front) more stack b e = split_by t front more b (step stack t.class) (λ s. split front more s b) e

sinks_by_one : (bad : Lexeme) (us : List Lexeme) (x : m.Next) → resume (λ s. run s []) (bad ∷ []) x ≡ sank us → us ≡ bad ∷ []
unfolding run
sinks_by_one bad us (goes_on s) e = cc
sinks_by_one bad us is_wrong e = cc
sinks_by_one bad us is_deep e = cc

-- one token is too deep itself
pub sinks_one : (bad : Lexeme) (us : List Lexeme) (stack : List Part) → run stack (bad ∷ []) ≡ sank us → us ≡ bad ∷ []
unfolding run
sinks_one bad us stack e = sinks_by_one bad us (step stack bad.class) e
