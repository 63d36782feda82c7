-- With one more bracket, sign or `**` open, the machine does the same, until there it was too deep.
use Rattle.std.proofs.Common.{[], ◌∷◌, ◌++◌, ◌≡◌, ◌≤◌, true, false, Bool, List, ◌⊎◌, inl, inr, ℕ, zero, suc, length, refl, sym, ap, subst, ◌∙◌, arith}
use Rattle.ufl_syntax.specs.declared.class.Class.{Class}
use Rattle.ufl_syntax.specs.declared.class.Class.TheVariants as k
use Rattle.ufl_syntax.specs.declared.class.Lexeme.{Lexeme}
use Rattle.ufl_syntax.specs.Refusal.{is_opening}
use Rattle.ufl_syntax.specs.Machine as m
use Rattle.ufl_syntax.specs.Machine.{Part, Step, takes, skips, wrong, deep, then_, maybe, inside, opening, part_on, signed_on, atom_on, sum_on, term_on, post_on, posts_on, power_on, muls_on, adds_on, arg_on, args_on, name_on, names_on, first_on, statement_on, word_on, comma_on, if_same, same, step, step_by, run, resume, goes_on, is_wrong, is_deep, Outcome, ended, stopped, sank, statements, a_statement, after_first, later_names, after_target, a_value, a_later, after_sum, a_sum, adds, a_term, muls, a_signed, a_power, a_postfix, an_atom, posts, a_post, args, an_arg, after_arg, after_name, a_word, token}

abbrev pub lift : Part → Part
lift (statements n) = statements (suc n)
lift (a_statement n) = a_statement (suc n)
lift (after_first n) = after_first (suc n)
lift later_names = later_names
lift after_target = after_target
lift (a_value n) = a_value (suc n)
lift (a_later n) = a_later (suc n)
lift (after_sum n) = after_sum (suc n)
lift (a_sum n) = a_sum (suc n)
lift (adds n) = adds (suc n)
lift (a_term n) = a_term (suc n)
lift (muls n) = muls (suc n)
lift (a_signed n) = a_signed (suc n)
lift (a_power n) = a_power (suc n)
lift (a_postfix n) = a_postfix (suc n)
lift (an_atom n) = an_atom (suc n)
lift (posts n) = posts (suc n)
lift (a_post n) = a_post (suc n)
lift (args n) = args (suc n)
lift (an_arg n) = an_arg (suc n)
lift (after_arg n) = after_arg (suc n)
lift (after_name n) = after_name (suc n)
lift (a_word n) = a_word (suc n)
lift (token j) = token j

abbrev pub lifts : List Part → List Part
lifts [] = []
lifts (p ∷ ps) = lift p ∷ lifts ps

lifts_append : (ps qs : List Part) → lifts (ps ++ qs) ≡ lifts ps ++ lifts qs
lifts_append [] qs = refl
lifts_append (p ∷ ps) qs = ap (λ l. lift p ∷ l) (lifts_append ps qs)

-- what one step is with more room
abbrev Lifts : Step → Step → Type 0
Lifts (takes ps) y = y ≡ takes (lifts ps)
Lifts skips y = y ≡ skips
Lifts wrong y = y ≡ wrong
Lifts deep y = (ps : List Part) × (y ≡ takes ps)

lifts_then : (x y : Step) (qs : List Part) → Lifts x y → Lifts (then_ x qs) (then_ y (lifts qs))
lifts_then (takes ps) y qs h = ap (λ z. then_ z (lifts qs)) h ∙ ap takes (sym (lifts_append ps qs))
lifts_then skips y qs h = ap (λ z. then_ z (lifts qs)) h
lifts_then wrong y qs h = ap (λ z. then_ z (lifts qs)) h
lifts_then deep y qs h = (h.0 ++ lifts qs, ap (λ z. then_ z (lifts qs)) h.1)

lifts_maybe : (x y : Step) → Lifts x y → Lifts (maybe x) (maybe y)
lifts_maybe (takes ps) y h = ap maybe h
lifts_maybe skips y h = ap maybe h
lifts_maybe wrong y h = ap maybe h
lifts_maybe deep y h = (h.0, ap maybe h.1)

l_atom : (n : ℕ) (j : Class) → Lifts (atom_on n j) (atom_on (suc n) j)
l_atom zero k.Open = (_, refl)
l_atom (suc n) k.Open = refl
l_atom zero k.OpenList = (_, refl)
l_atom (suc n) k.OpenList = refl
l_atom n _ = refl

l_base : (n : ℕ) (j : Class) → Lifts (then_ (then_ (atom_on n j) (posts n ∷ [])) (a_power n ∷ [])) (then_ (then_ (atom_on (suc n) j) (posts (suc n) ∷ [])) (a_power (suc n) ∷ []))
l_base n j = lifts_then (then_ (atom_on n j) (posts n ∷ [])) _ (a_power n ∷ []) (lifts_then (atom_on n j) _ (posts n ∷ []) (l_atom n j))

l_signed : (n : ℕ) (j : Class) → Lifts (signed_on n j) (signed_on (suc n) j)
l_signed zero k.Plus = (_, refl)
l_signed (suc n) k.Plus = refl
l_signed zero k.Minus = (_, refl)
l_signed (suc n) k.Minus = refl
l_signed n j = l_base n j

l_term : (n : ℕ) (j : Class) → Lifts (term_on n j) (term_on (suc n) j)
l_term n j = lifts_then (signed_on n j) _ (muls n ∷ []) (l_signed n j)

l_sum : (n : ℕ) (j : Class) → Lifts (sum_on n j) (sum_on (suc n) j)
l_sum n j = lifts_then (term_on n j) _ (adds n ∷ []) (l_term n j)

l_post : (n : ℕ) (j : Class) → Lifts (post_on n j) (post_on (suc n) j)
l_post zero k.Open = (_, refl)
l_post (suc n) k.Open = refl
l_post zero k.OpenList = (_, refl)
l_post (suc n) k.OpenList = refl
l_post n k.Dot = refl
l_post n _ = refl

l_posts : (n : ℕ) (j : Class) → Lifts (posts_on n j) (posts_on (suc n) j)
l_posts n j = lifts_maybe (then_ (post_on n j) (posts n ∷ [])) _ (lifts_then (post_on n j) _ (posts n ∷ []) (l_post n j))

l_power : (n : ℕ) (j : Class) → Lifts (power_on n j) (power_on (suc n) j)
l_power zero k.Power = (_, refl)
l_power (suc n) k.Power = refl
l_power n _ = refl

l_muls : (n : ℕ) (j : Class) → Lifts (muls_on n j) (muls_on (suc n) j)
l_muls n k.Times = refl
l_muls n k.Divide = refl
l_muls n _ = refl

l_adds : (n : ℕ) (j : Class) → Lifts (adds_on n j) (adds_on (suc n) j)
l_adds n k.Plus = refl
l_adds n k.Minus = refl
l_adds n _ = refl

l_comma : (p : Part) (j : Class) → Lifts (comma_on p j) (comma_on (lift p) j)
l_comma p k.Comma = refl
l_comma p _ = refl

l_arg : (n : ℕ) (j : Class) → Lifts (arg_on n j) (arg_on (suc n) j)
l_arg n (k.Name b) = refl
l_arg n j = l_sum n j

l_name : (n : ℕ) (j : Class) → Lifts (name_on n j) (name_on (suc n) j)
l_name n k.Assign = refl
l_name n k.Power = lifts_then (power_on n k.Power) _ (muls n ∷ adds n ∷ []) (l_power n k.Power)
l_name n k.Times = refl
l_name n k.Divide = refl
l_name n k.Plus = refl
l_name n k.Minus = refl
l_name n j = lifts_then (posts_on n j) _ (a_power n ∷ muls n ∷ adds n ∷ []) (l_posts n j)

l_names : (j : Class) → Lifts (names_on j) (names_on j)
l_names (k.Name b) = refl
l_names _ = refl

l_first : (n : ℕ) (j : Class) → Lifts (first_on n j) (first_on (suc n) j)
l_first n k.Comma = refl
l_first n _ = refl

l_statement : (n : ℕ) (j : Class) → Lifts (statement_on n j) (statement_on (suc n) j)
l_statement n k.Open = refl
l_statement n _ = refl

l_same : (b : Bool) → Lifts (if_same b) (if_same b)
l_same true = refl
l_same false = refl

-- the same for a part, of which a name may be refused where its place was too deep for a bracket
abbrev LiftsAt : Class → Step → Step → Type 0
LiftsAt j (takes ps) y = y ≡ takes (lifts ps)
LiftsAt j skips y = y ≡ skips
LiftsAt j wrong y = y ≡ wrong
LiftsAt j deep y = ((y ≡ wrong) × (is_opening j ≡ true)) ⊎ ((ps : List Part) × (y ≡ takes ps))

at : (j : Class) (x y : Step) → Lifts x y → LiftsAt j x y
at j (takes ps) y h = h
at j skips y h = h
at j wrong y h = h
at j deep y h = inr h

l_word : (n : ℕ) (j : Class) → LiftsAt j (word_on n j) (word_on (suc n) j)
l_word n (k.Name b) = refl
l_word zero k.Open = inl (refl, refl)
l_word (suc n) k.Open = refl
l_word zero k.OpenList = inl (refl, refl)
l_word (suc n) k.OpenList = refl
l_word n _ = refl

l_part : (p : Part) (j : Class) → LiftsAt j (part_on p j) (part_on (lift p) j)
l_part (statements n) j = at j (part_on (statements n) j) _ (lifts_maybe (then_ (statement_on n j) (statements n ∷ [])) _ (lifts_then (statement_on n j) _ (statements n ∷ []) (l_statement n j)))
l_part (a_statement n) j = at j (statement_on n j) _ (l_statement n j)
l_part (after_first n) j = at j (first_on n j) _ (l_first n j)
l_part later_names j = at j (names_on j) _ (l_names j)
l_part after_target j = at j (comma_on later_names j) _ (l_comma later_names j)
l_part (a_value n) j = at j (part_on (a_value n) j) _ (lifts_then (sum_on n j) _ (after_sum n ∷ []) (l_sum n j))
l_part (a_later n) j = at j (part_on (a_later n) j) _ (lifts_maybe (then_ (sum_on n j) (after_sum n ∷ [])) _ (lifts_then (sum_on n j) _ (after_sum n ∷ []) (l_sum n j)))
l_part (after_sum n) j = at j (comma_on (a_later n) j) _ (l_comma (a_later n) j)
l_part (a_sum n) j = at j (sum_on n j) _ (l_sum n j)
l_part (adds n) j = at j (adds_on n j) _ (l_adds n j)
l_part (a_term n) j = at j (term_on n j) _ (l_term n j)
l_part (muls n) j = at j (muls_on n j) _ (l_muls n j)
l_part (a_signed n) j = at j (signed_on n j) _ (l_signed n j)
l_part (a_power n) j = at j (power_on n j) _ (l_power n j)
l_part (a_postfix n) j = at j (part_on (a_postfix n) j) _ (lifts_then (atom_on n j) _ (posts n ∷ []) (l_atom n j))
l_part (an_atom n) j = at j (atom_on n j) _ (l_atom n j)
l_part (posts n) j = at j (posts_on n j) _ (l_posts n j)
l_part (a_post n) j = at j (post_on n j) _ (l_post n j)
l_part (args n) j = at j (args_on n j) _ (lifts_maybe (then_ (arg_on n j) (after_arg n ∷ [])) _ (lifts_then (arg_on n j) _ (after_arg n ∷ []) (l_arg n j)))
l_part (an_arg n) j = at j (arg_on n j) _ (l_arg n j)
l_part (after_arg n) j = at j (comma_on (args n) j) _ (l_comma (args n) j)
l_part (after_name n) j = at j (name_on n j) _ (l_name n j)
l_part (a_word n) j = l_word n j
l_part (token i) j = at j (if_same (same i j)) _ (l_same (same i j))

-- the same for a stack
abbrev NextLifts : Class → m.Next → m.Next → Type 0
NextLifts j (goes_on s) y = y ≡ goes_on (lifts s)
NextLifts j is_wrong y = y ≡ is_wrong
NextLifts j is_deep y = ((y ≡ is_wrong) × (is_opening j ≡ true)) ⊎ ((s : List Part) × (y ≡ goes_on s))

next_by : (j : Class) (x y : Step) (stack : List Part) (z w : m.Next) → LiftsAt j x y → NextLifts j z w → NextLifts j (step_by x stack z) (step_by y (lifts stack) w)
next_by j (takes ps) y stack z w h i = ap (λ u. step_by u (lifts stack) w) h ∙ ap goes_on (sym (lifts_append ps stack))
next_by j skips y stack z w h i = subst (λ u. NextLifts j z (step_by u (lifts stack) w)) (sym h) i
next_by j wrong y stack z w h i = ap (λ u. step_by u (lifts stack) w) h
next_by j deep y stack z w (inl h) i = inl (ap (λ u. step_by u (lifts stack) w) h.0, h.1)
next_by j deep y stack z w (inr h) i = inr (h.0 ++ lifts stack, ap (λ u. step_by u (lifts stack) w) h.1)

step_lifts : (stack : List Part) (j : Class) → NextLifts j (step stack j) (step (lifts stack) j)
unfolding step
step_lifts [] j = refl
step_lifts (p ∷ stack) j = next_by j (part_on p j) (part_on (lift p) j) stack (step stack j) (step (lifts stack) j) (l_part p j) (step_lifts stack j)

run_on : (stack : List Part) (t : Lexeme) (ts : List Lexeme) (x : m.Next) → step stack t.class ≡ x → run stack (t ∷ ts) ≡ resume (λ s. run s ts) (t ∷ ts) x
unfolding run
run_on stack t ts x e = ap (resume (λ s. run s ts) (t ∷ ts)) e

stopped_by : (t : Lexeme) (ts : List Lexeme) (us : List Lexeme) (x y : m.Next) → NextLifts t.class x y → ((s : List Part) → run s ts ≡ stopped us → run (lifts s) ts ≡ stopped us)
    → resume (λ s. run s ts) (t ∷ ts) x ≡ stopped us → resume (λ s. run s ts) (t ∷ ts) y ≡ stopped us
stopped_by t ts us (goes_on s) y h below e = ap (resume (λ s. run s ts) (t ∷ ts)) h ∙ below s e
stopped_by t ts us is_wrong y h below e = ap (resume (λ s. run s ts) (t ∷ ts)) h ∙ e
stopped_by t ts us is_deep y h below e = cc

-- what can't come can't come with more room
pub stopped_lifts : (ts : List Lexeme) (stack : List Part) (us : List Lexeme) → run stack ts ≡ stopped us → run (lifts stack) ts ≡ stopped us
unfolding run
stopped_lifts [] stack us e = cc
stopped_lifts (t ∷ ts) stack us e = stopped_by t ts us (step stack t.class) (step (lifts stack) t.class) (step_lifts stack t.class) (λ s. stopped_lifts ts s us) e

abbrev pub Surfaces : List Part → List Lexeme → Lexeme → List Lexeme → Type 0
Surfaces stack ts bad after = ((run (lifts stack) ts ≡ stopped (bad ∷ after)) × (is_opening bad.class ≡ true)) ⊎ ((s : List Part) × (run (lifts stack) ts ≡ run s after))

first_is : (t bad : Lexeme) (ts after : List Lexeme) → sank (t ∷ ts) ≡ sank (bad ∷ after) → (t ≡ bad) × (ts ≡ after)
first_is t bad ts after e = (cc, cc)

surfaces_by : (t : Lexeme) (ts : List Lexeme) (bad : Lexeme) (after : List Lexeme) (y : m.Next) → ((y ≡ is_wrong) × (is_opening t.class ≡ true)) ⊎ ((s : List Part) × (y ≡ goes_on s)) → (t ≡ bad) × (ts ≡ after)
    → ((resume (λ s. run s ts) (t ∷ ts) y ≡ stopped (bad ∷ after)) × (is_opening bad.class ≡ true)) ⊎ ((s : List Part) × (resume (λ s. run s ts) (t ∷ ts) y ≡ run s after))
surfaces_by t ts bad after y (inl h) e =
    inl (ap (resume (λ s. run s ts) (t ∷ ts)) h.0 ∙ ap (λ u. stopped (u ∷ ts)) e.0 ∙ ap (λ us. stopped (bad ∷ us)) e.1, subst (λ u. is_opening u.class ≡ true) e.0 h.1)
surfaces_by t ts bad after y (inr h) e = inr (h.0, ap (resume (λ s. run s ts) (t ∷ ts)) h.1 ∙ ap (run h.0) e.1)

sank_by : (t : Lexeme) (ts : List Lexeme) (bad : Lexeme) (after : List Lexeme) (x y : m.Next) → NextLifts t.class x y → ((s : List Part) → run s ts ≡ sank (bad ∷ after) → Surfaces s ts bad after)
    → resume (λ s. run s ts) (t ∷ ts) x ≡ sank (bad ∷ after)
    → ((resume (λ s. run s ts) (t ∷ ts) y ≡ stopped (bad ∷ after)) × (is_opening bad.class ≡ true)) ⊎ ((s : List Part) × (resume (λ s. run s ts) (t ∷ ts) y ≡ run s after))
sank_by t ts bad after (goes_on s) y h below e = subst (λ z. ((resume (λ s. run s ts) (t ∷ ts) z ≡ stopped (bad ∷ after)) × (is_opening bad.class ≡ true)) ⊎ ((s : List Part) × (resume (λ s. run s ts) (t ∷ ts) z ≡ run s after))) (sym h) (below s e)
sank_by t ts bad after is_wrong y h below e = cc
sank_by t ts bad after is_deep y h below e = surfaces_by t ts bad after y h (first_is t bad ts after e)

-- what was too deep goes on with more room, or is an opening bracket
pub sank_lifts : (ts : List Lexeme) (stack : List Part) (bad : Lexeme) (after : List Lexeme) → run stack ts ≡ sank (bad ∷ after) → Surfaces stack ts bad after
unfolding run
sank_lifts [] stack bad after e = cc
sank_lifts (t ∷ ts) stack bad after e = sank_by t ts bad after (step stack t.class) (step (lifts stack) t.class) (step_lifts stack t.class) (λ s. sank_lifts ts s bad after) e

-- What ends well with less room passes with more, and then nothing is too deep at once.
ended_by : (t : Lexeme) (front more : List Lexeme) (b : Bool) (x y : m.Next) → NextLifts t.class x y
    → ((s : List Part) → run s (front ++ more) ≡ ended b → (q : List Part) × ((rest : List Lexeme) → run (lifts s) (front ++ rest) ≡ run (lifts q) rest))
    → resume (λ s. run s (front ++ more)) (t ∷ (front ++ more)) x ≡ ended b
    → (q : List Part) × ((rest : List Lexeme) → resume (λ s. run s (front ++ rest)) (t ∷ (front ++ rest)) y ≡ run (lifts q) rest)
ended_by t front more b (goes_on s) y h below e =
    let r = below s e in
    (r.0, λ rest. ap (resume (λ s. run s (front ++ rest)) (t ∷ (front ++ rest))) h ∙ r.1 rest)
ended_by t front more b is_wrong y h below e = cc
ended_by t front more b is_deep y h below e = cc

pub ended_lifts : (front more : List Lexeme) (stack : List Part) (b : Bool) → run stack (front ++ more) ≡ ended b → (q : List Part) × ((rest : List Lexeme) → run (lifts stack) (front ++ rest) ≡ run (lifts q) rest)
unfolding run
ended_lifts [] more stack b e = (stack, λ rest. refl)
ended_lifts (t ∷ front) more stack b e =
    ended_by t front more b (step stack t.class) (step (lifts stack) t.class) (step_lifts stack t.class) (λ s. ended_lifts front more s b) e

abbrev Shorter : List Lexeme → Outcome → Type 0
Shorter ts (ended b) = Unit {0}
Shorter ts (stopped us) = length us ≤ length ts
Shorter ts (sank us) = length us ≤ length ts

longer : (t : Lexeme) (ts : List Lexeme) (o : Outcome) → Shorter ts o → Shorter (t ∷ ts) o
longer t ts (ended b) h = tt
longer t ts (stopped us) h = omega (arith, h)
longer t ts (sank us) h = omega (arith, h)

shorter_by : (t : Lexeme) (ts : List Lexeme) (x : m.Next) → ((s : List Part) → Shorter ts (run s ts)) → Shorter (t ∷ ts) (resume (λ s. run s ts) (t ∷ ts) x)
shorter_by t ts (goes_on s) h = longer t ts (run s ts) (h s)
shorter_by t ts is_wrong h = omega arith
shorter_by t ts is_deep h = omega arith

shorter : (ts : List Lexeme) (s : List Part) → Shorter ts (run s ts)
unfolding run
shorter [] s = tt
shorter (t ∷ ts) s = shorter_by t ts (step s t.class) (shorter ts)

pub too_long : (bad : Lexeme) (after : List Lexeme) (s : List Part) → run s after ≡ sank (bad ∷ after) → ⊥
too_long bad after s e = let h : length (bad ∷ after) ≤ length after = subst (Shorter after) e (shorter after s) in absurd (omega (arith, h))

pub stops_later : (bad : Lexeme) (after : List Lexeme) (s : List Part) → run s after ≡ stopped (bad ∷ after) → ⊥
stops_later bad after s e = let h : length (bad ∷ after) ≤ length after = subst (Shorter after) e (shorter after s) in absurd (omega (arith, h))

not_deep_by : (bad : Lexeme) (after : List Lexeme) (x y : m.Next) → NextLifts bad.class x y → resume (λ s. run s after) (bad ∷ after) y ≡ sank (bad ∷ after) → ⊥
not_deep_by bad after (goes_on s) y h e = too_long bad after (lifts s) (sym (ap (resume (λ s. run s after) (bad ∷ after)) h) ∙ e)
not_deep_by bad after is_wrong y h e = let z : stopped (bad ∷ after) ≡ sank (bad ∷ after) = sym (ap (resume (λ s. run s after) (bad ∷ after)) h) ∙ e in cc
not_deep_by bad after is_deep y (inl h) e = let z : stopped (bad ∷ after) ≡ sank (bad ∷ after) = sym (ap (resume (λ s. run s after) (bad ∷ after)) h.0) ∙ e in cc
not_deep_by bad after is_deep y (inr h) e = too_long bad after h.0 (sym (ap (resume (λ s. run s after) (bad ∷ after)) h.1) ∙ e)

-- with room left nothing is too deep
pub not_deep : (s : List Part) (bad : Lexeme) (after : List Lexeme) → run (lifts s) (bad ∷ after) ≡ sank (bad ∷ after) → ⊥
unfolding run
not_deep s bad after e = not_deep_by bad after (step s bad.class) (step (lifts s) bad.class) (step_lifts s bad.class) e
