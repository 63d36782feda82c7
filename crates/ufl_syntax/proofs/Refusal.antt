-- The refused token, in the words of the grammar.
use Rattle.std.proofs.Common.{[], ◌∷◌, ◌++◌, ◌≡◌, ◌≤◌, ◌<◌, ◌+◌, ◌⊎◌, inl, inr, true, Bool, List, ℕ, zero, suc, refl, sym, ap, subst, ◌∙◌, append_assoc, append-nil, arith}
use Rattle.ufl_syntax.specs.declared.class.Class.TheVariants as k
use Rattle.ufl_syntax.specs.declared.class.Lexeme.{Lexeme}
use Rattle.ufl_syntax.specs.declared.tree.Stmt.{Stmt}
use Rattle.ufl_syntax.specs.Grammar.{File, no_statement}
use Rattle.ufl_syntax.specs.Depth.{depth_at, outside}
use Rattle.ufl_syntax.specs.Machine.{run, all_may, Outcome, ended, stopped, sank, statements}
use Rattle.ufl_syntax.specs.Machine as m
use Rattle.ufl_syntax.specs.Refusal.{Begins, BeginsAny, BeginsNone, IsRefused, IsWrong, IsTooDeep, is_opening}
use Rattle.ufl_syntax.proofs.Words.{All}
use Rattle.ufl_syntax.proofs.Viable.{refuses, sinks, ends, whole, split, sinks_one}
use Rattle.ufl_syntax.proofs.Room.{lifts, Surfaces, stopped_lifts, sank_lifts, ended_lifts}
use Rattle.ufl_syntax.proofs.Depth.{depth_sunk, depth_wrong, depth_held, line_closed, fits_start}
use Rattle.ufl_syntax.proofs.Complete.{no_file, no_file_deep, runs_whole}

begun : (n : ℕ) (front : List Lexeme) → ((more : List Lexeme) × All (statements n ∷ []) (front ++ more) []) → Begins n front
begun n front r = let w = r.1 in (r.0, w.1.0, subst (λ m. File n (front ++ r.0) w.1.0 m) w.2 w.1.1)

-- tokens that run out, in good order or not, can be gone on with
pub ended_begins : (n : ℕ) (ts : List Lexeme) (b : Bool) → run (statements n ∷ []) ts ≡ ended b → Begins n ts
ended_begins n [] b h = ([], [], no_statement)
ended_begins n (t ∷ ts) b h = begun n (t ∷ ts) (ends t (t ∷ ts) (statements n ∷ []) b h)

-- the bad token among the tokens that it begins
pub one_bad : (front : List Lexeme) (bad : Lexeme) (more : List Lexeme) → (front ++ bad ∷ []) ++ more ≡ front ++ bad ∷ more
one_bad front bad more = append_assoc front (bad ∷ []) more

begins_none : (n : ℕ) (front : List Lexeme) (bad : Lexeme) → ((other : List Lexeme) (sts : List Stmt) → File n (front ++ bad ∷ other) sts [] → ⊥) → BeginsNone n (front ++ bad ∷ [])
begins_none n front bad h more sts d = h more sts (subst (λ ts. File n ts sts []) (one_bad front bad more) d)

raised : (k n : ℕ) (ts us : List Lexeme) → run (statements n ∷ []) ts ≡ stopped us → run (statements (k + n) ∷ []) ts ≡ stopped us
raised zero n ts us h = let e : n ≡ 0 + n = omega arith in subst (λ i. run (statements i ∷ []) ts ≡ stopped us) e h
raised (suc k) n ts us h =
    let e : suc (k + n) ≡ suc k + n = omega arith in
    subst (λ i. run (statements i ∷ []) ts ≡ stopped us) e (stopped_lifts ts (statements (k + n) ∷ []) us (raised k n ts us h))

lifted_end : (n : ℕ) (ts : List Lexeme) (b : Bool) → run (statements n ∷ []) ts ≡ ended b → (c : Bool) × (run (statements (suc n) ∷ []) ts ≡ ended c)
unfolding run
lifted_end n ts b h =
    let r = ended_lifts ts [] (statements n ∷ []) b (subst (λ l. run (statements n ∷ []) l ≡ ended b) (sym (append-nil ts)) h) in
    (all_may (lifts r.0), subst (λ l. run (statements (suc n) ∷ []) l ≡ ended (all_may (lifts r.0))) (append-nil ts) (r.1 []))

raised_end : (k n : ℕ) (ts : List Lexeme) (b : Bool) → run (statements n ∷ []) ts ≡ ended b → (c : Bool) × (run (statements (k + n) ∷ []) ts ≡ ended c)
raised_end zero n ts b h = let e : n ≡ 0 + n = omega arith in (b, subst (λ i. run (statements i ∷ []) ts ≡ ended b) e h)
raised_end (suc k) n ts b h =
    let e : suc (k + n) ≡ suc k + n = omega arith in
    let r = raised_end k n ts b h in
    let q = lifted_end (k + n) ts r.0 r.1 in
    (q.0, subst (λ i. run (statements i ∷ []) ts ≡ ended q.0) e q.1)

-- what can't come where there is so much room can't come where there is more or less
no_room : (n m : ℕ) (ts us : List Lexeme) (b : Bool) → run (statements n ∷ []) ts ≡ stopped us → run (statements m ∷ []) ts ≡ ended b → ⊥
no_room n m ts us b h i =
    let e : m + n ≡ n + m = omega arith in
    let r = raised_end n m ts b i in
    let x : stopped us ≡ ended r.0 = sym (subst (λ j. run (statements j ∷ []) ts ≡ stopped us) e (raised m n ts us h)) ∙ r.1 in
    cc

none_goes_on : (n : ℕ) (front : List Lexeme) (bad : Lexeme) → ((other : List Lexeme) → run (statements n ∷ []) (front ++ bad ∷ other) ≡ stopped (bad ∷ other)) → BeginsAny (front ++ bad ∷ []) → ⊥
none_goes_on n front bad h (m, d) =
    no_room n m (front ++ bad ∷ d.0) (bad ∷ d.0) true (h d.0) (subst (λ ts. run (statements m ∷ []) ts ≡ ended true) (one_bad front bad d.0) (runs_whole d.2))

wrong_depth : (n : ℕ) (front : List Lexeme) (bad : Lexeme) → 2 ≤ n → run (statements n ∷ []) (front ++ bad ∷ []) ≡ stopped (bad ∷ []) → is_opening bad.class ≡ true → depth_at (front ++ bad ∷ []) ≤ n
unfolding depth_at
wrong_depth n front bad l h = depth_wrong l front bad [] (statements n ∷ []) outside (fits_start n) h

sunk_depth : (n : ℕ) (front : List Lexeme) (bad : Lexeme) → 2 ≤ n → run (statements n ∷ []) (front ++ bad ∷ []) ≡ sank (bad ∷ []) → n < depth_at (front ++ bad ∷ [])
unfolding depth_at
sunk_depth n front bad l h = omega (arith, depth_sunk l front bad [] (statements n ∷ []) outside (fits_start n) h)

pub is_refused : (n : ℕ) (ts : List Lexeme) (bad : Lexeme) (after : List Lexeme) → 2 ≤ n → run (statements n ∷ []) ts ≡ stopped (bad ∷ after)
    → (front : List Lexeme) × (ts ≡ front ++ bad ∷ after) × IsRefused n front bad × IsWrong n front bad
is_refused n ts bad after l h =
    let r = refuses ts (statements n ∷ []) bad after h in (
      r.0,
      r.1,
      (begun n r.0 r.2, begins_none n r.0 bad (λ other sts v. no_file n (r.0 ++ bad ∷ other) sts (bad ∷ other) v (r.3 other))),
      (none_goes_on n r.0 bad r.3, wrong_depth n r.0 bad l (r.3 [])),
    )

surfaced : (n : ℕ) (front : List Lexeme) (bad : Lexeme) → Surfaces (statements n ∷ []) (front ++ bad ∷ []) bad [] → BeginsAny (front ++ bad ∷ []) ⊎ (is_opening bad.class ≡ true)
unfolding run
surfaced n front bad (inl h) = inr h.1
surfaced n front bad (inr h) = inl (suc n, ended_begins (suc n) (front ++ bad ∷ []) (all_may h.0) h.1)

pub is_sunk : (n : ℕ) (ts : List Lexeme) (bad : Lexeme) (after : List Lexeme) → 2 ≤ n → run (statements n ∷ []) ts ≡ sank (bad ∷ after)
    → (front : List Lexeme) × (ts ≡ front ++ bad ∷ after) × IsRefused n front bad × IsTooDeep n front bad
is_sunk n ts bad after l h =
    let r = sinks ts (statements n ∷ []) bad after h in (
      r.0,
      r.1,
      (begun n r.0 r.2, begins_none n r.0 bad (λ other sts v. no_file_deep n (r.0 ++ bad ∷ other) sts (bad ∷ other) v (r.3 other))),
      (sunk_depth n r.0 bad l (r.3 []), surfaced n r.0 bad (sank_lifts (r.0 ++ bad ∷ []) (statements n ∷ []) bad [] (r.3 []))),
    )

-- the first of tokens that are a list of statements run out
pub runs_out : (n : ℕ) (front more : List Lexeme) (sts : List Stmt) → File n (front ++ more) sts [] → (b : Bool) × (run (statements n ∷ []) front ≡ ended b)
unfolding run
runs_out n front more sts d =
    let r = split front more (statements n ∷ []) true (runs_whole d) in
    (all_may r.0, subst (λ ts. run (statements n ∷ []) ts ≡ ended (all_may r.0)) (append-nil front) (r.1 []))

-- Tokens of which the last ends a line, and that can be gone on with, are a list of statements.
pub closed_begins : (n : ℕ) (front : List Lexeme) (end : Lexeme) → 2 ≤ n → end.class ≡ k.End → Begins n (front ++ end ∷ []) → (sts : List Stmt) × File n (front ++ end ∷ []) sts []
closed_begins n front end l i (more, sts, d) =
    let r = runs_out n (front ++ end ∷ []) more sts d in
    let b = line_closed l front end (statements n ∷ []) outside r.0 (fits_start n) i r.1 in
    let w = whole (front ++ end ∷ []) (statements n ∷ []) (r.1 ∙ ap ended b) in
    (w.1.0, subst (λ rest. File n (front ++ end ∷ []) w.1.0 rest) w.2 w.1.1)

-- What some list of statements begins with is no deeper than the room there is for it.
pub depth_within : (n : ℕ) (ts : List Lexeme) → 2 ≤ n → Begins n ts → depth_at ts ≤ n
unfolding depth_at
depth_within n ts l (more, sts, d) =
    let r = runs_out n ts more sts d in
    depth_held l ts (statements n ∷ []) outside r.0 (fits_start n) r.1

enough_by : (n : ℕ) (front : List Lexeme) (bad : Lexeme) (z : List m.Part) (o : Outcome) → 2 ≤ n → ((rest : List Lexeme) → run (statements n ∷ []) (front ++ rest) ≡ run z rest)
    → BeginsAny (front ++ bad ∷ []) → depth_at (front ++ bad ∷ []) ≤ n → run (statements n ∷ []) (front ++ bad ∷ []) ≡ o → Begins n (front ++ bad ∷ [])
enough_by n front bad z (ended b) l h a i e = ended_begins n (front ++ bad ∷ []) b e
enough_by n front bad z (stopped us) l h a i e =
    let r = runs_out a.0 (front ++ bad ∷ []) a.1.0 a.1.1 a.1.2 in
    absurd (no_room n a.0 (front ++ bad ∷ []) us r.0 e r.1)
enough_by n front bad z (sank us) l h a i e =
    let x = sinks_one bad us z (sym (h (bad ∷ [])) ∙ e) in
    absurd (omega (arith, i, sunk_depth n front bad l (e ∙ ap sank x)))

-- A token that can be gone on with in some room can be in so much, where no more is open at it.
pub room_enough : (n : ℕ) (front : List Lexeme) (bad : Lexeme) → 2 ≤ n → Begins n front → BeginsAny (front ++ bad ∷ []) → depth_at (front ++ bad ∷ []) ≤ n → Begins n (front ++ bad ∷ [])
room_enough n front bad l (more, sts, d) a i =
    let r = split front more (statements n ∷ []) true (runs_whole d) in
    enough_by n front bad r.0 (run (statements n ∷ []) (front ++ bad ∷ [])) l r.1 a i refl

-- a run that stops, stops at a token
abbrev Stop : Outcome → Type 0
Stop (ended b) = Unit {0}
Stop (stopped ts) = (bad : Lexeme) × (after : List Lexeme) × (ts ≡ bad ∷ after)
Stop (sank ts) = (bad : Lexeme) × (after : List Lexeme) × (ts ≡ bad ∷ after)

stop_by : (x : m.Next) (t : Lexeme) (ts : List Lexeme) → ((s : List m.Part) → Stop (run s ts)) → Stop (m.resume (λ s. run s ts) (t ∷ ts) x)
stop_by (m.goes_on s) t ts h = h s
stop_by m.is_wrong t ts h = (t, ts, refl)
stop_by m.is_deep t ts h = (t, ts, refl)

stop : (ts : List Lexeme) (s : List m.Part) → Stop (run s ts)
unfolding run
stop [] s = tt
stop (t ∷ ts) s = stop_by (m.step s t.class) t ts (stop ts)

pub stops_at : (ts : List Lexeme) (s : List m.Part) (us : List Lexeme) → run s ts ≡ stopped us → (bad : Lexeme) × (after : List Lexeme) × (us ≡ bad ∷ after)
stops_at ts s us h = subst Stop h (stop ts s)

pub sinks_at : (ts : List Lexeme) (s : List m.Part) (us : List Lexeme) → run s ts ≡ sank us → (bad : Lexeme) × (after : List Lexeme) × (us ≡ bad ∷ after)
sinks_at ts s us h = subst Stop h (stop ts s)
