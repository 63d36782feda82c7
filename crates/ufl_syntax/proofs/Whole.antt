-- A list of tokens is a list of statements, ends too early, or has one refused token.
use Rattle.std.proofs.Common.{[], ◌∷◌, ◌≡◌, ◌≤◌, ◌⊎◌, inl, inr, true, false, List, ℕ, refl, sym, ap, subst, ◌∙◌, append_assoc, append-nil}
use Rattle.ufl_syntax.specs.declared.class.Lexeme.{Lexeme}
use Rattle.ufl_syntax.specs.Grammar.{File}
use Rattle.ufl_syntax.specs.Machine.{run, Outcome, ended, stopped, sank, statements}
use Rattle.ufl_syntax.specs.Refusal.{Begins, EndsEarly, StopsAt, Stops, AreStatements}
use Rattle.ufl_syntax.proofs.Viable.{whole}
use Rattle.ufl_syntax.proofs.Complete.{no_file_short}
use Rattle.ufl_syntax.proofs.Refusal.{ended_begins, is_refused, is_sunk, stops_at, sinks_at}
use Rattle.ufl_syntax.proofs.Only.{none_begins, one_refused}

abbrev Is : ℕ → List Lexeme → Type 0
Is n ts = AreStatements n ts ⊎ EndsEarly n ts ⊎ Stops n ts

is_by : (n : ℕ) (ts : List Lexeme) (o : Outcome) → 2 ≤ n → run (statements n ∷ []) ts ≡ o → Is n ts
is_by n ts (ended true) l h = let w = whole ts (statements n ∷ []) h in inl (w.1.0, subst (λ rest. File n ts w.1.0 rest) w.2 w.1.1)
is_by n ts (ended false) l h = inr (inl (ended_begins n ts false h, λ sts d. no_file_short n ts sts d h))
is_by n ts (stopped us) l h =
    let s = stops_at ts (statements n ∷ []) us h in
    let r = is_refused n ts s.0 s.1 l (h ∙ ap stopped s.2) in
    inr (inr (r.0, s.0, (s.1, r.1, r.2, inl r.3)))
is_by n ts (sank us) l h =
    let s = sinks_at ts (statements n ∷ []) us h in
    let r = is_sunk n ts s.0 s.1 l (h ∙ ap sank s.2) in
    inr (inr (r.0, s.0, (s.1, r.1, r.2, inr r.3)))

pub one_of_three : (n : ℕ) (ts : List Lexeme) → 2 ≤ n → Is n ts
one_of_three n ts l = is_by n ts (run (statements n ∷ []) ts) l refl

-- with a refused token, no list of statements begins with the tokens
pub never_begins : (n : ℕ) (ts : List Lexeme) → Stops n ts → Begins n ts → ⊥
never_begins n ts (front, bad, (after, e, r, w)) b =
    none_begins n front bad after r (subst (Begins n) (e ∙ sym (append_assoc front (bad ∷ []) after)) b)

pub file_begins : (n : ℕ) (ts : List Lexeme) → AreStatements n ts → Begins n ts
file_begins n ts (sts, d) = ([], sts, subst (λ l. File n l sts []) (sym (append-nil ts)) d)

pub one_stop : (n : ℕ) (ts front other : List Lexeme) (bad worse : Lexeme) → StopsAt n ts front bad → StopsAt n ts other worse → (front ≡ other) × (bad ≡ worse)
one_stop n ts front other bad worse (s, d, r, w) (t, e, q, v) = one_refused n front other bad worse s t (sym d ∙ e) r q

pub whole_only : (n : ℕ) (ts : List Lexeme) → AreStatements n ts → EndsEarly n ts ⊎ Stops n ts → ⊥
whole_only n ts h (inl e) = e.1 h.0 h.1
whole_only n ts h (inr s) = never_begins n ts s (file_begins n ts h)
