-- What the machine does at one token.
use Rattle.std.proofs.Common.{[], ◌∷◌, ◌++◌, ◌≡◌, true, false, Bool, List, ℕ, zero, suc, refl, sym, ap, ◌∙◌, append_assoc, if◌then◌else◌}
use Rattle.ufl_syntax.specs.declared.class.Class.{Class}
use Rattle.ufl_syntax.specs.declared.class.Class.TheVariants as k
use Rattle.ufl_syntax.specs.declared.class.Lexeme.{Lexeme}
use Rattle.ufl_syntax.specs.Machine.{Part, Step, takes, skips, wrong, deep, then_, inside, part_on, atom_on, signed_on, term_on, sum_on, step, step_by, run, resume, Outcome, ended, stopped, sank, may_be_empty, all_may, posts}

abbrev stepped : Step → List Part → Lexeme → List Lexeme → Outcome
stepped x stack t ts = resume (λ s. run s ts) (t ∷ ts) (step_by x stack (step stack t.class))

run_by : (p : Part) (stack : List Part) (t : Lexeme) (ts : List Lexeme) → run (p ∷ stack) (t ∷ ts) ≡ stepped (part_on p t.class) stack t ts
unfolding run step
run_by p stack t ts = refl

run_to : (p : Part) (stack : List Part) (t : Lexeme) (ts : List Lexeme) (x : Step) → part_on p t.class ≡ x → run (p ∷ stack) (t ∷ ts) ≡ stepped x stack t ts
run_to p stack t ts x e = run_by p stack t ts ∙ ap (λ y. stepped y stack t ts) e

pub run_takes : (p : Part) (stack : List Part) (t : Lexeme) (ts : List Lexeme) (ps : List Part) → part_on p t.class ≡ takes ps → run (p ∷ stack) (t ∷ ts) ≡ run (ps ++ stack) ts
run_takes p stack t ts ps e = run_to p stack t ts (takes ps) e

pub run_wrong : (p : Part) (stack : List Part) (t : Lexeme) (ts : List Lexeme) → part_on p t.class ≡ wrong → run (p ∷ stack) (t ∷ ts) ≡ stopped (t ∷ ts)
run_wrong p stack t ts e = run_to p stack t ts wrong e

pub run_deep : (p : Part) (stack : List Part) (t : Lexeme) (ts : List Lexeme) → part_on p t.class ≡ deep → run (p ∷ stack) (t ∷ ts) ≡ sank (t ∷ ts)
run_deep p stack t ts e = run_to p stack t ts deep e

pub run_skips : (p : Part) (stack : List Part) (t : Lexeme) (ts : List Lexeme) → part_on p t.class ≡ skips → run (p ∷ stack) (t ∷ ts) ≡ run stack (t ∷ ts)
unfolding run
run_skips p stack t ts e = run_to p stack t ts skips e

pub run_may : (p : Part) (stack : List Part) → may_be_empty p ≡ true → run (p ∷ stack) [] ≡ run stack []
unfolding run
run_may p stack e = ap (λ b. ended (if b then all_may stack else false)) e

pub run_short : (p : Part) (stack : List Part) → may_be_empty p ≡ false → run (p ∷ stack) [] ≡ ended false
unfolding run
run_short p stack e = ap (λ b. ended (if b then all_may stack else false)) e

abbrev pub moves : Step → Bool
moves skips = false
moves _ = true

-- At this token p is q and then qs.
begins_by : (x : Step) (qs stack : List Part) (t : Lexeme) (ts : List Lexeme) → moves x ≡ true → stepped (then_ x qs) stack t ts ≡ stepped x (qs ++ stack) t ts
begins_by (takes ps) qs stack t ts h = ap (λ s. run s ts) (append_assoc ps qs stack)
begins_by skips qs stack t ts h = cc
begins_by wrong qs stack t ts h = refl
begins_by deep qs stack t ts h = refl

pub run_begins : (p q : Part) (qs stack : List Part) (t : Lexeme) (ts : List Lexeme)
    → part_on p t.class ≡ then_ (part_on q t.class) qs → moves (part_on q t.class) ≡ true → run (p ∷ stack) (t ∷ ts) ≡ run (q ∷ (qs ++ stack)) (t ∷ ts)
run_begins p q qs stack t ts e h =
    run_to p stack t ts (then_ (part_on q t.class) qs) e ∙ begins_by (part_on q t.class) qs stack t ts h ∙ sym (run_by q (qs ++ stack) t ts)

pub moves_inside : (n : ℕ) (f : ℕ → List Part) → moves (inside n f) ≡ true
moves_inside zero f = refl
moves_inside (suc n) f = refl

pub moves_then : (x : Step) (qs : List Part) → moves (then_ x qs) ≡ moves x
moves_then (takes ps) qs = refl
moves_then skips qs = refl
moves_then wrong qs = refl
moves_then deep qs = refl

pub moves_atom : (n : ℕ) (k : Class) → moves (atom_on n k) ≡ true
moves_atom n k.Open = moves_inside n _
moves_atom n k.OpenList = moves_inside n _
moves_atom n _ = refl

pub moves_signed : (n : ℕ) (k : Class) → moves (signed_on n k) ≡ true
moves_signed n k.Plus = moves_inside n _
moves_signed n k.Minus = moves_inside n _
moves_signed n k.Open = moves_then (then_ (atom_on n k.Open) (posts n ∷ [])) _ ∙ moves_then (atom_on n k.Open) _ ∙ moves_atom n k.Open
moves_signed n k.OpenList = moves_then (then_ (atom_on n k.OpenList) (posts n ∷ [])) _ ∙ moves_then (atom_on n k.OpenList) _ ∙ moves_atom n k.OpenList
moves_signed n _ = refl

pub moves_term : (n : ℕ) (k : Class) → moves (term_on n k) ≡ true
moves_term n k = moves_then (signed_on n k) _ ∙ moves_signed n k

pub moves_sum : (n : ℕ) (k : Class) → moves (sum_on n k) ≡ true
moves_sum n k = moves_then (term_on n k) _ ∙ moves_term n k
