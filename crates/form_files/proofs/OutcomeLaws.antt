-- A text says one thing
use Rattle.std.proofs.Common.{◌≡◌, ℕ, ◌+◌, ◌<◌, ◌≤◌, List, length, take, Result, Ok, Err, IsErr, IsErrAnd, ◌⊎◌, inl, inr, refl, sym, ◌∙◌, ap, subst, arith}
use Rattle.std.proofs.lemmas.Bool.{cases_lt, true≢false}
use Rattle.std.proofs.lemmas.List.{take_all, length-take-le}
use Rattle.slices.specs.declared.form_toks.TheConstants.{FORM_LIMIT}
use Rattle.ufl_syntax.specs.declared.tree.Stmt.{Stmt}
use Rattle.ufl_read.specs.declared.refusal.FormRefusal.{FormRefusal}
use Rattle.ufl_read.specs.Refusals.{IsFile, IsFormRefusal}
use Rattle.ufl_read.proofs.Outcome.{one_file, one_refusal, not_refused}
use Rattle.ufl_elab.specs.declared.program.UflProgram.{UflProgram}
use Rattle.ufl_elab.specs.Programs.{Gives, program}
use Rattle.form_files.specs.FileProgram.{Says, unread, read, OrMemory}
use Rattle.form_files.specs.Admissions.{IsFileOf}
use Rattle.form_files.specs.Checks.{IsCheck, checked}

abbrev pub Said : Type 0
Said = Result UflProgram FormRefusal

-- ---- what the reader and the elaboration answer
pub says_refused : (text : List ℕ) (e : FormRefusal) → IsFormRefusal text e → OrMemory (Says text) (Err e)
says_refused text e (inl memory) = inl memory
says_refused text e (inr h) = inr (unread h)

pub says_given : (text : List ℕ) (sts : List Stmt) (r : Said) → IsFile text sts → Gives r (program text sts) → OrMemory (Says text) r
says_given text sts (Ok p) h e = subst (Says text) e (read sts h)
says_given text sts (Err x) h (inl memory) = inl memory
says_given text sts (Err x) h (inr e) = inr (subst (Says text) e (read sts h))

-- what holds of a refusal holds of the answer that hands it on
pub handed_on : {A : Type 0} (P : Result A FormRefusal → Type 0) (r : Result A FormRefusal) (e : FormRefusal) → IsErr r
    → IsErrAnd r (λ x. x ≡ e) → P (Err e) → P r
handed_on P (Ok a) e h k p = absurd (true≢false (sym h))
handed_on P (Err x) e h k p = subst (λ y. P (Err y)) (sym k) p

-- ---- one outcome
pub one_program : (text : List ℕ) (a b : Said) → Says text a → Says text b → a ≡ b
one_program text a b (unread {e = d} p) (unread {e = e} q) = ap Err (one_refusal text d e p q)
one_program text a b (unread {e = d} p) (read sts q) = absurd (not_refused text sts d q p)
one_program text a b (read sts p) (unread {e = e} q) = absurd (not_refused text sts e p q)
one_program text a b (read sts p) (read xs q) = ap (program text) (one_file text sts xs p q)

-- and of what follows from what is said
pub one_of : {A : Type 0} (text : List ℕ) (f : Said → A) (a b : A) → ((said : Said) × Says text said × (f said ≡ a))
    → ((said : Said) × Says text said × (f said ≡ b)) → a ≡ b
one_of text f a b (s, p, e) (t, q, g) = sym e ∙ ap f (one_program text s t p q) ∙ g

-- ---- fronts
-- what a text says that is too long
too_long : (text longer : List ℕ) (a : Said) → FORM_LIMIT < length text → FORM_LIMIT < length longer → Says text a
    → Says longer a × ((t u : List ℕ) → checked t a ≡ checked u a)
too_long text longer a h k (unread {e = e} (inl p)) = (unread (inl (k, p.1)), λ t u. refl)
too_long text longer a h k (unread {e = e} (inr p)) = absurd (beyond p.0)
  where
    beyond : length text ≤ FORM_LIMIT → ⊥
    beyond q = omega (arith, h, q)
too_long text longer a h k (read sts p) = absurd (beyond p.0)
  where
    beyond : length text ≤ FORM_LIMIT → ⊥
    beyond q = omega (arith, h, q)

-- a front that is longer than the limit says what the text says
fronts_by : (text : List ℕ) (a : Said) → (length text ≤ FORM_LIMIT + 1) ⊎ (FORM_LIMIT < length text) → Says (take (FORM_LIMIT + 1) text) a
    → Says text a × (checked (take (FORM_LIMIT + 1) text) a ≡ checked text a)
fronts_by text a (inl h) p =
    let e : take (FORM_LIMIT + 1) text ≡ text = take_all (FORM_LIMIT + 1) text h in
    (subst (λ t. Says t a) e p, ap (λ t. checked t a) e)
fronts_by text a (inr h) p =
    let e : length (take (FORM_LIMIT + 1) text) ≡ FORM_LIMIT + 1 = length-take-le (FORM_LIMIT + 1) text (omega (arith, h)) in
    let r = too_long (take (FORM_LIMIT + 1) text) text a (omega (arith, e)) h p in
    (r.0, r.1 (take (FORM_LIMIT + 1) text) text)

fronts : (text : List ℕ) (a : Said) → Says (take (FORM_LIMIT + 1) text) a
    → Says text a × (checked (take (FORM_LIMIT + 1) text) a ≡ checked text a)
fronts text a = fronts_by text a (side (cases_lt FORM_LIMIT (length text)))
  where
    side : (FORM_LIMIT < length text) ⊎ (length text ≤ FORM_LIMIT) → (length text ≤ FORM_LIMIT + 1) ⊎ (FORM_LIMIT < length text)
    side (inl h) = inr h
    side (inr h) = inl (omega (arith, h))

pub front_program : (text : List ℕ) (a : Said) → Says (take (FORM_LIMIT + 1) text) a → Says text a
front_program text a p = (fronts text a p).0

pub front_admitted : (text : List ℕ) (a : Said) → IsFileOf (take (FORM_LIMIT + 1) text) a → IsFileOf text a
front_admitted text a (s, p, e) = (s, front_program text s p, e)

pub front_check : (text : List ℕ) (a : Result (List ℕ) FormRefusal) → IsCheck (take (FORM_LIMIT + 1) text) a → IsCheck text a
front_check text a (s, p, e) = (s, front_program text s p, sym (fronts text s p).1 ∙ e)
