-- Statements, one behind the other
use Rattle.std.proofs.Common.{◌≡◌, ◌<◌, ◌+◌, inl, inr, ℕ, List, length, get_or, drop, IsErr, IsErrAnd, true≢false, Result, Ok, Err, sym, ap, ◌∙◌, subst}
use Rattle.ufl_syntax.specs.declared.tree.Stmt.{Stmt}
use Rattle.ufl_read.specs.declared.refusal.FormRefusal.{FormRefusal}
use Rattle.ufl_elab.specs.Statements.{State, After, statement, statements, further}
use Rattle.ufl_elab.specs.Answers.{Leaves}
use Rattle.ufl_elab.proofs.StepLaws.{next_dropped}

pub statements_next : (file : List ℕ) (sts : List Stmt) (i : ℕ) (st : Stmt) (s t : State) (want : After) → i < length sts → st ≡ get_or sts i st
    → statement file st s ≡ Ok t → want ≡ statements file (drop i sts) s → want ≡ statements file (drop (i + 1) sts) t
statements_next file sts i st s t want h e g w =
    w ∙ ap (λ l. statements file l s) (next_dropped sts i st h e) ∙ ap (λ o. further o (λ n. statements file (drop (i + 1) sts) n)) g

pub statements_stop : (B : Type 0) (file : List ℕ) (sts : List Stmt) (i : ℕ) (st : Stmt) (s left last : State) (want : After) (e : FormRefusal)
    → i < length sts → st ≡ get_or sts i st → Leaves {B = B} (Err e) left (statement file st s) → want ≡ statements file (drop i sts) s
    → Leaves {B = B} (Err e) last want
statements_stop B file sts i st s left last want e h i_is (inl g) w = inl g
statements_stop B file sts i st s left last want e h i_is (inr g) w =
    inr (w ∙ ap (λ l. statements file l s) (next_dropped sts i st h i_is) ∙ ap (λ o. further o (λ n. statements file (drop (i + 1) sts) n)) g)

-- the refusal that a `?` hands on
pub leaves_residual : (A B : Type 0) (r : Result B FormRefusal) (e : FormRefusal) (left : A) (want : Result A FormRefusal)
    → IsErr r → IsErrAnd r (λ x. x ≡ e) → Leaves {B = B} (Err e) left want → Leaves r left want
leaves_residual A B (Ok a) e left want h k f = absurd (true≢false (sym h))
leaves_residual A B (Err x) e left want h k f = subst (λ y. Leaves {B = B} (Err y) left want) (sym k) f
