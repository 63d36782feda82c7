use Rattle.std.proofs.Common.{◌≡◌, ◌⊎◌, Result, Err, sym, ap, subst, ◌∙◌}
use Rattle.std.proofs.lemmas.Result.{err_from_is_err_and}
use Rattle.ufl_tree.specs.Places.{table_of}
use Rattle.ufl_values.specs.declared.refusal.Reason.{Reason}
use Rattle.ufl_values.specs.declared.refusal.Reason.TheVariants as r
use Rattle.ufl_values.specs.declared.value.Value.{Value}
use Rattle.ufl_values.specs.Answer.{Answers}
use Rattle.ufl_calls.proofs.MadeLaws.{pieces_next, pieces_stop}
use Rattle.ufl_calls.proofs.made.Made.pieces.Goals as goal

answered : (result want : Result Value Reason) (e k : Reason) → result ≡ Err e → e ≡ k → (k ≡ r.Memory) ⊎ (want ≡ Err k) → Answers result want
answered result want e k p q a = subst (λ x. Answers x want) (sym (p ∙ ap Err q)) a

pub returns-in_err-piece : goal.returns-in_err-piece
returns-in_err-piece c =
    let p = err_from_is_err_and c.from_residual.result c.from_residual.ensures.1 in
    answered c.from_residual.result _ _ c.in_err-piece.field-0.0 p.1 p.2
    (pieces_stop (table_of c.args.self.now.elements) c.args.f _ c.in-Some.count c.loop-which.which c.loop-which.all _ (sym c.in-Some.ensures) c.loop-which.invariant
    c.loop-which-test.true c.in_err-piece.ensures)

pub loop-which-preserved : goal.loop-which-preserved
loop-which-preserved c =
    c.loop-which.invariant
    ∙ pieces_next (table_of c.args.self.now.elements) c.args.f c.loop-which.all _ c.loop-which.which c.in-Some.count c.in_ok-piece.piece c.loop-which-test.true c.in_ok-piece.ensures
    c.in_ok-push.ensures.ok
