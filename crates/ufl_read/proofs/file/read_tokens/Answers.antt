use Rattle.std.proofs.Common.{[], ◌∷◌, ◌++◌, ◌∙◌, ap, subst, Some}
use Rattle.slices.specs.FormTokens.{IsFormStep}
use Rattle.ufl_read.proofs.Whole.{scanned_none, scanned_lost, scanned_more}
use Rattle.ufl_read.proofs.file.read_tokens.Goals as goal

pub returns-in_default : goal.returns-in_default
returns-in_default c = scanned_none c.args.text.now c.all.tokens c.all.all c.all.invariant c.in_default.ensures.step.0

pub returns-in-Err : goal.returns-in-Err
returns-in-Err c =
    let step = subst (λ r. IsFormStep c.all.tokens (Some r) c.next.new.self) c.in-Err.is c.in-Some.ensures.step in
    scanned_lost c.args.text.now c.all.tokens c.all.all c.in-Err.lost c.all.invariant step.0

pub all-preserved : goal.all-preserved
all-preserved c =
    let step = subst (λ r. IsFormStep c.all.tokens (Some r) c.next.new.self) c.in-Ok.is c.in-Some.ensures.step in
    scanned_more c.args.text.now c.all.tokens c.next.new.self c.all.all _ c.in-Ok.token (c.in_ok-push-in-Ok.ensures.ok ∙ ap (λ x. c.all.all ++ x ∷ []) c.new.ensures) step c.all.invariant
