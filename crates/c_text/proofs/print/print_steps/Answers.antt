use Rattle.std.proofs.Common.{append_assoc, rules}
use Rattle.c_text.proofs.Texts.{text_steps}
use Rattle.std.proofs.lemmas.Result.{IfOk-equal}
use Rattle.c_text.proofs.Appended.{kept_behind}
use Rattle.c_text.proofs.print.print_steps.Goals as goal

pub returns-clause-ok : goal.returns-clause-ok
returns-clause-ok c = rw text_steps (search (rules, IfOk-equal, append_assoc))

pub returns-clause-kept : goal.returns-clause-kept
returns-clause-kept c =
    kept_behind _ _ _ _ _ c.in_ok-print_step.ensures.ok
    (kept_behind _ _ _ _ _ c.in_ok-print_step-2.ensures.ok (kept_behind _ _ _ _ _ c.in_ok-print_step-3.ensures.ok c.print_step-4.ensures.kept))
