use Rattle.std.proofs.Common.{◌∙◌, ◌++◌, List, Some, Ok, Err, ap, map, subst}
use Rattle.std.specs.List.{flat_map}
use Rattle.std.proofs.lemmas.Result.{err_from_is_err_and}
use Rattle.assembly.specs.Kept.{seen}
use Rattle.assembly.specs.Lent.{IsNextRow}
use Rattle.assembly.specs.declared.triple.Triple.{Triple}
use Rattle.answers.specs.ValuesText.{entry_line}
use Rattle.answers.proofs.PushLaws.{pushed_more, pushed_all, pushed_refused}
use Rattle.answers.proofs.values_text.push_values.Goals as goal

pub loop-row-preserved : goal.loop-row-preserved
loop-row-preserved c =
    let step : IsNextRow c.loop-row.rows (Some (Ok c.in_ok-row.field-0)) c.next_row.new.self = subst (λ r. IsNextRow c.loop-row.rows (Some r) c.next_row.new.self) c.in_ok-row.was c.in-Some.ensures in
    pushed_more c.args.rows.now c.loop-row.rows c.next_row.new.self c.in_ok-row.field-0 _ c.loop-row.text.items c.push_entries.new.text.items (map seen c.next_row.new.self.entries) c.loop-row.invariant step.0 step.1
    (c.in_ok-push_entries.ensures ∙ ap (λ (ts : List Triple). c.loop-row.text.items ++ flat_map entry_line (map seen ts)) c.entries.ensures)

pub returns-in_err-row-clause-refusal : goal.returns-in_err-row-clause-refusal
returns-in_err-row-clause-refusal c =
    let step : IsNextRow c.loop-row.rows (Some (Err c.in_err-row.field-0.0)) c.next_row.new.self = subst (λ r. IsNextRow c.loop-row.rows (Some r) c.next_row.new.self) c.in_err-row.was c.in-Some.ensures in
    let p = err_from_is_err_and c.from_residual-in_err-row.result c.from_residual-in_err-row.ensures.1 in
    rw (p.1, p.2) (pushed_refused c.args.rows.now c.loop-row.rows _ c.loop-row.text.items c.in_err-row.field-0.0 c.loop-row.invariant step.0)

pub returns-clause-text : goal.returns-clause-text
returns-clause-text c = pushed_all c.args.name.now c.args.rank c.args.cols c.args.rows.now c.loop-row.rows c.args.text.now.items c.loop-row.text.items c.loop-row.invariant c.in_default.ensures.0
