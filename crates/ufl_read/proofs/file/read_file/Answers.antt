use Rattle.std.proofs.Common.{◌∙◌, sym, ap, subst, arith}
use Rattle.ufl_read.specs.declared.tokens.Fault.TheVariants as f
use Rattle.slices.specs.FormTokens.{Scan, form_begins}
use Rattle.ufl_read.specs.Refusals.{IsFormRefusal, refusal_for}
use Rattle.ufl_read.proofs.Whole.{refused, lost_after}
use Rattle.ufl_read.proofs.file.read_file.Goals as goal

pub returns-in-Err-clause-refused : goal.returns-in-Err-clause-refused
returns-in-Err-clause-refused c =
    let t = c.in_ok-lexemes.ensures in
    subst (λ e. IsFormRefusal c.args.text.now e) (sym c.refusal_of.ensures)
    (refused c.args.text.now t.0 c.in-Err.fault c.in_ok-lexemes.lost c.as_slice-tokens.result.now (omega (arith, c.if-text.false)) t.1 (c.as_slice-tokens.ensures ∙ t.2) c.in-Err.ensures.refused)

pub returns-clause-refused : goal.returns-clause-refused
returns-clause-refused c =
    let t = c.in_ok-lexemes.ensures in
    subst (λ e. IsFormRefusal c.args.text.now e) (sym (c.refusal_of-in-Some.ensures ∙ ap (refusal_for c.as_slice-tokens.result.now f.Short) c.in-Some.is))
    (lost_after c.args.text.now t.0 c.in-Some.field-0 c.as_slice-tokens.result.now c.in-Ok.statements (omega (arith, c.if-text.false))
    (subst (λ e. Scan (form_begins c.args.text.now) t.0 e) c.in-Some.is t.1) (c.as_slice-tokens.ensures ∙ t.2) c.in-Ok.ensures.found)
