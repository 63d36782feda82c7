use Rattle.std.proofs.Common.{◌∙◌, ◌++◌, List, Some, Ok, Err, ap, sym, subst, map}
use Rattle.std.specs.Option.{option_copied}
use Rattle.std.proofs.lemmas.List.{map-append}
use Rattle.std.proofs.lemmas.Result.{err_from_is_err_and}
use Rattle.assembly.specs.Kept.{seen}
use Rattle.assembly.specs.Assembly.{assembly_of}
use Rattle.assembly.specs.Lent.{IsNextRow}
use Rattle.assembly.specs.declared.triple.Triple.{Triple}
use Rattle.assembly.proofs.AssembledLaws.{AreAssembled, assembled_start, assembled_more, assembled_all, assembled_refused}
use Rattle.assembly.proofs.assembled.assemble.Goals as goal

pub loop-row-init : goal.loop-row-init
loop-row-init c =
    let s = assembly_of c.args.f.now c.args.m.now (option_copied c.args.rows) (option_copied c.args.cols) c.args.coefs.now in
    subst (λ (ts : List Triple). AreAssembled s c.in_ok-lent.lent (map seen ts)) (sym c.new-triples.ensures.items) (assembled_start s c.in_ok-lent.lent c.in_ok-lent.ensures.rows c.in_ok-lent.ensures.within)

pub loop-row-preserved : goal.loop-row-preserved
loop-row-preserved c =
    let s = assembly_of c.args.f.now c.args.m.now (option_copied c.args.rows) (option_copied c.args.cols) c.args.coefs.now in
    let step : IsNextRow c.loop-row.lent (Some (Ok c.in_ok-row.field-0)) c.next_row.new.self = subst (λ r. IsNextRow c.loop-row.lent (Some r) c.next_row.new.self) c.in_ok-row.was c.in-Some.ensures in
    assembled_more s c.loop-row.lent c.next_row.new.self c.in_ok-row.field-0 (map seen c.loop-row.triples.items) (map seen c.next_row.new.self.entries) (map seen c.extend_from_slice.new.self.items) c.loop-row.invariant step.0 step.1
    (ap (map seen) (c.in_ok-extend_from_slice.ensures.items ∙ ap (λ (ts : List Triple). c.loop-row.triples.items ++ ts) c.entries.ensures) ∙ map-append seen c.loop-row.triples.items c.next_row.new.self.entries)

pub returns-in_err-row-clause-refusal : goal.returns-in_err-row-clause-refusal
returns-in_err-row-clause-refusal c =
    let s = assembly_of c.args.f.now c.args.m.now (option_copied c.args.rows) (option_copied c.args.cols) c.args.coefs.now in
    let step : IsNextRow c.loop-row.lent (Some (Err c.in_err-row.field-0.0)) c.next_row.new.self = subst (λ r. IsNextRow c.loop-row.lent (Some r) c.next_row.new.self) c.in_err-row.was c.in-Some.ensures in
    let p = err_from_is_err_and c.from_residual-in_err-row.result c.from_residual-in_err-row.ensures.1 in
    rw (p.1, p.2) (assembled_refused s c.loop-row.lent _ c.in_err-row.field-0.0 c.in_ok-lent.ensures.few c.in_ok-lent.ensures.good c.loop-row.invariant step.0)

pub returns-clause-sums : goal.returns-clause-sums
returns-clause-sums c =
    let s = assembly_of c.args.f.now c.args.m.now (option_copied c.args.rows) (option_copied c.args.cols) c.args.coefs.now in
    assembled_all s c.loop-row.lent (map seen c.loop-row.triples.items) c.loop-row.invariant c.in_default.ensures.0
