use Rattle.std.proofs.Common.{sym, subst}
use Rattle.ffc.specs.Answer.{IsCaused, SaysOf}
use Rattle.ffc.specs.Inputs.{loads}
use Rattle.ffc.specs.Words.{texts}
use Rattle.ffc.proofs.CompleteLaws.{complete}
use Rattle.ffc.proofs.program.program.Goals as goal

pub returns-in-Some-clause-complete : goal.returns-in-Some-clause-complete
returns-in-Some-clause-complete g c =
    let l = loads (g.F.Files.content c.args.files.now) (g.F.Files.faults c.args.files.now) (g.F.Files.faults c.run.new.files) (g.F.Files.last_failed c.run.new.files) in
    complete l (texts c.args.words.now) (g.O.Sink.faults c.args.out.now) (g.O.Sink.faults c.run.new.out) c.run.result (λ usage. absurd (c.run.ensures.usage usage))
    (subst (λ x. IsCaused l x c.run.result) (sym c.in-Some.ensures.shape) c.run.ensures.cause) c.run.ensures.write_fault

pub returns-in-Some-clause-line : goal.returns-in-Some-clause-line
returns-in-Some-clause-line g c =
    subst
    (λ x. SaysOf (g.F.Files.content c.args.files.now) x c.run.result (g.E.Sink.written c.args.err.now) (g.E.Sink.written c.run.new.err) (g.E.Sink.faults c.args.err.now) (g.E.Sink.faults c.run.new.err))
    (sym c.in-Some.ensures.shape) c.run.ensures.line
