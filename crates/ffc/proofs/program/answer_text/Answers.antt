use Rattle.std.proofs.Common.{sym, subst, IfOk, IfErr}
use Rattle.ffc.specs.Answer.{AnswersFile, FileCause}
use Rattle.ffc.specs.Inputs.{loads}
use Rattle.ffc.specs.declared.command.Command.{Command}
use Rattle.ffc.proofs.program.answer_text.Goals as goal

pub returns-in-Assemble-clause-text : goal.returns-in-Assemble-clause-text
returns-in-Assemble-clause-text g c =
    let content = g.F.Files.content c.args.files.now in
    subst (λ (k : Command). IfOk c.assemble.result (λ text. AnswersFile content k c.args.file.now text.items)) (sym c.in-Assemble.is) c.assemble.ensures.text

pub returns-in-Assemble-clause-cause : goal.returns-in-Assemble-clause-cause
returns-in-Assemble-clause-cause g c =
    let l = loads (g.F.Files.content c.args.files.now) (g.F.Files.faults c.args.files.now) (g.F.Files.faults c.assemble.new.files) (g.F.Files.last_failed c.assemble.new.files) in
    subst (λ (k : Command). IfErr c.assemble.result (FileCause l k c.args.file.now)) (sym c.in-Assemble.is) c.assemble.ensures.cause
