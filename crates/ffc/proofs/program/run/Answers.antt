use Rattle.ffc.specs.Answer.{AnswersFile, AnswersWords}
use Rattle.ffc.specs.Command.{words_of}
use Rattle.ffc.proofs.AnswerLaws.{run_cause, run_answer, run_loaded, wrote_more}
use Rattle.ffc.proofs.program.run.Goals as goal

pub returns-in-Ok-clause-cause : goal.returns-in-Ok-clause-cause
returns-in-Ok-clause-cause g c = λ refused.
    let t = c.in-Ok.ensures.text in
    run_cause (g.F.Files.content c.args.files.now) (g.F.Files.content c.load_form.new.files) c.args.command c.form.result.now t.0 c.in-Ok.file.items c.as_slice.result.now
    c.in-Ok.ensures.content c.form.ensures t.1 t.2 c.as_slice.ensures.value
    (g.F.Files.faults c.args.files.now) (g.F.Files.faults c.load_form.new.files) (g.F.Files.faults c.answer-outcome.new.files) (g.F.Files.last_failed c.answer-outcome.new.files) c.answer-outcome.result
    c.in-Ok.ensures.no_fault (c.answer-outcome.ensures.cause refused)

pub returns-in-Ok-clause-wrote : goal.returns-in-Ok-clause-wrote
returns-in-Ok-clause-wrote g c =
    let t = c.in-Ok.ensures.text in
    let content = g.F.Files.content c.args.files.now in
    let other = g.F.Files.content c.load_form.new.files in
    wrote_more c.answer-outcome.result _ _ (AnswersFile other c.args.command c.as_slice.result.now) (AnswersWords content (words_of c.args.command))
    (run_answer content other c.args.command c.form.result.now t.0 c.in-Ok.file.items c.as_slice.result.now c.in-Ok.ensures.content c.form.ensures t.1 t.2 c.as_slice.ensures.value)
    c.answer-outcome.ensures.wrote

pub returns-in-Ok-clause-line : goal.returns-in-Ok-clause-line
returns-in-Ok-clause-line g c =
    let t = c.in-Ok.ensures.text in
    let content = g.F.Files.content c.args.files.now in
    let other = g.F.Files.content c.load_form.new.files in (
      c.as_slice-in-Ok.result.now,
      (λ word.
          run_loaded content other c.args.command c.form.result.now t.0 c.in-Ok.file.items c.as_slice-in-Ok.result.now c.in-Ok.ensures.content c.form.ensures t.1 t.2 c.as_slice-in-Ok.ensures.value),
      c.put_outcome-in-Ok.ensures,
    )
