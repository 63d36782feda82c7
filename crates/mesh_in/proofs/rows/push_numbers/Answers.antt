use Rattle.std.proofs.Common.{◌+◌, sym, subst, inr, ◌∙◌}
use Rattle.mesh_in.specs.Line.{words}
use Rattle.mesh_in.specs.Number.{number_of}
use Rattle.mesh_in.specs.MeshText.{row}
use Rattle.mesh_in.proofs.FieldLemmas.{Completes, too_few, no_value, one_value, too_many, all_values}
use Rattle.mesh_in.proofs.rows.push_numbers.Goals as goal

pub returns-in_default-clause-err : goal.returns-in_default-clause-err
returns-in_default-clause-err c = inr (too_few number_of c.args.count c.words.counter c.words.numbers.items (words c.words.rest.now) c.args.numbers.now.items (row number_of c.args.count (words c.args.line.text.now)) c.words-test.true c.in_default.ensures c.words.invariant, c.refused.ensures)

pub returns-in_default-read_number-clause-err : goal.returns-in_default-read_number-clause-err
returns-in_default-read_number-clause-err c =
    inr (no_value number_of c.args.count c.words.counter c.words.numbers.items (words c.words.rest.now) c.in-Some.word.now (words c.in-Some.after.now) c.args.numbers.now.items (row number_of c.args.count (words c.args.line.text.now)) c.words-test.true c.in-Some.ensures (sym c.in_default-read_number.ensures) c.words.invariant, c.refused-in_default-read_number.ensures)

pub words-preserved : goal.words-preserved
words-preserved c =
    let more = one_value number_of c.args.count c.words.counter c.words.numbers.items (words c.words.rest.now) c.in-Some.word.now (words c.in-Some.after.now) c.in-Some-read_number.number c.args.numbers.now.items (row number_of c.args.count (words c.args.line.text.now)) c.words-test.true c.in-Some.ensures (sym c.in-Some-read_number.ensures) c.words.invariant in
    subst (λ front. Completes number_of c.args.count (c.words.counter + 1) front (words c.in-Some.after.now) c.args.numbers.now.items (row number_of c.args.count (words c.args.line.text.now))) (sym c.in_ok-push.ensures.items) more

pub returns-then-has_words-clause-err : goal.returns-then-has_words-clause-err
returns-then-has_words-clause-err c = inr (too_many number_of c.args.count c.words.counter c.words.numbers.items (words c.words.rest.now) c.args.numbers.now.items (row number_of c.args.count (words c.args.line.text.now)) c.words-test.false (sym c.has_words.ensures ∙ c.if-has_words.true) c.words.invariant, c.refused-then-has_words.ensures)

pub returns-clause-ok : goal.returns-clause-ok
returns-clause-ok c = all_values number_of c.args.count c.words.counter c.words.numbers.items (words c.words.rest.now) c.args.numbers.now.items (row number_of c.args.count (words c.args.line.text.now)) c.words-test.false (sym c.has_words.ensures ∙ c.if-has_words.false) c.words.invariant
