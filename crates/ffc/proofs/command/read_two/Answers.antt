use Rattle.std.proofs.Common.{arith}
use Rattle.ffc.proofs.WordsLaws.{same_text, other_text, two_words, first_is}
use Rattle.ffc.proofs.command.read_two.Goals as goal

pub returns-then-eq-clause-shape : goal.returns-then-eq-clause-shape
returns-then-eq-clause-shape c =
    two_words c.args.words.now c.first-item.result c.form-item.result _ _ (omega arith) c.first-item.is c.form-item.is
    (same_text _ c.args.verb.now _ _ c.eq.ensures c.if-eq.true c.as_str.ensures.value) c.as_str-then-eq.ensures.value

pub returns-else-eq-clause-none : goal.returns-else-eq-clause-none
returns-else-eq-clause-none c = λ form e.
    other_text _ c.args.verb.now _ _ c.eq.ensures c.if-eq.false c.as_str.ensures.value
    (first_is c.args.words.now c.first-item.result c.args.verb.now form (omega arith) c.first-item.is e)
