use Rattle.std.proofs.Common.{arith, codes}
use Rattle.ffc.proofs.WordsLaws.{same_text, five_words}
use Rattle.ffc.proofs.command.read_assemble.Goals as goal

pub returns-in-len5-clause-shape : goal.returns-in-len5-clause-shape
returns-in-len5-clause-shape c =
    five_words c.args.words.now c.verb-item.result c.form-item.result c.name-item.result c.mesh-item.result c.data-item.result _ _ _ (omega arith)
    c.verb-item.is c.form-item.is c.name-item.is c.mesh-item.is c.data-item.is
    (same_text _ (codes "assemble") _ _ c.eq.ensures c.if-eq.true c.as_str.ensures.value) c.as_str-in-len5.ensures.value
    c.as_str-in-len5-2.ensures.value c.as_str-in-len5-3.ensures.value
    (same_text _ (codes "-") _ _ c.eq-then-eq.ensures c.if-eq-2.true c.as_str-then-eq.ensures.value)
