use Rattle.std.proofs.Common.{◌≡◌, true, false, Err, sym, ap, ◌∙◌, ◌+◌, arith}
use Rattle.std.specs.List.{list_all}
use Rattle.std.specs.Str.Lines.{lines}
use Rattle.mesh_in.specs.Line.{content, words, is_plain, is_some_word, has_plain_bytes}
use Rattle.data_in.specs.DataReading.{reading, after_line, row_at, said}
use Rattle.data_in.proofs.StepLaws.{blank_line, bad_line, line_of_words, no_lines}
use Rattle.data_in.proofs.lines.Lines.next.Goals as goal

pub returns-then-not-has_plain_bytes-clause-refused : goal.returns-then-not-has_plain_bytes-clause-refused
returns-then-not-has_plain_bytes-clause-refused c = λ p.
    let line = c.split_line.result.0.now in
    let other : has_plain_bytes line ≡ false = ap (list_all is_plain) (sym c.without_comment-text.ensures) ∙ sym c.has_plain_bytes.ensures ∙ c.if-not-has_plain_bytes.true in
    c.lines.invariant.says p ∙ ap (reading c.lines.self.number p) c.split_line.ensures.lines ∙ bad_line c.lines.self.number p line (lines c.split_line.result.1.now) other ∙ sym (ap Err c.refused.ensures)

pub returns-then-has_words-clause-found : goal.returns-then-has_words-clause-found
returns-then-has_words-clause-found c = λ p.
    let line = c.split_line.result.0.now in
    let n = c.lines.self.number + 1 in
    let plain : has_plain_bytes line ≡ true = ap (list_all is_plain) (sym c.without_comment-text.ensures) ∙ sym c.has_plain_bytes.ensures ∙ c.if-not-has_plain_bytes.false in
    let some : is_some_word (words (content line)) ≡ true = ap (λ t. is_some_word (words t)) (sym c.without_comment-text.ensures) ∙ sym c.has_words.ensures ∙ c.if-has_words.true in
    c.lines.invariant.says p ∙ ap (reading c.lines.self.number p) c.split_line.ensures.lines ∙ line_of_words c.lines.self.number p line (lines c.split_line.result.1.now) plain some
    ∙ ap (λ t. after_line n p (said (row_at p n (words t))) (λ q. reading n q (lines c.split_line.result.1.now))) (sym c.without_comment-text.ensures)

pub lines-preserved : goal.lines-preserved
lines-preserved c =
    let line = c.split_line.result.0.now in
    let plain : has_plain_bytes line ≡ true = ap (list_all is_plain) (sym c.without_comment-text.ensures) ∙ sym c.has_plain_bytes.ensures ∙ c.if-not-has_plain_bytes.false in
    let none : is_some_word (words (content line)) ≡ false = ap (λ t. is_some_word (words t)) (sym c.without_comment-text.ensures) ∙ sym c.has_words.ensures ∙ c.if-has_words.false in
    record {
      says = λ p. c.lines.invariant.says p ∙ ap (reading c.lines.self.number p) c.split_line.ensures.lines ∙ blank_line c.lines.self.number p line (lines c.split_line.result.1.now) plain none;
      shorter = omega arith;
    }

pub returns-clause-found : goal.returns-clause-found
returns-clause-found c = λ p. c.lines.invariant.says p ∙ no_lines c.lines.self.number p c.lines.self.rest.now (sym c.is_empty.ensures ∙ c.lines-test.false)
