use Rattle.std.proofs.Common.{◌≡◌, true, false, Err, sym, ap, ◌∙◌, ◌+◌, arith}
use Rattle.std.specs.List.{list_all}
use Rattle.std.specs.Str.Lines.{lines}
use Rattle.mesh_in.specs.HeaderLine.{has_words, header_line}
use Rattle.mesh_in.specs.Line.{content, words, is_plain, is_some_word, has_plain_bytes}
use Rattle.mesh_in.specs.MeshText.{reading, at_line, after_row}
use Rattle.mesh_in.proofs.HeaderLineLaws.{header_here, header_later}
use Rattle.mesh_in.proofs.ReadingLemmas.{blank_line, bad_line, line_of_words, no_lines}
use Rattle.mesh_in.proofs.lines.Lines.next.Goals as goal

pub returns-then-not-has_plain_bytes-clause-refused : goal.returns-then-not-has_plain_bytes-clause-refused
returns-then-not-has_plain_bytes-clause-refused c = λ said.
    let line = c.split_line.result.0.now in
    let other : has_plain_bytes line ≡ false = ap (list_all is_plain) (sym c.without_comment-text.ensures) ∙ sym c.has_plain_bytes.ensures ∙ c.if-not-has_plain_bytes.true in
    c.lines.invariant.says said ∙ ap (reading c.lines.self.number said) c.split_line.ensures.lines ∙ bad_line c.lines.self.number said line (lines c.split_line.result.1.now) other ∙ sym (ap Err c.refused.ensures)

pub returns-then-has_words-clause-found : goal.returns-then-has_words-clause-found
returns-then-has_words-clause-found c = λ said.
    let line = c.split_line.result.0.now in
    let plain : has_plain_bytes line ≡ true = ap (list_all is_plain) (sym c.without_comment-text.ensures) ∙ sym c.has_plain_bytes.ensures ∙ c.if-not-has_plain_bytes.false in
    let some : is_some_word (words (content line)) ≡ true = ap (λ t. is_some_word (words t)) (sym c.without_comment-text.ensures) ∙ sym c.has_words.ensures ∙ c.if-has_words.true in
    c.lines.invariant.says said ∙ ap (reading c.lines.self.number said) c.split_line.ensures.lines ∙ line_of_words c.lines.self.number said line (lines c.split_line.result.1.now) plain some
    ∙ ap (λ t. at_line (c.lines.self.number + 1) (after_row said (words t)) (λ next. reading (c.lines.self.number + 1) next (lines c.split_line.result.1.now))) (sym c.without_comment-text.ensures)

pub returns-then-has_words-clause-number : goal.returns-then-has_words-clause-number
returns-then-has_words-clause-number c =
    let line = c.split_line.result.0.now in
    let some : has_words line ≡ true = ap (λ t. is_some_word (words t)) (sym c.without_comment-text.ensures) ∙ sym c.has_words.ensures ∙ c.if-has_words.true in
    let here : header_line c.lines.self.rest.now ≡ 1 = header_here c.lines.self.rest.now line (lines c.split_line.result.1.now) c.split_line.ensures.lines some in
    omega (arith, here, c.lines.invariant.number)

pub lines-preserved : goal.lines-preserved
lines-preserved c =
    let line = c.split_line.result.0.now in
    let plain : has_plain_bytes line ≡ true = ap (list_all is_plain) (sym c.without_comment-text.ensures) ∙ sym c.has_plain_bytes.ensures ∙ c.if-not-has_plain_bytes.false in
    let none : has_words line ≡ false = ap (λ t. is_some_word (words t)) (sym c.without_comment-text.ensures) ∙ sym c.has_words.ensures ∙ c.if-has_words.false in
    let later : header_line c.lines.self.rest.now ≡ header_line c.split_line.result.1.now + 1 = header_later c.lines.self.rest.now line c.split_line.result.1.now c.split_line.ensures.lines none in
    record {
      says = λ said. c.lines.invariant.says said ∙ ap (reading c.lines.self.number said) c.split_line.ensures.lines ∙ blank_line c.lines.self.number said line (lines c.split_line.result.1.now) plain none;
      number = omega (arith, later, c.lines.invariant.number);
    }

pub returns-clause-found : goal.returns-clause-found
returns-clause-found c = λ said. c.lines.invariant.says said ∙ no_lines c.lines.self.number said c.lines.self.rest.now (sym c.is_empty.ensures ∙ c.lines-test.false)
