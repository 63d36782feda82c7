use Rattle.std.proofs.Common.{sym, ◌∙◌}
use Rattle.mesh_in.specs.Line.{words}
use Rattle.data_in.proofs.WordLaws.{head_steps, words_left, none_left}
use Rattle.data_in.proofs.rows.read_head.Goals as goal

pub returns-then-has_words : goal.returns-then-has_words
returns-then-has_words c =
    let left = words c.in_ok-count.rest.now in
    sym (head_steps (words c.args.line.now) (words c.in_ok-rest.rest.now) (words c.in_ok-number.rest.now) left c.in_ok-number.number c.in_ok-count.count
    (sym c.in_ok-rest.ensures) (sym c.in_ok-number.ensures) (sym c.in_ok-count.ensures) ∙ words_left left (c.in_ok-number.number, c.in_ok-count.count) (sym c.has_words.ensures ∙ c.if-has_words.true))

pub returns : goal.returns
returns c =
    let left = words c.in_ok-count.rest.now in
    sym (head_steps (words c.args.line.now) (words c.in_ok-rest.rest.now) (words c.in_ok-number.rest.now) left c.in_ok-number.number c.in_ok-count.count
    (sym c.in_ok-rest.ensures) (sym c.in_ok-number.ensures) (sym c.in_ok-count.ensures) ∙ none_left left (c.in_ok-number.number, c.in_ok-count.count) (sym c.has_words.ensures ∙ c.if-has_words.false))
