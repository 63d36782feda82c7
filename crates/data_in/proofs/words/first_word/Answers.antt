use Rattle.std.proofs.Common.{sym, ◌∙◌}
use Rattle.mesh_in.proofs.WordLemmas.{none_left, splits_first}
use Rattle.data_in.proofs.words.first_word.Goals as goal

pub returns-then-is_empty : goal.returns-then-is_empty
returns-then-is_empty c = none_left c.args.line.now c.word_start.result c.split_at.result.1.now c.word_start.ensures.place c.split_at.ensures.back (sym c.is_empty.ensures ∙ c.if-is_empty.true)

pub returns : goal.returns
returns c =
    splits_first c.args.line.now c.word_start.result c.split_at.result.1.now c.word_end.result c.split_at-2.result.0.now c.split_at-2.result.1.now
    c.word_start.ensures.place c.split_at.ensures.back (sym c.is_empty.ensures ∙ c.if-is_empty.false) c.word_end.ensures.place c.split_at-2.ensures.front c.split_at-2.ensures.back
