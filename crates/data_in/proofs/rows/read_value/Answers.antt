use Rattle.std.proofs.Common.{sym, ◌∙◌}
use Rattle.ratio.specs.Value.{valued}
use Rattle.mesh_in.specs.Line.{words}
use Rattle.data_in.proofs.WordLaws.{value_more, value_only}
use Rattle.data_in.proofs.rows.read_value.Goals as goal

pub returns-then-has_words : goal.returns-then-has_words
returns-then-has_words c =
    value_more (words c.args.line.now) c.in_ok-word.word.now (words c.in_ok-word.rest.now) c.in_ok-word.ensures (sym c.has_words.ensures ∙ c.if-has_words.true)

pub returns : goal.returns
returns c =
    value_only (words c.args.line.now) c.in_ok-word.word.now (words c.in_ok-word.rest.now) (valued c.read_ratio.result) c.in_ok-word.ensures (sym c.has_words.ensures ∙ c.if-has_words.false) c.read_ratio.ensures
