use Rattle.std.proofs.Common.{inr, sym, subst, arith}
use Rattle.data_in.specs.Reader.{Gives}
use Rattle.data_in.proofs.RefusalLaws.{long_text, short_text}
use Rattle.data_in.proofs.read.read_any.Goals as goal

pub returns-then-text : goal.returns-then-text
returns-then-text c = inr (long_text c.args.text.now (omega arith))

pub returns : goal.returns
returns c = subst (Gives c.read_lines.result) (sym (short_text c.args.text.now (omega arith))) c.read_lines.ensures
