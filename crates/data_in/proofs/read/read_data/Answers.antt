use Rattle.std.proofs.Common.{subst}
use Rattle.data_in.specs.Reader.{Gives}
use Rattle.data_in.proofs.RefusalLaws.{gives_data, gives_refusals, data_text_again, refused_text_again}
use Rattle.data_in.proofs.read.read_data.Goals as goal

pub returns-clause-blocks : goal.returns-clause-blocks
returns-clause-blocks c = gives_data c.args.text.now c.read_any.result c.read_any.ensures

pub returns-clause-all_blocks : goal.returns-clause-all_blocks
returns-clause-all_blocks c = λ bs is. subst (Gives c.read_any.result) (data_text_again c.args.text.now bs is) c.read_any.ensures

pub returns-clause-refusal : goal.returns-clause-refusal
returns-clause-refusal c = gives_refusals c.args.text.now c.read_any.result c.read_any.ensures

pub returns-clause-every_refusal : goal.returns-clause-every_refusal
returns-clause-every_refusal c = λ e is. subst (Gives c.read_any.result) (refused_text_again c.args.text.now e is) c.read_any.ensures
