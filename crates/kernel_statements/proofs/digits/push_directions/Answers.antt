use Rattle.kernel_statements.proofs.LoopLaws.{three_pieces}
use Rattle.kernel_statements.proofs.digits.push_directions.Goals as goal

pub returns : goal.returns
returns c = three_pieces _ _ _ c.args.all.now.items _ _ _ c.in_ok-push_times.ensures c.in_ok-push_times-2.ensures c.in_ok-push_times-3.ensures
