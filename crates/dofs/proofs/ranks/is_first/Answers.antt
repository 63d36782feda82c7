use Rattle.std.proofs.Common.{arith, is_lt, ap, ◌∙◌}
use Rattle.dofs.proofs.RankLaws.{first_is}
use Rattle.dofs.proofs.ranks.is_first.Goals as goal

pub returns-else-i-eq0 : goal.returns-else-i-eq0
returns-else-i-eq0 c = first_is c.args.items.now c.args.i _ c.is_lt.result (omega arith) c.requires (c.is_lt.ensures ∙ ap is_lt c.cmp.ensures)
