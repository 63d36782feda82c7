use Rattle.weigh.proofs.NodeLaws.{number_list, plus_list, times_list, index_list, space_list, negated_list}
use Rattle.weigh.proofs.laws.nodes_law.Goals as goal

pub returns : goal.returns
returns c = record { number = number_list; plus = plus_list; times = times_list; index = λ cost d n. index_list cost d n; space = space_list; negated = negated_list }
