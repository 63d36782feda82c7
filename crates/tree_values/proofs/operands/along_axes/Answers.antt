use Rattle.tree_values.proofs.ResultLaws.{ok_then}
use Rattle.tree_values.proofs.OperandLaws.{combines_turned}
use Rattle.tree_values.proofs.operands.along_axes.Goals as goal

pub returns-in-Some : goal.returns-in-Some
returns-in-Some c = ok_then c.exchanged.result (λ w h. combines_turned c.args.axes c.in-Some.j c.in-Some.k w.left w.right c.in-Some.is h.0 h.1) c.exchanged.ensures
