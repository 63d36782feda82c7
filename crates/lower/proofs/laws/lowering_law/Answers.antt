use Rattle.lower.proofs.TreeLaws.{value_kept, named_kept}
use Rattle.lower.proofs.FittingLaws.{fitting_kept}
use Rattle.lower.proofs.AboveLaws.{names_below}
use Rattle.lower.proofs.laws.lowering_law.Goals as goal

pub returns : goal.returns
returns c = record {
  renamed = λ share elements lawful m. value_kept share elements lawful m;
  named = named_kept;
  fitting = fitting_kept;
  above = names_below;
}
