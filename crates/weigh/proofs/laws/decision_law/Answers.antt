use Rattle.weigh.proofs.AdmittedLaws.{admits, form_admitted}
use Rattle.weigh.proofs.DecisionLaws.{kept_decides}
use Rattle.weigh.proofs.TableLaws.{table_low_from_lawful}
use Rattle.weigh.proofs.laws.decision_law.Goals as goal

pub returns : goal.returns
returns c = record {
  kept = λ elements f h. kept_decides elements f (table_low_from_lawful elements h);
  admitted = form_admitted;
  only = admits;
}
