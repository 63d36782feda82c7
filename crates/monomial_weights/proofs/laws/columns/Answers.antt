use Rattle.monomial_weights.proofs.ColumnLaws.{items_counted, few_columns}
use Rattle.monomial_weights.proofs.laws.columns.Goals as goal

pub returns-clause-count : goal.returns-clause-count
returns-clause-count c = items_counted

pub returns-clause-few : goal.returns-clause-few
returns-clause-few c = λ l m. few_columns l m.atoms
