use Rattle.std.proofs.Common.{refl}
use Rattle.form_values.proofs.Parameters.{start_above, start_only_used}
use Rattle.form_values.proofs.laws.environment.Goals as goal

pub returns-clause-above : goal.returns-clause-above
returns-clause-above g = λ p k mesh at g h t beyond r i. start_above p k g h t mesh at beyond r i

pub returns-clause-parameters : goal.returns-clause-parameters
returns-clause-parameters g = λ p k mesh at g h. start_only_used p k g h mesh at

pub returns-clause-offsets : goal.returns-clause-offsets
returns-clause-offsets g = λ p k g h l b. refl
