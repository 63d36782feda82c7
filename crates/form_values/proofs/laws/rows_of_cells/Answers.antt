use Rattle.form_values.proofs.Starts.{numbered_rows}
use Rattle.form_values.proofs.laws.rows_of_cells.Goals as goal

pub returns : goal.returns
returns g = λ p s k at. numbered_rows p k s at
