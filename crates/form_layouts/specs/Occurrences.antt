-- The code's occurrences, read as data
use Rattle.form_values.specs.CellLayout.{Occurring}
use Rattle.form_layouts.specs.declared.occurrences.Occurrences.{Occurrences}

abbrev pub occurring_in : Occurrences → Occurring
occurring_in o = record { coefficients = o.coefficients; position = o.position }
