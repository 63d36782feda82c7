-- What is true of each `Form`
use Rattle.std.specs.Prelude.{◌≤◌}
use Rattle.ufl_form.specs.declared.form.Form.TheInside.{Inside}
use Rattle.ufl_form.specs.Reading.{form_of}
use Rattle.ufl_form.specs.Building.{IsDescribed}

pub record IsSound (e : Inside) : Type 0 where
  pub described : IsDescribed (form_of e.tree) e.kind e.patterns e.nodes e.height
  pub few : e.nodes ≤ 10000
  pub flat : e.height ≤ 128
