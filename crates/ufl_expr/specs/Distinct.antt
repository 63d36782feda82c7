-- What is true of each table
use Rattle.std.specs.Prelude.{◌≤◌, length}
use Rattle.ufl_expr.specs.declared.elements.Elements.TheInside.{Inside}
use Rattle.ufl_tree.specs.Places.{table_of, IsLawfulTable}
use Rattle.ufl_expr.specs.Elements.{AreDistinct}

pub record IsTable (e : Inside) : Type 0 where
  pub distinct : AreDistinct (table_of e.items)
  pub lawful : IsLawfulTable (table_of e.items)
  pub few : length e.items ≤ 65536
