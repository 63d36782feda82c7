-- What is true of each `Expr`
use Rattle.std.specs.Prelude.{◌≡◌, ◌≤◌}
use Rattle.ufl_expr.specs.declared.expr.Expr.TheInside.{Inside}
use Rattle.ufl_tree.specs.Reading.{typed_of}
use Rattle.ufl_expr.specs.Sizes.{nodes_of, height_of}
use Rattle.ufl_expr.specs.Table.{IsTyped}

pub record IsSound (e : Inside) : Type 0 where
  pub typed : IsTyped (typed_of e.tree)
  pub count : e.nodes ≡ nodes_of (typed_of e.tree)
  pub depth : e.height ≡ height_of (typed_of e.tree)
  pub few : e.nodes ≤ 10000
  pub flat : e.height ≤ 128
