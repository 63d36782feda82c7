-- The nodes of several trees together, and the height of the highest
use Rattle.std.specs.Prelude.{◌≡◌, ℕ}
use Rattle.ufl_tree.specs.Typed.{TypedList}
use Rattle.ufl_expr.specs.Sizes.{nodes_of_all, height_of_all}
use Rattle.ufl_expr.specs.Table.{AreTyped}

-- of trees that all obey the table
pub record IsExtent (ts : TypedList) (n h : ℕ) : Type 0 where
  pub typed : AreTyped ts
  pub count : n ≡ nodes_of_all ts
  pub depth : h ≡ height_of_all ts
