-- The number of nodes and the height of a typed tree
use Rattle.std.specs.Prelude.{ℕ, ◌+◌, max}
use Rattle.ufl_tree.specs.Typed.{Typed, number, identity, function, piece, one, two, power, index, partial, tensor, list, variable, diff, TypedList, no_items, item}

unfoldable mutual
  pub nodes_of : Typed → ℕ
  nodes_of (number k c) = 1
  nodes_of (identity k n) = 1
  nodes_of (function k f) = 1
  nodes_of (piece k f n) = 1
  nodes_of (one k op a) = nodes_of a + 1
  nodes_of (two k op a b) = nodes_of a + nodes_of b + 1
  nodes_of (power k a n) = nodes_of a + 1
  nodes_of (index k a at) = nodes_of a + 1
  nodes_of (partial k a i) = nodes_of a + 1
  nodes_of (tensor k a by) = nodes_of a + 1
  nodes_of (list k ts) = nodes_of_all ts + 1
  nodes_of (variable k l a) = nodes_of a + 1
  nodes_of (diff k l by a) = nodes_of a + 1

  pub nodes_of_all : TypedList → ℕ
  nodes_of_all no_items = 0
  nodes_of_all (item t ts) = nodes_of t + nodes_of_all ts

unfoldable mutual
  pub height_of : Typed → ℕ
  height_of (number k c) = 1
  height_of (identity k n) = 1
  height_of (function k f) = 1
  height_of (piece k f n) = 1
  height_of (one k op a) = height_of a + 1
  height_of (two k op a b) = max (height_of a) (height_of b) + 1
  height_of (power k a n) = height_of a + 1
  height_of (index k a at) = height_of a + 1
  height_of (partial k a i) = height_of a + 1
  height_of (tensor k a by) = height_of a + 1
  height_of (list k ts) = height_of_all ts + 1
  height_of (variable k l a) = height_of a + 1
  height_of (diff k l by a) = height_of a + 1

  pub height_of_all : TypedList → ℕ
  height_of_all no_items = 0
  height_of_all (item t ts) = max (height_of t) (height_of_all ts)
