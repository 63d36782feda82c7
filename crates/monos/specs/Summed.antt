-- Which free indices an operator of two operands sums
use Rattle.std.specs.Prelude.{List, [], ◌++◌}
use Rattle.ufl_tree.specs.declared.function.Free.{Free}
use Rattle.ufl_tree.specs.declared.tree.Op2.{Op2}
use Rattle.ufl_tree.specs.declared.tree.Op2.TheVariants.{Product}
use Rattle.ufl_tree.specs.Indices.{repeated}

-- in a product those of both operands
abbrev pub summed : Op2 → List Free → List Free → List Free
summed Product xs ys = repeated (xs ++ ys)
summed _ xs ys = []
