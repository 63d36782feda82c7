use Rattle.spaces.specs.Reading.{spaces_in}
use Rattle.std.proofs.Common.{drop}
use Rattle.ufl_expr.proofs.PieceLaws.{Counting}
use Rattle.ufl_expr.proofs.pieces.+counts.Given as goal

abbrev pub invariant-scalar_counts-loop-tree : goal.invariant-scalar_counts-loop-tree
invariant-scalar_counts-loop-tree l = Counting l.count (spaces_in (drop l.tree-index l.trees)) (spaces_in l.trees)
