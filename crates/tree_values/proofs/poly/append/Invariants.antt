use Rattle.std.proofs.Common.{◌≡◌, take}
use Rattle.tree_values.specs.TermValue.{sum_of}
use Rattle.calculus.specs.Polynomial.{plus}
use Rattle.tree_values.proofs.poly.append.Given as goal

abbrev pub invariant-loop-u : goal.invariant-loop-u
invariant-loop-u l = sum_of l.out ≡ plus (sum_of l.fn.out) (sum_of (take l.u-index l.q))
