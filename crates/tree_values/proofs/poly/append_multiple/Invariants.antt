use Rattle.std.proofs.Common.{◌≡◌, take}
use Rattle.tree_values.specs.TermValue.{term_of, sum_of}
use Rattle.calculus.specs.Polynomial.{plus, times}
use Rattle.tree_values.proofs.poly.append_multiple.Given as goal

abbrev pub invariant-loop-u : goal.invariant-loop-u
invariant-loop-u l = sum_of l.out ≡ plus (sum_of l.fn.out) (times (term_of l.t) (sum_of (take l.u-index l.q)))
