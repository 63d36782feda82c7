use Rattle.std.proofs.Common.{◌≡◌, take}
use Rattle.calculus.specs.Polynomial.{plus, times}
use Rattle.reference.specs.TermValue.{term_of, sum_of}
use Rattle.reference.proofs.poly.append_multiple.Given as goal

abbrev pub invariant-loop-u : goal.invariant-loop-u
invariant-loop-u l = sum_of l.out.items ≡ plus (sum_of l.fn.out.items) (times (term_of l.t) (sum_of (take l.u-index l.q)))
