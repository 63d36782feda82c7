use Rattle.std.proofs.Common.{◌≡◌, ◌++◌}
use Rattle.monos.specs.Monomial.{monomials_of}
use Rattle.normal.specs.Monomials.{all_negative}
use Rattle.normal.proofs.lists.negated.Given as goal

abbrev pub invariant-loop-m : goal.invariant-loop-m
invariant-loop-m l = record {
  all : l.yielded ++ l.m-iterator.rest.items ≡ l.fn.ms.items;
  value : monomials_of l.all.items ≡ all_negative (monomials_of l.yielded);
}
