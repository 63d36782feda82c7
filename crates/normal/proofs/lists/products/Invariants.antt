use Rattle.std.proofs.Common.{◌++◌, take}
use Rattle.monos.specs.Monomial.{monomial_of, monomials_of}
use Rattle.normal.specs.Monomials.{all_times, products as products_of}
use Rattle.normal.specs.Collecting.{AreReordered}
use Rattle.normal.specs.Order.{AreInOrder}
use Rattle.normal.proofs.lists.products.Given as goal

abbrev pub invariant-loop-n : goal.invariant-loop-n
invariant-loop-n l = record {
  value : AreReordered (products_of (monomials_of (take l.m-index l.ms)) (monomials_of l.ns) ++ all_times (monomial_of l.m) (monomials_of (take l.n-index l.ns))) (monomials_of l.all.items);
  in_order : AreInOrder (monomials_of l.all.items);
}

abbrev pub invariant-loop-m : goal.invariant-loop-m
invariant-loop-m l = record {
  value : AreReordered (products_of (monomials_of (take l.m-index l.ms)) (monomials_of l.ns)) (monomials_of l.all.items);
  in_order : AreInOrder (monomials_of l.all.items);
}
