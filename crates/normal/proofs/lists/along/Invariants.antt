use Rattle.std.proofs.Common.{◌++◌, take}
use Rattle.monos.specs.Monomial.{monomial_of, monomials_of}
use Rattle.normal.specs.Monomials.{all_derived}
use Rattle.normal.specs.Collecting.{AreReordered}
use Rattle.normal.specs.Order.{AreInOrder}
use Rattle.normal.proofs.DerivedLists.{derived_below}
use Rattle.normal.proofs.lists.along.Given as goal

abbrev pub invariant-loop-place : goal.invariant-loop-place
invariant-loop-place l = record {
  value : AreReordered (all_derived l.direction (monomials_of (take l.m-index l.ms)) ++ derived_below l.direction (monomial_of l.m) l.place) (monomials_of l.all.items);
  in_order : AreInOrder (monomials_of l.all.items);
}

abbrev pub invariant-loop-m : goal.invariant-loop-m
invariant-loop-m l = record {
  value : AreReordered (all_derived l.direction (monomials_of (take l.m-index l.ms))) (monomials_of l.all.items);
  in_order : AreInOrder (monomials_of l.all.items);
}
