use Rattle.std.proofs.Common.{◌≡◌, None, arith}
use Rattle.std.proofs.lemmas.Result.{err_from_is_err_and}
use Rattle.algebra.specs.Steps.{product}
use Rattle.ratio.specs.Value.{fraction_of}
use Rattle.normal.proofs.Refusals.{only_memory}
use Rattle.normal.proofs.RoomLaws.{pair_fits}
use Rattle.monos.specs.Monomial.{monomial_of}
use Rattle.normal.proofs.ProductLists.{row_goes_on, row_ends}
use Rattle.normal.proofs.Sorting.{order_goes_on}
use Rattle.normal.proofs.lists.products.Goals as goal

pub loop-n-preserved : goal.loop-n-preserved
loop-n-preserved c = record {
  value =
      row_goes_on _ (monomial_of c.m-item.result) c.args.ns.now c.loop-n.n-index c.n-item.result c.in_ok-product.field-0 c.loop-n.all.items c.push.new.self.items
      c.loop-n-test.true c.n-item.is c.in_ok-product.ensures.value c.in_ok-push.ensures.items c.loop-n.invariant.value;
  in_order = order_goes_on c.loop-n.all.items c.push.new.self.items c.in_ok-product.field-0 c.in_ok-push.ensures.items c.loop-n.invariant.in_order c.in_ok-product.ensures.in_order;
}

pub loop-m-preserved : goal.loop-m-preserved
loop-m-preserved c = record {
  value =
      row_ends c.args.ms.now c.args.ns.now c.loop-m.m-index c.loop-n.n-index c.m-item.result _
      c.loop-m-test.true c.m-item.is (omega (arith, c.loop-n-test.false)) c.loop-n.invariant.value;
  in_order = c.loop-n.invariant.in_order;
}

pub returns-in_err-product-clause-range : goal.returns-in_err-product-clause-range
returns-in_err-product-clause-range c =
    let p = err_from_is_err_and c.from_residual.result c.from_residual.ensures.1 in
    rw (p.1, p.2)
    (λ r. only_memory c.in_err-product.field-0.0 (product (fraction_of c.m-item.result.c) (fraction_of c.n-item.result.c) ≡ None) c.in_err-product.ensures.range
    (pair_fits c.args.ms.now c.args.ns.now c.loop-m.m-index c.loop-n.n-index c.m-item.result c.n-item.result c.loop-m-test.true c.loop-n-test.true c.m-item.is c.n-item.is r))
