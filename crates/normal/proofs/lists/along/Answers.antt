use Rattle.std.proofs.Common.{◌≤◌, arith}
use Rattle.std.proofs.lemmas.Result.{err_from_is_err_and}
use Rattle.normal.proofs.Refusals.{only_memory}
use Rattle.normal.proofs.RoomLaws.{not_many}
use Rattle.monos.specs.Monomial.{monomial_of, derivatives}
use Rattle.normal.proofs.DerivedLists.{place_goes_on, places_end}
use Rattle.normal.proofs.Sorting.{order_goes_on}
use Rattle.normal.proofs.lists.along.Goals as goal

pub loop-place-preserved : goal.loop-place-preserved
loop-place-preserved c = record {
  value =
      place_goes_on _ c.args.direction (monomial_of c.m-item.result) c.loop-place.place c.in_ok-with_derivative.field-0 c.loop-place.all.items c.push.new.self.items
      c.in_ok-with_derivative.ensures.value c.in_ok-push.ensures.items c.loop-place.invariant.value;
  in_order = order_goes_on c.loop-place.all.items c.push.new.self.items c.in_ok-with_derivative.field-0 c.in_ok-push.ensures.items c.loop-place.invariant.in_order c.in_ok-with_derivative.ensures.in_order;
}

pub loop-m-preserved : goal.loop-m-preserved
loop-m-preserved c = record {
  value =
      places_end c.args.direction c.args.ms.now c.loop-m.m-index c.loop-place.place c.m-item.result _ c.loop-m-test.true c.m-item.is
      (omega (arith, c.loop-place-test.false, c.loop-place.auto.place-end, c.len-place-end.ensures)) c.loop-place.invariant.value;
  in_order = c.loop-place.invariant.in_order;
}

pub returns-in_err-with_derivative-clause-range : goal.returns-in_err-with_derivative-clause-range
returns-in_err-with_derivative-clause-range c =
    let p = err_from_is_err_and c.from_residual.result c.from_residual.ensures.1 in
    rw (p.1, p.2)
    (λ r. only_memory c.in_err-with_derivative.field-0.0 (255 ≤ derivatives c.m-item.result.atoms) c.in_err-with_derivative.ensures.range
    (not_many c.args.ms.now c.loop-m.m-index c.m-item.result c.loop-m-test.true c.m-item.is r))
