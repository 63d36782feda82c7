use Rattle.calculus.proofs.Barycentric.{basis_coordinate}
use Rattle.std.proofs.Common.{arith}
use Rattle.lagrange.proofs.FactorLaws.{product_is, four_sum}
use Rattle.std.proofs.Common.{◌≤◌, get_or}
use Rattle.lagrange.proofs.Sizes.{start_size, step_size}
use Rattle.lagrange.proofs.functions.product.Goals as goal

pub returns-clause-value : goal.returns-clause-value
returns-clause-value c =
    product_is c.args.q (basis_coordinate c.args.d) c.args.weights _ _ _ _ _ _ c.requires.four c.in_ok-one.ensures.value c.one.ensures
    c.in_ok-first.ensures.value c.in_ok-second.ensures.value c.in_ok-third.ensures.value c.in_ok-function.ensures.value

pub returns-clause-degree : goal.returns-clause-degree
returns-clause-degree c =
    omega (
      arith,
      four_sum c.args.weights c.requires.four,
      c.in_ok-one.ensures.degree,
      c.in_ok-first.ensures.degree,
      c.in_ok-second.ensures.degree,
      c.in_ok-third.ensures.degree,
      c.in_ok-function.ensures.degree,
    )

pub returns-clause-variables : goal.returns-clause-variables
returns-clause-variables c =
    c.in_ok-function.ensures.variables (c.in_ok-third.ensures.variables (c.in_ok-second.ensures.variables (c.in_ok-first.ensures.variables (c.in_ok-one.ensures.variables c.args.d))))

pub with_factor-requires-clause-size : goal.with_factor-requires-clause-size
with_factor-requires-clause-size c = start_size _ _ c.in_ok-one.ensures.value c.one.ensures

pub with_factor-requires-2-clause-size : goal.with_factor-requires-2-clause-size
with_factor-requires-2-clause-size c =
    let few : get_or c.args.weights 0 0 ≤ 3 = omega (arith, four_sum c.args.weights c.requires.four, c.requires.sum, c.requires.few) in
    step_size c.args.q c.args.d 0 _ _ _ c.in_ok-first.ensures.value c.requires.few c.requires.dimension few (start_size _ _ c.in_ok-one.ensures.value c.one.ensures)

pub with_factor-requires-3-clause-size : goal.with_factor-requires-3-clause-size
with_factor-requires-3-clause-size c =
    let few : get_or c.args.weights 0 0 ≤ 3 = omega (arith, four_sum c.args.weights c.requires.four, c.requires.sum, c.requires.few) in
    let next : get_or c.args.weights 1 0 ≤ 3 = omega (arith, four_sum c.args.weights c.requires.four, c.requires.sum, c.requires.few) in
    step_size c.args.q c.args.d 1 _ _ _ c.in_ok-second.ensures.value c.requires.few c.requires.dimension next
    (step_size c.args.q c.args.d 0 _ _ _ c.in_ok-first.ensures.value c.requires.few c.requires.dimension few (start_size _ _ c.in_ok-one.ensures.value c.one.ensures))

pub with_factor-requires-4-clause-size : goal.with_factor-requires-4-clause-size
with_factor-requires-4-clause-size c =
    let few : get_or c.args.weights 0 0 ≤ 3 = omega (arith, four_sum c.args.weights c.requires.four, c.requires.sum, c.requires.few) in
    let next : get_or c.args.weights 1 0 ≤ 3 = omega (arith, four_sum c.args.weights c.requires.four, c.requires.sum, c.requires.few) in
    let last : get_or c.args.weights 2 0 ≤ 3 = omega (arith, four_sum c.args.weights c.requires.four, c.requires.sum, c.requires.few) in
    step_size c.args.q c.args.d 2 _ _ _ c.in_ok-third.ensures.value c.requires.few c.requires.dimension last
    (step_size c.args.q c.args.d 1 _ _ _ c.in_ok-second.ensures.value c.requires.few c.requires.dimension next
    (step_size c.args.q c.args.d 0 _ _ _ c.in_ok-first.ensures.value c.requires.few c.requires.dimension few (start_size _ _ c.in_ok-one.ensures.value c.one.ensures)))
