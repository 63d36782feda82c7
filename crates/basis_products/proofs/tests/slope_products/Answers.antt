use Rattle.std.proofs.Common.{◌+◌, ◌*◌, arith}
use Rattle.basis_products.proofs.ProductLaws.{all_low}
use Rattle.basis_products.proofs.tests.slope_products.Goals as goal

pub with-requires-clause-left : goal.with-requires-clause-left
with-requires-clause-left c = all_low 1 0 3 1 12 _ (omega arith) c.in_ok-trial.ensures.bounds

pub with-requires-clause-right : goal.with-requires-clause-right
with-requires-clause-right c = all_low 1 0 65532 1 1 _ (omega arith) (c.in_ok-one.ensures.bounds 1)

pub with-requires-2-clause-left : goal.with-requires-2-clause-left
with-requires-2-clause-left c = all_low 1 0 3 1 12 _ (omega arith) c.in_ok-test.ensures.bounds

pub with-requires-2-clause-right : goal.with-requires-2-clause-right
with-requires-2-clause-right c =
    all_low 1 (0 + 0) 65532 (1 * 1) (12 * 1) _ (omega arith)
    (c.in_ok-columns.ensures.bounds 1 0 1 12 0 1 1 (omega arith) (omega arith) c.in_ok-trial.ensures.bounds (c.in_ok-one.ensures.bounds 1))
