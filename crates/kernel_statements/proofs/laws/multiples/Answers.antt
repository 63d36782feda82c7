use Rattle.kernel_statements.specs.Counted.{multiplier}
use Rattle.kernel_statements.proofs.MultipleLaws.{multiple_from, multiple_is, multiple_by_shape, multiplier_leading, shape_of_multiple}
use Rattle.kernel_statements.proofs.laws.multiples.Goals as goal

pub returns : goal.returns
returns c xs ys h = (λ e. (multiplier xs ys, multiple_is xs ys e), λ m. multiple_from m.0 xs ys h m.1)
