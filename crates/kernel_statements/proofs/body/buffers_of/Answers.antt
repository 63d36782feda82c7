use Rattle.std.proofs.Common.{◌≡◌, ◌≤◌, max, drop, ap, arith}
use Rattle.std.proofs.lemmas.List.{drop_all}
use Rattle.kernel_statements.specs.Statements.{most_columns, most_rows}
use Rattle.kernel_statements.proofs.BodyLaws.{some_columns}
use Rattle.kernel_statements.proofs.body.buffers_of.Goals as goal

pub loop-contraction-init : goal.loop-contraction-init
loop-contraction-init c = record {
  some = omega arith;
  columns = let some = some_columns c.args.contractions.now in omega arith;
  rows = omega arith;
}
