use Rattle.kernel_runs.specs.Preamble.{cofactor_code}
use Rattle.kernel_statements.proofs.LoopLaws.{three_pieces}
use Rattle.kernel_statements.proofs.preamble.emit_cofactors.Goals as goal

pub returns : goal.returns
returns c =
    three_pieces (cofactor_code c.args.a 0) (cofactor_code c.args.a 1) (cofactor_code c.args.a 2) c.args.body.now _ _ _
    c.in_ok-emit_cofactor.ensures c.in_ok-emit_cofactor-2.ensures c.in_ok-emit_cofactor-3.ensures
