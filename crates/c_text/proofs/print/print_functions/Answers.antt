use Rattle.c_text.proofs.Appended.{on_err, extends_behind, goes_on}
use Rattle.c_text.proofs.Texts.{text_funs_next}
use Rattle.c_text.proofs.print.print_functions.Goals as goal

pub loop-fun-preserved : goal.loop-fun-preserved
loop-fun-preserved c =
    goes_on _ _ _ _ _ _ _ _ c.loop-fun.invariant.1 c.loop-fun.invariant.2
    (text_funs_next c.args.funs.now c.loop-fun.fun-index c.fun-item.result c.loop-fun-test.true c.fun-item.is)
    c.in_ok-print_function.ensures.ok

pub returns-in_err-print_function-clause-kept : goal.returns-in_err-print_function-clause-kept
returns-in_err-print_function-clause-kept c = on_err _ (extends_behind _ _ _ _ c.loop-fun.invariant.1 c.in_err-print_function.ensures.kept)
