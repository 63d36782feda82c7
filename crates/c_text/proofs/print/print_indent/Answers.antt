use Rattle.std.proofs.Common.{◌≡◌, ◌∙◌, ap, ◌++◌, ◌*◌, ◌+◌, replicate, arith}
use Rattle.c_text.specs.Layout.{indent}
use Rattle.c_text.proofs.Appended.{on_err, extends_behind}
use Rattle.c_text.proofs.print.print_indent.Goals as goal

pub returns-in_err-print_text-2-clause-kept : goal.returns-in_err-print_text-2-clause-kept
returns-in_err-print_text-2-clause-kept c = on_err _ (extends_behind _ _ _ _ c.loop-turn.invariant c.in_err-print_text-2.ensures.kept)

pub returns-clause-ok : goal.returns-clause-ok
unfolding indent
returns-clause-ok c =
    let e : c.loop-turn._turn ≡ c.args.depth = omega arith in
    c.loop-turn.invariant ∙ ap (λ n. c.args.out.now.items ++ replicate (2 * n + 2) 32) e
