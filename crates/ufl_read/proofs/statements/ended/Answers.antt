use Rattle.std.proofs.Common.{◌∷◌, ◌∙◌, drop, subst, sym, arith}
use Rattle.ufl_syntax.specs.declared.class.Class.TheVariants as k
use Rattle.ufl_syntax.specs.Grammar.{Value}
use Rattle.ufl_syntax.specs.Machine.{token}
use Rattle.ufl_syntax.proofs.Words.{same_is}
use Rattle.ufl_read.proofs.statements.ended.Goals as goal

pub returns : goal.returns
returns c =
    let value = c.in_ok-all.ensures in
    let end = c.in_ok-_end.ensures in (
      omega (arith, value.0, end.0),
      (c.in_ok-_end._end, subst (λ l. Value c.args.room (drop c.args.at c.args.tokens.now) c.in_ok-all.all l) end.1.0 value.1, sym (same_is k.End _ end.1.1)),
      λ stack. value.2 (token k.End ∷ stack) ∙ end.2 stack,
    )
