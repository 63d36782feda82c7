use Rattle.std.proofs.Common.{sym, arith}
use Rattle.ufl_syntax.specs.declared.class.Class.TheVariants as k
use Rattle.ufl_syntax.proofs.Words.{same_is}
use Rattle.ufl_read.proofs.Lines.{reads_assigned}
use Rattle.ufl_read.proofs.statements.assigned.Goals as goal

pub returns : goal.returns
returns c =
    let sign = c.in_ok-_sign.ensures in
    reads_assigned c.args.room c.args.tokens.now c.args.at c.in_ok-_sign.past c.in_ok-_sign._sign (omega (arith, sign.0)) sign.1.0 (sym (same_is k.Assign _ sign.1.1)) sign.2 _ c.ended.ensures
