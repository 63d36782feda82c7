use Rattle.std.proofs.Common.{ap, ◌∙◌}
use Rattle.ufl_syntax.specs.declared.tree.Syn.TheVariants as s
use Rattle.ufl_syntax.proofs.Chains.{chain_goes_on, chain_begins}
use Rattle.ufl_read.proofs.values.applied.Goals as goal

pub returns-in_ok-append-in-Postfix : goal.returns-in_ok-append-in-Postfix
returns-in_ok-append-in-Postfix c =
    chain_goes_on c.args.first c.in-Postfix.base c.in-Postfix.before c.args.all c.append.new.self c.in-Postfix.is (λ e. let f = c.if-is_empty.ensures.1 e in cc) c.in_ok-append-in-Postfix.ensures

pub returns-in_ok-new-in_default : goal.returns-in_ok-new-in_default
returns-in_ok-new-in_default c =
    ap (λ x. s.Postfix x c.args.all) c.in_ok-new-in_default.ensures
    ∙ chain_begins c.args.first c.args.all (λ b ps e. c.in_default.not-Postfix b ps e) (λ e. let f = c.if-is_empty.ensures.1 e in cc)
