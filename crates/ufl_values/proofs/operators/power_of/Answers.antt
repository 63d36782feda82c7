use Rattle.std.proofs.Common.{◌∙◌, sym, ap, Some}
use Rattle.ratio.specs.Value.{fraction_of, valued}
use Rattle.ufl_values.proofs.PowerLaws.{power_start, power_step, power_none, power_done}
use Rattle.ufl_values.proofs.operators.power_of.Goals as goal

pub loop-factor-init : goal.loop-factor-init
loop-factor-init c = power_start (fraction_of c.args.c) (fraction_of c.one-all.result) c.args.n c.one-all.ensures

pub loop-factor-preserved : goal.loop-factor-preserved
loop-factor-preserved c =
    c.loop-factor.invariant
    ∙ power_step c.args.n c.loop-factor._factor (fraction_of c.args.c) (fraction_of c.loop-factor.all) (Some (fraction_of c.in_ok-all.all)) c.loop-factor-test.true c.in_ok-all.ensures

pub returns-in_err-all : goal.returns-in_err-all
returns-in_err-all c =
    ap valued c.from_residual.ensures
    ∙ sym (c.loop-factor.invariant ∙ power_none c.args.n c.loop-factor._factor (fraction_of c.args.c) (fraction_of c.loop-factor.all) c.loop-factor-test.true c.in_err-all.ensures)

pub returns : goal.returns
returns c =
    sym (c.loop-factor.invariant ∙ power_done c.args.n c.loop-factor._factor (fraction_of c.args.c) (fraction_of c.loop-factor.all) c.loop-factor-test.false)
