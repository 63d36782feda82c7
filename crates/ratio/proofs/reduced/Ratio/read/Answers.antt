use Rattle.std.proofs.Common.{None, Some, ap}
use Rattle.ratio.specs.Value.{fraction_of, valued}
use Rattle.ratio.proofs.MagnitudeLaws.{minus_value}
use Rattle.ratio.proofs.reduced.Ratio.read.Goals as goal

pub returns-in_err-read_magnitude-in-Some-clause-value : goal.returns-in_err-read_magnitude-in-Some-clause-value
returns-in_err-read_magnitude-in-Some-clause-value c =
    minus_value c.args.text.now c.in-Some.size.now (valued c.from_residual.result) None c.in-Some.ensures c.in_err-read_magnitude-in-Some.ensures.value (ap valued c.from_residual.ensures)

pub returns-in_ok-read_magnitude-in-Some-clause-value : goal.returns-in_ok-read_magnitude-in-Some-clause-value
returns-in_ok-read_magnitude-in-Some-clause-value c =
    minus_value c.args.text.now c.in-Some.size.now (Some (fraction_of c.neg.result)) (Some (fraction_of c.in_ok-read_magnitude-in-Some.field-0)) c.in-Some.ensures c.in_ok-read_magnitude-in-Some.ensures.value
    (ap Some c.neg.ensures)
