use Rattle.std.proofs.Common.{◌∙◌, sym, ap, add-one}
use Rattle.calculus.specs.Polynomial.{times, power}
use Rattle.tree_values.specs.PolyValue.{value_of}
use Rattle.tree_values.proofs.poly.Poly.power.Goals as goal

pub loop-i-preserved : goal.loop-i-preserved
loop-i-preserved c =
    c.in_ok-out-2.ensures
    ∙ ap (times (value_of c.args.self.now)) c.loop-i.invariant
    ∙ ap (power (value_of c.args.self.now)) (sym (add-one c.loop-i._i))
