use Rattle.std.proofs.Common.{◌∙◌, sym, ap}
use Rattle.algebra.specs.Fraction.{is_below_zero}
use Rattle.calculus.specs.Polynomial.{negative}
use Rattle.reference.specs.PolyValue.{value_of}
use Rattle.reference.specs.PointValue.{simplex_of}
use Rattle.reference.proofs.Integrals.{turned_cell, upright_cell}
use Rattle.reference.proofs.integral.cell_integral.Goals as goal

pub returns-in_ok-turned : goal.returns-in_ok-turned
returns-in_ok-turned c =
    c.in_ok-turned.ensures
    ∙ ap negative c.in_ok-integral.ensures
    ∙ sym (turned_cell (simplex_of c.args.v.now) (value_of c.args.p.now) (ap is_below_zero (sym c.in_ok-size.ensures) ∙ sym c.is_negative.ensures ∙ c.if-is_negative.true))

pub returns-else-is_negative : goal.returns-else-is_negative
returns-else-is_negative c =
    c.in_ok-integral.ensures
    ∙ sym (upright_cell (simplex_of c.args.v.now) (value_of c.args.p.now) (ap is_below_zero (sym c.in_ok-size.ensures) ∙ sym c.is_negative.ensures ∙ c.if-is_negative.false))
