-- Denominators that can be divided by
use Rattle.std.specs.Prelude.{◌≤◌}
use Rattle.monos.specs.declared.weight.Weight.{Weight}

pub record HasDenominators (w : Weight) : Type 0 where
  pub den : 1 ≤ w.den
  pub fac : 1 ≤ w.fac
