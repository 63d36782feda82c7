use Rattle.std.proofs.Common.{◌≡◌, ◌-◌, Some}
use Rattle.ratio.specs.Value.{fraction_of}
use Rattle.ufl_values.specs.Numbers.{power_of, power_from}
use Rattle.ufl_values.proofs.operators.power_of.Given as goal

abbrev pub invariant-loop-factor : goal.invariant-loop-factor
invariant-loop-factor l = power_of (fraction_of l.c) l.n ≡ power_from (l.n - l._factor) (fraction_of l.c) (Some (fraction_of l.all))
