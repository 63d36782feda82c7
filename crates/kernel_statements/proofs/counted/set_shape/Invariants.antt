use Rattle.std.proofs.Common.{◌≡◌, map, take}
use Rattle.algebra.specs.Fraction.{mul, inverse}
use Rattle.ratio.specs.Value.{fraction_of}
use Rattle.c_unit.specs.Meaning.{fractions_of}
use Rattle.kernel_statements.proofs.counted.set_shape.Given as goal

-- the items so far over the leading one
abbrev pub invariant-loop-item : goal.invariant-loop-item
invariant-loop-item l = fractions_of l.shape.items ≡ map (λ r. mul (fraction_of r) (inverse (fraction_of l.leading))) (take l.item-index l.row)
