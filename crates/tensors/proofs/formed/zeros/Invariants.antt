use Rattle.std.proofs.Common.{◌≡◌, length}
use Rattle.std.specs.List.{AllByRecursion}
use Rattle.algebra.specs.Fraction.{zero_fraction}
use Rattle.ratio.specs.Value.{fraction_of}
use Rattle.tensors.proofs.formed.zeros.Given as goal

abbrev pub invariant-loop : goal.invariant-loop
invariant-loop l = (length l.all.items ≡ l.counter) × AllByRecursion (λ x. fraction_of x ≡ zero_fraction) l.all.items
