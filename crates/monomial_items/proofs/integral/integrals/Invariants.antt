use Rattle.std.proofs.Common.{◌≡◌, ℕ, ◌+◌, ◌*◌, ◌<◌, map, take}
use Rattle.std.specs.List.{AllByRecursion}
use Rattle.algebra.specs.Fraction.{mul}
use Rattle.algebra.specs.Over.{Over}
use Rattle.ratio.specs.Value.{fraction_of}
use Rattle.calculus.specs.LocalFunction.{factorial}
use Rattle.polyalg.specs.Prelude.{value_of}
use Rattle.basis_products.specs.Functions.{AreBounded}
use Rattle.monomial_items.specs.Integrals.{integral_on, AreFitting}
use Rattle.monomial_items.proofs.integral.integrals.Given as goal

abbrev pub invariant-loop-p : goal.invariant-loop-p
invariant-loop-p l = record {
  value : map fraction_of l.all.items ≡ map (λ p. mul (fraction_of l.c) (integral_on l.d (value_of p))) (take l.p-index l.polynomials);
  bounds : (n k b j i : ℕ) → 0 < k → Over j i (fraction_of l.c) → AreBounded l.d n k b l.polynomials → AreFitting l.d n k b (fraction_of l.c)
      → AllByRecursion (λ x. Over (j * (k * factorial (n + l.d))) (i * (b * factorial (n + l.d))) (fraction_of x)) l.all.items;
}
