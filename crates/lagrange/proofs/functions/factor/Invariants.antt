use Rattle.std.proofs.Common.{◌≡◌, ℕ, ◌≤◌}
use Rattle.calculus.specs.Polynomial.{times, whole}
use Rattle.calculus.specs.LocalFunction.{falling}
use Rattle.polyalg.specs.Terms.{value_of, IsPoly}
use Rattle.polyalg.specs.Products.{degree_of}
use Rattle.polyalg.specs.ReferenceIntegral.{VariablesBelow}
use Rattle.lagrange.proofs.functions.factor.Given as goal

abbrev pub invariant-loop-m : goal.invariant-loop-m
invariant-loop-m l = (value_of l.product ≡ falling (times (whole l.q) (value_of l.coordinate)) l.m) × (degree_of l.product ≤ l.m) × ((d : ℕ) → VariablesBelow d l.coordinate → VariablesBelow d l.product) × IsPoly l.product
