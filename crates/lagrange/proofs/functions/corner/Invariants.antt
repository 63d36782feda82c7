use Rattle.std.proofs.Common.{◌≡◌, ◌≤◌}
use Rattle.calculus.proofs.Barycentric.{coordinate_sum}
use Rattle.polyalg.specs.Terms.{value_of, IsPoly}
use Rattle.polyalg.specs.Products.{degree_of}
use Rattle.polyalg.specs.ReferenceIntegral.{VariablesBelow}
use Rattle.lagrange.proofs.functions.corner.Given as goal

abbrev pub invariant-loop-k : goal.invariant-loop-k
invariant-loop-k l = (value_of l.sum ≡ coordinate_sum l.k) × (degree_of l.sum ≤ 1) × VariablesBelow l.d l.sum × IsPoly l.sum
