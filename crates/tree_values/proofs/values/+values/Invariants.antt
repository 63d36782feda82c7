use Rattle.std.proofs.Common.{◌≡◌, take, map, ◌∷◌}
use Rattle.ufl_tree.specs.Indices.{followed_by}
use Rattle.calculus.specs.Integral.{sum_below}
use Rattle.ufl_meaning.specs.Operators.{along, trace_value}
use Rattle.tree_values.specs.PolyValue.{value_of}
use Rattle.tree_values.specs.Value.{value_in, sum_in}
use Rattle.tree_values.proofs.values.+values.Given as goal

abbrev pub invariant-value-loop-names : goal.invariant-value-loop-names
invariant-value-loop-names l = value_of l.total ≡ sum_in (take l.names-index l.all) l.scene l.tree l.at

abbrev pub invariant-values-loop-at : goal.invariant-values-loop-at
invariant-values-loop-at l = map value_of l.all ≡ map (value_in l.scene l.a) (take l.at-index l.wanted)

abbrev pub invariant-div-loop-k : goal.invariant-div-loop-k
invariant-div-loop-k l = value_of l.total ≡ sum_below l.k (λ k. along k (value_in l.scene l.a (followed_by l.at k)))

abbrev pub invariant-nabla_div-loop-k : goal.invariant-nabla_div-loop-k
invariant-nabla_div-loop-k l = value_of l.total ≡ sum_below l.k (λ k. along k (value_in l.scene l.a (k ∷ l.at)))

abbrev pub invariant-trace-loop-k : goal.invariant-trace-loop-k
invariant-trace-loop-k l = value_of l.total ≡ trace_value l.k (value_in l.scene l.a)
