use Rattle.std.proofs.Common.{◌≡◌, ◌-◌, ◌≤◌, drop, length, map}
use Rattle.ufl_tree.specs.Places.{table_of}
use Rattle.ufl_tree.specs.Reading.{typed_of, typed_list}
use Rattle.weigh.specs.Weighing.{kept, list_weight}
use Rattle.admit.specs.Denominators.{HasDenominators}
use Rattle.admit.proofs.trees.+weights.Given as goal

abbrev pub invariant-list_weight-loop-k : goal.invariant-list_weight-loop-k
invariant-list_weight-loop-k l = record {
  value : l.all ≡ list_weight kept (table_of l.elements) (typed_list (map typed_of (drop (length l.front - l.k) l.trees)));
  denominators : HasDenominators l.all;
}
