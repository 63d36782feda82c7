use Rattle.std.proofs.Common.{◌≡◌, ◌≤◌, drop, length}
use Rattle.spaces.specs.Space.{scalars}
use Rattle.spaces.specs.Reading.{space_of}
use Rattle.weigh.specs.Weighing.{parts_weight}
use Rattle.admit.specs.Denominators.{HasDenominators}
use Rattle.admit.proofs.functions.of_element.Given as goal

abbrev pub invariant-loop-k : goal.invariant-loop-k
invariant-loop-k l = record {
  below : l.k ≤ length (scalars (space_of l.element));
  value : l.w ≡ parts_weight (drop l.k (scalars (space_of l.element)));
  denominators : HasDenominators l.w;
}

abbrev pub decreases-loop-k : goal.decreases-loop-k
decreases-loop-k l = l.k
