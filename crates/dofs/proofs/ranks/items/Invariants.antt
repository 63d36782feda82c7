use Rattle.std.proofs.Common.{◌≡◌, ◌++◌, drop}
use Rattle.dofs.specs.Items.{items_from}
use Rattle.dofs.proofs.ranks.items.Given as goal

abbrev pub invariant-loop-key : goal.invariant-loop-key
invariant-loop-key l = record {
  place : l.place ≡ l.key-index;
  items : l.items.items ++ items_from l.key-index (drop l.key-index l.keys) ≡ items_from 0 l.keys;
}
