use Rattle.std.proofs.Common.{◌≡◌, List, ◌++◌, drop}
use Rattle.c_run.specs.declared.busy.Busy.{Busy}
use Rattle.c_run.specs.Busy.{IsListed}
use Rattle.c_run.proofs.busy.+list.Given as goal

-- what is listed so far stands in front of what is listed for the rest of the block
abbrev pub invariant-list_block-loop-index : goal.invariant-list_block-loop-index
invariant-list_block-loop-index l =
    (es : List Busy) × (l.busy.items ≡ l.fn.busy.items ++ es) × ((more : List Busy) → IsListed l.index (drop l.index l.body) more → IsListed 0 l.body (es ++ more))
