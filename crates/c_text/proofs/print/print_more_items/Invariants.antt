use Rattle.std.proofs.Common.{◌≡◌, ◌++◌, drop, ℕ, List}
use Rattle.c_text.specs.Pieces.{text_of}
use Rattle.c_text.specs.Layout.{more_items}
use Rattle.c_text.proofs.print.print_more_items.Given as goal

abbrev pub invariant-loop-item : goal.invariant-loop-item
invariant-loop-item l = (done : List ℕ) × (l.out.items ≡ l.fn.out.items ++ done) × (done ++ text_of (more_items (drop l.item-index l.items)) ≡ text_of (more_items l.items))
