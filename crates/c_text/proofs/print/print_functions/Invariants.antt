use Rattle.std.proofs.Common.{◌≡◌, ◌++◌, drop, ℕ, List}
use Rattle.c_text.specs.Pieces.{text_of}
use Rattle.c_text.specs.Layout.{funs_pieces}
use Rattle.c_text.proofs.print.print_functions.Given as goal

abbrev pub invariant-loop-fun : goal.invariant-loop-fun
invariant-loop-fun l = (done : List ℕ) × (l.out.items ≡ l.fn.out.items ++ done) × (done ++ text_of (funs_pieces (drop l.fun-index l.funs)) ≡ text_of (funs_pieces l.funs))
