use Rattle.std.proofs.Common.{◌≡◌, ◌++◌, drop, ℕ, List}
use Rattle.c_text.specs.Pieces.{text_of}
use Rattle.c_text.specs.Layout.{tables_pieces}
use Rattle.c_text.proofs.print.print_tables.Given as goal

abbrev pub invariant-loop-number : goal.invariant-loop-number
invariant-loop-number l = (done : List ℕ) × (l.out.items ≡ l.fn.out.items ++ done) × (done ++ text_of (tables_pieces l.number (drop l.number l.tables)) ≡ text_of (tables_pieces 0 l.tables))
