use Rattle.std.proofs.Common.{◌≡◌, ◌++◌, drop, ℕ, List}
use Rattle.c_text.specs.Pieces.{text_of}
use Rattle.c_text.specs.Layout.{body_pieces}
use Rattle.c_text.proofs.print.+printer.Given as goal

-- what is appended so far, and what is still to be
abbrev pub invariant-print_body-loop-statement : goal.invariant-print_body-loop-statement
invariant-print_body-loop-statement l = (done : List ℕ) × (l.out.items ≡ l.fn.out.items ++ done) × (done ++ text_of (body_pieces l.depth (drop l.statement-index l.body)) ≡ text_of (body_pieces l.depth l.body))
