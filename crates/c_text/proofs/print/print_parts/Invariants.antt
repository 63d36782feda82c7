use Rattle.std.proofs.Common.{◌≡◌, ◌++◌, drop, ℕ, List}
use Rattle.c_text.specs.Parts.{parts_bytes}
use Rattle.c_text.proofs.print.print_parts.Given as goal

abbrev pub invariant-loop-part : goal.invariant-loop-part
invariant-loop-part l = (done : List ℕ) × (l.out.items ≡ l.fn.out.items ++ done) × (done ++ parts_bytes (drop l.part-index l.parts) ≡ parts_bytes l.parts)
