use Rattle.std.proofs.Common.{◌≡◌, List, length, drop, false}
use Rattle.algebra.specs.Fraction.{Fraction}
use Rattle.c_unit.specs.Meaning.{fractions_of}
use Rattle.kernel_statements.specs.Counted.{is_zero_row, first_multiple, shape}
use Rattle.kernel_statements.specs.Found.{IsFound}
use Rattle.kernel_statements.proofs.counted.CountedRows.place.Given as goal

-- no row so far has this shape
abbrev pub invariant-loop-k : goal.invariant-loop-k
invariant-loop-k l =
    (found : List (List Fraction)) (row : List Fraction) → IsFound found l.self → length row ≡ l.self.width → is_zero_row row ≡ false
    → fractions_of l.shape ≡ shape row → first_multiple 0 found row ≡ first_multiple l.k (drop l.k found) row
