use Rattle.std.proofs.Common.{◌≡◌, ◌++◌, drop}
use Rattle.form_layouts.specs.Marks.{numbers_from}
use Rattle.form_layouts.proofs.marks.Marks.numbers.Given as goal

-- those that were found so far and those that are left
abbrev pub invariant-loop-number : goal.invariant-loop-number
invariant-loop-number l = numbers_from 0 l.self.coefficients ≡ l.numbers ++ numbers_from l.number (drop l.number l.self.coefficients)
