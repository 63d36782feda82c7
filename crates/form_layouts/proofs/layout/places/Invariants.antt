use Rattle.std.proofs.Common.{◌≡◌, ◌≤◌, ◌^◌, ◌++◌, drop}
use Rattle.monos.specs.Layout.{value_count}
use Rattle.ufl_tree.specs.Places.{table_of}
use Rattle.form_values.specs.CellLayout.{places_from}
use Rattle.form_values.specs.Problem.{Problem}
use Rattle.form_layouts.proofs.layout.places.Given as goal

-- the places so far, and those of the numbers that are left
abbrev pub invariant-loop-number : goal.invariant-loop-number
invariant-loop-number l = record {
  says : (p : Problem) → p.elements ≡ table_of l.elements → p.coefficients ≡ l.coefficients → places_from p 0 l.numbers ≡ l.places ++ places_from p l.offset (drop l.number-index l.numbers);
  count : value_count l.places ≡ l.offset;
  few : l.offset ≤ 2 ^ 24;
}
