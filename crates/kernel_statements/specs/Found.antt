-- What is kept of the counted rows
use Rattle.std.specs.Prelude.{◌≡◌, ℕ, ◌*◌, List, map, length, true, false, Some}
use Rattle.std.specs.List.{AllByRecursion, flat_map}
use Rattle.algebra.specs.Fraction.{Fraction, mul, inverse, is_zero_fraction}
use Rattle.algebra.specs.Steps.{product}
use Rattle.ratio.specs.declared.reduced.Ratio.{Ratio}
use Rattle.ratio.specs.Value.{fraction_of}
use Rattle.c_unit.specs.Meaning.{fractions_of}
use Rattle.kernel_statements.specs.Counted.{leading, shape}
use Rattle.kernel_statements.specs.declared.counted.CountedRows.{CountedRows}

-- the quotient by a number that isn't 0 fits
abbrev pub DivideBy : Ratio → Ratio → Type 0
DivideBy y x = is_zero_fraction (fraction_of y) ≡ false
    → product (fraction_of x) (inverse (fraction_of y)) ≡ Some (mul (fraction_of x) (inverse (fraction_of y)))

-- those of all items of two rows
abbrev pub HaveQuotients : List Ratio → List Ratio → Type 0
HaveQuotients xs ys = AllByRecursion (λ y. AllByRecursion (DivideBy y) xs) ys

-- the rows `found`, of a width, are those that are kept as counted
pub record IsFound (found : List (List Fraction)) (c : CountedRows) : Type 0 where
  pub widths : AllByRecursion (λ row. length row ≡ c.width) found
  pub items : fractions_of c.items.items ≡ flat_map (λ row. row) found
  pub leading : fractions_of c.leading.items ≡ map leading found
  pub shapes : fractions_of c.shapes.items ≡ flat_map shape found
