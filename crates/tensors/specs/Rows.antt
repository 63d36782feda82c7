-- The rows of reference tensors
use Rattle.std.specs.Prelude.{◌≡◌, List, map}
use Rattle.std.specs.List.{flat_map, AllByRecursion}
use Rattle.algebra.specs.Fraction.{Fraction, zero_fraction}
use Rattle.ratio.specs.declared.reduced.Ratio.{Ratio}
use Rattle.ratio.specs.Value.{fraction_of}
use Rattle.monos.specs.declared.layout.Layout.{Layout}
use Rattle.monos.specs.Monomial.{Monomial}
use Rattle.refint.specs.Local.{numbers_below, entries_of}
use Rattle.refint.specs.Reference.{items}

-- one for each entry of the local tensor, row by row
unfoldable pub rows_of : Layout → Monomial → List (List Fraction)
rows_of l m = flat_map (λ a. map (items l m a) (numbers_below (entries_of l.cols))) (numbers_below (entries_of l.rows))

abbrev pub fractions_of : List (List Ratio) → List (List Fraction)
fractions_of rows = map (map fraction_of) rows

abbrev pub AreZero : List Fraction → Type 0
AreZero xs = AllByRecursion (λ z. z ≡ zero_fraction) xs
