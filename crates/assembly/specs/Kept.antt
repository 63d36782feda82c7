-- The sums that are kept while values come in
use Rattle.std.specs.Prelude.{◌≡◌, ℕ, List, [], ◌∷◌, Option, None, Some, if◌then◌else◌}
use Rattle.std.specs.Option.{option_and_then}
use Rattle.std.specs.Ordering.{nat_cmp, ordering_then}
use Rattle.std.specs.declared.cmp.Ordering.{Ordering}
use Rattle.algebra.specs.Fraction.{Fraction, is_zero_fraction}
use Rattle.algebra.specs.Steps.{sum}
use Rattle.ratio.specs.Value.{fraction_of}
use Rattle.ratio.specs.declared.reduced.Ratio.{Ratio}
use Rattle.assembly.specs.Sums.{Entry, added, added_onto}
use Rattle.assembly.specs.declared.triple.Triple.{Triple}

-- the place of an entry
pub record Place : Type 0 where
  pub row : ℕ
  pub col : ℕ

-- the entry of a triple
abbrev pub seen : Triple → Entry
seen t = record { row = t.row; col = t.col; value = fraction_of t.value }

abbrev pub place_cmp : Place → Place → Ordering
place_cmp a b = ordering_then (nat_cmp a.row b.row) (nat_cmp a.col b.col)

abbrev pub place : ℕ → ℕ → Place
place row col = record { row = row; col = col }

-- the sum with one more value
abbrev pub plus : Option (Option Fraction) → Fraction → Option Fraction
plus None x = Some x
plus (Some s) x = option_and_then (λ t. sum t x) s

-- the sum with more values, in their order
abbrev pub resumed : Option (Option Fraction) → List Fraction → Option Fraction
resumed None xs = added xs
resumed (Some s) xs = added_onto s xs

abbrev pub with_entry : Place → Option Ratio → List Entry → List Entry
with_entry p None es = es
with_entry p (Some r) es = if is_zero_fraction (fraction_of r) then es else record { row = p.row; col = p.col; value = fraction_of r } ∷ es

-- the sums that did not pass and are not zero
abbrev pub nonzeros : List (Place × Option Ratio) → List Entry
nonzeros [] = []
nonzeros (e ∷ es) = with_entry e.0 e.1 (nonzeros es)

abbrev pub or_place : Place → Option Ratio → Option Place → Option Place
or_place p None later = Some p
or_place p (Some r) later = later

-- the first place whose sum passed
abbrev pub first_passed : List (Place × Option Ratio) → Option Place
first_passed [] = None
first_passed (e ∷ es) = or_place e.0 e.1 (first_passed es)
