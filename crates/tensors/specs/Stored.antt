-- The rows that a tensor stands for, by those that it keeps
use Rattle.std.specs.Prelude.{◌≡◌, ℕ, ◌+◌, ◌*◌, ◌<◌, ◌≤◌, ◌^◌, List, map, length, Option, None, Some, option_and_then}
use Rattle.std.specs.List.{flat_map}
use Rattle.ratio.specs.declared.reduced.Ratio.{Ratio}
use Rattle.refint.specs.Local.{numbers_below}
use Rattle.basis_products.specs.Order.{piece}
use Rattle.monomial_products.specs.declared.support.Support.{Support}
use Rattle.monomial_products.specs.Supports.{places_at, place_at}

-- which of the kept rows is that of local nodes a and b; none where it is 0 throughout
abbrev pub kept_place : Support → Support → ℕ → ℕ → Option ℕ
kept_place tests trials a b =
    option_and_then (λ t. option_and_then (λ u. Some (t * places_at trials + u)) (place_at trials b)) (place_at tests a)

abbrev pub kept_or_zeros : ℕ → List Ratio → List Ratio → Option ℕ → List Ratio
kept_or_zeros columns items zeros None = zeros
kept_or_zeros columns items zeros (Some i) = piece columns i items

abbrev pub stored_row : Support → Support → ℕ → List Ratio → List Ratio → ℕ → ℕ → List Ratio
stored_row tests trials columns items zeros a b = kept_or_zeros columns items zeros (kept_place tests trials a b)

unfoldable pub stored_rows : Support → Support → ℕ → ℕ → ℕ → List Ratio → List Ratio → List (List Ratio)
stored_rows tests trials rows cols columns items zeros =
    flat_map (λ a. map (stored_row tests trials columns items zeros a) (numbers_below cols)) (numbers_below rows)

pub record IsStored (tests trials : Support) (rows cols columns : ℕ) (items zeros : List Ratio) : Type 0 where
  pub some : 0 < cols
  pub few_rows : rows ≤ 2 ^ 15
  pub few_cols : cols ≤ 2 ^ 15
  pub few_columns : columns ≤ 2 ^ 20
  pub kept : length items ≡ places_at tests * places_at trials * columns
  pub zero_row : length zeros ≡ columns
