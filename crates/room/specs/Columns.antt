-- The columns of a monomial: the absolute volume factor times one item of each factor
use Rattle.std.specs.Prelude.{ℕ, zero, suc, ◌*◌, ◌^◌, ◌-◌, List, [], ◌∷◌, ◌++◌, map}
use Rattle.std.specs.List.{flat_map}
use Rattle.algebra.specs.Fraction.{Fraction, mul, absolute}
use Rattle.calculus.specs.Simplex.{Simplex, volume}
use Rattle.room.specs.Room.{cofactor_bound, whole_volume}
use Rattle.room.specs.declared.numbers.CellNumbers.{CellNumbers}
use Rattle.refint.specs.Reference.{growths}
use Rattle.room.specs.Steps.{Step, Product}

-- the new factor runs fastest
abbrev pub extended : List Fraction → List Fraction → List Fraction
extended xs ys = flat_map (λ x. map (λ y. mul x y) ys) xs

abbrev pub extended_steps : List Fraction → List Fraction → List Step
extended_steps xs ys = flat_map (λ x. map (λ y. Product x y) ys) xs

-- the new factor runs slowest
abbrev pub repeated : List Fraction → List Fraction → List Fraction
repeated xs ys = flat_map (λ y. map (λ x. mul x y) xs) ys

abbrev pub repeated_steps : List Fraction → List Fraction → List Step
repeated_steps xs ys = flat_map (λ y. map (λ x. Product x y) xs) ys

-- derivative factors, in order
abbrev pub grown : List Fraction → List (List Fraction) → List Fraction
grown xs [] = xs
grown xs (f ∷ fs) = grown (extended xs f) fs

abbrev pub grown_steps : List Fraction → List (List Fraction) → List Step
grown_steps xs [] = []
grown_steps xs (f ∷ fs) = extended_steps xs f ++ grown_steps (extended xs f) fs

-- coefficient values: the last coefficient first, so that the first runs slowest
abbrev pub weighted : List Fraction → List (List Fraction) → List Fraction
weighted xs [] = xs
weighted xs (f ∷ fs) = repeated (weighted xs fs) f

abbrev pub weighted_steps : List Fraction → List (List Fraction) → List Step
weighted_steps xs [] = []
weighted_steps xs (f ∷ fs) = weighted_steps xs fs ++ repeated_steps (weighted xs fs) f

-- of the physical directions of a monomial's derivatives, and the values of its coefficients
abbrev pub column_values : ℕ → Simplex → List ℕ → List (List Fraction) → List Fraction
column_values d v is ws = weighted (grown (absolute (volume v) ∷ []) (map (growths d v) is)) ws

abbrev pub column_steps : ℕ → Simplex → List ℕ → List (List Fraction) → List Step
column_steps d v is ws = grown_steps (absolute (volume v) ∷ []) (map (growths d v) is) ++ weighted_steps (grown (absolute (volume v) ∷ []) (map (growths d v) is)) ws

-- ---- the numbers of the table: with r derivative factors and i values
abbrev pub column_denominator : CellNumbers → Simplex → ℕ → ℕ → ℕ
column_denominator c v r i = c.dd ^ c.d * whole_volume c v ^ (r - 1) * c.dw ^ i

abbrev pub derived_numerator : CellNumbers → Simplex → ℕ → ℕ
derived_numerator c v zero = whole_volume c v
derived_numerator c v (suc r) = (cofactor_bound c * c.dd) ^ suc r

abbrev pub column_numerator : CellNumbers → Simplex → ℕ → ℕ → ℕ
column_numerator c v r i = derived_numerator c v r * c.nw ^ i
