-- The body of a planned function, and what its run gives
use Rattle.std.specs.Prelude.{◌≡◌, ℕ, ◌+◌, ◌<◌, ◌≤◌, List, [], ◌∷◌, ◌++◌, length, map, replicate, false, true}
use Rattle.algebra.specs.Fraction.{Fraction, absolute, is_zero_fraction, zero_fraction}
use Rattle.calculus.specs.Simplex.{IsCell, Simplex, dimension, volume}
use Rattle.c_unit.specs.declared.unit.Array.TheVariants.{X, W, T}
use Rattle.c_unit.specs.declared.unit.CStmt.{CStmt}
use Rattle.c_unit.specs.declared.unit.CFun.{CFun}
use Rattle.c_unit.specs.Meaning.{ran, run_list, tables_of}
use Rattle.kernel.specs.Ends.{Ends}
use Rattle.kernel_runs.specs.Strips.{Factor, Fastest, MonoPlan, Slowest, map_plan, monos_onto, strip}
use Rattle.kernel_runs.specs.Planned.{AllPlanned, Places, monos_code}
use Rattle.kernel_runs.specs.declared.strip.Strip.{Strip}
use Rattle.kernel_runs.specs.Fit.{StepsFit}
use Rattle.kernel_runs.specs.declared.digit.Digit.{Digit}
use Rattle.kernel_runs.specs.declared.digit.Digit.TheVariants.{Growth, Weights, Corners}
use Rattle.kernel_runs.specs.Preamble.{DifferencesFit, TetrahedronFits, TriangleFits, coordinates, fresh, growth_slot, preamble, scratch_slot, size_slot}
use Rattle.refint.specs.Reference.{growths}

-- where a factor stands
abbrev pub strip_of : ℕ → Digit → Strip
strip_of d (Growth i) = record { array = T; base = growth_slot i; step = 1; count = d }
strip_of d (Weights o n) = record { array = W; base = o; step = 1; count = n }
strip_of d (Corners i n) = record { array = X; base = i; step = d; count = n }

-- its values on a cell
abbrev pub digit_values : ℕ → Simplex → List Fraction → Digit → List Fraction
digit_values d v w (Growth i) = growths d v i
digit_values d v w (Weights o n) = strip w o 1 n
digit_values d v w (Corners i n) = strip (coordinates d v) i d n

abbrev pub places_for : ℕ → Places
places_for cap = record { absolute = size_slot; scratch = scratch_slot; cap = cap }

-- in d dimensions, with room for `cap` columns
abbrev pub planned_body : (d cap : ℕ) → List (MonoPlan Digit) → List CStmt
planned_body d cap ms = preamble d ++ monos_code (places_for cap) (map (map_plan (strip_of d)) ms)

-- one of the three directions
abbrev pub IsDirected : Digit → Type 0
IsDirected (Growth i) = i < 3
IsDirected (Weights o n) = Unit {0}
IsDirected (Corners i n) = Unit {0}

abbrev pub AllDirected : List (Factor Digit) → Type 0
AllDirected [] = Unit {0}
AllDirected (Fastest g ∷ fs) = IsDirected g × AllDirected fs
AllDirected (Slowest g ∷ fs) = IsDirected g × AllDirected fs

abbrev pub MonosDirected : List (MonoPlan Digit) → Type 0
MonosDirected [] = Unit {0}
MonosDirected (m ∷ ms) = AllDirected m.factors × MonosDirected ms

abbrev pub PreambleFits : Type 0 → Simplex → Type 0
PreambleFits Q (a ∷ b ∷ []) = DifferencesFit Q 1 (a ∷ b ∷ [])
PreambleFits Q (a ∷ b ∷ c ∷ []) = TriangleFits Q (a ∷ b ∷ c ∷ [])
PreambleFits Q (a ∷ b ∷ c ∷ e ∷ []) = TetrahedronFits Q (a ∷ b ∷ c ∷ e ∷ [])
PreambleFits Q _ = Unit {0}

-- the plans with the values that their factors have on the cell
abbrev pub plans_on : Simplex → List Fraction → List (MonoPlan Digit) → List (MonoPlan (List Fraction))
plans_on v w ms = map (map_plan (digit_values (dimension v) v w)) ms

-- what the code owes of a function and its plans, where `most` is the greatest number of counted rows
pub record IsBody (f : CFun) (v : Simplex) (cap most : ℕ) (ms : List (MonoPlan Digit)) : Type 0 where
  pub body : f.body ≡ planned_body (dimension v) cap ms
  pub size : f.t ≡ 33 + (cap + cap + most)
  pub some : 1 ≤ cap
  pub directed : MonosDirected ms
  pub planned : AllPlanned (tables_of f.tables) (places_for cap) most f.a (map (map_plan (strip_of (dimension v))) ms)

-- Q where a step passes; else the cell is flat, or A has what the monomials add onto it
abbrev pub PlannedRun : Type 0 → Type 0
PlannedRun Q =
    (ks : List (List Fraction)) (v : Simplex) (w rest out : List Fraction) (cap most : ℕ) (ms : List (MonoPlan Digit))
    → IsCell v → 1 ≤ cap → cap + cap + most ≤ length rest → MonosDirected ms
    → AllPlanned ks (places_for cap) most (length out) (map (map_plan (strip_of (dimension v))) ms)
    → PreambleFits Q v → (is_zero_fraction (volume v) ≡ false → StepsFit Q (absolute (volume v)) out (plans_on v w ms))
    → Ends Q (is_zero_fraction (volume v) ≡ true)
    (λ s. (is_zero_fraction (volume v) ≡ false) × (s.a ≡ monos_onto (absolute (volume v)) out (plans_on v w ms)))
    (run_list (planned_body (dimension v) cap ms) ks 0 (0 ∷ 0 ∷ 0 ∷ 0 ∷ [])
    (fresh (coordinates (dimension v) v) w rest out))

-- the same of a function
abbrev pub PlannedShares : Type 0 → Type 0
PlannedShares Q =
    (f : CFun) (v : Simplex) (w : List Fraction) (cap most : ℕ) (ms : List (MonoPlan Digit))
    → IsCell v → IsBody f v cap most ms → PreambleFits Q v
    → (is_zero_fraction (volume v) ≡ false
    → StepsFit Q (absolute (volume v)) (replicate f.a zero_fraction) (plans_on v w ms))
    → Ends Q (is_zero_fraction (volume v) ≡ true)
    (λ s. (is_zero_fraction (volume v) ≡ false)
    × (s.a ≡ monos_onto (absolute (volume v)) (replicate f.a zero_fraction) (plans_on v w ms)))
    (ran f (coordinates (dimension v) v) w)

-- where nothing is said of runs in which a step passes, no step need fit
abbrev pub PlannedShare : Type 0
PlannedShare =
    (f : CFun) (v : Simplex) (w : List Fraction) (cap most : ℕ) (ms : List (MonoPlan Digit))
    → IsCell v → IsBody f v cap most ms
    → Ends (Unit {0}) (is_zero_fraction (volume v) ≡ true)
    (λ s. (is_zero_fraction (volume v) ≡ false)
    × (s.a ≡ monos_onto (absolute (volume v)) (replicate f.a zero_fraction) (plans_on v w ms)))
    (ran f (coordinates (dimension v) v) w)
