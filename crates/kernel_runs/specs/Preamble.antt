-- The first statements of a planned kernel: volume factor, its reciprocal and size, and the inverse Jacobian
use Rattle.std.specs.Prelude.{◌≡◌, ◌≢◌, ℕ, zero, suc, ◌+◌, ◌*◌, ◌<◌, List, [], ◌∷◌, ◌++◌, length, map, take, false, None, nat_lt, if◌then◌else◌}
use Rattle.algebra.specs.Fraction.{Fraction, absolute, add, is_zero_fraction, mul, zero_fraction}
use Rattle.algebra.specs.Steps.{difference, fits, sum}
use Rattle.calculus.specs.Simplex.{Simplex, along_axis, volume}
use Rattle.calculus.specs.Jacobian.{cofactor_in, inverse_jacobian, jacobian, next_axis, vertex_at}
use Rattle.c_unit.specs.declared.unit.Array.TheVariants.{X, T}
use Rattle.c_unit.specs.declared.unit.Place.{Place}
use Rattle.c_unit.specs.declared.unit.CStmt.{CStmt, Copy, Abs, Inv, Add, Sub, Mul}
use Rattle.c_unit.specs.Meaning.{Slots}
use Rattle.kernel_runs.specs.Strips.{strip}
use Rattle.kernel_runs.specs.Frame.{slot}
use Rattle.kernel_runs.specs.Planned.{place}
use Rattle.refint.specs.Reference.{growths}

-- ---- the fixed slots of T: 9 differences, 9 cofactors, volume factor, its reciprocal and size, 9 slots of the inverse
-- Jacobian, 0, and two slots for products
abbrev pub t : ℕ → Place
t k = place T k 0 0

abbrev pub x : ℕ → Place
x k = place X k 0 0

abbrev pub size_slot : ℕ
size_slot = 20

-- how the reference coordinates grow in direction i
abbrev pub growth_slot : ℕ → ℕ
growth_slot i = 21 + 3 * i

abbrev pub scratch_slot : ℕ
scratch_slot = 32

-- T[3*i + a] = coordinate i of v_(a+1) - v_0
abbrev pub difference_code : ℕ → ℕ → ℕ → List CStmt
difference_code d i a = Sub (t (3 * i + a)) (x (d * (a + 1) + i)) (x i) ∷ []

abbrev pub volume_code : List CStmt
volume_code = Inv (t 19) (t 18) ∷ Abs (t 20) (t 18) ∷ []

abbrev pub interval_preamble : List CStmt
interval_preamble = difference_code 1 0 0 ++ Copy (t 18) (t 0) ∷ volume_code ++ Copy (t 21) (t 19) ∷ []

abbrev pub triangle_preamble : List CStmt
triangle_preamble =
    difference_code 2 0 0 ++ difference_code 2 0 1 ++ difference_code 2 1 0 ++ difference_code 2 1 1
    ++ Mul (t 32) (t 0) (t 4) ∷ Mul (t 31) (t 1) (t 3) ∷ Sub (t 18) (t 32) (t 31) ∷ volume_code
    ++ Mul (t 21) (t 4) (t 19) ∷ Mul (t 25) (t 0) (t 19)
    ∷ Sub (t 32) (t 30) (t 1) ∷ Mul (t 24) (t 32) (t 19)
    ∷ Sub (t 32) (t 30) (t 3) ∷ Mul (t 22) (t 32) (t 19) ∷ []

-- T[9 + 3*a + i] = the cofactor of row i and column a
abbrev pub cofactor_code : ℕ → ℕ → List CStmt
cofactor_code a i =
    Mul (t 32) (t (3 * next_axis i + next_axis a)) (t (3 * next_axis (next_axis i) + next_axis (next_axis a)))
    ∷ Mul (t 31) (t (3 * next_axis i + next_axis (next_axis a))) (t (3 * next_axis (next_axis i) + next_axis a))
    ∷ Sub (t (9 + 3 * a + i)) (t 32) (t 31) ∷ []

abbrev pub growth_code : ℕ → ℕ → List CStmt
growth_code i a = Mul (t (21 + 3 * i + a)) (t (9 + 3 * a + i)) (t 19) ∷ []

abbrev pub all_differences : List CStmt
all_differences =
    difference_code 3 0 0 ++ difference_code 3 0 1 ++ difference_code 3 0 2
    ++ difference_code 3 1 0 ++ difference_code 3 1 1 ++ difference_code 3 1 2
    ++ difference_code 3 2 0 ++ difference_code 3 2 1 ++ difference_code 3 2 2

-- of one column
abbrev pub cofactors_code : ℕ → List CStmt
cofactors_code a = cofactor_code a 0 ++ cofactor_code a 1 ++ cofactor_code a 2

abbrev pub expansion_code : List CStmt
expansion_code =
    Mul (t 18) (t 0) (t 9) ∷ Mul (t 32) (t 1) (t 12) ∷ Add (t 18) (t 18) (t 32)
    ∷ Mul (t 32) (t 2) (t 15) ∷ Add (t 18) (t 18) (t 32) ∷ volume_code

abbrev pub all_growths : List CStmt
all_growths =
    growth_code 0 0 ++ growth_code 0 1 ++ growth_code 0 2
    ++ growth_code 1 0 ++ growth_code 1 1 ++ growth_code 1 2
    ++ growth_code 2 0 ++ growth_code 2 1 ++ growth_code 2 2

abbrev pub tetrahedron_preamble : List CStmt
tetrahedron_preamble =
    all_differences ++ (cofactors_code 0 ++ (cofactors_code 1 ++ (cofactors_code 2 ++ (expansion_code ++ all_growths))))

abbrev pub preamble : ℕ → List CStmt
preamble zero = []
preamble (suc zero) = interval_preamble
preamble (suc (suc zero)) = triangle_preamble
preamble (suc (suc (suc d))) = tetrahedron_preamble

-- ---- what it starts from and gives
-- the first d coordinates of each vertex
abbrev pub coordinates : ℕ → Simplex → List Fraction
coordinates d [] = []
coordinates d (v ∷ vs) = take d (v.x ∷ v.y ∷ v.z ∷ []) ++ coordinates d vs

abbrev pub eleven_zeros : List Fraction → List Fraction
eleven_zeros rest =
    zero_fraction ∷ zero_fraction ∷ zero_fraction ∷ zero_fraction ∷ zero_fraction ∷ zero_fraction
    ∷ zero_fraction ∷ zero_fraction ∷ zero_fraction ∷ zero_fraction ∷ zero_fraction ∷ rest

-- the 33 fixed slots are 0
abbrev pub fresh : List Fraction → List Fraction → List Fraction → List Fraction → Slots
fresh xs w rest a = record { x = xs; w = w; t = eleven_zeros (eleven_zeros (eleven_zeros rest)); a = a }

pub record Prepared (d : ℕ) (v : Simplex) (s₀ s : Slots) : Type 0 where
  pub x : s.x ≡ s₀.x
  pub w : s.w ≡ s₀.w
  pub a : s.a ≡ s₀.a
  pub size : length s.t ≡ length s₀.t
  pub absolute_volume : slot s size_slot ≡ absolute (volume v)
  pub first : strip s.t (growth_slot 0) 1 d ≡ growths d v 0
  pub second : strip s.t (growth_slot 1) 1 d ≡ growths d v 1
  pub third : strip s.t (growth_slot 2) 1 d ≡ growths d v 2

-- ---- its steps
abbrev pub DifferencesFit : Type 0 → ℕ → Simplex → Type 0
DifferencesFit Q d v =
    (i a : ℕ) → i < d → a < d → difference (along_axis i (vertex_at v (suc a))) (along_axis i (vertex_at v 0)) ≡ None → Q

pub record TriangleFits (Q : Type 0) (v : Simplex) : Type 0 where
  pub differences : DifferencesFit Q 2 v
  pub main : fits (mul (jacobian v 0 0) (jacobian v 1 1)) ≡ false → Q
  pub other : fits (mul (jacobian v 0 1) (jacobian v 1 0)) ≡ false → Q
  pub volume_factor : difference (mul (jacobian v 0 0) (jacobian v 1 1)) (mul (jacobian v 0 1) (jacobian v 1 0)) ≡ None
      → Q
  pub turned : is_zero_fraction (volume v) ≡ false → (i a : ℕ) → i < 2 → a < 2 → i ≢ a
      → difference zero_fraction (jacobian v i a) ≡ None → Q
  pub growth : is_zero_fraction (volume v) ≡ false → (i a : ℕ) → i < 2 → a < 2
      → fits (inverse_jacobian v a i) ≡ false → Q

-- the cofactor of row i and column a is the difference of two products
abbrev pub main_product : Simplex → ℕ → ℕ → Fraction
main_product v i a =
    mul (jacobian v (next_axis i) (next_axis a)) (jacobian v (next_axis (next_axis i)) (next_axis (next_axis a)))

abbrev pub other_product : Simplex → ℕ → ℕ → Fraction
other_product v i a =
    mul (jacobian v (next_axis i) (next_axis (next_axis a))) (jacobian v (next_axis (next_axis i)) (next_axis a))

-- a summand of the volume factor
abbrev pub volume_part : Simplex → ℕ → Fraction
volume_part v a = mul (jacobian v 0 a) (cofactor_in 3 (jacobian v) 0 a)

pub record TetrahedronFits (Q : Type 0) (v : Simplex) : Type 0 where
  pub differences : DifferencesFit Q 3 v
  pub main : (i a : ℕ) → i < 3 → a < 3 → fits (main_product v i a) ≡ false → Q
  pub other : (i a : ℕ) → i < 3 → a < 3 → fits (other_product v i a) ≡ false → Q
  pub cofactors : (i a : ℕ) → i < 3 → a < 3 → difference (main_product v i a) (other_product v i a) ≡ None → Q
  pub parts : (a : ℕ) → a < 3 → fits (volume_part v a) ≡ false → Q
  pub two : sum (volume_part v 0) (volume_part v 1) ≡ None → Q
  pub three : sum (add (volume_part v 0) (volume_part v 1)) (volume_part v 2) ≡ None → Q
  pub growth : is_zero_fraction (volume v) ≡ false → (i a : ℕ) → i < 3 → a < 3
      → fits (inverse_jacobian v a i) ≡ false → Q
