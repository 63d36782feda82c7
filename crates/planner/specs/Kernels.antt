-- What is asked of a sum of monomials, and what its kernel is
use Rattle.std.specs.Prelude.{◌≡◌, ℕ, ◌+◌, ◌*◌, ◌<◌, ◌≤◌, ◌^◌, List, [], ◌∷◌, Contains, length, map, false, true}
use Rattle.std.specs.List.{AllByRecursion, flat_map}
use Rattle.algebra.specs.Fraction.{Fraction, mul, is_zero_fraction}
use Rattle.calculus.specs.Polynomial.{Polynomial}
use Rattle.calculus.specs.Simplex.{Simplex, volume}
use Rattle.ufl_tree.specs.declared.function.Role.{Role}
use Rattle.ufl_tree.specs.declared.function.Role.TheVariants.{Test, Trial}
use Rattle.ufl_meaning.specs.Environment.{Environment}
use Rattle.ufl_meaning.specs.Monomial.{monos_value}
use Rattle.monos.specs.declared.layout.Layout.{Layout}
use Rattle.monos.specs.declared.mono.Atom.{Atom}
use Rattle.monos.specs.declared.weight.Weight.{Weight}
use Rattle.monos.specs.Layout.{value_count}
use Rattle.monos.specs.Monomial.{Monomial, derivatives}
use Rattle.weigh.specs.Admitted.{IsAdmitted}
use Rattle.weigh.specs.Lists.{HasWeight}
use Rattle.refint.specs.Local.{entries_of, local_shares}
use Rattle.refint.specs.Reference.{items, node_counts}
use Rattle.room.specs.Adding.{added}
use Rattle.room.specs.Kernel.{steps_to_volume, growth_steps}
use Rattle.room.specs.Rows.{entry_part, entry_steps, part_products, sum_of}
use Rattle.room.specs.Steps.{Product, StepFits, StepsFit}
use Rattle.monomial_weights.specs.Columns.{column_count}
use Rattle.tensors.specs.Rows.{rows_of}
use Rattle.monomial_weights.specs.Weighed.{IsWithin, cost_at}
use Rattle.c_unit.specs.declared.unit.CFun.{CFun}
use Rattle.c_unit.specs.declared.unit.CStmt.{CStmt, Load}
use Rattle.c_unit.specs.declared.unit.CStmt.TheViews as View
use Rattle.c_unit.specs.declared.unit.Place.{Place}
use Rattle.c_unit.specs.declared.unit.Slot.{Slot}
use Rattle.c_unit.specs.Meaning.{End}
use Rattle.kernel.specs.Ends.{Ends}
use Rattle.kernel_statements.specs.Counted.{counted_rows, is_zero_row, table_of}

-- ---- what is asked
-- a weight that bounds a sum of monomials over a layout
pub record AreWithin (l : Layout) (w : Weight) (ms : List Monomial) : Type 0 where
  pub admitted : IsAdmitted l.d w
  pub weighed : HasWeight (cost_at l) l.d w ms
  pub each : AllByRecursion (IsWithin l w) ms

abbrev pub HasAtomOf : Role → List Atom → Type 0
HasAtomOf r xs = (x : Atom) × Contains xs x × (x.f.role ≡ r)

-- an atom of each argument that occurs in the layout
pub record HasArguments (l : Layout) (m : Monomial) : Type 0 where
  pub test : 0 < length l.rows.items → HasAtomOf Test m.atoms
  pub trial : 0 < length l.cols.items → HasAtomOf Trial m.atoms

-- ---- what a run gives
abbrev pub monos_density : List Monomial → Environment → Polynomial
monos_density ms env = monos_value env ms

-- 0 with the cell's shares in A, or 2 where the cell is flat; Q where a step passes
abbrev pub GivesShares : Type 0 → (Environment → Polynomial) → Layout → Simplex → List Fraction → End → Type 0
GivesShares Q density l v w =
    Ends Q (is_zero_fraction (volume v) ≡ true)
    (λ s. (is_zero_fraction (volume v) ≡ false) × (s.a ≡ local_shares density l v w))

-- The steps of a kernel on a cell, each of which fits: those to the volume factor, and where that isn't 0 the growths of
-- the reference coordinates, the columns, products and sums of each entry, and a row's value times the multiplier of a
-- multiple of it
pub record NoStepPasses (l : Layout) (ms : List Monomial) (v : Simplex) (w : List Fraction) : Type 0 where
  pub first : StepsFit (steps_to_volume l.d v)
  pub growths : is_zero_fraction (volume v) ≡ false → StepsFit (growth_steps l.d v)
  pub entries : is_zero_fraction (volume v) ≡ false → (a b : ℕ) → a < entries_of l.rows → b < entries_of l.cols
      → StepsFit (entry_steps l.d v (map (entry_part l v w a b) ms))
  pub multiples : is_zero_fraction (volume v) ≡ false → (m : Monomial) → Contains ms m → (a b e f : ℕ)
      → a < entries_of l.rows → b < entries_of l.cols → e < entries_of l.rows → f < entries_of l.cols
      → is_zero_row (items l m a b) ≡ false → (k : Fraction) → map (mul k) (items l m a b) ≡ items l m e f
      → StepFits (Product k (added (sum_of (part_products l.d v (entry_part l v w a b m)))))

-- ---- sizes and tables
pub record HasSizes (l : Layout) (f : CFun) : Type 0 where
  pub x : f.x ≡ l.d * (l.d + 1)
  pub w : f.w ≡ value_count l.coefs
  pub t : f.t ≤ 2 ^ 22
  pub a : f.a ≡ entries_of l.rows * entries_of l.cols

-- one for each monomial whose reference tensor isn't zero, in the order of the monomials
abbrev pub kernel_tables : Layout → List Monomial → List (List Fraction)
kernel_tables l ms = flat_map (λ m. table_of (counted_rows (rows_of l m))) ms

-- table k is named by a load
pub data IsLoaded (k : ℕ) : List CStmt → Type 0 where
  here : {to : Place} {at : Slot} {cs : List CStmt} → IsLoaded k (Load to k at ∷ cs)
  inside : {n : ℕ} {body cs : List CStmt} → IsLoaded k body → IsLoaded k (View.For n body ∷ cs)
  later : {c : CStmt} {cs : List CStmt} → IsLoaded k cs → IsLoaded k (c ∷ cs)

-- ---- how many statements
-- the factors of a monomial's columns: its atoms that are no arguments, and its derivatives
abbrev pub factor_count : Layout → Monomial → ℕ
factor_count l m = length (node_counts l m.atoms) + derivatives m.atoms

abbrev pub entry_number : Layout → ℕ
entry_number l = entries_of l.rows * entries_of l.cols

-- of a run, for a monomial and for all
abbrev pub run_bound : Layout → Monomial → ℕ
run_bound l m =
    (factor_count l m + 3 * length (counted_rows (rows_of l m)) + 2) * column_count l m.atoms + 4 * entry_number l

abbrev pub run_bounds : Layout → List Monomial → ℕ
run_bounds l [] = 0
run_bounds l (m ∷ ms) = run_bound l m + run_bounds l ms

-- of the written text, a loop's header counted as one
abbrev pub text_bound : Layout → Monomial → ℕ
text_bound l m = 24 * (factor_count l m + 1) + 4 * entry_number l

abbrev pub text_bounds : Layout → List Monomial → ℕ
text_bounds l [] = 0
text_bounds l (m ∷ ms) = text_bound l m + text_bounds l ms
