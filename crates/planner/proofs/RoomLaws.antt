-- Within the room of a cell the run of a kernel ends at no step that passes
use Rattle.std.proofs.Common.{◌≡◌, ℕ, ◌+◌, ◌*◌, ◌<◌, ◌≤◌, ◌^◌, List, [], ◌∷◌, length, subst, arith}
use Rattle.std.specs.List.{AllByRecursion}
use native.Mathlib.Nat as N
use Rattle.algebra.specs.Fraction.{Fraction}
use Rattle.calculus.specs.Simplex.{Simplex, IsCell, dimension}
use Rattle.monos.specs.declared.layout.Layout.{Layout}
use Rattle.monos.specs.declared.weight.Weight.{Weight}
use Rattle.monos.specs.Layout.{IsLawfulLayout}
use Rattle.monos.specs.Monomial.{Monomial}
use Rattle.weigh.specs.Refusals.{lcd}
use Rattle.refint.specs.Local.{entries_of}
use Rattle.room.specs.Numbered.{AllOver}
use Rattle.room.specs.Room.{all_values, numbers_of, room}
use Rattle.monomial_weights.specs.Weighed.{item_bound}
use Rattle.tensors.specs.Rows.{rows_of}
use Rattle.tensors.proofs.RowLaws.{rows_at, rows_counted}
use Rattle.c_unit.specs.declared.unit.CFun.{CFun}
use Rattle.c_unit.specs.Meaning.{ran}
use Rattle.kernel_runs.specs.Preamble.{coordinates}
use Rattle.kernel_statements.specs.declared.contraction.Contraction.{Contraction}
use Rattle.kernel_statements.proofs.FoundLaws.{all_of}
use Rattle.planner.specs.Contractions.{AreContractionsOf, AreRowsBounded, IsKernelOf}
use Rattle.planner.specs.Kernels.{AreWithin, GivesShares, monos_density}
use Rattle.planner.proofs.FitLaws.{fitting}
use Rattle.planner.proofs.RoomSteps.{AreEntriesBounded, PartsCount, no_step_passes}

-- the row of an entry is one of the rows
entry_below : (rows cols a b n : ℕ) → n ≡ rows * cols → a < rows → b < cols → cols * a + b < n
entry_below rows cols a b n e h g =
    let lines : (a + 1) * cols ≤ rows * cols = N.mul-le-mul_right cols (omega (arith, h)) in
    omega (arith, e, g, lines)

entries_bounded : (l : Layout) (w : Weight) (m : Monomial) → AreRowsBounded l w m → AreEntriesBounded l w m
entries_bounded l w m h a b row col =
    subst (AllOver (lcd l.d w) (item_bound l.d w m)) (rows_at l m a b row col)
    (all_of (AllOver (lcd l.d w) (item_bound l.d w m)) (rows_of l m) (entries_of l.cols * a + b) [] h
    (entry_below (entries_of l.rows) (entries_of l.cols) a b (length (rows_of l m)) (rows_counted l m) row col))

all_bounded : (l : Layout) (w : Weight) (ms : List Monomial) → AllByRecursion (AreRowsBounded l w) ms → AllByRecursion (AreEntriesBounded l w) ms
all_bounded l w [] h = tt
all_bounded l w (m ∷ ms) h = (entries_bounded l w m h.0, all_bounded l w ms h.1)

pub in_room : PartsCount → (l : Layout) (lawful : IsLawfulLayout l) (w : Weight) {ms : List Monomial} {cs : List Contraction} → AreWithin l w ms
    → AllByRecursion (AreRowsBounded l w) ms → (r : AreContractionsOf l ms cs) → (f : CFun) → IsKernelOf l cs f
    → (v : Simplex) (values : List Fraction) → IsCell v → dimension v ≡ l.d → room w (numbers_of l.d v (all_values l v values)) < 2 ^ 127
    → GivesShares ⊥ (monos_density ms) l v values (ran f (coordinates l.d v) values)
in_room count l lawful w {ms = ms} within bounded r f k v values cell on small =
    fitting l lawful w within r f k v values cell on (no_step_passes count l lawful w ms within (all_bounded l w ms bounded) v values cell on small)
