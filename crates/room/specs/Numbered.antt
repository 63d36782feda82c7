-- Numbers that bound a cell: its own, or greater ones
use Rattle.std.specs.Prelude.{◌≡◌, ℕ, ◌<◌, List, length}
use Rattle.std.specs.List.{AllByRecursion}
use Rattle.algebra.specs.Fraction.{Fraction, add, negative}
use Rattle.calculus.specs.Simplex.{Simplex, IsCell, dimension, along_axis}
use Rattle.calculus.specs.Jacobian.{vertex_at}
use Rattle.algebra.specs.Over.{Over}
use Rattle.room.specs.declared.numbers.CellNumbers.{CellNumbers}

abbrev pub AllOver : ℕ → ℕ → List Fraction → Type 0
AllOver l b = AllByRecursion (Over l b)

pub record IsNumbered (c : CellNumbers) (v : Simplex) (w : List Fraction) : Type 0 where
  pub cell : IsCell v
  pub dimension : dimension v ≡ c.d
  pub dd : 0 < c.dd
  pub j : 0 < c.j
  pub m : 0 < c.m
  pub nw : 0 < c.nw
  pub dw : 0 < c.dw
  pub coordinate : (k i : ℕ) → k < length v → i < c.d → Over c.dd c.m (along_axis i (vertex_at v k))
  pub difference : (k n i : ℕ) → k < length v → n < length v → i < c.d
      → Over c.dd c.j (add (along_axis i (vertex_at v k)) (negative (along_axis i (vertex_at v n))))
  pub values : AllOver c.dw c.nw w
