-- The parts of a lawful element, and the cells of a mesh
use Rattle.std.proofs.Common.{◌≡◌, ℕ, zero, suc, ◌*◌, true, List, [], ◌∷◌, length, arith, eqb-true}
use Rattle.std.specs.List.{AllByRecursion}
use Rattle.spaces.specs.declared.cell.Cell.{Cell}
use Rattle.spaces.specs.declared.family.Family.{Family}
use Rattle.spaces.specs.declared.family.Family.TheVariants.{Lagrange, Dg, Real}
use Rattle.spaces.specs.Cell.{dimension}
use Rattle.spaces.specs.Family.{has_degree}
use Rattle.spaces.specs.Scalar.{Scalar, repeated}
use Rattle.spaces.specs.Space.{Space, scalar, vector, tensor, mixed, Spaces, no_spaces, space, scalars, scalars_of, cell_of, IsLawful, AreLawful}
use Rattle.mesh_in.specs.MeshData.{MeshData, IsMesh, IsCell}
use Rattle.dofs.specs.Parts.{IsOn}
use Rattle.dofs.proofs.SetLaws.{all_append, all_weaker}
use Rattle.dofs.proofs.NumberingLaws.{on_space}
use Rattle.dofs.proofs.Supports.{distinct_from_test}
use Rattle.dofs.proofs.NodeLabels.{IsCellOf}
use Rattle.dofs.proofs.OccurringLabels.{IsFlat, IsPart}

-- ---- parts
flat_degree : (f : Family) (q : ℕ) → has_degree f q ≡ true → IsFlat f q
flat_degree Lagrange q h = tt
flat_degree Dg q h = tt
flat_degree Real q h = eqb-true q 0 h

abbrev AreFlat : List Scalar → Type 0
AreFlat ss = AllByRecursion (λ (s : Scalar). IsFlat s.family s.degree) ss

flat_repeated : (n : ℕ) (ss : List Scalar) → AreFlat ss → AreFlat (repeated n ss)
flat_repeated zero ss flat = tt
flat_repeated (suc n) ss flat = all_append (λ (s : Scalar). IsFlat s.family s.degree) ss (repeated n ss) flat (flat_repeated n ss flat)

mutual
  flat_space : (s : Space) → IsLawful s → AreFlat (scalars s)
  flat_space (scalar f c q) h = (flat_degree f q h, tt)
  flat_space (vector s n) h = flat_repeated n (scalars s) (flat_space s h.0)
  flat_space (tensor s m n) h = flat_repeated (m * n) (scalars s) (flat_space s h.0)
  flat_space (mixed ss) h = flat_spaces ss h.0

  flat_spaces : (ss : Spaces) → AreLawful ss → AreFlat (scalars_of ss)
  flat_spaces no_spaces h = tt
  flat_spaces (space s ss) h = all_append (λ (s : Scalar). IsFlat s.family s.degree) (scalars s) (scalars_of ss) (flat_space s h.0) (flat_spaces ss h.1)

both : (c : Cell) (ss : List Scalar) → AllByRecursion (IsOn c) ss → AreFlat ss → AllByRecursion (IsPart c) ss
both c [] on flat = tt
both c (s ∷ ss) on flat = (record { on = on.0; flat = flat.0 }, both c ss on.1 flat.1)

pub lawful_parts : (s : Space) → IsLawful s → AllByRecursion (IsPart (cell_of s)) (scalars s)
lawful_parts s h = both (cell_of s) (scalars s) (on_space s h) (flat_space s h)

-- ---- cells
pub mesh_cells : {A : Type 0} (m : MeshData A) → IsMesh m → AllByRecursion (IsCellOf m.kind) m.cells
mesh_cells m is =
    all_weaker (IsCell (dimension m.kind) (length m.points)) (IsCellOf m.kind)
    (λ vs h. record { size = omega (arith, h.size); distinct = distinct_from_test vs h.distinct }) m.cells is.cells
