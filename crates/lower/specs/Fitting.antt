-- What typing gives of a tree that is lowered: ranks, cells, and the functions' cells
use Rattle.std.specs.Prelude.{◌≡◌, ℕ, suc, ◌+◌, ◌^◌, ◌<◌, ◌≤◌, unsigned_abs, List, [], ◌∷◌, length}
use Rattle.algebra.specs.LowestTerms.{top, bottom}
use Rattle.ratio.specs.declared.reduced.Ratio.{Ratio}
use Rattle.ratio.specs.Value.{fraction_of}
use Rattle.ufl_tree.specs.declared.tree.Op1.{Op1}
use Rattle.ufl_tree.specs.declared.tree.Op1.TheVariants.{Neg, Grad, NablaGrad, Div, NablaDiv, Curl, Transpose, Trace, Sym, Skew, Dev}
use Rattle.ufl_tree.specs.declared.tree.Op2.{Op2}
use Rattle.ufl_tree.specs.declared.tree.Op2.TheVariants.{Sum, Product, Dot, Inner, Outer, Cross}
use Rattle.ufl_tree.specs.Indices.{first_size}
use Rattle.ufl_tree.specs.Places.{Table}
use Rattle.ufl_tree.specs.Typed.{Kind, Typed, number, identity, function, piece, one, two, power, index, partial, tensor, list, variable, diff, TypedList, no_items, item, own_kind, shape_of}
use Rattle.weigh.specs.Terms.{function_directions}
use Rattle.weigh.specs.Weighing.{directions}

-- the numbers of indices: of the node's value, by the shapes of its operands
abbrev pub OneRank : Op1 → List ℕ → List ℕ → Type 0
OneRank Neg s k = length k ≤ length s
OneRank Grad s k = length k ≤ suc (length s)
OneRank NablaGrad s k = length k ≤ suc (length s)
OneRank Div s k = suc (length k) ≤ length s
OneRank NablaDiv s k = suc (length k) ≤ length s
OneRank Curl s k = length s ≤ 1
OneRank Transpose s k = 2 ≤ length s
OneRank Trace s k = 2 ≤ length s
OneRank Sym s k = 2 ≤ length s
OneRank Skew s k = 2 ≤ length s
OneRank Dev s k = (2 ≤ length s) × (first_size s < 2 ^ 127)

abbrev pub DotRank : List ℕ → List ℕ → List ℕ → Type 0
DotRank [] t k = length k ≤ length t
DotRank (d ∷ s) t k = (suc (length k) ≤ length s + length t) × (1 ≤ length t)

abbrev pub ProductRank : List ℕ → List ℕ → List ℕ → Type 0
ProductRank [] t k = length k ≤ length t
ProductRank (d ∷ s) [] k = length k ≤ length (d ∷ s)
ProductRank (d ∷ s) (e ∷ t) k = DotRank (d ∷ s) (e ∷ t) k

abbrev pub TwoRank : Op2 → List ℕ → List ℕ → List ℕ → Type 0
TwoRank Sum s t k = (length k ≤ length s) × (length k ≤ length t)
TwoRank Product s t k = ProductRank s t k
TwoRank Dot s t k = DotRank s t k
TwoRank Inner s t k = length s ≤ length t
TwoRank Outer s t k = length k ≤ length s + length t
TwoRank Cross s t k = (1 ≤ length s) × (1 ≤ length t)

-- the operand has no more directions than the node
abbrev pub IsAlong : Kind → Kind → Type 0
IsAlong a k = directions a.cell ≤ directions k.cell

-- ranks, cells and the functions' cells, at each node
abbrev mutual
  pub IsFitting : Table → Typed → Type 0
  IsFitting elements (number k c) = Unit {0}
  IsFitting elements (identity k n) = Unit {0}
  IsFitting elements (function k f) = function_directions elements f ≤ directions k.cell
  IsFitting elements (piece k f n) = function_directions elements f ≤ directions k.cell
  IsFitting elements (one k op a) = OneRank op (shape_of a) k.shape × IsAlong (own_kind a) k × IsFitting elements a
  IsFitting elements (two k op a b) = TwoRank op (shape_of a) (shape_of b) k.shape × IsAlong (own_kind a) k × IsAlong (own_kind b) k × IsFitting elements a × IsFitting elements b
  IsFitting elements (power k a n) = IsAlong (own_kind a) k × IsFitting elements a
  IsFitting elements (index k a at) = (length at + length k.shape ≤ length (shape_of a)) × IsAlong (own_kind a) k × IsFitting elements a
  IsFitting elements (partial k a i) = (length k.shape ≤ length (shape_of a)) × IsAlong (own_kind a) k × IsFitting elements a
  IsFitting elements (tensor k a by) = IsAlong (own_kind a) k × IsFitting elements a
  IsFitting elements (list k ts) = AreFitting elements k ts
  IsFitting elements (variable k l a) = (length k.shape ≤ length (shape_of a)) × IsAlong (own_kind a) k × IsFitting elements a
  IsFitting elements (diff k l by a) = IsAlong (own_kind a) k × IsFitting elements a

  pub AreFitting : Table → Kind → TypedList → Type 0
  AreFitting elements k no_items = Unit {0}
  AreFitting elements k (item t ts) = (length k.shape ≤ suc (length (shape_of t))) × IsAlong (own_kind t) k × IsFitting elements t × AreFitting elements k ts

-- 1/n as a number, where a `Ratio` can hold it
abbrev pub AreShares : (ℕ → Ratio) → Type 0
AreShares share = (n : ℕ) → 1 ≤ n → n < 2 ^ 127 → (unsigned_abs (top (fraction_of (share n))) ≡ 1) × (bottom (fraction_of (share n)) ≡ n)
