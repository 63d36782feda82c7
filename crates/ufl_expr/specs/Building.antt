-- What a builder gives
use Rattle.std.specs.Prelude.{◌≡◌, ℕ, ◌&&◌, Bool, nat_le, if◌then◌else◌, List, [], ◌∷◌, Option, None, Some, Result, Ok, Err}
use Rattle.ratio.specs.declared.reduced.Ratio.{Ratio}
use Rattle.spaces.specs.declared.cell.Cell.{Cell}
use Rattle.ufl_tree.specs.declared.function.Ix.{Ix}
use Rattle.ufl_tree.specs.declared.tree.Op1.{Op1}
use Rattle.ufl_tree.specs.declared.tree.Op2.{Op2}
use Rattle.ufl_tree.specs.declared.tree.Tree.{Tree}
use Rattle.ufl_tree.specs.declared.tree.Node.{Node}
use Rattle.ufl_tree.specs.declared.tree.Node.TheVariants as v
use Rattle.ufl_tree.specs.Typed.{Typed}
use Rattle.ufl_tree.specs.Reading.{typed_of, kind_of, tree_with}
use Rattle.ufl_expr.specs.declared.refusal.TypeRefusal.{TypeRefusal}
use Rattle.ufl_expr.specs.declared.refusal.TypeRefusal.TheVariants.{Kind, Nodes}
use Rattle.ufl_expr.specs.Sizes.{nodes_of, height_of}
use Rattle.ufl_expr.specs.Table.{Verdict, diff_kind}
use Rattle.ufl_expr.specs.Elements.{position_at, position_kind}

-- at most 10,000 nodes and a height of at most 128
unfoldable pub fits : Typed → Bool
fits t = nat_le (nodes_of t) 10000 && nat_le (height_of t) 128

-- the node with what the table says of its value, unless the tree is too large
unfoldable pub built : Verdict → Node → Result Tree TypeRefusal
built (Err r) n = Err r
built (Ok k) n = if fits (typed_of (tree_with n k)) then Ok (tree_with n k) else Err Nodes

-- the derivative of f by w, which must be a variable
abbrev pub diff_by : Result ℕ TypeRefusal → Tree → Tree → Result Tree TypeRefusal
diff_by (Err r) f w = Err r
diff_by (Ok l) f w = built (diff_kind (kind_of f) (kind_of w)) (v.Diff l w.shape f)

-- the position in a cell, whose element has this number, if it is there
abbrev pub positioned : Cell → Option ℕ → Result Tree TypeRefusal
positioned c None = Err Kind
positioned c (Some n) = built (Ok (position_kind c)) (v.Fun (position_at n))

abbrev pub EachTree : (Tree → Type 0) → List Tree → Type 0
EachTree P [] = Unit {0}
EachTree P (t ∷ ts) = P t × EachTree P ts

-- where P holds of the operands it holds of what a builder gives, whatever verdict it is built by; functions aren't among these builders
pub record BuildersKeep (P : Tree → Type 0) : Type 0 where
  pub of_number : (w : Verdict) (c : Ratio) (t : Tree) → built w (v.Number c) ≡ Ok t → P t
  pub of_identity : (w : Verdict) (n : ℕ) (t : Tree) → built w (v.Identity n) ≡ Ok t → P t
  pub of_one : (w : Verdict) (op : Op1) (a t : Tree) → built w (v.One op a) ≡ Ok t → P a → P t
  pub of_two : (w : Verdict) (op : Op2) (a b t : Tree) → built w (v.Two op a b) ≡ Ok t → P a → P b → P t
  pub of_power : (w : Verdict) (a : Tree) (n : ℕ) (t : Tree) → built w (v.Power a n) ≡ Ok t → P a → P t
  pub of_index : (w : Verdict) (a : Tree) (at : List Ix) (t : Tree) → built w (v.Index a at) ≡ Ok t → P a → P t
  pub of_partial : (w : Verdict) (a : Tree) (i : Ix) (t : Tree) → built w (v.Partial a i) ≡ Ok t → P a → P t
  pub of_tensor : (w : Verdict) (a : Tree) (by : List ℕ) (t : Tree) → built w (v.Tensor a by) ≡ Ok t → P a → P t
  pub of_list : (w : Verdict) (ts : List Tree) (t : Tree) → built w (v.List ts) ≡ Ok t → EachTree P ts → P t
  pub of_variable : (w : Verdict) (l : ℕ) (a t : Tree) → built w (v.Variable l a) ≡ Ok t → P a → P t
  pub of_diff : (w : Verdict) (l : ℕ) (by : List ℕ) (a t : Tree) → built w (v.Diff l by a) ≡ Ok t → P a → P t
