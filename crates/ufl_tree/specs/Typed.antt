-- Typed trees as data that recursion goes over
use Rattle.std.specs.Prelude.{ℕ, List, Option}
use Rattle.ratio.specs.declared.reduced.Ratio.{Ratio}
use Rattle.spaces.specs.declared.cell.Cell.{Cell}
use Rattle.ufl_tree.specs.declared.function.Free.{Free}
use Rattle.ufl_tree.specs.declared.function.Function.{Function}
use Rattle.ufl_tree.specs.declared.function.Ix.{Ix}
use Rattle.ufl_tree.specs.declared.tree.Op1.{Op1}
use Rattle.ufl_tree.specs.declared.tree.Op2.{Op2}

-- what a tree says of its value
pub record Kind : Type 0 where
  pub shape : List ℕ
  pub free : List Free
  pub cell : Option Cell

mutual
  pub data Typed : Type 0 where
    number : Kind → Ratio → Typed
    identity : Kind → ℕ → Typed
    function : Kind → Function → Typed
    piece : Kind → Function → ℕ → Typed
    one : Kind → Op1 → Typed → Typed
    two : Kind → Op2 → Typed → Typed → Typed
    power : Kind → Typed → ℕ → Typed
    index : Kind → Typed → List Ix → Typed
    partial : Kind → Typed → Ix → Typed
    tensor : Kind → Typed → List ℕ → Typed
    list : Kind → TypedList → Typed
    variable : Kind → ℕ → Typed → Typed
    diff : Kind → ℕ → List ℕ → Typed → Typed

  pub data TypedList : Type 0 where
    no_items : TypedList
    item : Typed → TypedList → TypedList

abbrev pub own_kind : Typed → Kind
own_kind (number k c) = k
own_kind (identity k n) = k
own_kind (function k f) = k
own_kind (piece k f n) = k
own_kind (one k op a) = k
own_kind (two k op a b) = k
own_kind (power k a n) = k
own_kind (index k a at) = k
own_kind (partial k a i) = k
own_kind (tensor k a by) = k
own_kind (list k ts) = k
own_kind (variable k l a) = k
own_kind (diff k l by a) = k

abbrev pub shape_of : Typed → List ℕ
shape_of e = (own_kind e).shape

abbrev pub free_of : Typed → List Free
free_of e = (own_kind e).free
