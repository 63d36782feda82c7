-- The typing table: what each node says of its value, from what its operands say of theirs.
-- Source: M. Alnaes and others, Unified Form Language, ACM TOMS 40 (2014), sections 3 and 4
use Rattle.std.specs.Prelude.{◌≡◌, ◌≤◌, ℕ, ◌&&◌, Bool, true, false, nat_le, if◌then◌else◌, List, [], ◌∷◌, ◌++◌, length, Option, None, Some, Result, Ok, Err, IsSome}
use Rattle.spaces.specs.declared.cell.Cell.{Cell}
use Rattle.spaces.specs.Cell.{same_cell}
use Rattle.ufl_tree.specs.declared.function.Free.{Free}
use Rattle.ufl_tree.specs.declared.function.Role.{Role}
use Rattle.ufl_tree.specs.declared.function.Role.TheVariants.{Test, Trial, Position, Coefficient}
use Rattle.ufl_tree.specs.declared.function.Ix.{Ix}
use Rattle.ufl_tree.specs.declared.tree.Op1.{Op1}
use Rattle.ufl_tree.specs.declared.tree.Op2.{Op2}
use Rattle.ufl_tree.specs.Typed.{Kind, Typed, number, identity, function, piece, one, two, power, index, partial, tensor, list, variable, diff, TypedList, no_items, item, own_kind}
use Rattle.ufl_tree.specs.Indices.{named, direction}
use Rattle.ufl_expr.specs.declared.refusal.TypeRefusal.{TypeRefusal}
use Rattle.ufl_expr.specs.declared.refusal.TypeRefusal.TheVariants.{Kind as OfKind, Shape, FreeIndex}
use Rattle.ufl_expr.specs.Shapes.{ShapeVerdict, shape_if, same_shape, is_scalar, dimension_of, in_dimension, one_shape, two_shape, rest_shape, along_shape}
use Rattle.ufl_expr.specs.Frees.{FreeVerdict, same_frees, joined_free, two_free, none_free, bound, sizes_of}

abbrev pub Verdict : Type 0
Verdict = Result Kind TypeRefusal

abbrev pub CellVerdict : Type 0
CellVerdict = Result (Option Cell) TypeRefusal

-- the cell, the shape and the free indices together, or the first refusal in this order
abbrev pub kind_from : CellVerdict → ShapeVerdict → FreeVerdict → Verdict
kind_from (Err r) s f = Err r
kind_from (Ok c) (Err r) f = Err r
kind_from (Ok c) (Ok s) (Err r) = Err r
kind_from (Ok c) (Ok s) (Ok f) = Ok (record { shape = s; free = f; cell = c })

-- ---- cells
-- of two operands, which refuse different cells
abbrev pub joined_cell : Option Cell → Option Cell → CellVerdict
joined_cell None c = Ok c
joined_cell (Some c) None = Ok (Some c)
joined_cell (Some c) (Some e) = if same_cell c e then Ok (Some c) else Err OfKind

-- ---- the rows
abbrev pub plain_kind : Kind
plain_kind = record { shape = []; free = []; cell = None }

abbrev pub identity_kind : ℕ → Verdict
identity_kind n = if nat_le 1 n && nat_le n 64 then Ok (record { shape = n ∷ n ∷ []; free = []; cell = None }) else Err OfKind

abbrev pub one_kind : Op1 → Kind → Verdict
one_kind op a = kind_from (Ok a.cell) (one_shape op a.shape a.cell) (Ok a.free)

abbrev pub two_kind : Op2 → Kind → Kind → Verdict
two_kind op a b = kind_from (joined_cell a.cell b.cell) (two_shape op a.shape b.shape) (two_free op a.free b.free)

abbrev pub power_kind : Kind → Verdict
power_kind a = kind_from (Ok a.cell) (shape_if (is_scalar a.shape) []) (none_free a.free)

abbrev pub index_kind : Kind → List Ix → Verdict
index_kind a at = kind_from (Ok a.cell) (rest_shape at a.shape) (joined_free (a.free ++ named at a.shape))

abbrev pub partial_kind : Kind → Ix → Verdict
partial_kind a i = kind_from (Ok a.cell) (in_dimension (dimension_of a.cell) (along_shape i a.shape)) (joined_free (a.free ++ direction i a.cell))

abbrev pub tensor_kind : Kind → List ℕ → Verdict
tensor_kind a by = kind_from (Ok a.cell) (shape_if (is_scalar a.shape) (sizes_of by a.free)) (bound by a.free)

-- lists: one cell, 1 to 255 items, equal shapes, equal free indices
abbrev pub cell_further : CellVerdict → (Option Cell → CellVerdict) → CellVerdict
cell_further (Err r) f = Err r
cell_further (Ok c) f = f c

abbrev pub cell_behind : Option Cell → List Kind → CellVerdict
cell_behind c [] = Ok c
cell_behind c (k ∷ ks) = cell_further (joined_cell c k.cell) (λ e. cell_behind e ks)

abbrev pub have_shape : List ℕ → List Kind → Bool
have_shape s [] = true
have_shape s (k ∷ ks) = if same_shape k.shape s then have_shape s ks else false

abbrev pub have_free : List Free → List Kind → Bool
have_free f [] = true
have_free f (k ∷ ks) = if same_frees k.free f then have_free f ks else false

abbrev pub list_shape : List Kind → ShapeVerdict
list_shape [] = Err Shape
list_shape (k ∷ ks) = shape_if (nat_le (length (k ∷ ks)) 255 && have_shape k.shape ks) (length (k ∷ ks) ∷ k.shape)

abbrev pub list_free : List Kind → FreeVerdict
list_free [] = Ok []
list_free (k ∷ ks) = if have_free k.free ks then Ok k.free else Err FreeIndex

abbrev pub list_kind : List Kind → Verdict
list_kind ks = kind_from (cell_behind None ks) (list_shape ks) (list_free ks)

-- an argument is a test or a trial function
abbrev pub is_argument : Role → Bool
is_argument Test = true
is_argument Trial = true
is_argument Position = false
is_argument (Coefficient n) = false

abbrev mutual
  pub has_argument : Typed → Bool
  has_argument (number k c) = false
  has_argument (identity k n) = false
  has_argument (function k f) = is_argument f.role
  has_argument (piece k f n) = is_argument f.role
  has_argument (one k op a) = has_argument a
  has_argument (two k op a b) = if has_argument a then true else has_argument b
  has_argument (power k a n) = has_argument a
  has_argument (index k a at) = has_argument a
  has_argument (partial k a i) = has_argument a
  has_argument (tensor k a by) = has_argument a
  has_argument (list k ts) = have_argument ts
  has_argument (variable k l a) = has_argument a
  has_argument (diff k l by a) = has_argument a

  pub have_argument : TypedList → Bool
  have_argument no_items = false
  have_argument (item t ts) = if has_argument t then true else have_argument ts

-- what a label is put on has no argument and no free index
abbrev pub variable_cell : Bool → Option Cell → CellVerdict
variable_cell has c = if has then Err OfKind else Ok c

abbrev pub variable_kind : Bool → Kind → Verdict
variable_kind has a = kind_from (variable_cell has a.cell) (Ok a.shape) (none_free a.free)

-- the cell is that of what is differentiated, and the variable may have no other one
abbrev pub diff_cell : Option Cell → CellVerdict → CellVerdict
diff_cell c (Ok e) = Ok c
diff_cell c (Err r) = Err r

abbrev pub diff_kind : Kind → Kind → Verdict
diff_kind f v = kind_from (diff_cell f.cell (joined_cell f.cell v.cell)) (Ok (f.shape ++ v.shape)) (Ok f.free)

-- the label of a variable; nothing else has one
abbrev pub label_of : Typed → Result ℕ TypeRefusal
label_of (variable k l a) = Ok l
label_of _ = Err OfKind

-- ---- every node of a tree obeys the table. A function has the shape and the cell that stand in its node
abbrev pub kinds_of : TypedList → List Kind
kinds_of no_items = []
kinds_of (item t ts) = own_kind t ∷ kinds_of ts

unfoldable mutual
  pub IsTyped : Typed → Type 0
  IsTyped (number k c) = k ≡ plain_kind
  IsTyped (identity k n) = identity_kind n ≡ Ok k
  IsTyped (function k f) = (k.free ≡ []) × IsSome k.cell
  IsTyped (piece k f n) = (k.free ≡ []) × IsSome k.cell
  IsTyped (one k op a) = (one_kind op (own_kind a) ≡ Ok k) × IsTyped a
  IsTyped (two k op a b) = (two_kind op (own_kind a) (own_kind b) ≡ Ok k) × IsTyped a × IsTyped b
  IsTyped (power k a n) = (power_kind (own_kind a) ≡ Ok k) × (n ≤ 127) × IsTyped a
  IsTyped (index k a at) = (index_kind (own_kind a) at ≡ Ok k) × IsTyped a
  IsTyped (partial k a i) = (partial_kind (own_kind a) i ≡ Ok k) × IsTyped a
  IsTyped (tensor k a by) = (tensor_kind (own_kind a) by ≡ Ok k) × IsTyped a
  IsTyped (list k ts) = (list_kind (kinds_of ts) ≡ Ok k) × AreTyped ts
  IsTyped (variable k l a) = (variable_kind (has_argument a) (own_kind a) ≡ Ok k) × IsTyped a
  IsTyped (diff k l by a) = (k ≡ record { shape = (own_kind a).shape ++ by; free = (own_kind a).free; cell = (own_kind a).cell }) × IsTyped a

  pub AreTyped : TypedList → Type 0
  AreTyped no_items = Unit {0}
  AreTyped (item t ts) = IsTyped t × AreTyped ts
