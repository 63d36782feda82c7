-- Shapes, the sizes of a value's indices: those that an operator takes, and those that it gives. d is the dimension of the cell
use Rattle.std.specs.Prelude.{ℕ, ◌-◌, ◌==◌, ◌&&◌, Bool, true, false, List, [], ◌∷◌, ◌++◌, take, length, if◌then◌else◌, Option, None, Some, Result, Ok, Err, slice_get, nat_eq, nat_le, nat_lt}
use Rattle.std.specs.Cmp.Lexicographic.{pointwise}
use Rattle.spaces.specs.declared.cell.Cell.{Cell}
use Rattle.spaces.specs.Cell.{dimension}
use Rattle.ufl_tree.specs.declared.function.Ix.{Ix}
use Rattle.ufl_tree.specs.declared.function.Ix.TheVariants.{Fixed, Named}
use Rattle.ufl_tree.specs.Indices.{all_but_first}
use Rattle.ufl_tree.specs.declared.tree.Op1.{Op1}
use Rattle.ufl_tree.specs.declared.tree.Op1.TheVariants.{Neg, Grad, NablaGrad, Div, NablaDiv, Curl, Transpose, Trace, Sym, Skew, Dev}
use Rattle.ufl_tree.specs.declared.tree.Op2.{Op2}
use Rattle.ufl_tree.specs.declared.tree.Op2.TheVariants.{Sum, Product, Dot, Inner, Outer, Cross}
use Rattle.ufl_expr.specs.declared.refusal.TypeRefusal.{TypeRefusal}
use Rattle.ufl_expr.specs.declared.refusal.TypeRefusal.TheVariants.{Kind, Shape}

abbrev pub ShapeVerdict : Type 0
ShapeVerdict = Result (List ℕ) TypeRefusal

abbrev pub shape_if : Bool → List ℕ → ShapeVerdict
shape_if b s = if b then Ok s else Err Shape

-- ---- tests of shapes
abbrev pub same_shape : List ℕ → List ℕ → Bool
same_shape = pointwise nat_eq

abbrev pub is_scalar : List ℕ → Bool
is_scalar [] = true
is_scalar (n ∷ s) = false

abbrev pub is_vector : ℕ → List ℕ → Bool
is_vector n (m ∷ []) = m == n
is_vector n _ = false

abbrev pub is_square : List ℕ → Bool
is_square (m ∷ n ∷ []) = m == n
is_square _ = false

abbrev pub first_of : List ℕ → Option ℕ
first_of s = slice_get s 0

abbrev pub last_of : List ℕ → Option ℕ
last_of s = slice_get s (length s - 1)

abbrev pub all_but_last : List ℕ → List ℕ
all_but_last s = take (length s - 1) s

-- equal sizes, or none on both sides
abbrev pub same_size : Option ℕ → Option ℕ → Bool
same_size None None = true
same_size (Some m) (Some n) = m == n
same_size _ _ = false

-- ---- operators of one operand
abbrev pub grad_shape : List ℕ → ℕ → ShapeVerdict
grad_shape s d = Ok (s ++ d ∷ [])

abbrev pub nabla_grad_shape : List ℕ → ℕ → ShapeVerdict
nabla_grad_shape s d = Ok (d ∷ s)

abbrev pub div_shape : List ℕ → ℕ → ShapeVerdict
div_shape s d = shape_if (same_size (last_of s) (Some d)) (all_but_last s)

abbrev pub nabla_div_shape : List ℕ → ℕ → ShapeVerdict
nabla_div_shape s d = shape_if (same_size (first_of s) (Some d)) (all_but_first s)

-- a vector in space; a vector or a scalar in the plane
abbrev pub curl_shape : List ℕ → ℕ → ShapeVerdict
curl_shape s d =
    if (d == 3) && is_vector 3 s then Ok (3 ∷ [])
    else if (d == 2) && is_vector 2 s then Ok []
    else shape_if ((d == 2) && is_scalar s) (2 ∷ [])

abbrev pub transposed : List ℕ → ShapeVerdict
transposed (m ∷ n ∷ []) = Ok (n ∷ m ∷ [])
transposed _ = Err Shape

-- where no function occurs there is no dimension
abbrev pub dimension_of : Option Cell → Result ℕ TypeRefusal
dimension_of None = Err Kind
dimension_of (Some c) = Ok (dimension c)

abbrev pub in_dimension : Result ℕ TypeRefusal → (ℕ → ShapeVerdict) → ShapeVerdict
in_dimension (Err r) f = Err r
in_dimension (Ok d) f = f d

abbrev pub one_shape : Op1 → List ℕ → Option Cell → ShapeVerdict
one_shape Neg s c = Ok s
one_shape Grad s c = in_dimension (dimension_of c) (grad_shape s)
one_shape NablaGrad s c = in_dimension (dimension_of c) (nabla_grad_shape s)
one_shape Div s c = in_dimension (dimension_of c) (div_shape s)
one_shape NablaDiv s c = in_dimension (dimension_of c) (nabla_div_shape s)
one_shape Curl s c = in_dimension (dimension_of c) (curl_shape s)
one_shape Transpose s c = transposed s
one_shape Trace s c = shape_if (is_square s) []
one_shape Sym s c = shape_if (is_square s) s
one_shape Skew s c = shape_if (is_square s) s
one_shape Dev s c = shape_if (is_square s) s

-- ---- operators of two operands
-- both scalar, or the last size of the first is the first size of the second
abbrev pub dot_shape : List ℕ → List ℕ → ShapeVerdict
dot_shape s t = shape_if (same_size (last_of s) (first_of t)) (all_but_last s ++ all_but_first t)

-- a scalar with anything, a matrix with a vector or a matrix
abbrev pub product_shape : List ℕ → List ℕ → ShapeVerdict
product_shape s t =
    if is_scalar s then Ok t
    else if is_scalar t then Ok s
    else if (length s == 2) && nat_le (length t) 2 then dot_shape s t
    else Err Shape

abbrev pub two_shape : Op2 → List ℕ → List ℕ → ShapeVerdict
two_shape Sum s t = shape_if (same_shape s t) s
two_shape Product s t = product_shape s t
two_shape Dot s t = dot_shape s t
two_shape Inner s t = shape_if (same_shape s t) []
two_shape Outer s t = Ok (s ++ t)
two_shape Cross s t = shape_if (is_vector 3 s && is_vector 3 t) (3 ∷ [])

-- ---- components and directions
-- a number below the size; the values of a name always are
abbrev pub is_within : Ix → ℕ → Bool
is_within (Fixed k) d = nat_lt k d
is_within (Named i) d = true

-- as many indices as sizes, or fewer, each within its size; the sizes behind them are left
abbrev pub rest_shape : List Ix → List ℕ → ShapeVerdict
rest_shape [] s = Ok s
rest_shape (i ∷ is) [] = Err Shape
rest_shape (i ∷ is) (d ∷ s) = if is_within i d then rest_shape is s else Err Shape

abbrev pub along_shape : Ix → List ℕ → ℕ → ShapeVerdict
along_shape i s d = shape_if (is_within i d) s
