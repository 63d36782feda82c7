-- The table of names: functions, indices, families and signs by their bytes
use Rattle.std.specs.Prelude.{ℕ, List, codes, Option, Some, None, if◌then◌else◌}
use Rattle.std.specs.Str.{bytes_eq}
use Rattle.spaces.specs.declared.family.Family.{Family}
use Rattle.spaces.specs.declared.family.Family.TheVariants.{Lagrange, Dg}
use Rattle.ufl_tree.specs.declared.tree.Op1.TheVariants as o1
use Rattle.ufl_tree.specs.declared.tree.Op2.TheVariants as o2
use Rattle.ufl_values.specs.declared.words.Word.{Word}
use Rattle.ufl_values.specs.declared.words.Word.TheVariants as w
use Rattle.ufl_values.specs.declared.words.Keyword.{Keyword}
use Rattle.ufl_values.specs.declared.words.Keyword.TheVariants as k
use Rattle.ufl_values.specs.declared.words.Sign.{Sign}
use Rattle.ufl_values.specs.declared.words.Sign.TheVariants as s

-- functions that make elements
unfoldable pub element_function : List ℕ → Option Word
element_function name =
    if bytes_eq name (codes "FiniteElement") then Some w.FiniteElement else
    if bytes_eq name (codes "VectorElement") then Some w.VectorElement else
    if bytes_eq name (codes "TensorElement") then Some w.TensorElement else
    if bytes_eq name (codes "MixedElement") then Some w.MixedElement else
    None

-- functions that make arguments and parts of functions
unfoldable pub argument_function : List ℕ → Option Word
argument_function name =
    if bytes_eq name (codes "TestFunction") then Some w.TestFunction else
    if bytes_eq name (codes "TrialFunction") then Some w.TrialFunction else
    if bytes_eq name (codes "TestFunctions") then Some w.TestFunctions else
    if bytes_eq name (codes "TrialFunctions") then Some w.TrialFunctions else
    if bytes_eq name (codes "split") then Some w.Split else
    None

-- functions that make coefficients and positions
unfoldable pub coefficient_function : List ℕ → Option Word
coefficient_function name =
    if bytes_eq name (codes "Coefficient") then Some w.Coefficient else
    if bytes_eq name (codes "Constant") then Some w.Constant else
    if bytes_eq name (codes "VectorConstant") then Some w.VectorConstant else
    if bytes_eq name (codes "SpatialCoordinate") then Some w.SpatialCoordinate else
    None

-- derivatives in space
unfoldable pub derivative_function : List ℕ → Option Word
derivative_function name =
    if bytes_eq name (codes "grad") then Some (w.One o1.Grad) else
    if bytes_eq name (codes "nabla_grad") then Some (w.One o1.NablaGrad) else
    if bytes_eq name (codes "div") then Some (w.One o1.Div) else
    if bytes_eq name (codes "nabla_div") then Some (w.One o1.NablaDiv) else
    if bytes_eq name (codes "curl") then Some (w.One o1.Curl) else
    if bytes_eq name (codes "Dx") then Some w.Dx else
    None

-- operators on a matrix
unfoldable pub matrix_function : List ℕ → Option Word
matrix_function name =
    if bytes_eq name (codes "transpose") then Some (w.One o1.Transpose) else
    if bytes_eq name (codes "tr") then Some (w.One o1.Trace) else
    if bytes_eq name (codes "sym") then Some (w.One o1.Sym) else
    if bytes_eq name (codes "skew") then Some (w.One o1.Skew) else
    if bytes_eq name (codes "dev") then Some (w.One o1.Dev) else
    None

-- products of tensors
unfoldable pub product_function : List ℕ → Option Word
product_function name =
    if bytes_eq name (codes "inner") then Some (w.Two o2.Inner) else
    if bytes_eq name (codes "dot") then Some (w.Two o2.Dot) else
    if bytes_eq name (codes "outer") then Some (w.Two o2.Outer) else
    if bytes_eq name (codes "cross") then Some (w.Two o2.Cross) else
    None

-- tensors of components, and variables
unfoldable pub tensor_function : List ℕ → Option Word
tensor_function name =
    if bytes_eq name (codes "Identity") then Some w.Identity else
    if bytes_eq name (codes "as_vector") then Some w.AsVector else
    if bytes_eq name (codes "as_matrix") then Some w.AsMatrix else
    if bytes_eq name (codes "as_tensor") then Some w.AsTensor else
    if bytes_eq name (codes "variable") then Some w.Variable else
    if bytes_eq name (codes "diff") then Some w.Diff else
    None

-- operators on forms
unfoldable pub form_function : List ℕ → Option Word
form_function name =
    if bytes_eq name (codes "lhs") then Some w.Lhs else
    if bytes_eq name (codes "rhs") then Some w.Rhs else
    if bytes_eq name (codes "system") then Some w.System else
    if bytes_eq name (codes "action") then Some w.Action else
    if bytes_eq name (codes "adjoint") then Some w.Adjoint else
    if bytes_eq name (codes "derivative") then Some w.Derivative else
    None

abbrev pub or_else : {A : Type 0} → Option A → Option A → Option A
or_else None o = o
or_else (Some x) o = Some x

-- what makes no element and no function
unfoldable pub operator_function : List ℕ → Option Word
operator_function name =
    or_else (derivative_function name) (or_else (matrix_function name)
    (or_else (product_function name) (or_else (tensor_function name) (form_function name))))

unfoldable pub function_named : List ℕ → Option Word
function_named name =
    or_else (element_function name) (or_else (argument_function name)
    (or_else (coefficient_function name) (operator_function name)))

unfoldable pub index_number : List ℕ → Option ℕ
index_number name =
    if bytes_eq name (codes "i") then Some 0 else
    if bytes_eq name (codes "j") then Some 1 else
    if bytes_eq name (codes "k") then Some 2 else
    if bytes_eq name (codes "l") then Some 3 else
    if bytes_eq name (codes "p") then Some 4 else
    if bytes_eq name (codes "q") then Some 5 else
    if bytes_eq name (codes "r") then Some 6 else
    if bytes_eq name (codes "s") then Some 7 else
    None

unfoldable pub family_named : List ℕ → Option Family
family_named name =
    if bytes_eq name (codes "Lagrange") then Some Lagrange else
    if bytes_eq name (codes "CG") then Some Lagrange else
    if bytes_eq name (codes "P") then Some Lagrange else
    if bytes_eq name (codes "Discontinuous Lagrange") then Some Dg else
    if bytes_eq name (codes "DG") then Some Dg else
    None

unfoldable pub keyword_named : List ℕ → Option Keyword
keyword_named name =
    if bytes_eq name (codes "dim") then Some k.Dim else
    if bytes_eq name (codes "shape") then Some k.Shape else
    None

-- `**` stands for all that are not among the others
unfoldable pub sign_of : List ℕ → Sign
sign_of text =
    if bytes_eq text (codes "+") then s.Plus else
    if bytes_eq text (codes "-") then s.Minus else
    if bytes_eq text (codes "*") then s.Times else
    if bytes_eq text (codes "/") then s.Over else
    s.Power
