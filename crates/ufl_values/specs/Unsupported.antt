-- Words of the language that the compiler refuses
use Rattle.std.specs.Prelude.{ℕ, Bool, ◌||◌, List, codes}
use Rattle.std.specs.Str.{bytes_eq}

-- roots, exponentials, and functions that choose
unfoldable pub is_root_or_choice : List ℕ → Bool
is_root_or_choice w = bytes_eq w (codes "sqrt")
    || bytes_eq w (codes "exp")
    || bytes_eq w (codes "ln")
    || bytes_eq w (codes "abs")
    || bytes_eq w (codes "sign")
    || bytes_eq w (codes "conditional")
    || bytes_eq w (codes "max_value")
    || bytes_eq w (codes "min_value")

-- trigonometric and hyperbolic functions
unfoldable pub is_trigonometric : List ℕ → Bool
is_trigonometric w = bytes_eq w (codes "sin")
    || bytes_eq w (codes "cos")
    || bytes_eq w (codes "tan")
    || bytes_eq w (codes "asin")
    || bytes_eq w (codes "acos")
    || bytes_eq w (codes "atan")
    || bytes_eq w (codes "sinh")
    || bytes_eq w (codes "cosh")
    || bytes_eq w (codes "tanh")

-- facets, their measures and their sides
unfoldable pub is_of_facets : List ℕ → Bool
is_of_facets w = bytes_eq w (codes "ds")
    || bytes_eq w (codes "dS")
    || bytes_eq w (codes "dP")
    || bytes_eq w (codes "jump")
    || bytes_eq w (codes "avg")
    || bytes_eq w (codes "FacetNormal")

-- meshes, the geometry of their cells and spaces on them
unfoldable pub is_of_meshes : List ℕ → Bool
is_of_meshes w = bytes_eq w (codes "CellVolume")
    || bytes_eq w (codes "Circumradius")
    || bytes_eq w (codes "Mesh")
    || bytes_eq w (codes "FunctionSpace")
    || bytes_eq w (codes "EnrichedElement")
    || bytes_eq w (codes "TensorConstant")

-- operators on matrices
unfoldable pub is_of_matrices : List ℕ → Bool
is_of_matrices w = bytes_eq w (codes "det")
    || bytes_eq w (codes "inv")
    || bytes_eq w (codes "cofac")
    || bytes_eq w (codes "perp")
    || bytes_eq w (codes "diag")
    || bytes_eq w (codes "diag_vector")
    || bytes_eq w (codes "elem_mult")

-- operators on forms
unfoldable pub is_of_forms : List ℕ → Bool
is_of_forms w = bytes_eq w (codes "exterior_derivative")
    || bytes_eq w (codes "replace")
    || bytes_eq w (codes "sensitivity_rhs")

unfoldable pub is_unsupported : List ℕ → Bool
is_unsupported w = is_root_or_choice w
    || is_trigonometric w
    || is_of_facets w
    || is_of_meshes w
    || is_of_matrices w
    || is_of_forms w
