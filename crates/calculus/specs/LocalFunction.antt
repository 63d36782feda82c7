-- The local functions of a Lagrange element, by Silvester's formula
use Rattle.std.specs.Prelude.{ℕ, zero, suc, ◌+◌, ◌*◌, Bool, true, false, nat_eq, List, [], ◌∷◌}
use Rattle.algebra.specs.Ring.{natural}
use Rattle.algebra.specs.Fraction.{Fraction, fractions, mul, inverse}
use Rattle.calculus.specs.Polynomial.{Polynomial, nil, one, times, minus, constant, value, whole}
use Rattle.calculus.specs.Simplex.{Simplex, barycentric, affine}

abbrev pub factorial : ℕ → ℕ
factorial zero = 1
factorial (suc n) = suc n * factorial n

-- the degree of a node: its weights, one for each vertex of the cell, add up to it
abbrev pub degree_of : List ℕ → ℕ
degree_of [] = 0
degree_of (a ∷ weights) = a + degree_of weights

-- x (x - 1) .. (x - a + 1)
abbrev pub falling : Polynomial → ℕ → Polynomial
falling x zero = one
falling x (suc a) = times (falling x a) (minus x (whole a))

-- the factor of a vertex with weight a and barycentric coordinate b: (1/a!) times the product over m < a of (q b - m)
abbrev pub vertex_factor : ℕ → Polynomial → ℕ → Polynomial
vertex_factor q b a = times (constant (inverse (natural fractions (factorial a)))) (falling (times (whole q) b) a)

-- the product over the vertices from number j on
abbrev pub vertex_factors : ℕ → Simplex → ℕ → List ℕ → Polynomial
vertex_factors q v j [] = one
vertex_factors q v j (a ∷ weights) = times (vertex_factor q (barycentric v j) a) (vertex_factors q v (suc j) weights)

-- the local function of a node on a cell; for degree 0 it is 1
unfoldable pub local_function : Simplex → List ℕ → Polynomial
local_function v weights = vertex_factors (degree_of weights) v 0 weights

-- coordinate i of a node on the reference cell: its weight at vertex i + 1 over its degree
abbrev pub weight_at : List ℕ → ℕ → ℕ
weight_at [] i = 0
weight_at (a ∷ weights) zero = a
weight_at (a ∷ weights) (suc i) = weight_at weights i

abbrev pub node_point : List ℕ → ℕ → Fraction
node_point weights i = mul (natural fractions (weight_at weights (suc i))) (inverse (natural fractions (degree_of weights)))

-- the node's point in a cell: the image of that on the reference cell
abbrev pub node_in : Simplex → List ℕ → ℕ → Fraction
node_in v weights i = value (node_point weights) (affine v i)

-- ---- labels: pairs of a vertex number and its weight, where the cell's vertices are numbered too
abbrev pub label_weight : List (ℕ × ℕ) → ℕ → ℕ
label_weight [] n = 0
label_weight (p ∷ label) n = elim (nat_eq p.0 n) [ true ↦ p.1 | false ↦ label_weight label n ]

abbrev pub is_vertex_of : List ℕ → ℕ → Bool
is_vertex_of [] n = false
is_vertex_of (m ∷ numbers) n = elim (nat_eq m n) [ true ↦ true | false ↦ is_vertex_of numbers n ]

-- each vertex of the label is one of the cell's
abbrev pub lies_on : List (ℕ × ℕ) → List ℕ → Bool
lies_on [] numbers = true
lies_on (p ∷ label) numbers = elim (is_vertex_of numbers p.0) [ true ↦ lies_on label numbers | false ↦ false ]

abbrev pub weights_of : List (ℕ × ℕ) → List ℕ → List ℕ
weights_of label [] = []
weights_of label (n ∷ numbers) = label_weight label n ∷ weights_of label numbers

-- the local function of a label on a cell; it is 0 where a vertex of the label isn't the cell's
unfoldable pub label_function : List (ℕ × ℕ) → List ℕ → Simplex → Polynomial
label_function label numbers v = elim (lies_on label numbers) [ true ↦ local_function v (weights_of label numbers) | false ↦ nil ]
