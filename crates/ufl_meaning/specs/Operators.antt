-- The components of the operators, from those of their operands. Source: M. Alnaes and others, Unified Form Language, ACM TOMS 40 (2014), sections 3 and 4
use Rattle.std.specs.Prelude.{ℕ, zero, suc, ◌==◌, List, [], ◌∷◌, if◌then◌else◌, Option, None, Some}
use Rattle.algebra.specs.Ring.{natural}
use Rattle.algebra.specs.Fraction.{fractions, inverse}
use Rattle.calculus.specs.Polynomial.{Polynomial, nil, one, plus, times, negative, minus, constant, derivative}
use Rattle.calculus.specs.Integral.{sum_below}
use Rattle.ufl_tree.specs.declared.function.Free.{Free}
use Rattle.ufl_tree.specs.declared.tree.Op1.{Op1}
use Rattle.ufl_tree.specs.declared.tree.Op1.TheVariants.{Neg, Grad, NablaGrad, Div, NablaDiv, Curl, Transpose, Trace, Sym, Skew, Dev}
use Rattle.ufl_tree.specs.declared.tree.Op2.{Op2}
use Rattle.ufl_tree.specs.declared.tree.Op2.TheVariants.{Sum, Product, Dot, Inner, Outer, Cross}
use Rattle.ufl_tree.specs.Indices.{Names, with_name, front, back, followed_by, first_size, last_size}

-- the components of a value
abbrev pub Components : Type 0
Components = List ℕ → Polynomial

-- the component at a place, or 0
abbrev pub at_place : Option ℕ → (ℕ → Polynomial) → Polynomial
at_place None f = nil
at_place (Some n) f = f n

-- the derivative in a direction of space; there are three
abbrev pub along : ℕ → Polynomial → Polynomial
along zero p = derivative 0 p
along (suc zero) p = derivative 1 p
along (suc (suc zero)) p = derivative 2 p
along (suc (suc (suc i))) p = nil

-- a sum over the values of names
abbrev pub sum_names : List Free → (Names → Polynomial) → Names → Polynomial
sum_names [] f v = f v
sum_names (x ∷ xs) f v = sum_below x.dim (λ k. sum_names xs f (with_name x.index k v))

-- a sum over all components of a shape
abbrev pub sum_components : List ℕ → Components → Polynomial
sum_components [] f = f []
sum_components (d ∷ ds) f = sum_below d (λ k. sum_components ds (λ b. f (k ∷ b)))

-- one part in n
abbrev pub one_in : ℕ → Polynomial
one_in n = constant (inverse (natural fractions n))

abbrev pub unit_or_nil : ℕ → ℕ → Polynomial
unit_or_nil i j = if i == j then one else nil

abbrev pub identity_value : Components
identity_value (i ∷ j ∷ []) = unit_or_nil i j
identity_value _ = nil

-- the last number is the direction
abbrev pub grad_value : Components → Components
grad_value f [] = nil
grad_value f (i ∷ []) = along i (f [])
grad_value f (i ∷ j ∷ b) = grad_value (λ c. f (i ∷ c)) (j ∷ b)

-- the first number is the direction
abbrev pub nabla_grad_value : Components → Components
nabla_grad_value f [] = nil
nabla_grad_value f (i ∷ b) = along i (f b)

-- the three differences h 1 2 - h 2 1, h 2 0 - h 0 2, h 0 1 - h 1 0
abbrev pub rotated : (ℕ → ℕ → Polynomial) → ℕ → Polynomial
rotated h zero = minus (h 1 2) (h 2 1)
rotated h (suc zero) = minus (h 2 0) (h 0 2)
rotated h (suc (suc zero)) = minus (h 0 1) (h 1 0)
rotated h (suc (suc (suc i))) = nil

-- of a scalar in the plane
abbrev pub scalar_curl : Polynomial → ℕ → Polynomial
scalar_curl p zero = along 1 p
scalar_curl p (suc zero) = negative (along 0 p)
scalar_curl p (suc (suc i)) = nil

-- of a scalar; of a vector, in the plane or in space
abbrev pub curl_value : List ℕ → Components → Components
curl_value [] f (i ∷ []) = scalar_curl (f []) i
curl_value (n ∷ []) f [] = minus (along 0 (f (1 ∷ []))) (along 1 (f (0 ∷ [])))
curl_value (n ∷ []) f (i ∷ []) = rotated (λ j k. along j (f (k ∷ []))) i
curl_value _ f _ = nil

-- of matrices
abbrev pub turned_over : Components → ℕ → ℕ → Polynomial
turned_over f i j = f (j ∷ i ∷ [])

abbrev pub trace_value : ℕ → Components → Polynomial
trace_value n f = sum_below n (λ i. f (i ∷ i ∷ []))

abbrev pub matrix_value : (ℕ → ℕ → Polynomial) → Components
matrix_value f (i ∷ j ∷ []) = f i j
matrix_value f _ = nil

abbrev pub one_value : Op1 → List ℕ → Components → Components
one_value Neg s f b = negative (f b)
one_value Grad s f b = grad_value f b
one_value NablaGrad s f b = nabla_grad_value f b
one_value Div s f b = sum_below (last_size s) (λ k. along k (f (followed_by b k)))
one_value NablaDiv s f b = sum_below (first_size s) (λ k. along k (f (k ∷ b)))
one_value Curl s f b = curl_value s f b
one_value Transpose s f b = matrix_value (turned_over f) b
one_value Trace s f b = trace_value (first_size s) f
one_value Sym s f b = matrix_value (λ i j. times (one_in 2) (plus (f (i ∷ j ∷ [])) (turned_over f i j))) b
one_value Skew s f b = matrix_value (λ i j. times (one_in 2) (minus (f (i ∷ j ∷ [])) (turned_over f i j))) b
one_value Dev s f b = matrix_value (λ i j. minus (f (i ∷ j ∷ [])) (times (times (trace_value (first_size s) f) (one_in (first_size s))) (unit_or_nil i j))) b

-- the inner index summed, over the last size of the first shape; of scalars the product
abbrev pub dot_value : List ℕ → Components → Components → Components
dot_value [] f g b = times (f []) (g b)
dot_value (d ∷ s) f g b = sum_below (last_size (d ∷ s)) (λ k. times (f (followed_by (front s b) k)) (g (k ∷ back s b)))

-- of a scalar with anything; of a matrix with a vector or a matrix
abbrev pub product_value : List ℕ → List ℕ → Components → Components → Components
product_value [] t f g b = times (f []) (g b)
product_value (d ∷ s) [] f g b = times (f b) (g [])
product_value (d ∷ s) (e ∷ t) f g b = dot_value (d ∷ s) f g b

abbrev pub cross_value : Components → Components → Components
cross_value f g (i ∷ []) = rotated (λ j k. times (f (j ∷ [])) (g (k ∷ []))) i
cross_value f g _ = nil

abbrev pub two_value : Op2 → List ℕ → List ℕ → Components → Components → Components
two_value Sum s t f g b = plus (f b) (g b)
two_value Product s t f g b = product_value s t f g b
two_value Dot s t f g b = dot_value s f g b
two_value Inner s t f g b = sum_components s (λ c. times (f c) (g c))
two_value Outer s t f g b = times (f (front s b)) (g (back s b))
two_value Cross s t f g b = cross_value f g b
