-- The components of two operands that an operator combines, and how
use Rattle.std.specs.Prelude.{◌≡◌, ℕ, List, [], ◌∷◌, map, Option, None, Some}
use Rattle.calculus.specs.Polynomial.{Polynomial, nil, plus, minus, times}
use Rattle.ufl_tree.specs.declared.tree.Op2.{Op2}
use Rattle.ufl_tree.specs.declared.tree.Op2.TheVariants.{Sum, Product, Dot, Inner, Outer, Cross}
use Rattle.ufl_meaning.specs.Operators.{Components, two_value, dot_value, cross_value}

abbrev pub total_of : List Polynomial → Polynomial
total_of [] = nil
total_of (x ∷ xs) = plus x (total_of xs)

abbrev pub products_of : List Polynomial → List Polynomial → Polynomial
products_of [] ys = nil
products_of (x ∷ xs) [] = nil
products_of (x ∷ xs) (y ∷ ys) = plus (times x y) (products_of xs ys)

-- the first product less the others
abbrev pub turned_of : List Polynomial → List Polynomial → Polynomial
turned_of [] ys = nil
turned_of (x ∷ xs) [] = nil
turned_of (x ∷ xs) (y ∷ ys) = minus (times x y) (products_of xs ys)

abbrev pub combination : Op2 → List Polynomial → List Polynomial → Polynomial
combination Sum xs ys = plus (total_of xs) (total_of ys)
combination Product xs ys = products_of xs ys
combination Dot xs ys = products_of xs ys
combination Inner xs ys = products_of xs ys
combination Outer xs ys = products_of xs ys
combination Cross xs ys = turned_of xs ys

-- these components, combined, are the component b of the operator's value, whatever the operands are
abbrev pub Combines : Op2 → List ℕ → List ℕ → List ℕ → List (List ℕ) → List (List ℕ) → Type 0
Combines op s t b left right = (f g : Components) → combination op (map f left) (map g right) ≡ two_value op s t f g b

abbrev pub CombinesDot : List ℕ → List ℕ → List (List ℕ) → List (List ℕ) → Type 0
CombinesDot s b left right = (f g : Components) → products_of (map f left) (map g right) ≡ dot_value s f g b

abbrev pub CombinesCross : List ℕ → List (List ℕ) → List (List ℕ) → Type 0
CombinesCross b left right = (f g : Components) → turned_of (map f left) (map g right) ≡ cross_value f g b

abbrev pub turned_difference : (ℕ → ℕ → Polynomial) → Option (ℕ × ℕ) → Polynomial
turned_difference h None = nil
turned_difference h (Some p) = minus (h p.0 p.1) (h p.1 p.0)

abbrev pub CombinesTurned : Option (ℕ × ℕ) → List (List ℕ) → List (List ℕ) → Type 0
CombinesTurned axes left right = (f g : Components) → turned_of (map f left) (map g right) ≡ turned_difference (λ j k. times (f (j ∷ [])) (g (k ∷ []))) axes
