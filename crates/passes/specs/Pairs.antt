-- Which components of its operands an operator takes
use Rattle.std.specs.Prelude.{◌≡◌, ℕ, zero, suc, ◌+◌, Bool, true, false, List, length}
use Rattle.ufl_tree.specs.declared.function.Ix.{Ix}
use Rattle.ufl_tree.specs.declared.tree.Op2.{Op2}
use Rattle.ufl_tree.specs.declared.tree.Op2.TheVariants.{Sum, Cross}
use Rattle.ufl_tree.specs.Reading.{term_of}
use Rattle.ufl_tree.specs.Term.{Term, sum, prod}
use Rattle.lower.specs.Lowering.{Lowered, dot_term, product_term, two_term}
use Rattle.passes.specs.Names.{sums_around}
use Rattle.passes.specs.declared.pairs.Axes.{Axes}

abbrev pub is_cross : Op2 → Bool
is_cross Cross = true
is_cross _ = false

abbrev pub both : Op2 → Term → Term → Term
both Sum x y = sum x y
both _ x y = prod x y

-- the product of a component of each, summed over the names from n on, is that of the operator
abbrev pub SuitsDot : List ℕ → List Ix → ℕ → List Ix → List Ix → List ℕ → Type 0
SuitsDot s b n left right sizes =
    (f g : Lowered) → sums_around sizes n (prod (f left (n + length sizes)) (g right (n + length sizes)))
    ≡ dot_term s f g b n

abbrev pub SuitsProduct : List ℕ → List ℕ → List Ix → ℕ → List Ix → List Ix → List ℕ → Type 0
SuitsProduct s t b n left right sizes =
    (f g : Lowered) → sums_around sizes n (prod (f left (n + length sizes)) (g right (n + length sizes)))
    ≡ product_term s t f g b n

abbrev pub Suits : Op2 → List ℕ → List ℕ → List Ix → ℕ → List Ix → List Ix → List ℕ → Type 0
Suits op s t b n left right sizes =
    is_cross op ≡ false → (f g : Lowered)
    → sums_around sizes n (both op (f left (n + length sizes)) (g right (n + length sizes))) ≡ two_term op s t f g b n

-- ---- components of vectors in space
abbrev pub axis_term : Axes → ℕ → Term
axis_term v zero = term_of v.x
axis_term v (suc zero) = term_of v.y
axis_term v (suc (suc k)) = term_of v.z

abbrev pub axis_product : Axes → Axes → ℕ → ℕ → Term
axis_product a b j k = prod (axis_term a j) (axis_term b k)
