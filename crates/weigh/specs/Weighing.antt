-- The weights of expressions and forms. `cap` is what becomes of each number at each step: `exact` leaves it, `kept` keeps it within 127 bits
use Rattle.std.specs.Prelude.{ℕ, zero, suc, ◌-◌, ◌^◌, max, min, unsigned_abs, List, [], ◌∷◌, ◌++◌, length, Option, None, Some, slice_get}
use Rattle.algebra.specs.LowestTerms.{top, bottom}
use Rattle.ratio.specs.declared.reduced.Ratio.{Ratio}
use Rattle.ratio.specs.Value.{fraction_of}
use Rattle.calculus.specs.LocalFunction.{factorial}
use Rattle.spaces.specs.declared.cell.Cell.{Cell}
use Rattle.spaces.specs.Cell.{dimension}
use Rattle.spaces.specs.Scalar.{Scalar}
use Rattle.spaces.specs.Space.{Space, scalars}
use Rattle.ufl_tree.specs.declared.function.Free.{Free}
use Rattle.ufl_tree.specs.declared.function.Function.{Function}
use Rattle.ufl_tree.specs.declared.tree.Op1.{Op1}
use Rattle.ufl_tree.specs.declared.tree.Op1.TheVariants.{Neg, Grad, NablaGrad, Div, NablaDiv, Curl, Transpose, Trace, Sym, Skew, Dev}
use Rattle.ufl_tree.specs.declared.tree.Op2.{Op2}
use Rattle.ufl_tree.specs.declared.tree.Op2.TheVariants.{Sum, Product, Dot, Inner, Outer, Cross}
use Rattle.ufl_tree.specs.Places.{Table}
use Rattle.ufl_tree.specs.Indices.{first_size, last_size, named, direction, repeated}
use Rattle.monos.specs.Summed.{summed}
use Rattle.ufl_tree.specs.Typed.{Typed, number, identity, function, piece, one, two, power, index, partial, tensor, list, variable, diff, TypedList, no_items, item, own_kind, shape_of, free_of}
use Rattle.ufl_tree.specs.FormTerm.{FormTerm, integral, sum, scale, left, right, action, adjoint, derivative}
use Rattle.monos.specs.declared.weight.Weight.{Weight}
use Rattle.weigh.specs.Steps.{lcm, capped, number_step, one_step, times_step, join_step, plus_step, index_step, space_step, linear_step, label_step, part_step}

abbrev pub exact : ℕ → ℕ
exact n = n

abbrev pub kept : ℕ → ℕ
kept n = min n (2 ^ 127 - 1)

-- ---- functions: the largest numbers of the scalar parts of the whole function
-- at least the sum of the absolute coefficients of each basis function of this degree
abbrev pub coefficient_sum : ℕ → ℕ
coefficient_sum zero = 1
coefficient_sum (suc zero) = 4
coefficient_sum (suc (suc zero)) = 128
coefficient_sum (suc (suc (suc q))) = 10368

abbrev pub parts_weight : List Scalar → Weight
parts_weight [] = record { cost = 1; deg = 0; g = 1; f = 1; rmin = 0; rmax = 0; num = 1; den = 1; fac = 1; s = 1 }
parts_weight (p ∷ ps) =
    let w = parts_weight ps in
    record w { cost = max p.nodes w.cost; deg = max p.degree w.deg; fac = lcm (factorial p.degree) w.fac; s = max (coefficient_sum p.degree) w.s }

abbrev pub scalars_in : Option Space → List Scalar
scalars_in None = []
scalars_in (Some s) = scalars s

abbrev pub function_weight : Table → Function → Weight
function_weight elements f = parts_weight (scalars_in (slice_get elements f.element))

-- how many directions a derivative has: the dimension of the cell, and 1 where no function occurs
abbrev pub directions : Option Cell → ℕ
directions None = 1
directions (Some c) = dimension c

module _ (cap : ℕ → ℕ) where
  abbrev pub number_weight : Ratio → Weight
  number_weight c = capped cap (number_step (unsigned_abs (top (fraction_of c))) (bottom (fraction_of c)))

  abbrev pub one_weight : Weight
  one_weight = capped cap one_step

  -- of one part in n
  abbrev pub share_weight : ℕ → Weight
  share_weight n = capped cap (number_step 1 (max n 1))

  abbrev pub times_weight : Weight → Weight → Weight
  times_weight a b = capped cap (times_step a b)

  abbrev pub join_weight : Weight → Weight → Weight
  join_weight a b = capped cap (join_step a b)

  abbrev pub plus_weight : Weight → Weight → Weight
  plus_weight a b = capped cap (plus_step a b)

  abbrev pub index_weight : ℕ → Weight → Weight
  index_weight n a = capped cap (index_step n a)

  abbrev pub space_weight : ℕ → Weight → Weight
  space_weight d a = capped cap (space_step d a)

  abbrev pub linear_weight : Weight → Weight
  linear_weight a = capped cap (linear_step a)

  abbrev pub label_weight : ℕ → Weight → Weight
  label_weight n a = capped cap (label_step n a)

  abbrev pub part_weight : Weight → Weight
  part_weight a = capped cap (part_step a)

  -- ---- several steps
  abbrev pub power_weight : Weight → ℕ → Weight
  power_weight a zero = one_weight
  power_weight a (suc zero) = a
  power_weight a (suc (suc n)) = times_weight (power_weight a (suc n)) a

  abbrev pub names_weight : List Free → Weight → Weight
  names_weight [] a = a
  names_weight (x ∷ xs) a = index_weight x.dim (names_weight xs a)

  abbrev pub sizes_weight : List ℕ → Weight → Weight
  sizes_weight [] a = a
  sizes_weight (d ∷ ds) a = index_weight d (sizes_weight ds a)

  -- of a scalar two components, each a derivative; of a vector a difference of two
  abbrev pub curl_weight : List ℕ → Weight → Weight
  curl_weight [] a = join_weight a a
  curl_weight (n ∷ s) a = plus_weight a a

  abbrev pub dot_weight : List ℕ → Weight → Weight → Weight
  dot_weight [] a b = times_weight a b
  dot_weight (d ∷ s) a b = index_weight (last_size (d ∷ s)) (times_weight a b)

  abbrev pub product_weight : List ℕ → List ℕ → Weight → Weight → Weight
  product_weight [] t a b = times_weight a b
  product_weight (d ∷ s) [] a b = times_weight a b
  product_weight (d ∷ s) (e ∷ t) a b = dot_weight (d ∷ s) a b

  -- with the shape of the operand, and the number of directions
  abbrev pub one_operand : Op1 → List ℕ → ℕ → Weight → Weight
  one_operand Neg s d a = a
  one_operand Grad s d a = space_weight d a
  one_operand NablaGrad s d a = space_weight d a
  one_operand Div s d a = index_weight (last_size s) (space_weight d a)
  one_operand NablaDiv s d a = index_weight (first_size s) (space_weight d a)
  one_operand Curl s d a = curl_weight s (space_weight d a)
  one_operand Transpose s d a = a
  one_operand Trace s d a = index_weight (first_size s) a
  one_operand Sym s d a = times_weight (share_weight 2) (plus_weight a a)
  one_operand Skew s d a = times_weight (share_weight 2) (plus_weight a a)
  one_operand Dev s d a = plus_weight a (times_weight (times_weight (index_weight (first_size s) a) (share_weight (first_size s))) one_weight)

  abbrev pub two_operands : Op2 → List ℕ → List ℕ → Weight → Weight → Weight
  two_operands Sum s t a b = plus_weight a b
  two_operands Product s t a b = product_weight s t a b
  two_operands Dot s t a b = dot_weight s a b
  two_operands Inner s t a b = sizes_weight s (times_weight a b)
  two_operands Outer s t a b = times_weight a b
  two_operands Cross s t a b = plus_weight (times_weight a b) (times_weight a b)

  -- ---- trees and forms
  abbrev mutual
    pub weight_with : Table → Typed → Weight
    weight_with elements (number k c) = number_weight c
    weight_with elements (identity k n) = one_weight
    weight_with elements (function k f) = capped cap (function_weight elements f)
    weight_with elements (piece k f n) = capped cap (function_weight elements f)
    weight_with elements (one k op a) = one_operand op (shape_of a) (directions (own_kind a).cell) (weight_with elements a)
    weight_with elements (two k op a b) =
        names_weight (summed op (free_of a) (free_of b)) (two_operands op (shape_of a) (shape_of b) (weight_with elements a) (weight_with elements b))
    weight_with elements (power k a n) = power_weight (weight_with elements a) n
    weight_with elements (index k a at) = names_weight (repeated (free_of a ++ named at (shape_of a))) (weight_with elements a)
    weight_with elements (partial k a i) =
        names_weight (repeated (free_of a ++ direction i (own_kind a).cell)) (space_weight (directions (own_kind a).cell) (weight_with elements a))
    weight_with elements (tensor k a by) = weight_with elements a
    weight_with elements (list k ts) = list_weight elements ts
    weight_with elements (variable k l a) = label_weight (length (shape_of a)) (weight_with elements a)
    weight_with elements (diff k l by a) = linear_weight (weight_with elements a)

    -- without items that of the number 0
    pub list_weight : Table → TypedList → Weight
    list_weight elements no_items = one_weight
    list_weight elements (item t no_items) = weight_with elements t
    list_weight elements (item t (item u ts)) = join_weight (weight_with elements t) (list_weight elements (item u ts))

  abbrev pub form_weight : Table → FormTerm → Weight
  form_weight elements (integral m e) = weight_with elements e
  form_weight elements (sum f g) = plus_weight (form_weight elements f) (form_weight elements g)
  form_weight elements (scale c f) = times_weight (number_weight c) (form_weight elements f)
  form_weight elements (left f) = linear_weight (form_weight elements f)
  form_weight elements (right f) = part_weight (form_weight elements f)
  form_weight elements (action f r g) = form_weight elements f
  form_weight elements (adjoint f) = form_weight elements f
  form_weight elements (derivative f w u) = linear_weight (form_weight elements f)
