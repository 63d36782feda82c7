-- The values of operators
use Rattle.std.specs.Prelude.{ℕ, nat_le, if◌then◌else◌, List, [], ◌∷◌, Option, None, Some, Result, Ok, Err}
use Rattle.algebra.specs.Fraction.{negative, one_fraction}
use Rattle.algebra.specs.Steps.{product, sum, difference, reciprocal}
use Rattle.ratio.specs.declared.reduced.Ratio.{Ratio}
use Rattle.ratio.specs.Value.{fraction_of}
use Rattle.spaces.specs.declared.element_tree.ElementTree.{ElementTree}
use Rattle.spaces.specs.declared.element_tree.ElementTree.TheVariants as e
use Rattle.spaces.specs.declared.refusal.SpaceRefusal.{SpaceRefusal}
use Rattle.spaces.specs.Reading.{spaces_in}
use Rattle.spaces.specs.Refusal.{mixed_refusal}
use Rattle.ufl_tree.specs.declared.function.Ix.{Ix}
use Rattle.ufl_tree.specs.declared.function.On.{On}
use Rattle.ufl_tree.specs.declared.tree.Op1.{Op1}
use Rattle.ufl_tree.specs.declared.tree.Op1.TheVariants.{Neg}
use Rattle.ufl_tree.specs.declared.tree.Op2.{Op2}
use Rattle.ufl_tree.specs.declared.tree.Op2.TheVariants.{Sum, Product}
use Rattle.ufl_tree.specs.declared.tree.Tree.{Tree}
use Rattle.ufl_tree.specs.declared.tree.Node.TheVariants as n
use Rattle.ufl_tree.specs.Reading.{kind_of}
use Rattle.ufl_expr.specs.declared.refusal.TypeRefusal.{TypeRefusal}
use Rattle.ufl_expr.specs.Table.{one_kind, two_kind, power_kind, index_kind}
use Rattle.ufl_expr.specs.Building.{built}
use Rattle.ufl_form.specs.declared.form_tree.FormTree.{FormTree}
use Rattle.ufl_form.specs.declared.form_tree.FormTree.TheVariants as f
use Rattle.ufl_form.specs.Table.{form_kind, Verdict as FormVerdict}
use Rattle.ufl_form.specs.Reading.{form_of}
use Rattle.ufl_form.specs.Building.{formed}
use Rattle.ufl_values.specs.declared.refusal.Reason.{Reason}
use Rattle.ufl_values.specs.declared.refusal.Reason.TheVariants as r
use Rattle.ufl_values.specs.declared.words.Sign.{Sign}
use Rattle.ufl_values.specs.declared.words.Sign.TheVariants as s
use Rattle.ufl_values.specs.declared.value.Value.{Value}
use Rattle.ufl_values.specs.declared.value.Value.TheVariants as v
use Rattle.ufl_values.specs.Answer.{and_then, typed_as, reason_of_space}
use Rattle.ufl_values.specs.Numbers.{stepped, numbered, whole_number, index_of, indices_of, power_of as number_power}
use Rattle.ufl_values.specs.Values.{expression_of, tuple_of}

-- an operator of two expressions
abbrev pub two_trees : Op2 → Tree → Tree → Result Value Reason
two_trees op a b = typed_as v.Expr (built (two_kind op (kind_of a) (kind_of b)) (n.Two op a b))

abbrev pub two_of : Op2 → Value → Value → Result Value Reason
two_of op a b = and_then (expression_of a) (λ x. and_then (expression_of b) (λ y. two_trees op x y))

-- an operator of one expression
abbrev pub one_of : Op1 → Value → Result Value Reason
one_of op a = and_then (expression_of a) (λ x. typed_as v.Expr (built (one_kind op (kind_of x)) (n.One op x)))

abbrev pub integral_of : Value → On → Result Value Reason
integral_of a on = and_then (expression_of a) (λ x. typed_as v.Form (formed (f.Integral on x)))

abbrev pub scaled : Ratio → FormTree → Result Value Reason
scaled c t = typed_as v.Form (formed (f.Scale c t))

-- ---- signs
abbrev pub minus_one : Result Ratio Reason
minus_one = stepped (Some (negative one_fraction))

abbrev pub plus_of : Value → Result Value Reason
plus_of (v.Number c) = Ok (v.Number c)
plus_of (v.Expr t) = Ok (v.Expr t)
plus_of (v.Form t) = Ok (v.Form t)
plus_of _ = Err r.Kind

abbrev pub minus_of : Value → Result Value Reason
minus_of (v.Number c) = numbered (stepped (Some (negative (fraction_of c))))
minus_of (v.Expr t) = typed_as v.Expr (built (one_kind Neg (kind_of t)) (n.One Neg t))
minus_of (v.Form t) = and_then minus_one (λ c. scaled c t)
minus_of _ = Err r.Kind

-- ---- sums
abbrev pub number_plus : Ratio → Value → Result Value Reason
number_plus c (v.Number d) = numbered (stepped (sum (fraction_of c) (fraction_of d)))
number_plus c (v.Expr t) = two_of Sum (v.Number c) (v.Expr t)
number_plus c _ = Err r.Kind

abbrev pub sum_form : FormTree → FormTree → Result FormTree TypeRefusal
sum_form t u = formed (f.Sum t u)

abbrev pub form_plus : FormTree → Value → Result Value Reason
form_plus t (v.Form u) = typed_as v.Form (sum_form t u)
form_plus t _ = Err r.Kind

abbrev pub sum_of : Value → Value → Result Value Reason
sum_of (v.Number c) b = number_plus c b
sum_of (v.Expr t) b = two_of Sum (v.Expr t) b
sum_of (v.Form t) b = form_plus t b
sum_of _ b = Err r.Kind

-- ---- differences
abbrev pub built_then : {A B : Type 0} → Result A TypeRefusal → (A → Result B TypeRefusal) → Result B TypeRefusal
built_then (Err e) next = Err e
built_then (Ok x) next = next x

abbrev pub verified : {A B : Type 0} → Result A TypeRefusal → Result B TypeRefusal → Result B TypeRefusal
verified (Err e) answer = Err e
verified (Ok k) answer = answer

abbrev pub negative_tree : Tree → Result Tree TypeRefusal
negative_tree t = built (one_kind Neg (kind_of t)) (n.One Neg t)

abbrev pub sum_tree : Tree → Tree → Result Tree TypeRefusal
sum_tree a b = built (two_kind Sum (kind_of a) (kind_of b)) (n.Two Sum a b)

-- the sum with the negative: what the sum refuses for its kind, shapes and free indices comes before the size of the
-- negative
unfoldable pub difference_tree : Tree → Tree → Result Tree TypeRefusal
difference_tree a b = verified (two_kind Sum (kind_of a) (kind_of b)) (built_then (negative_tree b) (λ m. sum_tree a m))

abbrev pub difference_trees : Value → Value → Result Value Reason
difference_trees a b =
    and_then (expression_of a) (λ x. and_then (expression_of b) (λ y. typed_as v.Expr (difference_tree x y)))

-- the kind of the sum of two forms, before its size
abbrev pub form_sum_kind : FormTree → FormTree → FormVerdict
form_sum_kind t u = form_kind (form_of (f.Sum t u))

abbrev pub number_minus : Ratio → Value → Result Value Reason
number_minus c (v.Number d) = numbered (stepped (difference (fraction_of c) (fraction_of d)))
number_minus c (v.Expr t) = difference_trees (v.Number c) (v.Expr t)
number_minus c _ = Err r.Kind

-- the sum with the form times -1, with the refusals in the same order
unfoldable pub difference_form_by : Ratio → FormTree → FormTree → Result FormTree TypeRefusal
difference_form_by c t u = verified (form_sum_kind t u) (built_then (formed (f.Scale c u)) (λ m. sum_form t m))

unfoldable pub difference_forms : FormTree → FormTree → Result Value Reason
difference_forms t u = and_then minus_one (λ c. typed_as v.Form (difference_form_by c t u))

abbrev pub form_minus : FormTree → Value → Result Value Reason
form_minus t (v.Form u) = difference_forms t u
form_minus t _ = Err r.Kind

abbrev pub difference_of : Value → Value → Result Value Reason
difference_of (v.Number c) b = number_minus c b
difference_of (v.Expr t) b = difference_trees (v.Expr t) b
difference_of (v.Form t) b = form_minus t b
difference_of _ b = Err r.Kind

-- ---- products
abbrev pub mixed_by : Option SpaceRefusal → List ElementTree → Result Value Reason
mixed_by None parts = Ok (v.Element (e.Mixed parts))
mixed_by (Some e) parts = Err (reason_of_space e)

-- the mixed element of these
abbrev pub mixed_of : List ElementTree → Result Value Reason
mixed_of parts = mixed_by (mixed_refusal (spaces_in parts)) parts

abbrev pub number_times : Ratio → Value → Result Value Reason
number_times c (v.Number d) = numbered (stepped (product (fraction_of c) (fraction_of d)))
number_times c (v.Expr t) = two_of Product (v.Number c) (v.Expr t)
number_times c (v.Form t) = scaled c t
number_times c (v.Measure on) = integral_of (v.Number c) on
number_times c _ = Err r.Kind

abbrev pub tree_times : Tree → Value → Result Value Reason
tree_times t (v.Number c) = two_of Product (v.Expr t) (v.Number c)
tree_times t (v.Expr u) = two_trees Product t u
tree_times t (v.Measure on) = integral_of (v.Expr t) on
tree_times t _ = Err r.Kind

abbrev pub form_times : FormTree → Value → Result Value Reason
form_times t (v.Number c) = scaled c t
form_times t _ = Err r.Kind

abbrev pub element_times : ElementTree → Value → Result Value Reason
element_times e (v.Element g) = mixed_of (e ∷ g ∷ [])
element_times e _ = Err r.Kind

abbrev pub product_of : Value → Value → Result Value Reason
product_of (v.Number c) b = number_times c b
product_of (v.Expr t) b = tree_times t b
product_of (v.Form t) b = form_times t b
product_of (v.Element e) b = element_times e b
product_of _ b = Err r.Kind

-- ---- quotients and powers
-- the reciprocal of a number, or this refusal where the divisor is none
abbrev pub reciprocal_of : Reason → Value → Result Ratio Reason
reciprocal_of e (v.Number c) = stepped (reciprocal (fraction_of c))
reciprocal_of e _ = Err e

abbrev pub number_over : Ratio → Value → Result Value Reason
number_over c b =
    and_then (reciprocal_of r.Unsupported b) (λ i. numbered (stepped (product (fraction_of c) (fraction_of i))))

abbrev pub tree_over : Tree → Value → Result Value Reason
tree_over t b = and_then (reciprocal_of r.Unsupported b) (λ i. two_of Product (v.Expr t) (v.Number i))

abbrev pub form_over : FormTree → Value → Result Value Reason
form_over t b = and_then (reciprocal_of r.Kind b) (λ i. scaled i t)

abbrev pub quotient_of : Value → Value → Result Value Reason
quotient_of (v.Number c) b = number_over c b
quotient_of (v.Expr t) b = tree_over t b
quotient_of (v.Form t) b = form_over t b
quotient_of _ b = Err r.Kind

abbrev pub exponent_at : Option ℕ → Result ℕ Reason
exponent_at None = Err r.Unsupported
exponent_at (Some n) = if nat_le n 127 then Ok n else Err r.Unsupported

abbrev pub exponent_of : Value → Result ℕ Reason
exponent_of (v.Number c) = exponent_at (whole_number c)
exponent_of _ = Err r.Unsupported

abbrev pub power_of : Value → Value → Result Value Reason
power_of (v.Number c) b = and_then (exponent_of b) (λ n. numbered (stepped (number_power (fraction_of c) n)))
power_of (v.Expr t) b = and_then (exponent_of b) (λ m. typed_as v.Expr (built (power_kind (kind_of t)) (n.Power t m)))
power_of _ b = Err r.Kind

-- ---- all of them
abbrev pub binary_of : Sign → Value → Value → Result Value Reason
binary_of s.Plus a b = sum_of a b
binary_of s.Minus a b = difference_of a b
binary_of s.Times a b = product_of a b
binary_of s.Over a b = quotient_of a b
binary_of s.Power a b = power_of a b

-- ---- components
abbrev pub one_index : Result Ix Reason → Result (List Ix) Reason
one_index a = and_then a (λ i. Ok (i ∷ []))

-- those of a tuple, or one index
abbrev pub indices_by : Option (List Value) → Value → Result (List Ix) Reason
indices_by (Some items) a = indices_of items
indices_by None a = one_index (index_of a)

abbrev pub indices_at : Value → Result (List Ix) Reason
indices_at a = indices_by (tuple_of a) a

abbrev pub component_of : Tree → Result (List Ix) Reason → Result Value Reason
component_of x at = and_then at (λ i. typed_as v.Expr (built (index_kind (kind_of x) i) (n.Index x i)))

abbrev pub indexed_by : Value → Result (List Ix) Reason → Result Value Reason
indexed_by a at = and_then (expression_of a) (λ x. component_of x at)

abbrev pub indexed_of : Value → Value → Result Value Reason
indexed_of a b = indexed_by a (indices_at b)
