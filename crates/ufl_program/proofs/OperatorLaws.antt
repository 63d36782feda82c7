-- Values of operators are sound where their operands are
use Rattle.std.proofs.Common.{◌≡◌, ◌≤◌, nat_le, ℕ, List, [], ◌∷◌, Bool, true, false, if◌then◌else◌, Option, None, Some, Result, Ok, Err, refl}
use Rattle.std.specs.Prelude.{IfOk}
use Rattle.std.proofs.lemmas.Bool.{leb-true}
use Rattle.ratio.specs.declared.reduced.Ratio.{Ratio}
use Rattle.ratio.specs.Value.{fraction_of}
use Rattle.algebra.specs.Fraction.{negative}
use Rattle.algebra.specs.Steps.{product, sum, difference}
use Rattle.spaces.specs.declared.element_tree.ElementTree.{ElementTree}
use Rattle.spaces.specs.declared.refusal.SpaceRefusal.{SpaceRefusal}
use Rattle.spaces.specs.Reading.{spaces_in}
use Rattle.spaces.specs.Refusal.{mixed_refusal}
use Rattle.ufl_tree.specs.declared.function.Ix.{Ix}
use Rattle.ufl_tree.specs.declared.function.On.{On}
use Rattle.ufl_tree.specs.declared.tree.Op1.{Op1}
use Rattle.ufl_tree.specs.declared.tree.Op1.TheVariants.{Neg}
use Rattle.ufl_tree.specs.declared.tree.Op2.{Op2}
use Rattle.ufl_tree.specs.declared.tree.Op2.TheVariants.{Sum, Product}
use Rattle.ufl_tree.specs.declared.tree.Tree.{Tree}
use Rattle.ufl_tree.specs.declared.tree.Node.TheVariants as n
use Rattle.ufl_tree.specs.Places.{Table}
use Rattle.ufl_tree.specs.Reading.{kind_of}
use Rattle.ufl_expr.specs.Table.{plain_kind, one_kind, two_kind, power_kind, index_kind}
use Rattle.ufl_expr.specs.Building.{built}
use Rattle.ufl_form.specs.declared.form_tree.FormTree.{FormTree}
use Rattle.ufl_form.specs.declared.form_tree.FormTree.TheVariants as f
use Rattle.ufl_form.specs.Building.{formed}
use Rattle.ufl_values.specs.declared.refusal.Reason.{Reason}
use Rattle.ufl_values.specs.declared.refusal.Reason.TheVariants as r
use Rattle.ufl_values.specs.declared.words.Sign.{Sign}
use Rattle.ufl_values.specs.declared.words.Sign.TheVariants as s
use Rattle.ufl_values.specs.declared.value.Value.{Value, Tuple', List'}
use Rattle.ufl_values.specs.declared.value.Value.TheVariants as v
use Rattle.ufl_values.specs.Answer.{and_then, typed_as}
use Rattle.ufl_values.specs.Numbers.{stepped, numbered, whole_number, power_of as number_power}
use Rattle.ufl_values.specs.Values.{same_tree, expression_of}
use Rattle.ufl_values.specs.Operators.{two_trees, two_of, one_of, integral_of, scaled, minus_one, plus_of, minus_of, number_plus, sum_form, form_plus, sum_of, negative_tree, sum_tree, difference_tree, difference_trees, form_sum_kind, number_minus, difference_form_by, difference_forms, form_minus, difference_of, mixed_by, mixed_of, number_times, tree_times, form_times, element_times, product_of, reciprocal_of, quotient_of, exponent_at, exponent_of, power_of, binary_of, indices_at, component_of, indexed_of}
use Rattle.ufl_program.specs.Sound.{SoundTree, SoundForm}
use Rattle.ufl_program.proofs.StepLaws.{Any, anything, where_ok, then_keeps, typed_keeps, built_keeps, verified_keeps}
use Rattle.ufl_program.proofs.TreeLaws.{sound_number, sound_one, sound_two, sound_power, sound_index}
use Rattle.ufl_program.proofs.FormLaws.{sound_integral, sound_sum, sound_scale}
use Rattle.ufl_program.proofs.Parts.{SoundValue, of_number, of_element, of_expression, in_expression, of_form, in_form}

module _ (table : Table) (numbers : List ℕ) where
  abbrev V : Value → Type 0
  V = SoundValue table numbers

  abbrev T : Tree → Type 0
  T = SoundTree table numbers

  abbrev F : FormTree → Type 0
  F = SoundForm table numbers

  pub expression_keeps : (a : Value) → V a → IfOk (expression_of a) T
  expression_keeps (v.Number c) h =
      typed_keeps same_tree (built (Ok plain_kind) (n.Number c)) T T
      (where_ok (built (Ok plain_kind) (n.Number c)) T (λ t e. sound_number table numbers c t e)) (λ t g. g)
  expression_keeps (v.Expr t) h = in_expression table numbers t h
  expression_keeps (v.Form t) h = tt
  expression_keeps (v.Element e) h = tt
  expression_keeps (v.Function w) h = tt
  expression_keeps (v.Cell c) h = tt
  expression_keeps (v.Index k) h = tt
  expression_keeps (v.Measure o) h = tt
  expression_keeps (v.Text a b) h = tt
  expression_keeps (Tuple' a b) h = tt
  expression_keeps (List' a b) h = tt

  -- an answer of a builder
  pub tree_value : (r : Result Tree _) → IfOk r T → IfOk (typed_as v.Expr r) V
  tree_value r h = typed_keeps v.Expr r T V h (of_expression table numbers)

  pub form_value : (r : Result FormTree _) → IfOk r F → IfOk (typed_as v.Form r) V
  form_value r h = typed_keeps v.Form r F V h (of_form table numbers)

  two_built : (op : Op2) (a b : Tree) → T a → T b → IfOk (built (two_kind op (kind_of a) (kind_of b)) (n.Two op a b)) T
  two_built op a b A B = where_ok _ T (λ t e. sound_two table numbers op a b t e A B)

  two_trees_keep : (op : Op2) (a b : Tree) → T a → T b → IfOk (two_trees op a b) V
  two_trees_keep op a b A B = tree_value _ (two_built op a b A B)

  pub two_keeps : (op : Op2) (a b : Value) → V a → V b → IfOk (two_of op a b) V
  two_keeps op a b A B =
      then_keeps (expression_of a) (λ x. and_then (expression_of b) (λ y. two_trees op x y)) T V (expression_keeps a A) (λ x X.
      then_keeps (expression_of b) (λ y. two_trees op x y) T V (expression_keeps b B) (λ y Y. two_trees_keep op x y X Y))

  one_built : (op : Op1) (a : Tree) → T a → IfOk (built (one_kind op (kind_of a)) (n.One op a)) T
  one_built op a A = where_ok _ T (λ t e. sound_one table numbers op a t e A)

  pub one_keeps : (op : Op1) (a : Value) → V a → IfOk (one_of op a) V
  one_keeps op a A =
      then_keeps (expression_of a) (λ x. typed_as v.Expr (built (one_kind op (kind_of x)) (n.One op x))) T V (expression_keeps a A)
      (λ x X. tree_value _ (one_built op x X))

  integral_keeps : (a : Value) (on : On) → V a → IfOk (integral_of a on) V
  integral_keeps a on A =
      then_keeps (expression_of a) (λ x. typed_as v.Form (formed (f.Integral on x))) T V (expression_keeps a A)
      (λ x X. form_value _ (where_ok (formed (f.Integral on x)) F (λ t e. sound_integral table numbers on x t e X)))

  scale_built : (c : Ratio) (t : FormTree) → F t → IfOk (formed (f.Scale c t)) F
  scale_built c t A = where_ok _ F (λ u e. sound_scale table numbers c t u e A)

  scaled_keeps : (c : Ratio) (t : FormTree) → F t → IfOk (scaled c t) V
  scaled_keeps c t A = form_value _ (scale_built c t A)

  numbered_keeps : (r : Result Ratio Reason) → IfOk (numbered r) V
  numbered_keeps (Ok c) = of_number table numbers c
  numbered_keeps (Err e) = tt

  -- ---- signs
  pub plus_keeps : (a : Value) → V a → IfOk (plus_of a) V
  plus_keeps (v.Number c) h = h
  plus_keeps (v.Expr t) h = h
  plus_keeps (v.Form t) h = h
  plus_keeps (v.Element e) h = tt
  plus_keeps (v.Function w) h = tt
  plus_keeps (v.Cell c) h = tt
  plus_keeps (v.Index k) h = tt
  plus_keeps (v.Measure o) h = tt
  plus_keeps (v.Text a b) h = tt
  plus_keeps (Tuple' a b) h = tt
  plus_keeps (List' a b) h = tt

  pub minus_keeps : (a : Value) → V a → IfOk (minus_of a) V
  minus_keeps (v.Number c) h = numbered_keeps (stepped (Some (negative (fraction_of c))))
  minus_keeps (v.Expr t) h = tree_value _ (one_built Neg t (in_expression table numbers t h))
  minus_keeps (v.Form t) h = then_keeps minus_one (λ c. scaled c t) Any V (anything minus_one) (λ c C. scaled_keeps c t (in_form table numbers t h))
  minus_keeps (v.Element e) h = tt
  minus_keeps (v.Function w) h = tt
  minus_keeps (v.Cell c) h = tt
  minus_keeps (v.Index k) h = tt
  minus_keeps (v.Measure o) h = tt
  minus_keeps (v.Text a b) h = tt
  minus_keeps (Tuple' a b) h = tt
  minus_keeps (List' a b) h = tt

  -- ---- sums
  sum_built : (t u : FormTree) → F t → F u → IfOk (sum_form t u) F
  sum_built t u A B = where_ok _ F (λ s e. sound_sum table numbers t u s e A B)

  number_plus_keeps : (c : Ratio) (b : Value) → V b → IfOk (number_plus c b) V
  number_plus_keeps c (v.Number d) h = numbered_keeps (stepped (sum (fraction_of c) (fraction_of d)))
  number_plus_keeps c (v.Expr t) h = two_keeps Sum (v.Number c) (v.Expr t) (of_number table numbers c) h
  number_plus_keeps c (v.Form t) h = tt
  number_plus_keeps c (v.Element e) h = tt
  number_plus_keeps c (v.Function w) h = tt
  number_plus_keeps c (v.Cell x) h = tt
  number_plus_keeps c (v.Index k) h = tt
  number_plus_keeps c (v.Measure o) h = tt
  number_plus_keeps c (v.Text a b) h = tt
  number_plus_keeps c (Tuple' a b) h = tt
  number_plus_keeps c (List' a b) h = tt

  form_plus_keeps : (t : FormTree) (b : Value) → F t → V b → IfOk (form_plus t b) V
  form_plus_keeps t (v.Form u) A h = form_value _ (sum_built t u A (in_form table numbers u h))
  form_plus_keeps t (v.Number d) A h = tt
  form_plus_keeps t (v.Expr x) A h = tt
  form_plus_keeps t (v.Element e) A h = tt
  form_plus_keeps t (v.Function w) A h = tt
  form_plus_keeps t (v.Cell x) A h = tt
  form_plus_keeps t (v.Index k) A h = tt
  form_plus_keeps t (v.Measure o) A h = tt
  form_plus_keeps t (v.Text a b) A h = tt
  form_plus_keeps t (Tuple' a b) A h = tt
  form_plus_keeps t (List' a b) A h = tt

  pub sum_keeps : (a b : Value) → V a → V b → IfOk (sum_of a b) V
  sum_keeps (v.Number c) b h g = number_plus_keeps c b g
  sum_keeps (v.Expr t) b h g = two_keeps Sum (v.Expr t) b h g
  sum_keeps (v.Form t) b h g = form_plus_keeps t b (in_form table numbers t h) g
  sum_keeps (v.Element e) b h g = tt
  sum_keeps (v.Function w) b h g = tt
  sum_keeps (v.Cell c) b h g = tt
  sum_keeps (v.Index k) b h g = tt
  sum_keeps (v.Measure o) b h g = tt
  sum_keeps (v.Text c d) b h g = tt
  sum_keeps (Tuple' c d) b h g = tt
  sum_keeps (List' c d) b h g = tt

  -- ---- differences
  difference_built : (a b : Tree) → T a → T b → IfOk (difference_tree a b) T
  unfolding difference_tree
  difference_built a b A B =
      verified_keeps (two_kind Sum (kind_of a) (kind_of b)) _ T
      (built_keeps (negative_tree b) (λ m. sum_tree a m) T T (one_built Neg b B) (λ m M. two_built Sum a m A M))

  difference_trees_keep : (a b : Value) → V a → V b → IfOk (difference_trees a b) V
  difference_trees_keep a b A B =
      then_keeps (expression_of a) (λ x. and_then (expression_of b) (λ y. typed_as v.Expr (difference_tree x y))) T V (expression_keeps a A) (λ x X.
      then_keeps (expression_of b) (λ y. typed_as v.Expr (difference_tree x y)) T V (expression_keeps b B) (λ y Y.
      tree_value _ (difference_built x y X Y)))

  number_minus_keeps : (c : Ratio) (b : Value) → V b → IfOk (number_minus c b) V
  number_minus_keeps c (v.Number d) h = numbered_keeps (stepped (difference (fraction_of c) (fraction_of d)))
  number_minus_keeps c (v.Expr t) h = difference_trees_keep (v.Number c) (v.Expr t) (of_number table numbers c) h
  number_minus_keeps c (v.Form t) h = tt
  number_minus_keeps c (v.Element e) h = tt
  number_minus_keeps c (v.Function w) h = tt
  number_minus_keeps c (v.Cell x) h = tt
  number_minus_keeps c (v.Index k) h = tt
  number_minus_keeps c (v.Measure o) h = tt
  number_minus_keeps c (v.Text a b) h = tt
  number_minus_keeps c (Tuple' a b) h = tt
  number_minus_keeps c (List' a b) h = tt

  difference_form_built : (c : Ratio) (t u : FormTree) → F t → F u → IfOk (difference_form_by c t u) F
  unfolding difference_form_by
  difference_form_built c t u A B =
      verified_keeps (form_sum_kind t u) _ F
      (built_keeps (formed (f.Scale c u)) (λ m. sum_form t m) F F (scale_built c u B) (λ m M. sum_built t m A M))

  difference_forms_keep : (t u : FormTree) → F t → F u → IfOk (difference_forms t u) V
  unfolding difference_forms
  difference_forms_keep t u A B =
      then_keeps minus_one (λ c. typed_as v.Form (difference_form_by c t u)) Any V (anything minus_one)
      (λ c C. form_value _ (difference_form_built c t u A B))

  form_minus_keeps : (t : FormTree) (b : Value) → F t → V b → IfOk (form_minus t b) V
  form_minus_keeps t (v.Form u) A h = difference_forms_keep t u A (in_form table numbers u h)
  form_minus_keeps t (v.Number d) A h = tt
  form_minus_keeps t (v.Expr x) A h = tt
  form_minus_keeps t (v.Element e) A h = tt
  form_minus_keeps t (v.Function w) A h = tt
  form_minus_keeps t (v.Cell x) A h = tt
  form_minus_keeps t (v.Index k) A h = tt
  form_minus_keeps t (v.Measure o) A h = tt
  form_minus_keeps t (v.Text a b) A h = tt
  form_minus_keeps t (Tuple' a b) A h = tt
  form_minus_keeps t (List' a b) A h = tt

  pub difference_keeps : (a b : Value) → V a → V b → IfOk (difference_of a b) V
  difference_keeps (v.Number c) b h g = number_minus_keeps c b g
  difference_keeps (v.Expr t) b h g = difference_trees_keep (v.Expr t) b h g
  difference_keeps (v.Form t) b h g = form_minus_keeps t b (in_form table numbers t h) g
  difference_keeps (v.Element e) b h g = tt
  difference_keeps (v.Function w) b h g = tt
  difference_keeps (v.Cell c) b h g = tt
  difference_keeps (v.Index k) b h g = tt
  difference_keeps (v.Measure o) b h g = tt
  difference_keeps (v.Text c d) b h g = tt
  difference_keeps (Tuple' c d) b h g = tt
  difference_keeps (List' c d) b h g = tt

  -- ---- products
  mixed_by_keeps : (o : Option SpaceRefusal) (parts : List ElementTree) → IfOk (mixed_by o parts) V
  mixed_by_keeps None parts = of_element table numbers _
  mixed_by_keeps (Some e) parts = tt

  pub mixed_keeps : (parts : List ElementTree) → IfOk (mixed_of parts) V
  mixed_keeps parts = mixed_by_keeps (mixed_refusal (spaces_in parts)) parts

  number_times_keeps : (c : Ratio) (b : Value) → V b → IfOk (number_times c b) V
  number_times_keeps c (v.Number d) h = numbered_keeps (stepped (product (fraction_of c) (fraction_of d)))
  number_times_keeps c (v.Expr t) h = two_keeps Product (v.Number c) (v.Expr t) (of_number table numbers c) h
  number_times_keeps c (v.Form t) h = scaled_keeps c t (in_form table numbers t h)
  number_times_keeps c (v.Measure o) h = integral_keeps (v.Number c) o (of_number table numbers c)
  number_times_keeps c (v.Element e) h = tt
  number_times_keeps c (v.Function w) h = tt
  number_times_keeps c (v.Cell x) h = tt
  number_times_keeps c (v.Index k) h = tt
  number_times_keeps c (v.Text a b) h = tt
  number_times_keeps c (Tuple' a b) h = tt
  number_times_keeps c (List' a b) h = tt

  tree_times_keeps : (t : Tree) (b : Value) → V (v.Expr t) → V b → IfOk (tree_times t b) V
  tree_times_keeps t (v.Number c) A h = two_keeps Product (v.Expr t) (v.Number c) A h
  tree_times_keeps t (v.Expr u) A h = two_trees_keep Product t u (in_expression table numbers t A) (in_expression table numbers u h)
  tree_times_keeps t (v.Measure o) A h = integral_keeps (v.Expr t) o A
  tree_times_keeps t (v.Form u) A h = tt
  tree_times_keeps t (v.Element e) A h = tt
  tree_times_keeps t (v.Function w) A h = tt
  tree_times_keeps t (v.Cell x) A h = tt
  tree_times_keeps t (v.Index k) A h = tt
  tree_times_keeps t (v.Text a b) A h = tt
  tree_times_keeps t (Tuple' a b) A h = tt
  tree_times_keeps t (List' a b) A h = tt

  form_times_keeps : (t : FormTree) (b : Value) → F t → IfOk (form_times t b) V
  form_times_keeps t (v.Number c) A = scaled_keeps c t A
  form_times_keeps t (v.Expr u) A = tt
  form_times_keeps t (v.Measure o) A = tt
  form_times_keeps t (v.Form u) A = tt
  form_times_keeps t (v.Element e) A = tt
  form_times_keeps t (v.Function w) A = tt
  form_times_keeps t (v.Cell x) A = tt
  form_times_keeps t (v.Index k) A = tt
  form_times_keeps t (v.Text a b) A = tt
  form_times_keeps t (Tuple' a b) A = tt
  form_times_keeps t (List' a b) A = tt

  element_times_keeps : (e : ElementTree) (b : Value) → IfOk (element_times e b) V
  element_times_keeps e (v.Element g) = mixed_keeps (e ∷ g ∷ [])
  element_times_keeps e (v.Number c) = tt
  element_times_keeps e (v.Expr u) = tt
  element_times_keeps e (v.Measure o) = tt
  element_times_keeps e (v.Form u) = tt
  element_times_keeps e (v.Function w) = tt
  element_times_keeps e (v.Cell x) = tt
  element_times_keeps e (v.Index k) = tt
  element_times_keeps e (v.Text a b) = tt
  element_times_keeps e (Tuple' a b) = tt
  element_times_keeps e (List' a b) = tt

  pub product_keeps : (a b : Value) → V a → V b → IfOk (product_of a b) V
  product_keeps (v.Number c) b h g = number_times_keeps c b g
  product_keeps (v.Expr t) b h g = tree_times_keeps t b h g
  product_keeps (v.Form t) b h g = form_times_keeps t b (in_form table numbers t h)
  product_keeps (v.Element e) b h g = element_times_keeps e b
  product_keeps (v.Function w) b h g = tt
  product_keeps (v.Cell c) b h g = tt
  product_keeps (v.Index k) b h g = tt
  product_keeps (v.Measure o) b h g = tt
  product_keeps (v.Text c d) b h g = tt
  product_keeps (Tuple' c d) b h g = tt
  product_keeps (List' c d) b h g = tt

  -- ---- quotients and powers
  pub quotient_keeps : (a b : Value) → V a → V b → IfOk (quotient_of a b) V
  quotient_keeps (v.Number c) b h g =
      then_keeps (reciprocal_of r.Unsupported b) (λ i. numbered (stepped (product (fraction_of c) (fraction_of i)))) Any V (anything _)
      (λ i I. numbered_keeps (stepped (product (fraction_of c) (fraction_of i))))
  quotient_keeps (v.Expr t) b h g =
      then_keeps (reciprocal_of r.Unsupported b) (λ i. two_of Product (v.Expr t) (v.Number i)) Any V (anything _)
      (λ i I. two_keeps Product (v.Expr t) (v.Number i) h (of_number table numbers i))
  quotient_keeps (v.Form t) b h g =
      then_keeps (reciprocal_of r.Kind b) (λ i. scaled i t) Any V (anything _) (λ i I. scaled_keeps i t (in_form table numbers t h))
  quotient_keeps (v.Element e) b h g = tt
  quotient_keeps (v.Function w) b h g = tt
  quotient_keeps (v.Cell c) b h g = tt
  quotient_keeps (v.Index k) b h g = tt
  quotient_keeps (v.Measure o) b h g = tt
  quotient_keeps (v.Text c d) b h g = tt
  quotient_keeps (Tuple' c d) b h g = tt
  quotient_keeps (List' c d) b h g = tt

  abbrev Few : ℕ → Type 0
  Few m = m ≤ 127

  few_if : (t : Bool) (m : ℕ) → nat_le m 127 ≡ t → IfOk {E = Reason} (if t then Ok m else Err r.Unsupported) Few
  few_if true m e = leb-true m 127 e
  few_if false m e = tt

  few_at : (o : Option ℕ) → IfOk (exponent_at o) Few
  few_at None = tt
  few_at (Some m) = few_if (nat_le m 127) m refl

  few : (b : Value) → IfOk (exponent_of b) Few
  few (v.Number c) = few_at (whole_number c)
  few (v.Expr u) = tt
  few (v.Measure o) = tt
  few (v.Form u) = tt
  few (v.Element g) = tt
  few (v.Function w) = tt
  few (v.Cell x) = tt
  few (v.Index k) = tt
  few (v.Text a b) = tt
  few (Tuple' a b) = tt
  few (List' a b) = tt

  pub power_keeps : (a b : Value) → V a → IfOk (power_of a b) V
  power_keeps (v.Number c) b h =
      then_keeps (exponent_of b) (λ m. numbered (stepped (number_power (fraction_of c) m))) Any V (anything _)
      (λ m M. numbered_keeps (stepped (number_power (fraction_of c) m)))
  power_keeps (v.Expr t) b h =
      then_keeps (exponent_of b) (λ m. typed_as v.Expr (built (power_kind (kind_of t)) (n.Power t m))) Few V (few b)
      (λ m M. tree_value _ (where_ok (built (power_kind (kind_of t)) (n.Power t m)) T (λ u e. sound_power table numbers t m u e M (in_expression table numbers t h))))
  power_keeps (v.Form t) b h = tt
  power_keeps (v.Element e) b h = tt
  power_keeps (v.Function w) b h = tt
  power_keeps (v.Cell c) b h = tt
  power_keeps (v.Index k) b h = tt
  power_keeps (v.Measure o) b h = tt
  power_keeps (v.Text c d) b h = tt
  power_keeps (Tuple' c d) b h = tt
  power_keeps (List' c d) b h = tt

  pub binary_keeps : (sign : Sign) (a b : Value) → V a → V b → IfOk (binary_of sign a b) V
  binary_keeps s.Plus a b A B = sum_keeps a b A B
  binary_keeps s.Minus a b A B = difference_keeps a b A B
  binary_keeps s.Times a b A B = product_keeps a b A B
  binary_keeps s.Over a b A B = quotient_keeps a b A B
  binary_keeps s.Power a b A B = power_keeps a b A

  -- ---- components
  component_keeps : (x : Tree) (at : Result (List Ix) Reason) → T x → IfOk (component_of x at) V
  component_keeps x at X =
      then_keeps at (λ i. typed_as v.Expr (built (index_kind (kind_of x) i) (n.Index x i))) Any V (anything at)
      (λ i I. tree_value _ (where_ok (built (index_kind (kind_of x) i) (n.Index x i)) T (λ t e. sound_index table numbers x i t e X)))

  pub indexed_keeps : (a b : Value) → V a → IfOk (indexed_of a b) V
  indexed_keeps a b A = then_keeps (expression_of a) (λ x. component_of x (indices_at b)) T V (expression_keeps a A) (λ x X. component_keeps x (indices_at b) X)
