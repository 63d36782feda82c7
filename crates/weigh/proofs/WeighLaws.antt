-- Exact and kept weights of one tree or form agree
use Rattle.std.proofs.Common.{◌≡◌, ℕ, zero, suc, ◌≤◌, max, List, [], ◌∷◌, ◌++◌, length, Option, None, Some, slice_get, unsigned_abs, refl, arith}
use native.Mathlib.Nat as N
use Rattle.algebra.specs.LowestTerms.{top, bottom}
use Rattle.algebra.proofs.LowestLaws.{bottom_positive}
use Rattle.ratio.specs.declared.reduced.Ratio.{Ratio}
use Rattle.ratio.specs.Value.{fraction_of}
use Rattle.calculus.specs.LocalFunction.{factorial}
use Rattle.calculus.proofs.Nodes.{factorial_positive}
use Rattle.spaces.specs.declared.cell.Cell.{Cell}
use Rattle.spaces.specs.declared.cell.Cell.TheVariants.{Interval, Triangle, Tetrahedron}
use Rattle.spaces.specs.Scalar.{Scalar}
use Rattle.ufl_tree.specs.declared.function.Free.{Free}
use Rattle.ufl_tree.specs.declared.function.Function.{Function}
use Rattle.ufl_tree.specs.declared.tree.Op1.{Op1}
use Rattle.ufl_tree.specs.declared.tree.Op1.TheVariants.{Neg, Grad, NablaGrad, Div, NablaDiv, Curl, Transpose, Trace, Sym, Skew, Dev}
use Rattle.ufl_tree.specs.declared.tree.Op2.{Op2}
use Rattle.ufl_tree.specs.declared.tree.Op2.TheVariants.{Sum, Product, Dot, Inner, Outer, Cross}
use Rattle.ufl_tree.specs.Places.{Table}
use Rattle.ufl_tree.specs.Indices.{first_size, last_size, named, direction, repeated}
use Rattle.monos.specs.Summed.{summed}
use Rattle.ufl_tree.specs.Typed.{Typed, number, identity, function, piece, one, two, power, index, partial, tensor, list, variable, diff, TypedList, no_items, item, own_kind, shape_of, free_of}
use Rattle.ufl_tree.specs.FormTerm.{FormTerm, integral, sum, scale, left, right, action, adjoint, derivative}
use Rattle.monos.specs.declared.weight.Weight.{Weight}
use Rattle.weigh.specs.Bounds.{IsSound}
use Rattle.weigh.specs.Steps.{capped, times_step, join_step, plus_step, index_step, space_step, linear_step, label_step, part_step}
use Rattle.weigh.specs.Weighing.{exact, kept, parts_weight, scalars_in, function_weight, directions, number_weight, one_weight, share_weight, times_weight, power_weight, names_weight, sizes_weight, curl_weight, dot_weight, product_weight, one_operand, two_operands, weight_with, list_weight, form_weight}
use Rattle.weigh.specs.Refusals.{AreLow, HasLowDegrees}
use Rattle.weigh.proofs.LcmLaws.{lcm_positive}
use Rattle.weigh.proofs.SoundLaws.{leaf_sound, number_sound}
use Rattle.weigh.proofs.AgreeLaws.{IsLow, IsStep, IsPairStep, Agrees, kept_agrees, step_agrees, pair_agrees}
use Rattle.weigh.proofs.StepLaws.{times_pair, join_pair, plus_pair, index_one, space_one, linear_one, label_one, part_one}

-- ---- leaves
pub parts_sound : (ps : List Scalar) → IsSound (parts_weight ps)
parts_sound [] = leaf_sound 1 1 1 1 (omega arith) (omega arith) (omega arith) (omega arith)
parts_sound (p ∷ ps) = let h = parts_sound ps in let c = h.cost in let s = h.s in record {
  cost = omega (arith, c);
  g = h.g;
  den = h.den;
  fac = lcm_positive (factorial p.degree) (parts_weight ps).fac (factorial_positive p.degree) h.fac;
  s = omega (arith, s);
  parts = h.parts;
  functions = h.functions;
  derivatives = h.derivatives;
  few = h.few;
}

-- a function is one factor, and of degree 3 at most
parts_factor : (ps : List Scalar) → (parts_weight ps).g ≡ 1
parts_factor [] = refl
parts_factor (p ∷ ps) = parts_factor ps

parts_degree : (ps : List Scalar) → AreLow ps → (parts_weight ps).deg ≤ 3
parts_degree [] h = omega arith
parts_degree (p ∷ ps) h = N.max-le h.0 (parts_degree ps h.1)

parts_low : (ps : List Scalar) → AreLow ps → IsLow (parts_weight ps)
parts_low ps h = let g = parts_factor ps in let d = parts_degree ps h in omega (arith, g, d)

table_low : (elements : Table) (n : ℕ) → HasLowDegrees elements → AreLow (scalars_in (slice_get elements n))
table_low [] n h = tt
table_low (s ∷ ss) zero h = h.0
table_low (s ∷ ss) (suc n) h = table_low ss n h.1

function_agrees : (elements : Table) (f : Function) → HasLowDegrees elements → Agrees (function_weight elements f) (capped kept (function_weight elements f))
function_agrees elements f h =
    let ps : List Scalar = scalars_in (slice_get elements f.element) in
    kept_agrees (function_weight elements f) (parts_sound ps) (parts_low ps (table_low elements f.element h))

pub number_is_sound : (c : Ratio) → IsSound (number_weight exact c)
number_is_sound c = number_sound (unsigned_abs (top (fraction_of c))) (bottom (fraction_of c)) (bottom_positive (fraction_of c))

pub one_is_sound : IsSound (one_weight exact)
one_is_sound = number_sound 1 1 (omega arith)

pub share_is_sound : (n : ℕ) → IsSound (share_weight exact n)
share_is_sound n = number_sound 1 (max n 1) (omega arith)

number_agrees : (c : Ratio) → Agrees (number_weight exact c) (number_weight kept c)
number_agrees c = kept_agrees (number_weight exact c) (number_is_sound c) (omega arith)

one_agrees : Agrees (one_weight exact) (one_weight kept)
one_agrees = kept_agrees (one_weight exact) one_is_sound (omega arith)

share_agrees : (n : ℕ) → Agrees (share_weight exact n) (share_weight kept n)
share_agrees n = kept_agrees (share_weight exact n) (share_is_sound n) (omega arith)

pub directions_positive : (c : Option Cell) → 1 ≤ directions c
directions_positive None = omega arith
directions_positive (Some Interval) = omega arith
directions_positive (Some Triangle) = omega arith
directions_positive (Some Tetrahedron) = omega arith

-- ---- a relation of exact and kept weights that each step keeps
pub record IsKept (elements : Table) (R : Weight → Weight → Type 0) : Type 0 where
  pub number : (c : Ratio) → R (number_weight exact c) (number_weight kept c)
  pub one : R (one_weight exact) (one_weight kept)
  pub share : (n : ℕ) → R (share_weight exact n) (share_weight kept n)
  pub function : (f : Function) → R (function_weight elements f) (capped kept (function_weight elements f))
  pub step : (F : Weight → Weight) → IsStep F → (e k : Weight) → R e k → R (F e) (capped kept (F k))
  pub pair : (F : Weight → Weight → Weight) → IsPairStep F → (e k d l : Weight) → R e k → R d l → R (F e d) (capped kept (F k l))

module _ (elements : Table) (R : Weight → Weight → Type 0) (K : IsKept elements R) where
  -- ---- several steps
  module _ (e k : Weight) (h : R e k) where
    power_kept : (n : ℕ) → R (power_weight exact e n) (power_weight kept k n)
    power_kept zero = K.one
    power_kept (suc zero) = h
    power_kept (suc (suc n)) = K.pair times_step times_pair _ _ _ _ (power_kept (suc n)) h

    names_kept : (xs : List Free) → R (names_weight exact xs e) (names_weight kept xs k)
    names_kept [] = h
    names_kept (x ∷ xs) = K.step (index_step x.dim) (index_one x.dim) _ _ (names_kept xs)

    sizes_kept : (ds : List ℕ) → R (sizes_weight exact ds e) (sizes_weight kept ds k)
    sizes_kept [] = h
    sizes_kept (d ∷ ds) = K.step (index_step d) (index_one d) _ _ (sizes_kept ds)

    curl_kept : (s : List ℕ) → R (curl_weight exact s e) (curl_weight kept s k)
    curl_kept [] = K.pair join_step join_pair _ _ _ _ h h
    curl_kept (n ∷ s) = K.pair plus_step plus_pair _ _ _ _ h h

  one_kept : (op : Op1) (s : List ℕ) (d : ℕ) → 1 ≤ d → (e k : Weight) → R e k → R (one_operand exact op s d e) (one_operand kept op s d k)
  one_kept Neg s d p e k h = h
  one_kept Grad s d p e k h = K.step (space_step d) (space_one d p) _ _ h
  one_kept NablaGrad s d p e k h = K.step (space_step d) (space_one d p) _ _ h
  one_kept Div s d p e k h = K.step (index_step (last_size s)) (index_one (last_size s)) _ _ (K.step (space_step d) (space_one d p) _ _ h)
  one_kept NablaDiv s d p e k h = K.step (index_step (first_size s)) (index_one (first_size s)) _ _ (K.step (space_step d) (space_one d p) _ _ h)
  one_kept Curl s d p e k h = curl_kept _ _ (K.step (space_step d) (space_one d p) _ _ h) s
  one_kept Transpose s d p e k h = h
  one_kept Trace s d p e k h = K.step (index_step (first_size s)) (index_one (first_size s)) _ _ h
  one_kept Sym s d p e k h = K.pair times_step times_pair _ _ _ _ (K.share 2) (K.pair plus_step plus_pair _ _ _ _ h h)
  one_kept Skew s d p e k h = K.pair times_step times_pair _ _ _ _ (K.share 2) (K.pair plus_step plus_pair _ _ _ _ h h)
  one_kept Dev s d p e k h =
      let n : ℕ = first_size s in
      K.pair plus_step plus_pair _ _ _ _ h
      (K.pair times_step times_pair _ _ _ _
      (K.pair times_step times_pair _ _ _ _ (K.step (index_step (first_size s)) (index_one (first_size s)) _ _ h) (K.share (first_size s)))
      K.one)

  module _ (e k d l : Weight) (h : R e k) (j : R d l) where
    times_kept : R (times_weight exact e d) (times_weight kept k l)
    times_kept = K.pair times_step times_pair _ _ _ _ h j

    dot_kept : (s : List ℕ) → R (dot_weight exact s e d) (dot_weight kept s k l)
    dot_kept [] = times_kept
    dot_kept (n ∷ s) = K.step (index_step (last_size (n ∷ s))) (index_one (last_size (n ∷ s))) _ _ times_kept

    product_kept : (s t : List ℕ) → R (product_weight exact s t e d) (product_weight kept s t k l)
    product_kept [] t = times_kept
    product_kept (n ∷ s) [] = times_kept
    product_kept (n ∷ s) (m ∷ t) = dot_kept (n ∷ s)

    two_kept : (op : Op2) (s t : List ℕ) → R (two_operands exact op s t e d) (two_operands kept op s t k l)
    two_kept Sum s t = K.pair plus_step plus_pair _ _ _ _ h j
    two_kept Product s t = product_kept s t
    two_kept Dot s t = dot_kept s
    two_kept Inner s t = sizes_kept _ _ times_kept s
    two_kept Outer s t = times_kept
    two_kept Cross s t = K.pair plus_step plus_pair _ _ _ _ times_kept times_kept

  -- ---- trees and forms
  mutual
    pub tree_kept : (e : Typed) → R (weight_with exact elements e) (weight_with kept elements e)
    tree_kept (number k c) = K.number c
    tree_kept (identity k n) = K.one
    tree_kept (function k f) = K.function f
    tree_kept (piece k f n) = K.function f
    tree_kept (one k op a) = one_kept op (shape_of a) (directions (own_kind a).cell) (directions_positive (own_kind a).cell) _ _ (tree_kept a)
    tree_kept (two k op a b) = names_kept _ _ (two_kept _ _ _ _ (tree_kept a) (tree_kept b) op (shape_of a) (shape_of b)) (summed op (free_of a) (free_of b))
    tree_kept (power k a n) = power_kept _ _ (tree_kept a) n
    tree_kept (index k a at) = names_kept _ _ (tree_kept a) (repeated (free_of a ++ named at (shape_of a)))
    tree_kept (partial k a i) =
        names_kept _ _ (K.step (space_step (directions (own_kind a).cell)) (space_one (directions (own_kind a).cell) (directions_positive (own_kind a).cell)) _ _ (tree_kept a))
        (repeated (free_of a ++ direction i (own_kind a).cell))
    tree_kept (tensor k a by) = tree_kept a
    tree_kept (list k ts) = list_kept ts
    tree_kept (variable k l a) = K.step (label_step (length (shape_of a))) (label_one (length (shape_of a))) _ _ (tree_kept a)
    tree_kept (diff k l by a) = K.step linear_step linear_one _ _ (tree_kept a)

    list_kept : (ts : TypedList) → R (list_weight exact elements ts) (list_weight kept elements ts)
    list_kept no_items = K.one
    list_kept (item t no_items) = tree_kept t
    list_kept (item t (item u ts)) = K.pair join_step join_pair _ _ _ _ (tree_kept t) (list_kept (item u ts))

  pub form_kept : (f : FormTerm) → R (form_weight exact elements f) (form_weight kept elements f)
  form_kept (integral m e) = tree_kept e
  form_kept (sum f g) = K.pair plus_step plus_pair _ _ _ _ (form_kept f) (form_kept g)
  form_kept (scale c f) = K.pair times_step times_pair _ _ _ _ (K.number c) (form_kept f)
  form_kept (left f) = K.step linear_step linear_one _ _ (form_kept f)
  form_kept (right f) = K.step part_step part_one _ _ (form_kept f)
  form_kept (action f r g) = form_kept f
  form_kept (adjoint f) = form_kept f
  form_kept (derivative f w u) = K.step linear_step linear_one _ _ (form_kept f)

pub agreement : (elements : Table) → HasLowDegrees elements → IsKept elements Agrees
agreement elements low = record { number = number_agrees; one = one_agrees; share = share_agrees; function = λ f. function_agrees elements f low; step = step_agrees; pair = pair_agrees }

soundness : (elements : Table) → IsKept elements (λ e k. IsSound e)
soundness elements = record {
  number = number_is_sound;
  one = one_is_sound;
  share = share_is_sound;
  function = λ f. parts_sound (scalars_in (slice_get elements f.element));
  step = λ F S e k h. S.sound e h;
  pair = λ F S e k d l h j. S.sound e d h j;
}

pub tree_sound : (elements : Table) (e : Typed) → IsSound (weight_with exact elements e)
tree_sound elements e = tree_kept elements (λ e k. IsSound e) (soundness elements) e

pub form_sound : (elements : Table) (f : FormTerm) → IsSound (form_weight exact elements f)
form_sound elements f = form_kept elements (λ e k. IsSound e) (soundness elements) f

pub form_agrees : (elements : Table) → HasLowDegrees elements → (f : FormTerm) → Agrees (form_weight exact elements f) (form_weight kept elements f)
form_agrees elements low f = form_kept elements Agrees (agreement elements low) f
