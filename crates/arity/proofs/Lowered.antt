-- Lowering keeps the pairs of a typed tree
use Rattle.std.proofs.Common.{◌≡◌, ℕ, zero, suc, ◌+◌, ◌*◌, max, Bool, true, false, if◌then◌else◌, List, [], ◌∷◌, ◌++◌, Option, None, Some, Ok, slice_get, refl, sym, subst, arith}
use Rattle.ratio.specs.declared.reduced.Ratio.{Ratio}
use Rattle.ufl_tree.specs.declared.function.Free.{Free}
use Rattle.ufl_tree.specs.declared.function.Function.{Function}
use Rattle.ufl_tree.specs.declared.function.Ix.{Ix}
use Rattle.ufl_tree.specs.declared.function.Ix.TheVariants.{Fixed, Named}
use Rattle.ufl_tree.specs.declared.function.Role.{Role}
use Rattle.ufl_tree.specs.declared.function.Role.TheVariants.{Test, Trial, Position, Coefficient}
use Rattle.ufl_tree.specs.declared.tree.Op1.{Op1}
use Rattle.ufl_tree.specs.declared.tree.Op1.TheVariants.{Neg, Grad, NablaGrad, Div, NablaDiv, Curl, Transpose, Trace, Sym, Skew, Dev}
use Rattle.ufl_tree.specs.declared.tree.Op2.{Op2}
use Rattle.ufl_tree.specs.declared.tree.Op2.TheVariants.{Sum, Product, Dot, Inner, Outer, Cross}
use Rattle.ufl_tree.specs.Indices.{front, back, followed_by, first_size, named, direction, repeated}
use Rattle.ufl_tree.specs.Places.{Table, Piece, sub_element, element_shape}
use Rattle.ufl_tree.specs.Term.{Term, fun, neg, prod, dx, Terms}
use Rattle.ufl_tree.specs.Typed.{Kind, Typed, number, identity, function, piece, one, two, power, index, partial, tensor, list, variable, diff, TypedList, no_items, item, own_kind, shape_of, free_of}
use Rattle.ufl_expr.specs.Table.{has_argument, have_argument, is_argument, variable_cell, kind_from, list_kind, IsTyped, AreTyped}
use Rattle.ufl_expr.specs.Frees.{none_free}
use Rattle.ufl_form.specs.declared.pattern_set.PatternSet.{PatternSet}
use Rattle.ufl_form.specs.Pairs.{has_pair}
use Rattle.ufl_form.specs.Patterns.{only_pair, no_pairs, of_role, product, united, raised, both, tree_patterns, patterns_behind}
use Rattle.ufl_form.proofs.PairLaws.{product_has, pair_left, pair_right}
use Rattle.monos.specs.Summed.{summed}
use Rattle.lower.specs.Renaming.{Renaming, with_index, all_renamed}
use Rattle.lower.specs.Lowering.{Lowered, with_indices, over_names, over_components, terms_from, grad_term, nabla_grad_term, minus_term, rotated_term, curl_term, matrix_term, trace_term, one_term, dot_term, product_term, two_term, power_term, identity_term, chosen_term, place_term, piece_term, lower, lower_all}
use Rattle.arity.proofs.Terms.{tests, role_pair, HasTerm, IsWithin, AreWithin, within_neg, within_over, within_dx, within_pick, within_raise, within_sum, within_prod, within_left, within_right, within_item, within_empty, within_mark, within_unit, within_more, number_unit, delta_unit}

-- ---- labelled trees have no argument, so that their pairs have that of 1
argument_role : (r : Role) → is_argument r ≡ false → has_pair (of_role r) 0 0 ≡ true
argument_role Test h = cc
argument_role Trial h = cc
argument_role Position h = refl
argument_role (Coefficient n) h = refl

neither : (a b : Bool) → (if a then true else b) ≡ false → (a ≡ false) × (b ≡ false)
neither true b h = cc
neither false b h = (refl, h)

both_none : (op : Op2) (p q : PatternSet) → has_pair p 0 0 ≡ true → has_pair q 0 0 ≡ true → has_pair (both op p q) 0 0 ≡ true
both_none Sum p q h k = pair_left p q 0 0 h
both_none Product p q h k = product_has p q 0 0 0 0 0 0 (omega arith) (omega arith) h k
both_none Dot p q h k = product_has p q 0 0 0 0 0 0 (omega arith) (omega arith) h k
both_none Inner p q h k = product_has p q 0 0 0 0 0 0 (omega arith) (omega arith) h k
both_none Outer p q h k = product_has p q 0 0 0 0 0 0 (omega arith) (omega arith) h k
both_none Cross p q h k = product_has p q 0 0 0 0 0 0 (omega arith) (omega arith) h k

raised_none : (p : PatternSet) (n : ℕ) → has_pair p 0 0 ≡ true → has_pair (raised p n) 0 0 ≡ true
raised_none p zero h = refl
raised_none p (suc n) h = product_has (raised p n) p 0 0 0 0 0 0 (omega arith) (omega arith) (raised_none p n h) h

-- what stands before the items, and what stands in one of them
behind_first : (p : PatternSet) (ts : TypedList) (i j : ℕ) → has_pair p i j ≡ true → has_pair (patterns_behind p ts) i j ≡ true
behind_first p no_items i j h = h
behind_first p (item t ts) i j h = behind_first (united p (tree_patterns t)) ts i j (pair_left p (tree_patterns t) i j h)

no_empty : (c : List Kind) (k : Kind) → list_kind [] ≡ Ok k → ⊥
no_empty c k h = cc

mutual
  unfolding IsTyped

  unargued : (e : Typed) → IsTyped e → has_argument e ≡ false → has_pair (tree_patterns e) 0 0 ≡ true
  unargued (number k c) t h = refl
  unargued (identity k n) t h = refl
  unargued (function k f) t h = argument_role f.role h
  unargued (piece k f n) t h = argument_role f.role h
  unargued (one k op a) t h = unargued a t.1 h
  unargued (two k op a b) t h =
      let n = neither (has_argument a) (has_argument b) h in
      both_none op (tree_patterns a) (tree_patterns b) (unargued a t.1 n.0) (unargued b t.2 n.1)
  unargued (power k a n) t h = raised_none (tree_patterns a) n (unargued a t.2 h)
  unargued (index k a at) t h = unargued a t.1 h
  unargued (partial k a i) t h = unargued a t.1 h
  unargued (tensor k a by) t h = unargued a t.1 h
  unargued (list k no_items) t h = absurd (no_empty [] k t.0)
  unargued (list k (item e ts)) t h =
      behind_first (united no_pairs (tree_patterns e)) ts 0 0
      (pair_right no_pairs (tree_patterns e) 0 0 (unargued e t.1.0 (neither (has_argument e) (have_argument ts) h).0))
  unargued (variable k l a) t h = unargued a t.1 h
  unargued (diff k l by a) t h = unargued a t.1 h

unlabelled : (has : Bool) (k a : Kind) → kind_from (variable_cell has a.cell) (Ok a.shape) (none_free a.free) ≡ Ok k → has ≡ false
unlabelled true k a h = cc
unlabelled false k a h = refl

-- ---- operators of one operand
module _ (p : PatternSet) where
  abbrev Fits : Lowered → Type 0
  Fits f = (b : List Ix) (n : ℕ) → IsWithin p (f b n)

  grad_within : (f : Lowered) → Fits f → Fits (grad_term f)
  grad_within f h [] n = within_over p _ _ _ (within_dx p _ _ (h [] n))
  grad_within f h (i ∷ []) n = within_dx p _ _ (h [] n)
  grad_within f h (i ∷ j ∷ b) n = grad_within (λ c m. f (i ∷ c) m) (λ c m. h (i ∷ c) m) (j ∷ b) n

  nabla_within : (f : Lowered) → Fits f → Fits (nabla_grad_term f)
  nabla_within f h [] n = within_over p _ _ _ (within_dx p _ _ (h [] n))
  nabla_within f h (i ∷ b) n = within_dx p _ _ (h b n)

  minus_within : (a b : Term) → IsWithin p a → IsWithin p b → IsWithin p (minus_term a b)
  minus_within a b x y = within_sum p a (neg b) x (within_neg p b y)

  rotated_within : (h : ℕ → ℕ → Term) → ((j k : ℕ) → IsWithin p (h j k)) → (b : List Ix) (n : ℕ) → IsWithin p (rotated_term h b n)
  rotated_within h x [] n = within_over p _ _ _ (minus_within _ _ (x 0 0) (x 0 0))
  rotated_within h x (i ∷ []) n =
      within_pick p _ _
      (within_item p _ _ (minus_within (h 1 2) (h 2 1) (x 1 2) (x 2 1))
      (within_item p _ _ (minus_within (h 2 0) (h 0 2) (x 2 0) (x 0 2))
      (within_item p _ _ (minus_within (h 0 1) (h 1 0) (x 0 1) (x 1 0)) (within_empty p))))
  rotated_within h x (i ∷ j ∷ b) n = within_over p _ _ _ (minus_within _ _ (x 0 0) (x 0 0))

  curl_within : (s : List ℕ) (f : Lowered) → Fits f → Fits (curl_term s f)
  curl_within [] f h [] n = within_over p _ _ _ (within_dx p _ _ (h [] n))
  curl_within [] f h (i ∷ []) n =
      within_pick p _ _ (within_item p _ _ (within_dx p _ _ (h [] n)) (within_item p _ _ (within_neg p _ (within_dx p _ _ (h [] n))) (within_empty p)))
  curl_within [] f h (i ∷ j ∷ b) n = within_over p _ _ _ (within_dx p _ _ (h [] n))
  curl_within (m ∷ s) f h [] n = minus_within _ _ (within_dx p _ _ (h (Fixed 1 ∷ []) n)) (within_dx p _ _ (h (Fixed 0 ∷ []) n))
  curl_within (m ∷ s) f h (i ∷ b) n = rotated_within (λ j k. dx (Fixed j) (f (Fixed k ∷ []) n)) (λ j k. within_dx p _ _ (h (Fixed k ∷ []) n)) (i ∷ b) n

  matrix_within : (h : Ix → Ix → Term) → ((i j : Ix) → IsWithin p (h i j)) → (b : List Ix) (n : ℕ) → IsWithin p (matrix_term h b n)
  matrix_within h x [] n = within_over p _ _ _ (x (Fixed 0) (Fixed 0))
  matrix_within h x (i ∷ []) n = within_over p _ _ _ (x (Fixed 0) (Fixed 0))
  matrix_within h x (i ∷ j ∷ []) n = x i j
  matrix_within h x (i ∷ j ∷ k ∷ b) n = within_over p _ _ _ (x (Fixed 0) (Fixed 0))

  trace_within : (d : ℕ) (f : Lowered) → Fits f → (n : ℕ) → IsWithin p (trace_term d f n)
  trace_within d f h n = within_over p _ _ _ (h (Named n ∷ Named n ∷ []) (suc n))

  one_within : (share : ℕ → Ratio) (op : Op1) (s : List ℕ) (f : Lowered) → Fits f → Fits (one_term share op s f)
  one_within share Neg s f h b n = within_neg p _ (h b n)
  one_within share Grad s f h b n = grad_within f h b n
  one_within share NablaGrad s f h b n = nabla_within f h b n
  one_within share Div s f h b n = within_over p _ _ _ (within_dx p _ _ (h (followed_by b (Named n)) (suc n)))
  one_within share NablaDiv s f h b n = within_over p _ _ _ (within_dx p _ _ (h (Named n ∷ b) (suc n)))
  one_within share Curl s f h b n = curl_within s f h b n
  one_within share Transpose s f h b n = matrix_within (λ i j. f (j ∷ i ∷ []) n) (λ i j. h (j ∷ i ∷ []) n) b n
  one_within share Trace s f h b n = trace_within (first_size s) f h n
  one_within share Sym s f h b n =
      matrix_within _ (λ i j. within_left p _ _ (number_unit (share 2)) (within_sum p _ _ (h (i ∷ j ∷ []) n) (h (j ∷ i ∷ []) n))) b n
  one_within share Skew s f h b n =
      matrix_within _ (λ i j. within_left p _ _ (number_unit (share 2)) (minus_within _ _ (h (i ∷ j ∷ []) n) (h (j ∷ i ∷ []) n))) b n
  one_within share Dev s f h b n =
      matrix_within _ (λ i j. minus_within _ _ (h (i ∷ j ∷ []) n)
      (within_right p _ _ (within_right p _ _ (trace_within (first_size s) f h n) (number_unit (share (max (first_size s) 1)))) (delta_unit i j))) b n

-- ---- of two
dot_within : (p q : PatternSet) (s : List ℕ) (f g : Lowered) → Fits p f → Fits q g → Fits (product p q) (dot_term s f g)
dot_within p q [] f g x y b n = within_prod p q _ _ (x [] n) (y b n)
dot_within p q (d ∷ s) f g x y b n = within_over (product p q) _ _ _ (within_prod p q _ _ (x (followed_by (front s b) (Named n)) (suc n)) (y (Named n ∷ back s b) (suc n)))

product_within : (p q : PatternSet) (s t : List ℕ) (f g : Lowered) → Fits p f → Fits q g → Fits (product p q) (product_term s t f g)
product_within p q [] t f g x y b n = within_prod p q _ _ (x [] n) (y b n)
product_within p q (d ∷ s) [] f g x y b n = within_prod p q _ _ (x b n) (y [] n)
product_within p q (d ∷ s) (e ∷ t) f g x y b n = dot_within p q (d ∷ s) f g x y b n

components_within : (p : PatternSet) (s : List ℕ) (f : Lowered) → Fits p f → (n : ℕ) → IsWithin p (over_components s f n)
components_within p [] f h n = h [] n
components_within p (d ∷ s) f h n = within_over p _ _ _ (components_within p s (λ c m. f (Named n ∷ c) m) (λ c m. h (Named n ∷ c) m) (suc n))

two_within : (p q : PatternSet) (op : Op2) (s t : List ℕ) (f g : Lowered) → Fits p f → Fits q g → Fits (both op p q) (two_term op s t f g)
two_within p q Sum s t f g x y b n = within_sum (united p q) _ _ (within_more p (united p q) _ (pair_left p q) (x b n)) (within_more q (united p q) _ (pair_right p q) (y b n))
two_within p q Product s t f g x y b n = product_within p q s t f g x y b n
two_within p q Dot s t f g x y b n = dot_within p q s f g x y b n
two_within p q Inner s t f g x y b n = components_within (product p q) s (λ c m. prod (f c m) (g c m)) (λ c m. within_prod p q _ _ (x c m) (y c m)) n
two_within p q Outer s t f g x y b n = within_prod p q _ _ (x (front s b) n) (y (back s b) n)
two_within p q Cross s t f g x y b n =
    rotated_within (product p q) (λ j k. prod (f (Fixed j ∷ []) n) (g (Fixed k ∷ []) n)) (λ j k. within_prod p q _ _ (x (Fixed j ∷ []) n) (y (Fixed k ∷ []) n)) b n

power_within : (p : PatternSet) (t : Term) → IsWithin p t → (n : ℕ) → IsWithin (raised p n) (power_term t n)
power_within p t x zero = within_unit _ (delta_unit (Fixed 0) (Fixed 0))
power_within p t x (suc zero) = within_more p (product only_pair p) t (λ i j h. product_has only_pair p 0 0 i j i j (omega arith) (omega arith) refl h) x
power_within p t x (suc (suc n)) = within_prod (raised p (suc n)) p (power_term t (suc n)) t (power_within p t x (suc n)) x

names_within : (p : PatternSet) (xs : List Free) (f : Renaming → ℕ → Term) → ((r : Renaming) (n : ℕ) → IsWithin p (f r n)) → (r : Renaming) (n : ℕ) → IsWithin p (over_names xs f r n)
names_within p [] f h r n = h r n
names_within p (x ∷ xs) f h r n = within_over p _ _ _ (names_within p xs f h (with_index x.index (Named n) r) (suc n))

identity_within : (b : List Ix) → IsWithin only_pair (identity_term b)
identity_within [] = within_unit _ (delta_unit (Fixed 0) (Fixed 1))
identity_within (x ∷ []) = within_unit _ (delta_unit (Fixed 0) (Fixed 1))
identity_within (x ∷ y ∷ []) = within_unit _ (delta_unit x y)
identity_within (x ∷ y ∷ z ∷ b) = within_unit _ (delta_unit (Fixed 0) (Fixed 1))

chosen_within : (p : PatternSet) (f : List Ix → Terms) → ((b : List Ix) → AreWithin p (f b)) → (b : List Ix) (n : ℕ) → IsWithin p (chosen_term f b n)
chosen_within p f h [] n = within_over p _ _ _ (within_pick p _ _ (h []))
chosen_within p f h (i ∷ b) n = within_pick p _ _ (h b)

-- ---- functions
role_pairs : (f : Function) (at : List Ix) (i j : ℕ) → HasTerm (fun f at) i j → has_pair (of_role f.role) i j ≡ true
role_pairs f at i j h =
    subst (λ x. has_pair (of_role f.role) x j ≡ true) (sym h.0) (subst (λ x. has_pair (of_role f.role) (tests f.role) x ≡ true) (sym h.1) (role_pair f.role))

role_within : (f : Function) (at : List Ix) → IsWithin (of_role f.role) (fun f at)
role_within f at = record { holds = role_pairs f at }

from_within : (p : PatternSet) (j n : ℕ) (f : ℕ → Term) → ((k : ℕ) → IsWithin p (f k)) → AreWithin p (terms_from j n f)
from_within p j zero f h = within_empty p
from_within p j (suc n) f h = within_item p (f j) (terms_from (suc j) n f) (h j) (from_within p (suc j) n f h)

place_within : (f : Function) (before : ℕ) (s : List ℕ) (k : ℕ) (b : List Ix) (n : ℕ) → IsWithin (of_role f.role) (place_term f before s k b n)
place_within f before [] k [] n = role_within f (Fixed (before + k) ∷ [])
place_within f before [] k (i ∷ b) n = within_over (of_role f.role) _ _ _ (role_within f [])
place_within f before (d ∷ s) k [] n = within_over (of_role f.role) _ _ _ (role_within f [])
place_within f before (d ∷ s) k (i ∷ b) n = within_pick (of_role f.role) _ _ (from_within (of_role f.role) 0 d _ (λ j. place_within f before s (k * d + j) b n))

piece_within : (p : Option Piece) (f : Function) (b : List Ix) (n : ℕ) → IsWithin (of_role f.role) (piece_term p f b n)
piece_within None f b n = within_over (of_role f.role) _ _ _ (role_within f [])
piece_within (Some p) f b n = place_within f p.before (element_shape p.space) 0 b n

-- ---- trees
module _ (share : ℕ → Ratio) (elements : Table) where
  mutual
    unfolding IsTyped

    pub lower_within : (e : Typed) → IsTyped e → (r : Renaming) (b : List Ix) (n : ℕ) → IsWithin (tree_patterns e) (lower share elements e r b n)
    lower_within (number k c) t r b n = within_unit _ (number_unit c)
    lower_within (identity k m) t r b n = identity_within b
    lower_within (function k f) t r b n = role_within f b
    lower_within (piece k f m) t r b n = piece_within (sub_element (slice_get elements f.element) m) f b n
    lower_within (one k op a) t r b n = one_within (tree_patterns a) share op (shape_of a) (λ c m. lower share elements a r c m) (λ c m. lower_within a t.1 r c m) b n
    lower_within (two k op a d) t r b n =
        names_within (both op (tree_patterns a) (tree_patterns d)) (summed op (free_of a) (free_of d)) _
        (λ r n. two_within (tree_patterns a) (tree_patterns d) op (shape_of a) (shape_of d) (λ c m. lower share elements a r c m) (λ c m. lower share elements d r c m)
        (λ c m. lower_within a t.1 r c m) (λ c m. lower_within d t.2 r c m) b n) r n
    lower_within (power k a m) t r b n = power_within (tree_patterns a) (lower share elements a r [] n) (lower_within a t.2 r [] n) m
    lower_within (index k a at) t r b n =
        names_within (tree_patterns a) (repeated (free_of a ++ named at (shape_of a))) _ (λ r n. lower_within a t.1 r (all_renamed r at ++ b) n) r n
    lower_within (partial k a i) t r b n =
        names_within (tree_patterns a) (repeated (free_of a ++ direction i (own_kind a).cell)) _ (λ r n. within_dx (tree_patterns a) _ _ (lower_within a t.1 r b n)) r n
    lower_within (tensor k a by) t r b n = lower_within a t.1 (with_indices by b r) [] n
    lower_within (list k ts) t r b n =
        chosen_within (patterns_behind no_pairs ts) (λ c. lower_all share elements ts r c n) (λ c. all_within no_pairs ts t.1 r c n) b n
    lower_within (variable k l a) t r b n =
        within_mark (tree_patterns a) l b (lower share elements a r b n) (unargued a t.1 (unlabelled (has_argument a) k (own_kind a) t.0)) (lower_within a t.1 r b n)
    lower_within (diff k l by a) t r b n = within_raise (tree_patterns a) _ _ _ (lower_within a t.1 r (front (shape_of a) b) n)

    all_within : (p : PatternSet) (ts : TypedList) → AreTyped ts → (r : Renaming) (b : List Ix) (n : ℕ) → AreWithin (patterns_behind p ts) (lower_all share elements ts r b n)
    all_within p no_items t r b n = within_empty p
    all_within p (item e ts) t r b n =
        within_item (patterns_behind (united p (tree_patterns e)) ts) (lower share elements e r b n) (lower_all share elements ts r b n)
        (within_more (tree_patterns e) (patterns_behind (united p (tree_patterns e)) ts) _
        (λ i j h. behind_first (united p (tree_patterns e)) ts i j (pair_right p (tree_patterns e) i j h)) (lower_within e t.0 r b n))
        (all_within (united p (tree_patterns e)) ts t.1 r b n)
