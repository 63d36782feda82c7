-- What holds at the functions of a tree holds at those of what lowering, derivatives and operators on forms make of it
use Rattle.std.proofs.Common.{inl, inr, sym, subst, ◌≡◌, ℕ, zero, suc, ◌+◌, ◌*◌, ◌==◌, max, Bool, true, false, if◌then◌else◌, List, [], ◌∷◌, ◌++◌, map, Option, None, Some, slice_get, refl}
use Rattle.std.specs.List.{AllByRecursion}
use Rattle.ratio.specs.declared.reduced.Ratio.{Ratio}
use Rattle.ufl_tree.specs.declared.function.Free.{Free}
use Rattle.ufl_tree.specs.declared.function.Function.{Function}
use Rattle.ufl_tree.specs.declared.function.Ix.{Ix}
use Rattle.ufl_tree.specs.declared.function.Ix.TheVariants.{Fixed, Named}
use Rattle.ufl_tree.specs.declared.function.Role.{Role}
use Rattle.ufl_tree.specs.declared.function.Role.TheVariants.{Trial}
use Rattle.ufl_tree.specs.declared.tree.Op1.{Op1}
use Rattle.ufl_tree.specs.declared.tree.Op1.TheVariants.{Neg, Grad, NablaGrad, Div, NablaDiv, Curl, Transpose, Trace, Sym, Skew, Dev}
use Rattle.ufl_tree.specs.declared.tree.Op2.{Op2}
use Rattle.ufl_tree.specs.declared.tree.Op2.TheVariants.{Sum, Product, Dot, Inner, Outer, Cross}
use Rattle.ufl_tree.specs.Functions.{EachFunctionOfAll, Each}
use Rattle.ufl_tree.specs.Indices.{front, back, followed_by, first_size, named, direction, repeated}
use Rattle.ufl_tree.specs.Places.{Table, Piece, sub_element, element_shape}
use Rattle.ufl_tree.specs.Term.{Term, num, fun, mark, neg, sum, prod, over, dx, delta, pick, raise, turn, Terms, no_terms, term}
use Rattle.ufl_tree.specs.Typed.{Typed, number, identity, function, piece, one, two, power, index, partial, tensor, list, variable, diff, TypedList, no_items, item, own_kind, shape_of, free_of}
use Rattle.ufl_meaning.specs.Environment.{same_role, other_argument}
use Rattle.monos.specs.Summed.{summed}
use Rattle.lower.specs.Renaming.{Renaming, with_index, all_renamed, zero_term}
use Rattle.lower.specs.Lowering.{Lowered, with_indices, over_names, over_components, terms_from, grad_term, nabla_grad_term, minus_term, rotated_term, curl_term, matrix_term, trace_term, one_term, dot_term, product_term, two_term, power_term, identity_term, chosen_term, place_term, piece_term, lower, lower_all}
use Rattle.lower.specs.Shares.{share_of}
use Rattle.passes.specs.Component.{first_name}
use Rattle.perturb.specs.Expanding.{deltas, by_variable, all_by_variable, linear, all_linear, expand, expand_all}
use Rattle.derivatives.specs.Expanded.{expanded}
use Rattle.derivatives.specs.Naming.{term_above}
use Rattle.integrands.specs.declared.operator.Operator.{Operator}
use Rattle.integrands.specs.declared.operator.Operator.TheVariants as o
use Rattle.integrands.specs.declared.substitution.Substitution.{Substitution}
use Rattle.integrands.specs.declared.substitution.Substitution.TheVariants as v
use Rattle.integrands.specs.Flattening.{under, integrand_term}
use Rattle.integrands.specs.Integrands.{IntegrandTerm, with_body}
use Rattle.integrands.specs.Sides.{left_side, left_sides}
use Rattle.integrands.specs.Substitution.{put, substituted, all_substituted}
use Rattle.normal.specs.Origins.{HasFunction, HaveFunction}
use Rattle.arity.specs.Leaves.{EachLeaf, EachLeafOfAll}

module _ (elements : Table) (P : Function → Type 0) where
  pub record Hold (t : Term) : Type 0 where
    pub holds : EachLeaf P t

  pub record AllHold (ts : Terms) : Type 0 where
    pub holds : EachLeafOfAll P ts

  abbrev Fits : Lowered → Type 0
  Fits f = (b : List Ix) (n : ℕ) → Hold (f b n)

  each_neg : (a : Term) → Hold a → Hold (neg a)
  each_neg a x = record { holds = x.holds }

  each_over : (k n : ℕ) (a : Term) → Hold a → Hold (over k n a)
  each_over k n a x = record { holds = x.holds }

  each_dx : (i : Ix) (a : Term) → Hold a → Hold (dx i a)
  each_dx i a x = record { holds = x.holds }

  each_pick : (i : Ix) (ts : Terms) → AllHold ts → Hold (pick i ts)
  each_pick i ts x = record { holds = x.holds }

  each_sum : (a b : Term) → Hold a → Hold b → Hold (sum a b)
  each_sum a b x y = record { holds = (x.holds, y.holds) }

  each_prod : (a b : Term) → Hold a → Hold b → Hold (prod a b)
  each_prod a b x y = record { holds = (x.holds, y.holds) }

  each_item : (t : Term) (ts : Terms) → Hold t → AllHold ts → AllHold (term t ts)
  each_item t ts x y = record { holds = (x.holds, y.holds) }

  each_none : AllHold no_terms
  each_none = record { holds = tt }

  each_number : (c : Ratio) → Hold (num c)
  each_number c = record { holds = tt }

  each_delta : (x y : Ix) → Hold (delta x y)
  each_delta x y = record { holds = tt }

  -- ---- lowering
  grad_each : (f : Lowered) → Fits f → Fits (grad_term f)
  grad_each f h [] n = each_over _ _ _ (each_dx _ _ (h [] n))
  grad_each f h (i ∷ []) n = each_dx _ _ (h [] n)
  grad_each f h (i ∷ j ∷ b) n = grad_each (λ c m. f (i ∷ c) m) (λ c m. h (i ∷ c) m) (j ∷ b) n

  nabla_each : (f : Lowered) → Fits f → Fits (nabla_grad_term f)
  nabla_each f h [] n = each_over _ _ _ (each_dx _ _ (h [] n))
  nabla_each f h (i ∷ b) n = each_dx _ _ (h b n)

  minus_each : (a b : Term) → Hold a → Hold b → Hold (minus_term a b)
  minus_each a b x y = each_sum a (neg b) x (each_neg b y)

  rotated_each : (h : ℕ → ℕ → Term) → ((j k : ℕ) → Hold (h j k)) → (b : List Ix) (n : ℕ) → Hold (rotated_term h b n)
  rotated_each h x [] n = each_over _ _ _ (minus_each _ _ (x 0 0) (x 0 0))
  rotated_each h x (i ∷ []) n =
      each_pick _ _
      (each_item _ _ (minus_each (h 1 2) (h 2 1) (x 1 2) (x 2 1))
      (each_item _ _ (minus_each (h 2 0) (h 0 2) (x 2 0) (x 0 2))
      (each_item _ _ (minus_each (h 0 1) (h 1 0) (x 0 1) (x 1 0)) each_none)))
  rotated_each h x (i ∷ j ∷ b) n = each_over _ _ _ (minus_each _ _ (x 0 0) (x 0 0))

  curl_each : (s : List ℕ) (f : Lowered) → Fits f → Fits (curl_term s f)
  curl_each [] f h [] n = each_over _ _ _ (each_dx _ _ (h [] n))
  curl_each [] f h (i ∷ []) n = each_pick _ _ (each_item _ _ (each_dx _ _ (h [] n)) (each_item _ _ (each_neg _ (each_dx _ _ (h [] n))) each_none))
  curl_each [] f h (i ∷ j ∷ b) n = each_over _ _ _ (each_dx _ _ (h [] n))
  curl_each (m ∷ s) f h [] n = minus_each _ _ (each_dx _ _ (h (Fixed 1 ∷ []) n)) (each_dx _ _ (h (Fixed 0 ∷ []) n))
  curl_each (m ∷ s) f h (i ∷ b) n = rotated_each (λ j k. dx (Fixed j) (f (Fixed k ∷ []) n)) (λ j k. each_dx _ _ (h (Fixed k ∷ []) n)) (i ∷ b) n

  matrix_each : (h : Ix → Ix → Term) → ((i j : Ix) → Hold (h i j)) → (b : List Ix) (n : ℕ) → Hold (matrix_term h b n)
  matrix_each h x [] n = each_over _ _ _ (x (Fixed 0) (Fixed 0))
  matrix_each h x (i ∷ []) n = each_over _ _ _ (x (Fixed 0) (Fixed 0))
  matrix_each h x (i ∷ j ∷ []) n = x i j
  matrix_each h x (i ∷ j ∷ k ∷ b) n = each_over _ _ _ (x (Fixed 0) (Fixed 0))

  trace_each : (m : ℕ) (f : Lowered) → Fits f → (n : ℕ) → Hold (trace_term m f n)
  trace_each m f h n = each_over _ _ _ (h (Named n ∷ Named n ∷ []) (suc n))

  one_each : (share : ℕ → Ratio) (op : Op1) (s : List ℕ) (f : Lowered) → Fits f → Fits (one_term share op s f)
  one_each share Neg s f h b n = each_neg _ (h b n)
  one_each share Grad s f h b n = grad_each f h b n
  one_each share NablaGrad s f h b n = nabla_each f h b n
  one_each share Div s f h b n = each_over _ _ _ (each_dx _ _ (h (followed_by b (Named n)) (suc n)))
  one_each share NablaDiv s f h b n = each_over _ _ _ (each_dx _ _ (h (Named n ∷ b) (suc n)))
  one_each share Curl s f h b n = curl_each s f h b n
  one_each share Transpose s f h b n = matrix_each (λ i j. f (j ∷ i ∷ []) n) (λ i j. h (j ∷ i ∷ []) n) b n
  one_each share Trace s f h b n = trace_each (first_size s) f h n
  one_each share Sym s f h b n = matrix_each _ (λ i j. each_prod _ _ (each_number (share 2)) (each_sum _ _ (h (i ∷ j ∷ []) n) (h (j ∷ i ∷ []) n))) b n
  one_each share Skew s f h b n = matrix_each _ (λ i j. each_prod _ _ (each_number (share 2)) (minus_each _ _ (h (i ∷ j ∷ []) n) (h (j ∷ i ∷ []) n))) b n
  one_each share Dev s f h b n =
      matrix_each _ (λ i j. minus_each _ _ (h (i ∷ j ∷ []) n)
      (each_prod _ _ (each_prod _ _ (trace_each (first_size s) f h n) (each_number (share (max (first_size s) 1)))) (each_delta i j))) b n

  dot_each : (s : List ℕ) (f g : Lowered) → Fits f → Fits g → Fits (dot_term s f g)
  dot_each [] f g x y b n = each_prod _ _ (x [] n) (y b n)
  dot_each (m ∷ s) f g x y b n = each_over _ _ _ (each_prod _ _ (x (followed_by (front s b) (Named n)) (suc n)) (y (Named n ∷ back s b) (suc n)))

  product_each : (s t : List ℕ) (f g : Lowered) → Fits f → Fits g → Fits (product_term s t f g)
  product_each [] t f g x y b n = each_prod _ _ (x [] n) (y b n)
  product_each (m ∷ s) [] f g x y b n = each_prod _ _ (x b n) (y [] n)
  product_each (m ∷ s) (e ∷ t) f g x y b n = dot_each (m ∷ s) f g x y b n

  components_each : (s : List ℕ) (f : Lowered) → Fits f → (n : ℕ) → Hold (over_components s f n)
  components_each [] f h n = h [] n
  components_each (m ∷ s) f h n = each_over _ _ _ (components_each s (λ c m. f (Named n ∷ c) m) (λ c m. h (Named n ∷ c) m) (suc n))

  two_each : (op : Op2) (s t : List ℕ) (f g : Lowered) → Fits f → Fits g → Fits (two_term op s t f g)
  two_each Sum s t f g x y b n = each_sum _ _ (x b n) (y b n)
  two_each Product s t f g x y b n = product_each s t f g x y b n
  two_each Dot s t f g x y b n = dot_each s f g x y b n
  two_each Inner s t f g x y b n = components_each s (λ c m. prod (f c m) (g c m)) (λ c m. each_prod _ _ (x c m) (y c m)) n
  two_each Outer s t f g x y b n = each_prod _ _ (x (front s b) n) (y (back s b) n)
  two_each Cross s t f g x y b n = rotated_each (λ j k. prod (f (Fixed j ∷ []) n) (g (Fixed k ∷ []) n)) (λ j k. each_prod _ _ (x (Fixed j ∷ []) n) (y (Fixed k ∷ []) n)) b n

  power_each : (t : Term) → Hold t → (n : ℕ) → Hold (power_term t n)
  power_each t x zero = each_delta (Fixed 0) (Fixed 0)
  power_each t x (suc zero) = x
  power_each t x (suc (suc n)) = each_prod _ _ (power_each t x (suc n)) x

  names_each : (xs : List Free) (f : Renaming → ℕ → Term) → ((r : Renaming) (n : ℕ) → Hold (f r n)) → (r : Renaming) (n : ℕ) → Hold (over_names xs f r n)
  names_each [] f h r n = h r n
  names_each (x ∷ xs) f h r n = each_over _ _ _ (names_each xs f h (with_index x.index (Named n) r) (suc n))

  identity_each : (b : List Ix) → Hold (identity_term b)
  identity_each [] = each_delta (Fixed 0) (Fixed 1)
  identity_each (x ∷ []) = each_delta (Fixed 0) (Fixed 1)
  identity_each (x ∷ y ∷ []) = each_delta x y
  identity_each (x ∷ y ∷ z ∷ b) = each_delta (Fixed 0) (Fixed 1)

  chosen_each : (f : List Ix → Terms) → ((b : List Ix) → AllHold (f b)) → (b : List Ix) (n : ℕ) → Hold (chosen_term f b n)
  chosen_each f h [] n = each_over _ _ _ (each_pick _ _ (h []))
  chosen_each f h (i ∷ b) n = each_pick _ _ (h b)

  from_each : (j n : ℕ) (f : ℕ → Term) → ((k : ℕ) → Hold (f k)) → AllHold (terms_from j n f)
  from_each j zero f h = each_none
  from_each j (suc n) f h = each_item (f j) (terms_from (suc j) n f) (h j) (from_each (suc j) n f h)

  each_function : (f : Function) (at : List Ix) → P f → Hold (fun f at)
  each_function f at h = record { holds = h }

  place_each : (f : Function) → P f → (before : ℕ) (s : List ℕ) (k : ℕ) (b : List Ix) (n : ℕ) → Hold (place_term f before s k b n)
  place_each f h before [] k [] n = each_function f (Fixed (before + k) ∷ []) h
  place_each f h before [] k (i ∷ b) n = each_over _ _ _ (each_function f [] h)
  place_each f h before (m ∷ s) k [] n = each_over _ _ _ (each_function f [] h)
  place_each f h before (m ∷ s) k (i ∷ b) n = each_pick _ _ (from_each 0 m _ (λ j. place_each f h before s (k * m + j) b n))

  piece_each : (p : Option Piece) (f : Function) → P f → (b : List Ix) (n : ℕ) → Hold (piece_term p f b n)
  piece_each None f h b n = each_over _ _ _ (each_function f [] h)
  piece_each (Some p) f h b n = place_each f h p.before (element_shape p.space) 0 b n

  module _ (share : ℕ → Ratio) where
    mutual
      pub lower_each : (e : Typed) → Each P e → (r : Renaming) → Fits (lower share elements e r)
      lower_each (number k c) h r b n = each_number c
      lower_each (identity k m) h r b n = identity_each b
      lower_each (function k f) h r b n = each_function f b h
      lower_each (piece k f m) h r b n = piece_each (sub_element (slice_get elements f.element) m) f h b n
      lower_each (one k op a) h r b n = one_each share op (shape_of a) (λ c m. lower share elements a r c m) (lower_each a h r) b n
      lower_each (two k op a e) h r b n =
          names_each (summed op (free_of a) (free_of e)) _
          (λ r n. two_each op (shape_of a) (shape_of e) (λ c m. lower share elements a r c m) (λ c m. lower share elements e r c m) (lower_each a h.0 r) (lower_each e h.1 r) b n) r n
      lower_each (power k a m) h r b n = power_each (lower share elements a r [] n) (lower_each a h r [] n) m
      lower_each (index k a at) h r b n = names_each (repeated (free_of a ++ named at (shape_of a))) _ (λ r n. lower_each a h r (all_renamed r at ++ b) n) r n
      lower_each (partial k a i) h r b n = names_each (repeated (free_of a ++ direction i (own_kind a).cell)) _ (λ r n. each_dx _ _ (lower_each a h r b n)) r n
      lower_each (tensor k a by) h r b n = lower_each a h (with_indices by b r) [] n
      lower_each (list k ts) h r b n = chosen_each (λ c. lower_all share elements ts r c n) (λ c. all_lower_each ts h r c n) b n
      lower_each (variable k l a) h r b n = record { holds = (lower_each a h r b n).holds }
      lower_each (diff k l by a) h r b n = record { holds = (lower_each a h r (front (shape_of a) b) n).holds }

      all_lower_each : (ts : TypedList) → EachFunctionOfAll (λ k f. P f) (λ k f n. P f) ts → (r : Renaming) (b : List Ix) (n : ℕ) → AllHold (lower_all share elements ts r b n)
      all_lower_each no_items h r b n = each_none
      all_lower_each (item e ts) h r b n = each_item _ _ (lower_each e h.0 r b n) (all_lower_each ts h.1 r b n)

  -- ---- derivatives
  abbrev Has : Term → Type 0
  Has = EachLeaf P

  abbrev Have : Terms → Type 0
  Have = EachLeafOfAll P

  deltas_each : (a b : List Ix) → Has (deltas a b)
  deltas_each [] [] = tt
  deltas_each [] (y ∷ b) = tt
  deltas_each (x ∷ a) [] = tt
  deltas_each (x ∷ a) (y ∷ b) = (tt, deltas_each a b)

  choice_each : (t : Bool) (b at : List Ix) → Has (if t then deltas b at else zero_term)
  choice_each true b at = deltas_each b at
  choice_each false b at = tt

  mutual
    variable_each : (l : ℕ) (at : List Ix) (t : Term) → Has t → Has (by_variable l at t)
    variable_each l at (num c) h = tt
    variable_each l at (fun f b) h = tt
    variable_each l at (mark m b e) h = (variable_each l at e h, choice_each (m == l) b at)
    variable_each l at (neg a) h = variable_each l at a h
    variable_each l at (sum a b) h = (variable_each l at a h.0, variable_each l at b h.1)
    variable_each l at (prod a b) h = ((variable_each l at a h.0, h.1), (h.0, variable_each l at b h.1))
    variable_each l at (over x n b) h = variable_each l at b h
    variable_each l at (dx x b) h = variable_each l at b h
    variable_each l at (delta x y) h = tt
    variable_each l at (pick x ts) h = all_variable_each l at ts h
    variable_each l at (raise m b e) h = tt
    variable_each l at (turn f g e) h = tt

    all_variable_each : (l : ℕ) (at : List Ix) (ts : Terms) → Have ts → Have (all_by_variable l at ts)
    all_variable_each l at no_terms h = tt
    all_variable_each l at (term t ts) h = (variable_each l at t h.0, all_variable_each l at ts h.1)

  mutual
    pub expand_each : (t : Term) (r : Renaming) (n : ℕ) → Has t → Has (expand t r n)
    expand_each (num c) r n h = tt
    expand_each (fun f b) r n h = h
    expand_each (mark m b e) r n h = expand_each e r n h
    expand_each (neg a) r n h = expand_each a r n h
    expand_each (sum a b) r n h = (expand_each a r n h.0, expand_each b r n h.1)
    expand_each (prod a b) r n h = (expand_each a r n h.0, expand_each b r n h.1)
    expand_each (over x m b) r n h = expand_each b (with_index x (Named n) r) (suc n) h
    expand_each (dx x b) r n h = expand_each b r n h
    expand_each (delta x y) r n h = tt
    expand_each (pick x ts) r n h = all_expand_each ts r n h
    expand_each (raise l at e) r n h = variable_each l (all_renamed r at) (expand e r n) (expand_each e r n h)
    expand_each (turn f g e) r n h = absurd h

    all_expand_each : (ts : Terms) (r : Renaming) (n : ℕ) → Have ts → Have (expand_all ts r n)
    all_expand_each no_terms r n h = tt
    all_expand_each (term t ts) r n h = (expand_each t r n h.0, all_expand_each ts r n h.1)

  pub integrand_each : (e : Typed) → Each P e → EachLeaf P (integrand_term elements e)
  unfolding expanded
  integrand_each e h =
      let lowered : Term = lower share_of elements e Named [] (first_name e []) in
      expand_each lowered Named (term_above lowered) (lower_each share_of e h Named [] (first_name e [])).holds

-- ---- functions that stand for others: what holds of the old ones, and of the new ones
abbrev pub as_role : Role → Function → Function
as_role r f = record { role = r; element = f.element }

module _ (P Q : Function → Type 0) where
  abbrev Kept : Type 0
  Kept = (f : Function) → P f → Q f

  -- where the role of a function is w or isn't
  abbrev KeptBut : Role → Type 0
  KeptBut w = (f : Function) → P f → same_role f.role w ≡ false → Q f

  abbrev Put : Role → Role → Type 0
  Put w x = (f : Function) → P f → same_role f.role w ≡ true → Q (as_role x f)

  mutual
    pub kept_each : Kept → (t : Term) → EachLeaf P t → EachLeaf Q t
    kept_each k (num c) h = tt
    kept_each k (fun f at) h = k f h
    kept_each k (mark m b e) h = kept_each k e h
    kept_each k (neg a) h = kept_each k a h
    kept_each k (sum a b) h = (kept_each k a h.0, kept_each k b h.1)
    kept_each k (prod a b) h = (kept_each k a h.0, kept_each k b h.1)
    kept_each k (over x n b) h = kept_each k b h
    kept_each k (dx x b) h = kept_each k b h
    kept_each k (delta x y) h = tt
    kept_each k (pick x ts) h = all_kept_each k ts h
    kept_each k (raise m b e) h = kept_each k e h
    kept_each k (turn f g e) h = h

    all_kept_each : Kept → (ts : Terms) → EachLeafOfAll P ts → EachLeafOfAll Q ts
    all_kept_each k no_terms h = tt
    all_kept_each k (term t ts) h = (kept_each k t h.0, all_kept_each k ts h.1)

  moved_choice : (w x : Role) → Put w x → (b : Bool) (f : Function) (at : List Ix) → same_role f.role w ≡ b → P f
      → EachLeaf Q (if b then fun (as_role x f) at else zero_term)
  moved_choice w x m true f at e h = m f h e
  moved_choice w x m false f at e h = tt

  mutual
    pub linear_each : (w x : Role) → Kept → Put w x → (t : Term) → EachLeaf P t → EachLeaf Q (linear w x t)
    linear_each w x k m (num c) h = tt
    linear_each w x k m (fun f at) h = moved_choice w x m (same_role f.role w) f at refl h
    linear_each w x k m (mark l b e) h = linear_each w x k m e h
    linear_each w x k m (neg a) h = linear_each w x k m a h
    linear_each w x k m (sum a b) h = (linear_each w x k m a h.0, linear_each w x k m b h.1)
    linear_each w x k m (prod a b) h = ((linear_each w x k m a h.0, kept_each k b h.1), (kept_each k a h.0, linear_each w x k m b h.1))
    linear_each w x k m (over y n b) h = linear_each w x k m b h
    linear_each w x k m (dx y b) h = linear_each w x k m b h
    linear_each w x k m (delta y z) h = tt
    linear_each w x k m (pick y ts) h = all_linear_each w x k m ts h
    linear_each w x k m (raise l b e) h = tt
    linear_each w x k m (turn f g e) h = tt

    all_linear_each : (w x : Role) → Kept → Put w x → (ts : Terms) → EachLeafOfAll P ts → EachLeafOfAll Q (all_linear w x ts)
    all_linear_each w x k m no_terms h = tt
    all_linear_each w x k m (term t ts) h = (linear_each w x k m t h.0, all_linear_each w x k m ts h.1)

  abbrev IsPut : Substitution → Type 0
  IsPut s = (f : Function) (at : List Ix) → P f → EachLeaf Q (put s f at)

  mutual
    substituted_each : (s : Substitution) → IsPut s → (t : Term) → EachLeaf P t → EachLeaf Q (substituted s t)
    substituted_each s k (num c) h = tt
    substituted_each s k (fun f at) h = k f at h
    substituted_each s k (mark m b e) h = substituted_each s k e h
    substituted_each s k (neg a) h = substituted_each s k a h
    substituted_each s k (sum a b) h = (substituted_each s k a h.0, substituted_each s k b h.1)
    substituted_each s k (prod a b) h = (substituted_each s k a h.0, substituted_each s k b h.1)
    substituted_each s k (over x n b) h = substituted_each s k b h
    substituted_each s k (dx x b) h = substituted_each s k b h
    substituted_each s k (delta x y) h = tt
    substituted_each s k (pick x ts) h = all_substituted_each s k ts h
    substituted_each s k (raise m b e) h = tt
    substituted_each s k (turn f g e) h = tt

    all_substituted_each : (s : Substitution) → IsPut s → (ts : Terms) → EachLeafOfAll P ts → EachLeafOfAll Q (all_substituted s ts)
    all_substituted_each s k no_terms h = tt
    all_substituted_each s k (term t ts) h = (substituted_each s k t h.0, all_substituted_each s k ts h.1)

  without_choice : (w : Role) → KeptBut w → (b : Bool) (f : Function) (at : List Ix) → same_role f.role w ≡ b → P f → EachLeaf Q (if b then zero_term else fun f at)
  without_choice w k true f at e h = tt
  without_choice w k false f at e h = k f h e

  pub without_each : (w : Role) → KeptBut w → (t : Term) → EachLeaf P t → EachLeaf Q (substituted (v.Without w) t)
  without_each w k t h = substituted_each (v.Without w) (λ f at x. without_choice w k (same_role f.role w) f at refl x) t h

  replaced_choice : (w x : Role) → KeptBut w → Put w x → (b : Bool) (f : Function) (at : List Ix) → same_role f.role w ≡ b → P f
      → EachLeaf Q (if b then fun (as_role x f) at else fun f at)
  replaced_choice w x k m true f at e h = m f h e
  replaced_choice w x k m false f at e h = k f h e

  pub replaced_each : (w x : Role) → KeptBut w → Put w x → (t : Term) → EachLeaf P t → EachLeaf Q (substituted (v.Replaced w x) t)
  replaced_each w x k m t h = substituted_each (v.Replaced w x) (λ f at y. replaced_choice w x k m (same_role f.role w) f at refl y) t h

  pub exchanged_each : ((f : Function) → P f → Q (as_role (other_argument f.role) f)) → (t : Term) → EachLeaf P t → EachLeaf Q (substituted v.Exchanged t)
  exchanged_each k t h = substituted_each v.Exchanged (λ f at x. k f x) t h

  trial_choice : Kept → (b : Bool) (f : Function) (at : List Ix) → P f → EachLeaf Q (if b then fun f at else zero_term)
  trial_choice k true f at h = k f h
  trial_choice k false f at h = tt

  mutual
    pub left_each : Kept → (t : Term) → EachLeaf P t → EachLeaf Q (left_side t)
    left_each k (num c) h = tt
    left_each k (fun f at) h = trial_choice k (same_role f.role Trial) f at h
    left_each k (mark m b e) h = left_each k e h
    left_each k (neg a) h = left_each k a h
    left_each k (sum a b) h = (left_each k a h.0, left_each k b h.1)
    left_each k (prod a b) h =
        ((left_each k a h.0, without_each Trial (λ f x y. k f x) b h.1), (without_each Trial (λ f x y. k f x) a h.0, left_each k b h.1))
    left_each k (over x n b) h = left_each k b h
    left_each k (dx x b) h = left_each k b h
    left_each k (delta x y) h = tt
    left_each k (pick x ts) h = all_left_each k ts h
    left_each k (raise m b e) h = tt
    left_each k (turn f g e) h = tt

    all_left_each : Kept → (ts : Terms) → EachLeafOfAll P ts → EachLeafOfAll Q (left_sides ts)
    all_left_each k no_terms h = tt
    all_left_each k (term t ts) h = (left_each k t h.0, all_left_each k ts h.1)

  -- what an operator on forms makes of the functions
  abbrev pub Turns : Operator → Type 0
  Turns (o.Scale c) = Kept
  Turns o.Left = Kept
  Turns o.Right = KeptBut Trial
  Turns (o.Action last by) = KeptBut last × Put last by
  Turns o.Adjoint = (f : Function) → P f → Q (as_role (other_argument f.role) f)
  Turns (o.Derivative w x) = Kept × Put w x

  under_each : (op : Operator) → Turns op → (t : Term) → EachLeaf P t → EachLeaf Q (under op t)
  under_each (o.Scale c) k t h = (tt, kept_each k t h)
  under_each o.Left k t h = left_each k t h
  under_each o.Right k t h = without_each Trial k t h
  under_each (o.Action last by) k t h = replaced_each last by k.0 k.1 t h
  under_each o.Adjoint k t h = exchanged_each k t h
  under_each (o.Derivative w x) k t h = linear_each w x k.0 k.1 t h

  pub all_under : (op : Operator) → Turns op → (ps : List IntegrandTerm) → AllByRecursion (λ (p : IntegrandTerm). EachLeaf P p.body) ps
      → AllByRecursion (λ (p : IntegrandTerm). EachLeaf Q p.body) (map (with_body (under op)) ps)
  all_under op k [] h = tt
  all_under op k (p ∷ ps) h = (under_each op k p.body h.0, all_under op k ps h.1)

pub all_kept : (P Q : Function → Type 0) → ((f : Function) → P f → Q f) → (ps : List IntegrandTerm) → AllByRecursion (λ (p : IntegrandTerm). EachLeaf P p.body) ps
    → AllByRecursion (λ (p : IntegrandTerm). EachLeaf Q p.body) ps
all_kept P Q k [] h = tt
all_kept P Q k (p ∷ ps) h = (kept_each P Q k p.body h.0, all_kept P Q k ps h.1)

-- ---- what each leaf has, the function of a leaf has
mutual
  pub leaf_has : (P : Function → Type 0) (f : Function) (t : Term) → EachLeaf P t → HasFunction f t → P f
  leaf_has P f (num c) h l = absurd l
  leaf_has P f (fun g at) h l = subst P (sym l) h
  leaf_has P f (mark m b e) h l = leaf_has P f e h l
  leaf_has P f (neg a) h l = leaf_has P f a h l
  leaf_has P f (sum a b) h (inl l) = leaf_has P f a h.0 l
  leaf_has P f (sum a b) h (inr l) = leaf_has P f b h.1 l
  leaf_has P f (prod a b) h (inl l) = leaf_has P f a h.0 l
  leaf_has P f (prod a b) h (inr l) = leaf_has P f b h.1 l
  leaf_has P f (over x n b) h l = leaf_has P f b h l
  leaf_has P f (dx x b) h l = leaf_has P f b h l
  leaf_has P f (delta x y) h l = absurd l
  leaf_has P f (pick x ts) h l = all_leaf_has P f ts h l
  leaf_has P f (raise m b e) h l = leaf_has P f e h l
  leaf_has P f (turn g d e) h l = absurd h

  all_leaf_has : (P : Function → Type 0) (f : Function) (ts : Terms) → EachLeafOfAll P ts → HaveFunction f ts → P f
  all_leaf_has P f no_terms h l = absurd l
  all_leaf_has P f (term t ts) h (inl l) = leaf_has P f t h.0 l
  all_leaf_has P f (term t ts) h (inr l) = all_leaf_has P f ts h.1 l
