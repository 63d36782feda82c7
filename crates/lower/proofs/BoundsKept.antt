-- The weight of a typed tree bounds what it is lowered to
use Rattle.std.proofs.Common.{◌≡◌, ℕ, zero, suc, ◌+◌, ◌-◌, ◌*◌, ◌^◌, ◌<◌, ◌≤◌, max, List, [], ◌∷◌, ◌++◌, length, Option, None, Some, slice_get, refl, sym, ap, ap₂, subst, arith}
use native.Mathlib.Nat as N
use Rattle.ratio.specs.declared.reduced.Ratio.{Ratio}
use Rattle.spaces.specs.Scalar.{Scalar}
use Rattle.ufl_tree.specs.declared.function.Free.{Free}
use Rattle.ufl_tree.specs.declared.function.Function.{Function}
use Rattle.ufl_tree.specs.declared.function.Ix.{Ix}
use Rattle.ufl_tree.specs.declared.function.Ix.TheVariants.{Fixed, Named}
use Rattle.ufl_tree.specs.declared.tree.Op1.{Op1}
use Rattle.ufl_tree.specs.declared.tree.Op1.TheVariants.{Neg, Grad, NablaGrad, Div, NablaDiv, Curl, Transpose, Trace, Sym, Skew, Dev}
use Rattle.ufl_tree.specs.declared.tree.Op2.{Op2}
use Rattle.ufl_tree.specs.declared.tree.Op2.TheVariants.{Sum, Product, Dot, Inner, Outer, Cross}
use Rattle.ufl_tree.specs.Indices.{front, back, followed_by, first_size, last_size, named, direction, repeated}
use Rattle.monos.specs.Summed.{summed}
use Rattle.ufl_tree.specs.Places.{Table, Piece, sub_element, element_shape}
use Rattle.ufl_tree.specs.Term.{Term, num, fun, mark, neg, sum, prod, over, dx, delta, pick, raise, Terms, no_terms, term}
use Rattle.ufl_tree.specs.Typed.{Kind, Typed, number, identity, function, piece, one, two, power, index, partial, tensor, list, variable, diff, TypedList, no_items, item, own_kind, shape_of, free_of}
use Rattle.monos.specs.declared.weight.Weight.{Weight}
use Rattle.weigh.specs.Bounds.{Bounds, IsSound}
use Rattle.weigh.specs.Steps.{number_step, one_step, times_step, plus_step, index_step, space_step, linear_step, label_step}
use Rattle.weigh.specs.Weighing.{exact, scalars_in, parts_weight, function_weight, directions, power_weight, names_weight, sizes_weight, curl_weight, dot_weight, product_weight, one_operand, two_operands, weight_with, list_weight}
use Rattle.weigh.specs.Terms.{function_directions, term_directions, items_directions, term_weight, items_weight}
use Rattle.lower.specs.Renaming.{Renaming, with_index, renamed, all_renamed}
use Rattle.lower.specs.Lowering.{with_indices, Lowered, nothing, over_names, over_components, terms_from, grad_term, nabla_grad_term, minus_term, rotated_term, curl_term, matrix_term, trace_term, one_term, dot_term, product_term, two_term, power_term, identity_term, chosen_term, place_term, piece_term, lower, lower_all}
use Rattle.lower.specs.Fitting.{OneRank, DotRank, ProductRank, TwoRank, IsFitting, AreFitting, AreShares}
use Rattle.weigh.proofs.SoundLaws.{times_sound, plus_sound, space_sound}
use Rattle.weigh.proofs.BoundsLaws.{bounds_refl, bounds_trans, times_bounds, plus_bounds, join_bounds, join_first, join_least, index_bounds, space_bounds, linear_bounds, label_bounds}
use Rattle.weigh.proofs.WeighLaws.{parts_sound, directions_positive, tree_sound}
use Rattle.weigh.proofs.TermLaws.{term_sound}

-- ---- lengths of components
front_length : (s : List ℕ) (b : List Ix) → length (front s b) ≤ length s
front_length [] b = N.le_refl 0
front_length (d ∷ s) [] = omega arith
front_length (d ∷ s) (x ∷ b) = let h = front_length s b in omega (arith, h)

back_length : (s : List ℕ) (b : List Ix) (n : ℕ) → length b ≤ length s + n → length (back s b) ≤ n
back_length [] b n h = omega (arith, h)
back_length (d ∷ s) [] n h = omega arith
back_length (d ∷ s) (x ∷ b) n h = back_length s b n (omega (arith, h))

followed_length : (b : List Ix) (i : Ix) → length (followed_by b i) ≡ suc (length b)
followed_length [] i = refl
followed_length (x ∷ b) i = ap suc (followed_length b i)

renamed_append_length : (r : Renaming) (at b : List Ix) → length (all_renamed r at ++ b) ≡ length at + length b
renamed_append_length r [] b = omega arith
renamed_append_length r (i ∷ at) b = let h = renamed_append_length r at b in omega (arith, h)

-- a tree is within a weight and a number of directions
pub record IsHeld (elements : Table) (w : Weight) (d : ℕ) (t : Term) : Type 0 where
  pub bounds : Bounds w (term_weight elements t)
  pub directions : term_directions elements t ≤ d

pub record AreHeld (elements : Table) (w : Weight) (d : ℕ) (ts : Terms) : Type 0 where
  pub bounds : Bounds w (items_weight elements ts)
  pub directions : items_directions elements ts ≤ d

module _ (elements : Table) where
  -- ---- nodes
  held_more : (w v : Weight) (d e : ℕ) (t : Term) → IsSound v → Bounds w v → e ≤ d → IsHeld elements v e t → IsHeld elements w d t
  held_more w v d e t p h k x = record { bounds = bounds_trans w v (term_weight elements t) p.den h x.bounds; directions = N.le_trans x.directions k }

  held_in : (w : Weight) (d e : ℕ) (t : Term) → e ≤ d → IsHeld elements w e t → IsHeld elements w d t
  held_in w d e t k x = record { bounds = x.bounds; directions = N.le_trans x.directions k }

  held_neg : (w : Weight) (d : ℕ) (t : Term) → IsHeld elements w d t → IsHeld elements w d (neg t)
  held_neg w d t x = record { bounds = x.bounds; directions = x.directions }

  held_sum : (w v : Weight) (d : ℕ) (t u : Term) → IsHeld elements w d t → IsHeld elements v d u → IsHeld elements (plus_step w v) d (sum t u)
  held_sum w v d t u x y = record { bounds = plus_bounds _ _ _ _ (term_sound elements t) x.bounds y.bounds; directions = N.max-le x.directions y.directions }

  held_minus : (w v : Weight) (d : ℕ) (t u : Term) → IsHeld elements w d t → IsHeld elements v d u → IsHeld elements (plus_step w v) d (minus_term t u)
  held_minus w v d t u x y = held_sum w v d t (neg u) x (held_neg v d u y)

  held_prod : (w v : Weight) (d : ℕ) (t u : Term) → IsHeld elements w d t → IsHeld elements v d u → IsHeld elements (times_step w v) d (prod t u)
  held_prod w v d t u x y = record { bounds = times_bounds _ _ _ _ x.bounds y.bounds; directions = N.max-le x.directions y.directions }

  held_over : (w : Weight) (d : ℕ) (t : Term) (i n : ℕ) → IsHeld elements w d t → IsHeld elements (index_step n w) d (over i n t)
  held_over w d t i n x = record { bounds = index_bounds n n (N.le_refl n) _ _ x.bounds; directions = x.directions }

  held_nothing : (w : Weight) (d : ℕ) (t : Term) (n : ℕ) → IsHeld elements w d t → IsHeld elements w d (nothing t n)
  held_nothing w d t n x = record { bounds = same_weight (term_weight elements t) x.bounds; directions = x.directions }
    where
      same_weight : (e : Weight) → Bounds w e → Bounds w (index_step 0 e)
      same_weight e h = subst (λ c. Bounds w (record e { cost = c })) (sym (N.mul-one e.cost)) h

  held_dx : (w : Weight) (d : ℕ) (t : Term) (i : Ix) → IsHeld elements w d t → IsHeld elements (space_step d w) d (dx i t)
  held_dx w d t i x = record { bounds = space_bounds d _ x.directions _ _ x.bounds; directions = x.directions }

  held_mark : (w : Weight) (d : ℕ) (t : Term) (l n : ℕ) (b : List Ix) → length b ≤ n → IsHeld elements w d t → IsHeld elements (label_step n w) d (mark l b t)
  held_mark w d t l n b h x = record { bounds = label_bounds n (length b) h _ _ x.bounds; directions = x.directions }

  held_raise : (w : Weight) (d : ℕ) (t : Term) (l : ℕ) (b : List Ix) → IsHeld elements w d t → IsHeld elements (linear_step w) d (raise l b t)
  held_raise w d t l b x = record { bounds = linear_bounds _ _ x.bounds; directions = x.directions }

  held_delta : (d : ℕ) → 1 ≤ d → (i j : Ix) → IsHeld elements one_step d (delta i j)
  held_delta d p i j = record { bounds = bounds_refl one_step; directions = p }

  held_fun : (d : ℕ) (f : Function) (b : List Ix) → function_directions elements f ≤ d → IsHeld elements (function_weight elements f) d (fun f b)
  held_fun d f b h = record { bounds = bounds_refl (function_weight elements f); directions = h }

  held_item : (w : Weight) (d : ℕ) (t u : Term) (ts : Terms) → IsSound w → IsHeld elements w d t → AreHeld elements w d (term u ts) → AreHeld elements w d (term t (term u ts))
  held_item w d t u ts p x y = record {
    bounds = join_least w (term_weight elements t) (items_weight elements (term u ts)) p (term_sound elements t) x.bounds y.bounds;
    directions = N.max-le x.directions y.directions;
  }

  held_last : (w : Weight) (d : ℕ) (t : Term) → 1 ≤ d → IsHeld elements w d t → AreHeld elements w d (term t no_terms)
  held_last w d t p x = record { bounds = x.bounds; directions = N.max-le x.directions p }

  held_pick : (w : Weight) (d : ℕ) (i : Ix) (ts : Terms) → AreHeld elements w d ts → IsHeld elements w d (pick i ts)
  held_pick w d i ts x = record { bounds = x.bounds; directions = x.directions }

  -- ---- index sums
  names_held : (w : Weight) (d : ℕ) (xs : List Free) (f : Renaming → ℕ → Term) → ((r : Renaming) (n : ℕ) → IsHeld elements w d (f r n)) → (r : Renaming) (n : ℕ)
      → IsHeld elements (names_weight exact xs w) d (over_names xs f r n)
  names_held w d [] f h r n = h r n
  names_held w d (x ∷ xs) f h r n = held_over (names_weight exact xs w) d _ n x.dim (names_held w d xs f h (with_index x.index (Named n) r) (suc n))

  components_held : (w : Weight) (d : ℕ) (s : List ℕ) (k : ℕ) (f : Lowered) → ((c : List Ix) (n : ℕ) → length c ≤ length s + k → IsHeld elements w d (f c n)) → (n : ℕ)
      → IsHeld elements (sizes_weight exact s w) d (over_components s f n)
  components_held w d [] k f h n = h [] n (omega arith)
  components_held w d (m ∷ s) k f h n =
      held_over (sizes_weight exact s w) d _ n m
      (components_held w d s k (λ c i. f (Named n ∷ c) i) (λ c i j. h (Named n ∷ c) i (omega (arith, j))) (suc n))

  rotated_held : (w : Weight) (d : ℕ) → IsSound w → 1 ≤ d → (h : ℕ → ℕ → Term) → ((j k : ℕ) → IsHeld elements w d (h j k)) → (b : List Ix) (n : ℕ)
      → IsHeld elements (plus_step w w) d (rotated_term h b n)
  rotated_held w d p q h x [] n = held_nothing (plus_step w w) d _ n (held_minus w w d _ _ (x 0 0) (x 0 0))
  rotated_held w d p q h x (i ∷ []) n =
      let ps : IsSound (plus_step w w) = plus_sound w w p p in
      held_pick (plus_step w w) d i _
      (held_item (plus_step w w) d _ _ _ ps (held_minus w w d _ _ (x 1 2) (x 2 1))
      (held_item (plus_step w w) d _ _ _ ps (held_minus w w d _ _ (x 2 0) (x 0 2))
      (held_last (plus_step w w) d _ q (held_minus w w d _ _ (x 0 1) (x 1 0)))))
  rotated_held w d p q h x (i ∷ j ∷ b) n = held_nothing (plus_step w w) d _ n (held_minus w w d _ _ (x 0 0) (x 0 0))

  matrix_held : (w : Weight) (d : ℕ) (h : Ix → Ix → Term) → ((i j : Ix) → IsHeld elements w d (h i j)) → (b : List Ix) (n : ℕ) → IsHeld elements w d (matrix_term h b n)
  matrix_held w d h x [] n = held_nothing w d _ n (x (Fixed 0) (Fixed 0))
  matrix_held w d h x (i ∷ []) n = held_nothing w d _ n (x (Fixed 0) (Fixed 0))
  matrix_held w d h x (i ∷ j ∷ []) n = x i j
  matrix_held w d h x (i ∷ j ∷ k ∷ b) n = held_nothing w d _ n (x (Fixed 0) (Fixed 0))

  -- ---- operators of one operand, whose components of up to as many indices as its shape are held
  module _ (share : ℕ → Ratio) (shares : AreShares share) (d : ℕ) (q : 1 ≤ d) where
    share_held : (n : ℕ) → 1 ≤ n → n < 2 ^ 127 → IsHeld elements (number_step 1 n) d (num (share n))
    share_held n p k = record { bounds = subst (λ e. Bounds (number_step 1 n) e) (sym (ap₂ number_step (shares n p k).0 (shares n p k).1)) (bounds_refl (number_step 1 n)); directions = q }

    module _ (w : Weight) (p : IsSound w) where
      grad_held : (m : ℕ) (f : Lowered) → ((c : List Ix) (n : ℕ) → length c ≤ m → IsHeld elements w d (f c n)) → (b : List Ix) (n : ℕ) → length b ≤ suc m
          → IsHeld elements (space_step d w) d (grad_term f b n)
      grad_held m f h [] n j = held_nothing (space_step d w) d _ n (held_dx w d _ (Fixed 0) (h [] n (omega arith)))
      grad_held m f h (i ∷ []) n j = held_dx w d _ i (h [] n (omega arith))
      grad_held zero f h (i ∷ k ∷ b) n j = absurd (omega (arith, j))
      grad_held (suc m) f h (i ∷ k ∷ b) n j = grad_held m (λ c n. f (i ∷ c) n) (λ c n e. h (i ∷ c) n (omega (arith, e))) (k ∷ b) n (omega (arith, j))

      module _ (s : List ℕ) (f : Lowered) (h : (c : List Ix) (n : ℕ) → length c ≤ length s → IsHeld elements w d (f c n)) where
        nabla_held : (b : List Ix) (n : ℕ) → length b ≤ suc (length s) → IsHeld elements (space_step d w) d (nabla_grad_term f b n)
        nabla_held [] n j = held_nothing (space_step d w) d _ n (held_dx w d _ (Fixed 0) (h [] n (omega arith)))
        nabla_held (i ∷ b) n j = held_dx w d _ i (h b n (omega (arith, j)))

        trace_held : (n : ℕ) → 2 ≤ length s → IsHeld elements (index_step (first_size s) w) d (trace_term (first_size s) f n)
        trace_held n j = held_over w d _ n (first_size s) (h (Named n ∷ Named n ∷ []) (suc n) j)

      curl_held : (s : List ℕ) (f : Lowered) → ((c : List Ix) (n : ℕ) → length c ≤ length s → IsHeld elements w d (f c n)) → (b : List Ix) (n : ℕ)
          → IsHeld elements (curl_weight exact s (space_step d w)) d (curl_term s f b n)
      curl_held [] f h [] n =
          held_more _ (space_step d w) d d _ (space_sound d q w p) (join_first (space_step d w) (space_step d w)) (N.le_refl d)
          (held_nothing (space_step d w) d _ n (held_dx w d _ (Fixed 0) (h [] n (N.le_refl 0))))
      curl_held [] f h (i ∷ []) n =
          let x : IsHeld elements (space_step d w) d (dx (Fixed 1) (f [] n)) = held_dx w d (f [] n) (Fixed 1) (h [] n (N.le_refl 0)) in
          let y : IsHeld elements (space_step d w) d (neg (dx (Fixed 0) (f [] n))) = held_neg (space_step d w) d (dx (Fixed 0) (f [] n)) (held_dx w d (f [] n) (Fixed 0) (h [] n (N.le_refl 0))) in
          held_more _ (space_step d w) d d _ (space_sound d q w p) (join_first (space_step d w) (space_step d w)) (N.le_refl d)
          (held_pick (space_step d w) d i _ (held_item (space_step d w) d _ _ _ (space_sound d q w p) x (held_last (space_step d w) d _ q y)))
      curl_held [] f h (i ∷ j ∷ b) n =
          held_more _ (space_step d w) d d _ (space_sound d q w p) (join_first (space_step d w) (space_step d w)) (N.le_refl d)
          (held_nothing (space_step d w) d _ n (held_dx w d _ (Fixed 0) (h [] n (N.le_refl 0))))
      curl_held (m ∷ s) f h [] n =
          held_minus (space_step d w) (space_step d w) d _ _ (held_dx w d _ (Fixed 0) (h (Fixed 1 ∷ []) n (omega arith))) (held_dx w d _ (Fixed 1) (h (Fixed 0 ∷ []) n (omega arith)))
      curl_held (m ∷ s) f h (i ∷ b) n =
          rotated_held (space_step d w) d (space_sound d q w p) q (λ j k. dx (Fixed j) (f (Fixed k ∷ []) n)) (λ j k. held_dx w d _ (Fixed j) (h (Fixed k ∷ []) n (omega arith))) (i ∷ b) n

      one_held : (op : Op1) (s k : List ℕ) → OneRank op s k → (f : Lowered) → ((c : List Ix) (n : ℕ) → length c ≤ length s → IsHeld elements w d (f c n))
          → (b : List Ix) (n : ℕ) → length b ≤ length k → IsHeld elements (one_operand exact op s d w) d (one_term share op s f b n)
      one_held Neg s k t f h b n j = held_neg w d _ (h b n (N.le_trans j t))
      one_held Grad s k t f h b n j = grad_held (length s) f h b n (N.le_trans j t)
      one_held NablaGrad s k t f h b n j = nabla_held s f h b n (N.le_trans j t)
      one_held Div s k t f h b n j =
          held_over (space_step d w) d _ n (last_size s) (held_dx w d _ (Named n) (h (followed_by b (Named n)) (suc n) (let e = followed_length b (Named n) in omega (arith, e, j, t))))
      one_held NablaDiv s k t f h b n j =
          held_over (space_step d w) d _ n (first_size s) (held_dx w d _ (Named n) (h (Named n ∷ b) (suc n) (omega (arith, j, t))))
      one_held Curl s k t f h b n j = curl_held s f h b n
      one_held Transpose s k t f h b n j = matrix_held w d (λ i j. f (j ∷ i ∷ []) n) (λ i j. h (j ∷ i ∷ []) n t) b n
      one_held Trace s k t f h b n j = trace_held s f h n t
      one_held Sym s k t f h b n j =
          matrix_held _ d _ (λ x y. held_prod (number_step 1 2) (plus_step w w) d _ _ (share_held 2 (omega arith) (omega arith)) (held_sum w w d _ _ (h (x ∷ y ∷ []) n t) (h (y ∷ x ∷ []) n t))) b n
      one_held Skew s k t f h b n j =
          matrix_held _ d _ (λ x y. held_prod (number_step 1 2) (plus_step w w) d _ _ (share_held 2 (omega arith) (omega arith)) (held_minus w w d _ _ (h (x ∷ y ∷ []) n t) (h (y ∷ x ∷ []) n t))) b n
      one_held Dev s k t f h b n j =
          let m : ℕ = max (first_size s) 1 in
          let l = t.1 in
          matrix_held _ d _
          (λ x y. held_minus w _ d _ _ (h (x ∷ y ∷ []) n t.0)
          (held_prod _ one_step d _ _
          (held_prod (index_step (first_size s) w) (number_step 1 m) d _ _ (trace_held s f h n t.0) (share_held (max (first_size s) 1) (omega arith) (omega (arith, l))))
          (held_delta d q x y)))
          b n

  -- ---- of two
  module _ (w v : Weight) (p : IsSound w) (u : IsSound v) (d : ℕ) (q : 1 ≤ d) where
    module _ (s t : List ℕ) (f g : Lowered) (h : (c : List Ix) (n : ℕ) → length c ≤ length s → IsHeld elements w d (f c n)) (j : (c : List Ix) (n : ℕ) → length c ≤ length t → IsHeld elements v d (g c n)) where
      front_held : (b : List Ix) (n k : ℕ) → length b ≤ k → k ≤ length s + length t → IsHeld elements (times_step w v) d (prod (f (front s b) n) (g (back s b) n))
      front_held b n k e i = held_prod w v d _ _ (h (front s b) n (front_length s b)) (j (back s b) n (back_length s b (length t) (N.le_trans e i)))

    dot_held : (s t k : List ℕ) (f g : Lowered) → DotRank s t k → ((c : List Ix) (n : ℕ) → length c ≤ length s → IsHeld elements w d (f c n)) → ((c : List Ix) (n : ℕ) → length c ≤ length t → IsHeld elements v d (g c n))
        → (b : List Ix) (n : ℕ) → length b ≤ length k → IsHeld elements (dot_weight exact s w v) d (dot_term s f g b n)
    dot_held [] t k f g r h j b n e = held_prod w v d _ _ (h [] n (N.le_refl 0)) (j b n (N.le_trans e r))
    dot_held (m ∷ s) t k f g r h j b n e =
        held_over (times_step w v) d _ n (last_size (m ∷ s))
        (held_prod w v d _ _
        (h (followed_by (front s b) (Named n)) (suc n) (let a = followed_length (front s b) (Named n) in let c = front_length s b in omega (arith, a, c)))
        (j (Named n ∷ back s b) (suc n) (rest (length t) r.1 (N.le_trans (N.add-le-add e (N.le_refl 1)) (more (length t) r.0)))))
      where
        more : (l : ℕ) → suc (length k) ≤ length s + l → length k + 1 ≤ length s + l
        more l i = omega (arith, i)

        rest : (l : ℕ) → 1 ≤ l → length b + 1 ≤ length s + l → suc (length (back s b)) ≤ l
        rest zero i c = absurd (omega (arith, i))
        rest (suc l) i c = let h = back_length s b l (omega (arith, c)) in omega (arith, h)

    product_held : (s t k : List ℕ) (f g : Lowered) → ProductRank s t k → ((c : List Ix) (n : ℕ) → length c ≤ length s → IsHeld elements w d (f c n)) → ((c : List Ix) (n : ℕ) → length c ≤ length t → IsHeld elements v d (g c n))
        → (b : List Ix) (n : ℕ) → length b ≤ length k → IsHeld elements (product_weight exact s t w v) d (product_term s t f g b n)
    product_held [] t k f g r h j b n e = held_prod w v d _ _ (h [] n (N.le_refl 0)) (j b n (N.le_trans e r))
    product_held (m ∷ s) [] k f g r h j b n e = held_prod w v d _ _ (h b n (N.le_trans e r)) (j [] n (N.le_refl 0))
    product_held (m ∷ s) (l ∷ t) k f g r h j b n e = dot_held (m ∷ s) (l ∷ t) k f g r h j b n e

    two_held : (op : Op2) (s t k : List ℕ) (f g : Lowered) → TwoRank op s t k → ((c : List Ix) (n : ℕ) → length c ≤ length s → IsHeld elements w d (f c n)) → ((c : List Ix) (n : ℕ) → length c ≤ length t → IsHeld elements v d (g c n))
        → (b : List Ix) (n : ℕ) → length b ≤ length k → IsHeld elements (two_operands exact op s t w v) d (two_term op s t f g b n)
    two_held Sum s t k f g r h j b n e = held_sum w v d _ _ (h b n (N.le_trans e r.0)) (j b n (N.le_trans e r.1))
    two_held Product s t k f g r h j b n e = product_held s t k f g r h j b n e
    two_held Dot s t k f g r h j b n e = dot_held s t k f g r h j b n e
    two_held Inner s t k f g r h j b n e =
        components_held (times_step w v) d s 0 (λ c m. prod (f c m) (g c m))
        (λ c m i. held_prod w v d _ _ (h c m (omega (arith, i))) (j c m (omega (arith, i, r)))) n
    two_held Outer s t k f g r h j b n e = front_held s t f g h j b n (length k) e r
    two_held Cross s t k f g r h j b n e =
        rotated_held (times_step w v) d (times_sound w v p u) q (λ x y. prod (f (Fixed x ∷ []) n) (g (Fixed y ∷ []) n))
        (λ x y. held_prod w v d _ _ (h (Fixed x ∷ []) n r.0) (j (Fixed y ∷ []) n r.1)) b n

  power_held : (w : Weight) (d : ℕ) (t : Term) → 1 ≤ d → IsHeld elements w d t → (n : ℕ) → IsHeld elements (power_weight exact w n) d (power_term t n)
  power_held w d t q x zero = held_delta d q (Fixed 0) (Fixed 0)
  power_held w d t q x (suc zero) = x
  power_held w d t q x (suc (suc n)) = held_prod _ w d _ t (power_held w d t q x (suc n)) x

  identity_held : (d : ℕ) → 1 ≤ d → (b : List Ix) → IsHeld elements one_step d (identity_term b)
  identity_held d q [] = held_delta d q (Fixed 0) (Fixed 1)
  identity_held d q (i ∷ []) = held_delta d q (Fixed 0) (Fixed 1)
  identity_held d q (i ∷ j ∷ []) = held_delta d q i j
  identity_held d q (i ∷ j ∷ k ∷ b) = held_delta d q (Fixed 0) (Fixed 1)

  chosen_held : (w : Weight) (d : ℕ) (f : List Ix → Terms) (m : ℕ) → ((c : List Ix) → length c ≤ m - 1 → AreHeld elements w d (f c))
      → (b : List Ix) (n : ℕ) → length b ≤ m → IsHeld elements w d (chosen_term f b n)
  chosen_held w d f m h [] n e = held_nothing w d _ n (held_pick w d (Fixed 0) (f []) (h [] (omega arith)))
  chosen_held w d f m h (i ∷ b) n e = held_pick w d i (f b) (h b (omega (arith, e)))

  -- ---- sub-elements
  one_bounds : (w : Weight) → IsSound w → w.rmin ≡ 0 → Bounds w one_step
  one_bounds w p e = record {
    cost = p.cost;
    deg = omega arith;
    g = p.g;
    f = omega arith;
    rmin = N.le_of_eq e;
    rmax = omega arith;
    s = p.s;
    den = N.one-dvd w.den;
    fac = N.one-dvd w.fac;
    num = (let h = p.parts in omega (arith, h));
  }

  no_derivative : (ps : List Scalar) → (parts_weight ps).rmin ≡ 0
  no_derivative [] = refl
  no_derivative (x ∷ ps) = no_derivative ps

  module _ (fn : Function) (d : ℕ) (q : 1 ≤ d) (along : function_directions elements fn ≤ d) where
    some_held : (j n : ℕ) (f : ℕ → Term) → ((j : ℕ) → IsHeld elements (function_weight elements fn) d (f j)) → AreHeld elements (function_weight elements fn) d (terms_from j n f)
    some_held j zero f h = record {
      bounds = one_bounds (function_weight elements fn) (parts_sound (scalars_in (slice_get elements fn.element))) (no_derivative (scalars_in (slice_get elements fn.element)));
      directions = q;
    }
    some_held j (suc zero) f h = held_last (function_weight elements fn) d (f j) q (h j)
    some_held j (suc (suc n)) f h =
        held_item (function_weight elements fn) d (f j) _ _ (parts_sound (scalars_in (slice_get elements fn.element))) (h j) (some_held (suc j) (suc n) f h)

    place_held : (before : ℕ) (s : List ℕ) (k : ℕ) (b : List Ix) (n : ℕ) → IsHeld elements (function_weight elements fn) d (place_term fn before s k b n)
    place_held before [] k [] n = held_fun d fn (Fixed (before + k) ∷ []) along
    place_held before [] k (i ∷ b) n = held_nothing (function_weight elements fn) d _ n (held_fun d fn [] along)
    place_held before (m ∷ s) k [] n = held_nothing (function_weight elements fn) d _ n (held_fun d fn [] along)
    place_held before (m ∷ s) k (i ∷ b) n =
        held_pick (function_weight elements fn) d i _ (some_held 0 m _ (λ j. place_held before s (k * m + j) b n))

    piece_held : (p : Option Piece) (b : List Ix) (n : ℕ) → IsHeld elements (function_weight elements fn) d (piece_term p fn b n)
    piece_held None b n = held_nothing (function_weight elements fn) d _ n (held_fun d fn [] along)
    piece_held (Some p) b n = place_held p.before (element_shape p.space) 0 b n

  -- ---- trees
  module _ (share : ℕ → Ratio) (shares : AreShares share) where
    mutual
      pub lower_held : (e : Typed) → IsFitting elements e → (r : Renaming) (b : List Ix) (n : ℕ) → length b ≤ length (shape_of e)
          → IsHeld elements (weight_with exact elements e) (directions (own_kind e).cell) (lower share elements e r b n)
      lower_held (number k c) h r b n j = record { bounds = bounds_refl _; directions = directions_positive k.cell }
      lower_held (identity k m) h r b n j = identity_held (directions k.cell) (directions_positive k.cell) b
      lower_held (function k f) h r b n j = held_fun (directions k.cell) f b h
      lower_held (piece k f m) h r b n j = piece_held f (directions k.cell) (directions_positive k.cell) h (sub_element (slice_get elements f.element) m) b n
      lower_held (one k op a) h r b n j =
          let d : ℕ = directions (own_kind a).cell in
          held_in _ (directions k.cell) d _ h.1
          (one_held share shares d (directions_positive (own_kind a).cell) (weight_with exact elements a) (tree_sound elements a) op (shape_of a) k.shape h.0
          (λ c m. lower share elements a r c m) (λ c m i. lower_held a h.2 r c m i) b n j)
      lower_held (two k op a e) h r b n j =
          let d : ℕ = directions k.cell in
          names_held _ d (summed op (free_of a) (free_of e)) _
          (λ r n. two_held (weight_with exact elements a) (weight_with exact elements e) (tree_sound elements a) (tree_sound elements e) (directions k.cell) (directions_positive k.cell)
          op (shape_of a) (shape_of e) k.shape (λ c m. lower share elements a r c m) (λ c m. lower share elements e r c m) h.0
          (λ c m i. held_in _ (directions k.cell) _ _ h.1 (lower_held a h.3 r c m i))
          (λ c m i. held_in _ (directions k.cell) _ _ h.2 (lower_held e h.4 r c m i)) b n j) r n
      lower_held (power k a m) h r b n j =
          power_held (weight_with exact elements a) (directions k.cell) _ (directions_positive k.cell) (held_in _ (directions k.cell) _ _ h.0 (lower_held a h.1 r [] n (omega arith))) m
      lower_held (index k a at) h r b n j =
          held_in _ (directions k.cell) (directions (own_kind a).cell) _ h.1
          (names_held (weight_with exact elements a) (directions (own_kind a).cell) (repeated (free_of a ++ named at (shape_of a))) _
          (λ r n. lower_held a h.2 r (all_renamed r at ++ b) n (let e = renamed_append_length r at b in let i = h.0 in omega (arith, e, i, j))) r n)
      lower_held (partial k a i) h r b n j =
          held_in _ (directions k.cell) (directions (own_kind a).cell) _ h.1
          (names_held (space_step (directions (own_kind a).cell) (weight_with exact elements a)) (directions (own_kind a).cell) (repeated (free_of a ++ direction i (own_kind a).cell)) _
          (λ r n. held_dx (weight_with exact elements a) (directions (own_kind a).cell) _ (renamed r i) (lower_held a h.2 r b n (N.le_trans j h.0))) r n)
      lower_held (tensor k a by) h r b n j = held_in _ (directions k.cell) _ _ h.0 (lower_held a h.1 (with_indices by b r) [] n (omega arith))
      lower_held (list k ts) h r b n j =
          chosen_held (list_weight exact elements ts) (directions k.cell) (λ c. lower_all share elements ts r c n) (length k.shape) (λ c i. all_held k ts h r c n i) b n j
      lower_held (variable k l a) h r b n j =
          held_mark (weight_with exact elements a) (directions k.cell) _ l (length (shape_of a)) b (N.le_trans j h.0)
          (held_in _ (directions k.cell) _ _ h.1 (lower_held a h.2 r b n (N.le_trans j h.0)))
      lower_held (diff k l by a) h r b n j =
          held_raise (weight_with exact elements a) (directions k.cell) _ l (back (shape_of a) b)
          (held_in _ (directions k.cell) _ _ h.0 (lower_held a h.1 r (front (shape_of a) b) n (front_length (shape_of a) b)))

      all_held : (k : Kind) (ts : TypedList) → AreFitting elements k ts → (r : Renaming) (b : List Ix) (n : ℕ) → length b ≤ length k.shape - 1
          → AreHeld elements (list_weight exact elements ts) (directions k.cell) (lower_all share elements ts r b n)
      all_held k no_items h r b n j = record { bounds = bounds_refl one_step; directions = directions_positive k.cell }
      all_held k (item t no_items) h r b n j =
          held_last _ (directions k.cell) _ (directions_positive k.cell)
          (held_in _ (directions k.cell) _ _ h.1 (lower_held t h.2 r b n (let i = h.0 in omega (arith, i, j))))
      all_held k (item t (item u ts)) h r b n j =
          let x : IsHeld elements (weight_with exact elements t) (directions k.cell) (lower share elements t r b n) =
          held_in _ (directions k.cell) _ _ h.1 (lower_held t h.2 r b n (let i = h.0 in omega (arith, i, j))) in
          let y : AreHeld elements (list_weight exact elements (item u ts)) (directions k.cell) (lower_all share elements (item u ts) r b n) = all_held k (item u ts) h.3 r b n j in
          record {
            bounds = join_bounds _ _ _ _ (term_sound elements (lower share elements t r b n)) x.bounds y.bounds;
            directions = N.max-le x.directions y.directions;
          }

    pub lower_bounds : (e : Typed) → IsFitting elements e → (r : Renaming) (b : List Ix) (n : ℕ) → length b ≤ length (shape_of e)
        → Bounds (weight_with exact elements e) (term_weight elements (lower share elements e r b n))
    lower_bounds e h r b n j = (lower_held e h r b n j).bounds
