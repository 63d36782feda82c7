-- Each operator, over arbitrary components, keeps the meaning
use Rattle.std.proofs.Common.{◌≡◌, ℕ, zero, suc, ◌≤◌, max, List, [], ◌∷◌, length, refl, sym, ◌∙◌, ap, ap₂, arith}
use Rattle.algebra.specs.RingLaws as L
use Rattle.ratio.specs.declared.reduced.Ratio.{Ratio}
use Rattle.ratio.specs.Value.{fraction_of}
use Rattle.calculus.specs.Polynomial.{Polynomial, polynomials, nil, plus, times, negative, minus, constant, power as raised_to, times_comm, times-one}
use Rattle.ufl_tree.specs.declared.function.Free.{Free}
use Rattle.ufl_tree.specs.declared.function.Ix.{Ix}
use Rattle.ufl_tree.specs.declared.function.Ix.TheVariants.{Fixed, Named}
use Rattle.ufl_tree.specs.declared.tree.Op1.{Op1}
use Rattle.ufl_tree.specs.declared.tree.Op1.TheVariants.{Neg, Grad, NablaGrad, Div, NablaDiv, Curl, Transpose, Trace, Sym, Skew, Dev}
use Rattle.ufl_tree.specs.declared.tree.Op2.{Op2}
use Rattle.ufl_tree.specs.declared.tree.Op2.TheVariants.{Sum, Product, Dot, Inner, Outer, Cross}
use Rattle.ufl_meaning.specs.Environment.{Environment}
use Rattle.ufl_tree.specs.Indices.{Names, with_name, index_value, index_values, front, back, followed_by, first_size, last_size}
use Rattle.ufl_meaning.specs.Meaning.{meaning, item_meaning}
use Rattle.ufl_meaning.specs.Operators.{Components, along, sum_names, sum_components, one_in, unit_or_nil, identity_value, grad_value, rotated, scalar_curl, curl_value, trace_value, matrix_value, one_value, dot_value, product_value, two_value}
use Rattle.ufl_tree.specs.Places.{Table}
use Rattle.ufl_tree.specs.Term.{Term, num, sum, prod, dx, delta, Terms}
use Rattle.ufl_meaning.specs.Value.{chosen_value}
use Rattle.lower.specs.Renaming.{Renaming, with_index}
use Rattle.lower.specs.Lowering.{Lowered, over_names, over_components, grad_term, minus_term, rotated_term, curl_term, matrix_term, trace_term, one_term, dot_term, product_term, two_term, power_term, identity_term, chosen_term}
use Rattle.lower.specs.Keeping.{AreBelow, IsRenamed, IsShare, HasShares}
use Rattle.lower.proofs.NameLaws.{own_less, own_value, indices_kept, all_below_more, front_values, back_values, front_below, back_below, followed_values, followed_below, sum_same, renamed_more, renamed_bound}

abbrev head_of : List ℕ → ℕ
head_of [] = 0
head_of (x ∷ xs) = x

abbrev tail_of : List ℕ → List ℕ
tail_of [] = []
tail_of (x ∷ xs) = xs

max_one : (n : ℕ) → 1 ≤ n → max n 1 ≡ n
max_one n h = omega (arith, h)

module _ (elements : Table) (m : ℕ) (env : Environment) where
  -- f has the meaning g in each component
  abbrev pub Means : Names → Renaming → Lowered → Components → Type 0
  Means w r f g = (n : ℕ) (v : Names) → IsRenamed m n w v r → (b : List Ix) → AreBelow n b → meaning elements (f b n) env v ≡ g (index_values v b)

  -- ---- gradients
  grad_kept : (n : ℕ) (v : Names) (f : Lowered) (g : Components)
      → ((b : List Ix) → AreBelow n b → meaning elements (f b n) env v ≡ g (index_values v b)) → (b : List Ix) → AreBelow n b
      → meaning elements (grad_term f b n) env v ≡ grad_value g (index_values v b)
  grad_kept n v f g h [] B = refl
  grad_kept n v f g h (i ∷ []) B = ap (along (index_value v i)) (h [] tt)
  grad_kept n v f g h (i ∷ j ∷ b) B = grad_kept n v (λ c k. f (i ∷ c) k) (λ c. g (index_value v i ∷ c)) (λ c C. h (i ∷ c) (B.0, C)) (j ∷ b) B.1

  -- ---- three differences
  rotated_kept : (n : ℕ) (v : Names) (h : ℕ → ℕ → Term) (g : ℕ → ℕ → Polynomial)
      → ((j k : ℕ) → meaning elements (h j k) env v ≡ g j k) → (i : Ix)
      → meaning elements (rotated_term h (i ∷ []) n) env v ≡ rotated g (index_value v i)
  rotated_kept n v h g e i = at_number (index_value v i)
    where
      difference_kept : (j k : ℕ) → meaning elements (minus_term (h j k) (h k j)) env v ≡ minus (g j k) (g k j)
      difference_kept j k = ap₂ minus (e j k) (e k j)

      at_number : (k : ℕ) → meaning elements (rotated_term h (Fixed k ∷ []) n) env v ≡ rotated g k
      at_number zero = difference_kept 1 2
      at_number (suc zero) = difference_kept 2 0
      at_number (suc (suc zero)) = difference_kept 0 1
      at_number (suc (suc (suc k))) = refl

  scalar_curl_kept : (n : ℕ) (v : Names) (f : Lowered) (p : Polynomial) → meaning elements (f [] n) env v ≡ p → (i : Ix)
      → meaning elements (curl_term [] f (i ∷ []) n) env v ≡ scalar_curl p (index_value v i)
  scalar_curl_kept n v f p e i = at_number (index_value v i)
    where
      at_number : (k : ℕ) → meaning elements (curl_term [] f (Fixed k ∷ []) n) env v ≡ scalar_curl p k
      at_number zero = ap (along 1) e
      at_number (suc zero) = ap (λ q. negative (along 0 q)) e
      at_number (suc (suc k)) = refl

  curl_kept : (n : ℕ) (v : Names) (s : List ℕ) (f : Lowered) (g : Components) → length s ≤ 1
      → ((b : List Ix) → AreBelow n b → meaning elements (f b n) env v ≡ g (index_values v b)) → (b : List Ix)
      → meaning elements (curl_term s f b n) env v ≡ curl_value s g (index_values v b)
  curl_kept n v [] f g k h [] = refl
  curl_kept n v [] f g k h (i ∷ []) = scalar_curl_kept n v f (g []) (h [] tt) i
  curl_kept n v [] f g k h (i ∷ j ∷ b) = refl
  curl_kept n v (d ∷ []) f g k h [] = ap₂ minus (ap (along 0) (h (Fixed 1 ∷ []) (tt, tt))) (ap (along 1) (h (Fixed 0 ∷ []) (tt, tt)))
  curl_kept n v (d ∷ []) f g k h (i ∷ []) =
      rotated_kept n v (λ j k. dx (Fixed j) (f (Fixed k ∷ []) n)) (λ j k. along j (g (k ∷ []))) (λ j k. ap (along j) (h (Fixed k ∷ []) (tt, tt))) i
  curl_kept n v (d ∷ []) f g k h (i ∷ j ∷ b) = refl
  curl_kept n v (d ∷ e ∷ s) f g k h b = absurd (omega (arith, k))

  -- ---- matrices
  matrix_kept : (n : ℕ) (v : Names) (h : Ix → Ix → Term) (g : ℕ → ℕ → Polynomial) (b : List Ix) → AreBelow n b
      → ((i j : Ix) → AreBelow n (i ∷ j ∷ []) → meaning elements (h i j) env v ≡ g (index_value v i) (index_value v j))
      → meaning elements (matrix_term h b n) env v ≡ matrix_value g (index_values v b)
  matrix_kept n v h g [] B e = refl
  matrix_kept n v h g (i ∷ []) B e = refl
  matrix_kept n v h g (i ∷ j ∷ []) B e = e i j B
  matrix_kept n v h g (i ∷ j ∷ k ∷ b) B e = refl

  trace_kept : (w : Names) (r : Renaming) (d : ℕ) (f : Lowered) (g : Components) → Means w r f g → (n : ℕ) (v : Names) → IsRenamed m n w v r
      → meaning elements (trace_term d f n) env v ≡ trace_value d g
  trace_kept w r d f g h n v R =
      sum_same d _ _ (λ k.
      h (suc n) (with_name n k v) (renamed_more m n w v r k R) (Named n ∷ Named n ∷ []) (own_less n, (own_less n, tt))
      ∙ ap (λ x. g (x ∷ x ∷ [])) (own_value n k v))

  -- the mean part of a matrix: of a matrix without rows it is 0
  part_kept : (share : ℕ → Ratio) (d : ℕ) → (1 ≤ d → IsShare share d) → (p : Polynomial) → (d ≡ 0 → p ≡ nil)
      → times p (constant (fraction_of (share (max d 1)))) ≡ times p (one_in d)
  part_kept share zero h p e =
      ap (λ q. times q (constant (fraction_of (share 1)))) (e refl) ∙ L.zero-mul polynomials _ ∙ sym (ap (λ q. times q (one_in 0)) (e refl) ∙ L.zero-mul polynomials _)
  part_kept share (suc d) h p e = ap (λ x. times p (constant (fraction_of (share x)))) (max_one (suc d) (omega arith)) ∙ ap (λ x. times p (constant x)) (h (omega arith))

  no_trace : (d : ℕ) (g : Components) → d ≡ 0 → trace_value d g ≡ nil
  no_trace d g e = ap (λ k. trace_value k g) e

  module _ (share : ℕ → Ratio) where
    pub one_kept : (w : Names) (r : Renaming) (op : Op1) (s : List ℕ) → HasShares share op s → (f : Lowered) (g : Components)
        → Means w r f g → Means w r (one_term share op s f) (one_value op s g)
    one_kept w r Neg s H f g h n v R b B = ap negative (h n v R b B)
    one_kept w r Grad s H f g h n v R b B = grad_kept n v f g (h n v R) b B
    one_kept w r NablaGrad s H f g h n v R [] B = refl
    one_kept w r NablaGrad s H f g h n v R (i ∷ b) B = ap (along (index_value v i)) (h n v R b B.1)
    one_kept w r Div s H f g h n v R b B =
        sum_same (last_size s) _ _ (λ k.
        ap₂ along (own_value n k v)
        (h (suc n) (with_name n k v) (renamed_more m n w v r k R) (followed_by b (Named n)) (followed_below (suc n) b (Named n) (all_below_more n b B) (own_less n))
        ∙ ap g (followed_values (with_name n k v) b (Named n) ∙ ap₂ followed_by (indices_kept n k v b B) (own_value n k v))))
    one_kept w r NablaDiv s H f g h n v R b B =
        sum_same (first_size s) _ _ (λ k.
        ap₂ along (own_value n k v)
        (h (suc n) (with_name n k v) (renamed_more m n w v r k R) (Named n ∷ b) (own_less n, all_below_more n b B)
        ∙ ap g (ap₂ (λ x xs. x ∷ xs) (own_value n k v) (indices_kept n k v b B))))
    one_kept w r Curl s H f g h n v R b B = curl_kept n v s f g H (h n v R) b
    one_kept w r Transpose s H f g h n v R b B =
        matrix_kept n v (λ i j. f (j ∷ i ∷ []) n) (λ i j. g (j ∷ i ∷ [])) b B (λ i j C. h n v R (j ∷ i ∷ []) (C.1.0, (C.0, tt)))
    one_kept w r Trace s H f g h n v R b B = trace_kept w r (first_size s) f g h n v R
    one_kept w r Sym s H f g h n v R b B =
        matrix_kept n v (λ i j. prod (num (share 2)) (sum (f (i ∷ j ∷ []) n) (f (j ∷ i ∷ []) n))) (λ i j. times (one_in 2) (plus (g (i ∷ j ∷ [])) (g (j ∷ i ∷ [])))) b B
        (λ i j C. ap₂ times (ap constant H) (ap₂ plus (h n v R (i ∷ j ∷ []) C) (h n v R (j ∷ i ∷ []) (C.1.0, (C.0, tt)))))
    one_kept w r Skew s H f g h n v R b B =
        matrix_kept n v (λ i j. prod (num (share 2)) (minus_term (f (i ∷ j ∷ []) n) (f (j ∷ i ∷ []) n))) (λ i j. times (one_in 2) (minus (g (i ∷ j ∷ [])) (g (j ∷ i ∷ [])))) b B
        (λ i j C. ap₂ times (ap constant H) (ap₂ minus (h n v R (i ∷ j ∷ []) C) (h n v R (j ∷ i ∷ []) (C.1.0, (C.0, tt)))))
    one_kept w r Dev s H f g h n v R b B =
        matrix_kept n v
        (λ i j. minus_term (f (i ∷ j ∷ []) n) (prod (prod (trace_term (first_size s) f n) (num (share (max (first_size s) 1)))) (delta i j)))
        (λ i j. minus (g (i ∷ j ∷ [])) (times (times (trace_value (first_size s) g) (one_in (first_size s))) (unit_or_nil i j))) b B
        (λ i j C.
        ap₂ minus (h n v R (i ∷ j ∷ []) C)
        (ap (λ p. times p (unit_or_nil (index_value v i) (index_value v j)))
        (ap (λ p. times p (constant (fraction_of (share (max (first_size s) 1))))) (trace_kept w r (first_size s) f g h n v R)
        ∙ part_kept share (first_size s) H (trace_value (first_size s) g) (no_trace (first_size s) g))))

  -- ---- two operands
  dot_kept : (w : Names) (r : Renaming) (s : List ℕ) (f f' : Lowered) (g g' : Components)
      → Means w r f g → Means w r f' g' → Means w r (dot_term s f f') (dot_value s g g')
  dot_kept w r [] f f' g g' h h' n v R b B = ap₂ times (h n v R [] tt) (h' n v R b B)
  dot_kept w r (d ∷ s) f f' g g' h h' n v R b B =
      sum_same (last_size (d ∷ s)) _ _ (λ k.
      let v' = with_name n k v in
      let R' = renamed_more m n w v r k R in
      ap₂ times
      (h (suc n) v' R' (followed_by (front s b) (Named n)) (followed_below (suc n) (front s b) (Named n) (all_below_more n (front s b) (front_below s n b B)) (own_less n))
      ∙ ap g (followed_values v' (front s b) (Named n) ∙ ap₂ followed_by (indices_kept n k v (front s b) (front_below s n b B) ∙ front_values s v b) (own_value n k v)))
      (h' (suc n) v' R' (Named n ∷ back s b) (own_less n, all_below_more n (back s b) (back_below s n b B))
      ∙ ap g' (ap₂ (λ x xs. x ∷ xs) (own_value n k v) (indices_kept n k v (back s b) (back_below s n b B) ∙ back_values s v b))))

  product_kept : (w : Names) (r : Renaming) (s t : List ℕ) (f f' : Lowered) (g g' : Components)
      → Means w r f g → Means w r f' g' → Means w r (product_term s t f f') (product_value s t g g')
  product_kept w r [] t f f' g g' h h' n v R b B = ap₂ times (h n v R [] tt) (h' n v R b B)
  product_kept w r (d ∷ s) [] f f' g g' h h' n v R b B = ap₂ times (h n v R b B) (h' n v R [] tt)
  product_kept w r (d ∷ s) (e ∷ t) f f' g g' h h' n v R b B = dot_kept w r (d ∷ s) f f' g g' h h' n v R b B

  -- a sum over all components: p has the indices that are bound so far, and q their values
  components_kept : (w : Names) (r : Renaming) (s : List ℕ) (F : Lowered) (G : Components) (p : List Ix) (q : List ℕ)
      → ((n : ℕ) (v : Names) → IsRenamed m n w v r → AreBelow n p → index_values v p ≡ q → (b : List Ix) → AreBelow n b → meaning elements (F b n) env v ≡ G (index_values v b))
      → (n : ℕ) (v : Names) → IsRenamed m n w v r → AreBelow n p → index_values v p ≡ q → meaning elements (over_components s F n) env v ≡ sum_components s G
  components_kept w r [] F G p q h n v R P e = h n v R P e [] tt
  components_kept w r (d ∷ s) F G p q h n v R P e =
      sum_same d _ _ (λ k.
      components_kept w r s (λ c n'. F (Named n ∷ c) n') (λ c. G (k ∷ c)) (Named n ∷ p) (k ∷ q)
      (λ n' v' R' P' e' b B. h n' v' R' P'.1 (ap tail_of e') (Named n ∷ b) (P'.0, B) ∙ ap (λ x. G (x ∷ index_values v' b)) (ap head_of e'))
      (suc n) (with_name n k v) (renamed_more m n w v r k R) (own_less n, all_below_more n p P) (ap₂ (λ x xs. x ∷ xs) (own_value n k v) (indices_kept n k v p P ∙ e)))

  cross_kept : (w : Names) (r : Renaming) (s t : List ℕ) (f f' : Lowered) (g g' : Components)
      → Means w r f g → Means w r f' g' → Means w r (two_term Cross s t f f') (two_value Cross s t g g')
  cross_kept w r s t f f' g g' h h' n v R [] B = refl
  cross_kept w r s t f f' g g' h h' n v R (i ∷ []) B =
      rotated_kept n v (λ j k. prod (f (Fixed j ∷ []) n) (f' (Fixed k ∷ []) n)) (λ j k. times (g (j ∷ [])) (g' (k ∷ [])))
      (λ j k. ap₂ times (h n v R (Fixed j ∷ []) (tt, tt)) (h' n v R (Fixed k ∷ []) (tt, tt))) i
  cross_kept w r s t f f' g g' h h' n v R (i ∷ j ∷ b) B = refl

  pub two_kept : (w : Names) (r : Renaming) (op : Op2) (s t : List ℕ) (f f' : Lowered) (g g' : Components)
      → Means w r f g → Means w r f' g' → Means w r (two_term op s t f f') (two_value op s t g g')
  two_kept w r Sum s t f f' g g' h h' n v R b B = ap₂ plus (h n v R b B) (h' n v R b B)
  two_kept w r Product s t f f' g g' h h' n v R b B = product_kept w r s t f f' g g' h h' n v R b B
  two_kept w r Dot s t f f' g g' h h' n v R b B = dot_kept w r s f f' g g' h h' n v R b B
  two_kept w r Inner s t f f' g g' h h' n v R b B =
      components_kept w r s (λ c k. prod (f c k) (f' c k)) (λ c. times (g c) (g' c)) [] [] (λ n v R P e b B. ap₂ times (h n v R b B) (h' n v R b B)) n v R tt refl
  two_kept w r Outer s t f f' g g' h h' n v R b B =
      ap₂ times (h n v R (front s b) (front_below s n b B) ∙ ap g (front_values s v b)) (h' n v R (back s b) (back_below s n b B) ∙ ap g' (back_values s v b))
  two_kept w r Cross s t f f' g g' h h' n v R b B = cross_kept w r s t f f' g g' h h' n v R b B

  -- ---- other nodes
  pub names_kept : (b : List Ix) (c : List ℕ) (xs : List Free) (F : Renaming → ℕ → Term) (G : Names → Polynomial)
      → ((n : ℕ) (v w : Names) (r : Renaming) → IsRenamed m n w v r → AreBelow n b → index_values v b ≡ c → meaning elements (F r n) env v ≡ G w)
      → (n : ℕ) (v w : Names) (r : Renaming) → IsRenamed m n w v r → AreBelow n b → index_values v b ≡ c → meaning elements (over_names xs F r n) env v ≡ sum_names xs G w
  names_kept b c [] F G h n v w r R B e = h n v w r R B e
  names_kept b c (x ∷ xs) F G h n v w r R B e =
      sum_same x.dim _ _ (λ k.
      names_kept b c xs F G h (suc n) (with_name n k v) (with_name x.index k w) (with_index x.index (Named n) r) (renamed_bound m n w v r x.index k R) (all_below_more n b B) (indices_kept n k v b B ∙ e))

  pub identity_kept : (v : Names) (b : List Ix) → meaning elements (identity_term b) env v ≡ identity_value (index_values v b)
  identity_kept v [] = refl
  identity_kept v (i ∷ []) = refl
  identity_kept v (i ∷ j ∷ []) = refl
  identity_kept v (i ∷ j ∷ k ∷ b) = refl

  pub power_kept : (v : Names) (a : Term) (n : ℕ) → meaning elements (power_term a n) env v ≡ raised_to (meaning elements a env v) n
  power_kept v a zero = refl
  power_kept v a (suc zero) = sym (times-one (meaning elements a env v))
  power_kept v a (suc (suc n)) = ap (λ p. times p (meaning elements a env v)) (power_kept v a (suc n)) ∙ times_comm _ _

  pub chosen_kept : (v : Names) (n : ℕ) (F : List Ix → Terms) (G : ℕ → List ℕ → Polynomial)
      → ((j : ℕ) (b : List Ix) → AreBelow n b → item_meaning elements (F b) env v j ≡ G j (index_values v b))
      → (b : List Ix) → AreBelow n b → meaning elements (chosen_term F b n) env v ≡ chosen_value G (index_values v b)
  chosen_kept v n F G h [] B = refl
  chosen_kept v n F G h (i ∷ b) B = h (index_value v i) b B.1
