-- The normal form of an expression has its meaning
use Rattle.std.proofs.Common.{◌≡◌, ℕ, zero, suc, ℤ, pos, negsuc, Bool, true, false, List, [], ◌∷◌, refl, sym, ◌∙◌, ap, ap₂}
use Rattle.algebra.specs.Ring.{Ring, integer}
use Rattle.algebra.specs.Solver.{Expr, at, num, ◌⊕◌, ◌⊗◌, ◌⊖◌, minus, unity, Tree, leaf, node, is_nil, join, add_leaf, plus, scaled_all, scaled, each, shifted, times, variable, norm, is_leaf_zero, both, is_zero, first, rest, value_at, meaning, value}
use Rattle.algebra.specs.RingLaws as L
use Rattle.algebra.specs.IntegerMap as I

both_true : (a b : Bool) → both a b ≡ true → (a ≡ true) × (b ≡ true)
both_true true b e = (refl, e)
both_true false b e = (e, cc)

module _ {R : Type 0} (K : Ring R) where
  open K use {zero as nil, one, add, mul, neg}

  value-nil : (t : Tree) (xs : List R) → is_nil t ≡ true → value K t xs ≡ nil
  value-nil (leaf (pos zero)) xs e = refl
  value-nil (leaf (pos (suc n))) xs e = cc
  value-nil (leaf (negsuc n)) xs e = cc
  value-nil (node p q) xs e = cc

  value-join : (p q : Tree) (xs : List R) → value K (join p q) xs ≡ value K (node p q) xs
  value-join (leaf c) q xs = go (is_nil q) refl
    where
      go : (b : Bool) → is_nil q ≡ b → value K (elim b [ true ↦ leaf c | false ↦ node (leaf c) q ]) xs ≡ value K (node (leaf c) q) xs
      go true e = sym (ap (add (integer K c)) (ap (mul (first K xs)) (value-nil q xs e) ∙ L.mul-zero K _) ∙ K.add_zero _)
      go false e = refl
  value-join (node r s) q xs = refl

  value-add_leaf : (a : ℤ) (t : Tree) (xs : List R) → value K (add_leaf a t) xs ≡ add (integer K a) (value K t xs)
  value-add_leaf a (leaf b) xs = I.integer-add K a b
  value-add_leaf a (node p q) xs = ap (λ x. add x (mul (first K xs) (value K q xs))) (value-add_leaf a p (rest xs)) ∙ K.add_assoc _ _ _

  value-plus : (s t : Tree) (xs : List R) → value K (plus s t) xs ≡ add (value K s xs) (value K t xs)
  value-plus (leaf a) t xs = value-add_leaf a t xs
  value-plus (node p q) (leaf b) xs =
      ap (λ x. add x (mul (first K xs) (value K q xs))) (value-add_leaf b p (rest xs)) ∙ K.add_assoc _ _ _ ∙ K.add_comm _ _
  value-plus (node p q) (node r s) xs =
      value-join (plus p r) (plus q s) xs
      ∙ ap₂ add (value-plus p r (rest xs)) (ap (mul (first K xs)) (value-plus q s xs) ∙ K.mul_add _ _ _)
      ∙ L.add_medial K _ _ _ _

  value-scaled_all : (a : ℤ) (t : Tree) (xs : List R) → value K (scaled_all a t) xs ≡ mul (integer K a) (value K t xs)
  value-scaled_all a (leaf b) xs = I.integer-mul K a b
  value-scaled_all a (node p q) xs =
      ap₂ add (value-scaled_all a p (rest xs)) (ap (mul (first K xs)) (value-scaled_all a q xs) ∙ L.mul_left_comm K _ _ _)
      ∙ sym (K.mul_add _ _ _)

  value-scaled : (a : ℤ) (t : Tree) (xs : List R) → value K (scaled a t) xs ≡ mul (integer K a) (value K t xs)
  value-scaled (pos zero) t xs = sym (L.zero-mul K _)
  value-scaled (pos (suc n)) t xs = value-scaled_all (pos (suc n)) t xs
  value-scaled (negsuc n) t xs = value-scaled_all (negsuc n) t xs

  value-shifted : (t : Tree) (xs : List R) → value K (shifted t) xs ≡ mul (first K xs) (value K t xs)
  value-shifted t xs = value-join (leaf (pos 0)) t xs ∙ L.zero-add K _

  value-each : (f : Tree → Tree) (m : R) (xs : List R) → ((t : Tree) → value K (f t) (rest xs) ≡ mul m (value K t (rest xs)))
      → (t : Tree) → value K (each f t) xs ≡ mul m (value K t xs)
  value-each f m xs h (leaf c) = value-join (f (leaf c)) (leaf (pos 0)) xs ∙ ap₂ add (h (leaf c)) (L.mul-zero K (first K xs)) ∙ K.add_zero _
  value-each f m xs h (node p q) =
      value-join (f p) (each f q) xs
      ∙ ap₂ add (h p) (ap (mul (first K xs)) (value-each f m xs h q) ∙ L.mul_left_comm K _ _ _) ∙ sym (K.mul_add _ _ _)

  times_node : (p q t : Tree) (xs : List R) → ((u : Tree) → value K (times p u) (rest xs) ≡ mul (value K p (rest xs)) (value K u (rest xs)))
      → value K (times q t) xs ≡ mul (value K q xs) (value K t xs)
      → value K (times (node p q) t) xs ≡ mul (value K (node p q) xs) (value K t xs)
  times_node p q t xs hp hq = go (is_nil t) refl
    where
      go : (b : Bool) → is_nil t ≡ b
          → value K (elim b [ true ↦ leaf (pos 0) | false ↦ plus (each (times p) t) (shifted (times q t)) ]) xs ≡ mul (value K (node p q) xs) (value K t xs)
      go true e = sym (ap (mul (value K (node p q) xs)) (value-nil t xs e) ∙ L.mul-zero K _)
      go false e =
          value-plus (each (times p) t) (shifted (times q t)) xs
          ∙ ap₂ add
          (value-each (times p) (value K p (rest xs)) xs hp t)
          (value-shifted (times q t) xs ∙ ap (mul (first K xs)) hq ∙ sym (K.mul_assoc _ _ _))
          ∙ sym (L.add-mul K _ _ _)

  value-times : (s t : Tree) (xs : List R) → value K (times s t) xs ≡ mul (value K s xs) (value K t xs)
  value-times (leaf a) t xs = value-scaled a t xs
  value-times (node p q) t xs =
      times_node p q t xs (λ u. value-times p u (rest xs)) (value-times q t xs)

  value-variable : (n : ℕ) (xs : List R) → value K (variable n) xs ≡ value_at K xs n
  value-variable zero [] = ap (add nil) (L.zero-mul K _) ∙ K.add_zero nil
  value-variable zero (x ∷ xs) = L.zero-add K _ ∙ ap (mul x) (K.add_zero one) ∙ K.mul_one x
  value-variable (suc n) [] = ap₂ add (value-variable n []) (L.zero-mul K _) ∙ K.add_zero _ ∙ none n
    where
      none : (n : ℕ) → value_at K [] n ≡ nil
      none n = refl
  value-variable (suc n) (x ∷ xs) = ap₂ add (value-variable n xs) (L.mul-zero K x) ∙ K.add_zero _

  value-opposite : (t : Tree) (xs : List R) → value K (scaled (negsuc 0) t) xs ≡ neg (value K t xs)
  value-opposite t xs =
      value-scaled (negsuc 0) t xs ∙ ap (λ x. mul (neg x) (value K t xs)) (K.add_zero one) ∙ L.neg_one-mul K _

  pub value-norm : (e : Expr) (xs : List R) → value K (norm e) xs ≡ meaning K xs e
  value-norm (at n) xs = value-variable n xs
  value-norm (num c) xs = refl
  value-norm (a ⊕ b) xs = value-plus (norm a) (norm b) xs ∙ ap₂ add (value-norm a xs) (value-norm b xs)
  value-norm (a ⊗ b) xs = value-times (norm a) (norm b) xs ∙ ap₂ mul (value-norm a xs) (value-norm b xs)
  value-norm (a ⊖ b) xs =
      value-plus (norm a) (scaled (negsuc 0) (norm b)) xs
      ∙ ap₂ add (value-norm a xs) (value-opposite (norm b) xs ∙ ap neg (value-norm b xs))
  value-norm (minus a) xs = value-opposite (norm a) xs ∙ ap neg (value-norm a xs)
  value-norm unity xs = K.add_zero one

  zero_leaf : (c : ℤ) → is_leaf_zero c ≡ true → integer K c ≡ nil
  zero_leaf (pos zero) e = refl
  zero_leaf (pos (suc n)) e = cc
  zero_leaf (negsuc n) e = cc

  value-zero : (t : Tree) (xs : List R) → is_zero t ≡ true → value K t xs ≡ nil
  value-zero (leaf c) xs e = zero_leaf c e
  value-zero (node p q) xs e =
      let two = both_true (is_zero p) (is_zero q) e in
      ap₂ add (value-zero p (rest xs) two.0) (ap (mul (first K xs)) (value-zero q xs two.1) ∙ L.mul-zero K _) ∙ K.add_zero nil

  -- an equation between two expressions, by computing
  pub ring : (xs : List R) (a b : Expr) → is_zero (norm (a ⊖ b)) ≡ true → meaning K xs a ≡ meaning K xs b
  ring xs a b e = L.same_from_difference K _ _ (sym (value-norm (a ⊖ b) xs) ∙ value-zero (norm (a ⊖ b)) xs e)

  -- a consequence of one equation: the two sides differ by c times its difference
  pub ring_from : (xs : List R) (a b c x y : Expr) → meaning K xs x ≡ meaning K xs y → is_zero (norm (a ⊖ b ⊖ c ⊗ (x ⊖ y))) ≡ true → meaning K xs a ≡ meaning K xs b
  ring_from xs a b c x y h e =
      L.same_from_difference K _ _
      (sym (L.add_right_cancel K _ _ (neg (mul (meaning K xs c) (add (meaning K xs x) (neg (meaning K xs y)))))
      (L.zero-add K _
      ∙ ap neg (ap (mul (meaning K xs c)) (ap (λ u. add u (neg (meaning K xs y))) h ∙ K.add_neg _) ∙ L.mul-zero K _)
      ∙ L.neg-zero K
      ∙ sym (sym (value-norm (a ⊖ b ⊖ c ⊗ (x ⊖ y)) xs) ∙ value-zero (norm (a ⊖ b ⊖ c ⊗ (x ⊖ y))) xs e))))
