-- Names and the indices that stand for them
use Rattle.std.proofs.Common.{◌≡◌, ℕ, zero, suc, ◌<◌, ◌==◌, Bool, true, false, List, [], ◌∷◌, ◌++◌, if◌then◌else◌, refl, sym, ◌∙◌, ap, ap₂, arith}
use Rattle.std.proofs.lemmas.Bool.Decides.{nat_tests}
use Rattle.calculus.specs.Polynomial.{Polynomial, plus}
use Rattle.ufl_tree.specs.declared.function.Ix.{Ix}
use Rattle.ufl_tree.specs.declared.function.Ix.TheVariants.{Fixed, Named}
use Rattle.ufl_tree.specs.Indices.{Names, with_name, with_names, index_value, index_values, front, back, followed_by}
use Rattle.calculus.specs.Integral.{sum_below}
use Rattle.lower.specs.Renaming.{Renaming, with_index, renamed, all_renamed}
use Rattle.lower.specs.Lowering.{with_indices}
use Rattle.lower.specs.Keeping.{IsBelow, AreBelow, IsRenamed}

same_self : (n : ℕ) → (n == n) ≡ true
same_self n = grind (arith, nat_tests)

not_same : (i n : ℕ) → i < n → (i == n) ≡ false
not_same i n h = grind (arith, nat_tests)

less_more : (i n : ℕ) → i < n → i < suc n
less_more i n h = omega (arith, h)

pub own_less : (n : ℕ) → n < suc n
own_less n = omega arith

-- ---- the next name
pub own_value : (n k : ℕ) (v : Names) → index_value (with_name n k v) (Named n) ≡ k
own_value n k v = ap (λ b. if b then k else v n) (same_self n)

index_kept : (n k : ℕ) (v : Names) (i : Ix) → IsBelow n i → index_value (with_name n k v) i ≡ index_value v i
index_kept n k v (Fixed j) h = refl
index_kept n k v (Named i) h = ap (λ b. if b then k else v i) (not_same i n h)

pub indices_kept : (n k : ℕ) (v : Names) (b : List Ix) → AreBelow n b → index_values (with_name n k v) b ≡ index_values v b
indices_kept n k v [] h = refl
indices_kept n k v (i ∷ b) h = ap₂ (λ x xs. x ∷ xs) (index_kept n k v i h.0) (indices_kept n k v b h.1)

below_more : (n : ℕ) (i : Ix) → IsBelow n i → IsBelow (suc n) i
below_more n (Fixed k) h = tt
below_more n (Named i) h = less_more i n h

pub all_below_more : (n : ℕ) (b : List Ix) → AreBelow n b → AreBelow (suc n) b
all_below_more n [] h = tt
all_below_more n (i ∷ b) h = (below_more n i h.0, all_below_more n b h.1)

-- ---- parts of components
pub front_values : (s : List ℕ) (v : Names) (b : List Ix) → index_values v (front s b) ≡ front s (index_values v b)
front_values [] v b = refl
front_values (d ∷ s) v [] = refl
front_values (d ∷ s) v (i ∷ b) = ap (λ xs. index_value v i ∷ xs) (front_values s v b)

pub back_values : (s : List ℕ) (v : Names) (b : List Ix) → index_values v (back s b) ≡ back s (index_values v b)
back_values [] v b = refl
back_values (d ∷ s) v [] = refl
back_values (d ∷ s) v (i ∷ b) = back_values s v b

pub front_below : (s : List ℕ) (n : ℕ) (b : List Ix) → AreBelow n b → AreBelow n (front s b)
front_below [] n b h = tt
front_below (d ∷ s) n [] h = tt
front_below (d ∷ s) n (i ∷ b) h = (h.0, front_below s n b h.1)

pub back_below : (s : List ℕ) (n : ℕ) (b : List Ix) → AreBelow n b → AreBelow n (back s b)
back_below [] n b h = h
back_below (d ∷ s) n [] h = tt
back_below (d ∷ s) n (i ∷ b) h = back_below s n b h.1

pub followed_values : (v : Names) (b : List Ix) (i : Ix) → index_values v (followed_by b i) ≡ followed_by (index_values v b) (index_value v i)
followed_values v [] i = refl
followed_values v (x ∷ b) i = ap (λ xs. index_value v x ∷ xs) (followed_values v b i)

pub followed_below : (n : ℕ) (b : List Ix) (i : Ix) → AreBelow n b → IsBelow n i → AreBelow n (followed_by b i)
followed_below n [] i h g = (g, tt)
followed_below n (x ∷ b) i h g = (h.0, followed_below n b i h.1 g)

pub join_values : (v : Names) (a b : List Ix) → index_values v (a ++ b) ≡ index_values v a ++ index_values v b
join_values v [] b = refl
join_values v (x ∷ a) b = ap (λ xs. index_value v x ∷ xs) (join_values v a b)

pub join_below : (n : ℕ) (a b : List Ix) → AreBelow n a → AreBelow n b → AreBelow n (a ++ b)
join_below n [] b h g = g
join_below n (x ∷ a) b h g = (h.0, join_below n a b h.1 g)

pub sum_same : (d : ℕ) (f g : ℕ → Polynomial) → ((k : ℕ) → f k ≡ g k) → sum_below d f ≡ sum_below d g
sum_same zero f g h = refl
sum_same (suc d) f g h = ap₂ plus (sum_same d f g h) (h d)

-- ---- renamings
bound_agrees : (b : Bool) (n k x : ℕ) (v : Names) (y : Ix) → x ≡ index_value (with_name n k v) y → (if b then k else x) ≡ index_value (with_name n k v) (if b then Named n else y)
bound_agrees true n k x v y h = sym (own_value n k v)
bound_agrees false n k x v y h = h

bound_below : (b : Bool) (n : ℕ) (y : Ix) → IsBelow (suc n) y → IsBelow (suc n) (if b then Named n else y)
bound_below true n y h = own_less n
bound_below false n y h = h

named_agrees : (b : Bool) (x : ℕ) (v : Names) (i y : Ix) → x ≡ index_value v y → (if b then index_value v i else x) ≡ index_value v (if b then i else y)
named_agrees true x v i y h = refl
named_agrees false x v i y h = h

named_below : (b : Bool) (n : ℕ) (i y : Ix) → IsBelow n i → IsBelow n y → IsBelow n (if b then i else y)
named_below true n i y h g = h
named_below false n i y h g = g

module _ (m : ℕ) where
  pub renamed_more : (n : ℕ) (w v : Names) (r : Renaming) (k : ℕ) → IsRenamed m n w v r → IsRenamed m (suc n) w (with_name n k v) r
  renamed_more n w v r k R = record {
    agrees = λ i h. R.agrees i h ∙ sym (index_kept n k v (r i) (R.below i h));
    below = λ i h. below_more n (r i) (R.below i h);
  }

  pub renamed_bound : (n : ℕ) (w v : Names) (r : Renaming) (i k : ℕ) → IsRenamed m n w v r → IsRenamed m (suc n) (with_name i k w) (with_name n k v) (with_index i (Named n) r)
  renamed_bound n w v r i k R = record {
    agrees = λ j h. bound_agrees (j == i) n k (w j) v (r j) (R.agrees j h ∙ sym (index_kept n k v (r j) (R.below j h)));
    below = λ j h. bound_below (j == i) n (r j) (below_more n (r j) (R.below j h));
  }

  renamed_one : (n : ℕ) (w v : Names) (r : Renaming) (i : ℕ) (x : Ix) → IsRenamed m n w v r → IsBelow n x → IsRenamed m n (with_name i (index_value v x) w) v (with_index i x r)
  renamed_one n w v r i x R h = record {
    agrees = λ j g. named_agrees (j == i) (w j) v x (r j) (R.agrees j g);
    below = λ j g. named_below (j == i) n x (r j) h (R.below j g);
  }

  pub renamed_names : (by : List ℕ) (b : List Ix) (n : ℕ) (w v : Names) (r : Renaming) → IsRenamed m n w v r → AreBelow n b → IsRenamed m n (with_names by (index_values v b) w) v (with_indices by b r)
  renamed_names [] b n w v r R h = R
  renamed_names (i ∷ by) [] n w v r R h = R
  renamed_names (i ∷ by) (x ∷ b) n w v r R h = renamed_names by b n _ v _ (renamed_one n w v r i x R h.0) h.1

  pub renamed_value : (n : ℕ) (w v : Names) (r : Renaming) → IsRenamed m n w v r → (i : Ix) → IsBelow m i → index_value v (renamed r i) ≡ index_value w i
  renamed_value n w v r R (Fixed k) h = refl
  renamed_value n w v r R (Named i) h = sym (R.agrees i h)

  pub renamed_values : (n : ℕ) (w v : Names) (r : Renaming) → IsRenamed m n w v r → (b : List Ix) → AreBelow m b → index_values v (all_renamed r b) ≡ index_values w b
  renamed_values n w v r R [] h = refl
  renamed_values n w v r R (i ∷ b) h = ap₂ (λ x xs. x ∷ xs) (renamed_value n w v r R i h.0) (renamed_values n w v r R b h.1)

  pub renamed_below : (n : ℕ) (w v : Names) (r : Renaming) → IsRenamed m n w v r → (b : List Ix) → AreBelow m b → AreBelow n (all_renamed r b)
  renamed_below n w v r R [] h = tt
  renamed_below n w v r R (Fixed k ∷ b) h = (tt, renamed_below n w v r R b h.1)
  renamed_below n w v r R (Named i ∷ b) h = (R.below i h.0, renamed_below n w v r R b h.1)
