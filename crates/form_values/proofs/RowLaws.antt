-- A row is the place of its vertex among those that occur
use Rattle.std.proofs.Common.{◌≡◌, ◌≢◌, ℕ, zero, suc, ◌+◌, ◌<◌, ◌⊎◌, inl, inr, Bool, true, false, refl, sym, ◌∙◌, ap, subst, arith, List, [], ◌∷◌, ◌++◌, length, Some, if◌then◌else◌}
use Rattle.std.specs.Prelude.{slice_get}
use Rattle.std.proofs.Math.Dec.{eqb}
use Rattle.std.proofs.lemmas.Bool.Decides.{eqb_tells}
use Rattle.dofs.proofs.Lists.{same_some}
use Rattle.form_values.specs.HatFunctions.{occurs, rows_below}
use Rattle.form_values.proofs.Lists.{get_left}

-- ---- places in lists
pub get-append_seam : {A : Type 0} (xs : List A) (v : A) → slice_get (xs ++ v ∷ []) (length xs) ≡ Some v
get-append_seam [] v = refl
get-append_seam (x ∷ xs) v = get-append_seam xs v

no_item : {A : Type 0} (i : ℕ) (v : A) → slice_get [] i ≡ Some v → ⊥
no_item i v h = cc

one_item : {A : Type 0} (w : A) (i : ℕ) (v : A) → slice_get (w ∷ []) i ≡ Some v → (i ≡ 0) × (v ≡ w)
one_item w zero v h = (refl, sym (same_some w v h))
one_item w (suc i) v h = cc

-- an item of two lists is one of the first, or at the place that comes then
pub get-append_cases : {A : Type 0} (xs ys : List A) (i : ℕ) (v : A) → slice_get (xs ++ ys) i ≡ Some v
    → (slice_get xs i ≡ Some v) ⊎ ((j : ℕ) × (i ≡ length xs + j) × (slice_get ys j ≡ Some v))
get-append_cases [] ys i v h = inr (i, plain i, h)
  where
    plain : (i : ℕ) → i ≡ 0 + i
    plain i = omega arith
get-append_cases (x ∷ xs) ys zero v h = inl h
get-append_cases (x ∷ xs) ys (suc i) v h = go (get-append_cases xs ys i v h)
  where
    more : (i j : ℕ) → i ≡ length xs + j → suc i ≡ suc (length xs) + j
    more i j e = omega arith

    go : (slice_get xs i ≡ Some v) ⊎ ((j : ℕ) × (i ≡ length xs + j) × (slice_get ys j ≡ Some v))
        → (slice_get xs i ≡ Some v) ⊎ ((j : ℕ) × (suc i ≡ length (x ∷ xs) + j) × (slice_get ys j ≡ Some v))
    go (inl h) = inl h
    go (inr (j, e, h)) = inr (j, more i j e, h)

-- ---- rows
-- the row of a vertex that occurs: how many that occur are below it
abbrev pub row_of : List (List ℕ) → ℕ → ℕ
row_of cells v = length (rows_below cells v)

at_or_below : (v k : ℕ) → v < suc k → (v < k) ⊎ (v ≡ k)
at_or_below v k h = go (eqb_tells v k)
  where
    go : ((eqb v k ≡ true) × (v ≡ k)) ⊎ ((eqb v k ≡ false) × (v ≢ k)) → (v < k) ⊎ (v ≡ k)
    go (inl (t, e)) = inr e
    go (inr (t, e)) = inl (omega arith)

-- a vertex that occurs stands in its row
pub row_found : (cells : List (List ℕ)) (n v : ℕ) → v < n → occurs cells v ≡ true → slice_get (rows_below cells n) (length (rows_below cells v)) ≡ Some v
unfolding rows_below
row_found cells zero v h o = absurd (none v h)
  where
    none : (v : ℕ) → v < 0 → ⊥
    none v h = omega arith
row_found cells (suc k) v h o = go (at_or_below v k h) (λ below. row_found cells k v below o)
  where
    here : (b : Bool) → b ≡ true → slice_get (rows_below cells k ++ (if b then k ∷ [] else [])) (length (rows_below cells k)) ≡ Some k
    here true e = get-append_seam (rows_below cells k) k
    here false e = cc

    go : (v < k) ⊎ (v ≡ k) → (v < k → slice_get (rows_below cells k) (length (rows_below cells v)) ≡ Some v)
        → slice_get (rows_below cells k ++ (if occurs cells k then k ∷ [] else [])) (length (rows_below cells v)) ≡ Some v
    go (inl below) rest = get_left (rows_below cells k) _ _ v (rest below)
    go (inr e) rest =
        subst (λ w. slice_get (rows_below cells k ++ (if occurs cells k then k ∷ [] else [])) (length (rows_below cells w)) ≡ Some w) (sym e)
        (here (occurs cells k) (subst (λ w. occurs cells w ≡ true) e o))

-- what stands in a row has that row
pub row_is : (cells : List (List ℕ)) (n r v : ℕ) → slice_get (rows_below cells n) r ≡ Some v → r ≡ length (rows_below cells v)
unfolding rows_below
row_is cells zero r v h = absurd (no_item r v h)
row_is cells (suc k) r v h = go (occurs cells k) (get-append_cases (rows_below cells k) (if occurs cells k then k ∷ [] else []) r v h) (λ i. row_is cells k r v i)
  where
    go : (b : Bool) → (slice_get (rows_below cells k) r ≡ Some v) ⊎ ((j : ℕ) × (r ≡ length (rows_below cells k) + j) × (slice_get (if b then k ∷ [] else []) j ≡ Some v))
        → (slice_get (rows_below cells k) r ≡ Some v → r ≡ length (rows_below cells v)) → r ≡ length (rows_below cells v)
    go b (inl i) rest = rest i
    go true (inr (j, e, i)) rest =
        let found = one_item k j v i in
        e ∙ (omega arith ∙ ap (λ w. length (rows_below cells w)) (sym found.1))
    go false (inr (j, e, i)) rest = absurd (no_item j v i)
