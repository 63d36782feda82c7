-- Sums of terms, each a coefficient and an exponent, equal where the summed coefficients of all exponents are equal
use Rattle.std.specs.Prelude.{◌≡◌, ℕ, zero, suc, Bool, true, false, cond, List, [], ◌∷◌, ◌++◌, length, ◌≤◌}
use Rattle.algebra.specs.Group.{Group}
use Rattle.algebra.specs.GroupLaws as S
use mathlib.Core.List.{append_assoc}
use mathlib.Core.Path.{refl, sym, ◌∙◌, ap, ap₂, subst}
use mathlib.Core.Quot.{Quot, mk, sound, ind, lift, Quot-set}
use mathlib.Mathlib.Data.Quot.{lift₂}
use native.Mathlib.Nat.{le_refl, le_trans, le-suc, le_of_suc-le-suc, not-suc-le-zero}
use Prim.Native.Nat.{suc-le-suc}

-- exponents whose equality a test decides
pub record Exponents (E : Type 0) : Type 0 where
  pub eq : E → E → Bool
  pub eq-same : (e f : E) → eq e f ≡ true → e ≡ f
  pub eq_refl : (e : E) → eq e e ≡ true

module _ {R : Type 0} (C : Group R) {E : Type 0} (X : Exponents E) where
  abbrev pub coefficient : List (R × E) → E → R
  coefficient [] e = C.zero
  coefficient (t ∷ p) e = C.add (cond (X.eq t.1 e) t.0 C.zero) (coefficient p e)

  abbrev pub Same : List (R × E) → List (R × E) → Type 0
  Same p q = (e : E) → coefficient p e ≡ coefficient q e

  abbrev pub Sum : Type 0
  Sum = Quot Same

  -- without the terms of an exponent
  abbrev pub without : E → List (R × E) → List (R × E)
  without e [] = []
  without e (t ∷ p) = cond (X.eq t.1 e) (without e p) (t ∷ without e p)

  length-without : (e : E) (p : List (R × E)) → length (without e p) ≤ length p
  length-without e [] = le_refl 0
  length-without e (t ∷ p) = go (X.eq t.1 e) (length-without e p)
    where
      go : (b : Bool) → length (without e p) ≤ length p → length (cond b (without e p) (t ∷ without e p)) ≤ suc (length p)
      go true h = le_trans h (le-suc (length p))
      go false h = suc-le-suc h

  without_head : (t : R × E) (p : List (R × E)) → without t.1 (t ∷ p) ≡ without t.1 p
  without_head t p = ap (λ b. cond b (without t.1 p) (t ∷ without t.1 p)) (X.eq_refl t.1)

  coefficient-without_same : (e : E) (p : List (R × E)) → coefficient (without e p) e ≡ C.zero
  coefficient-without_same e [] = refl
  coefficient-without_same e (t ∷ p) = go (X.eq t.1 e) refl (coefficient-without_same e p)
    where
      go : (b : Bool) → X.eq t.1 e ≡ b → coefficient (without e p) e ≡ C.zero → coefficient (cond b (without e p) (t ∷ without e p)) e ≡ C.zero
      go true h ih = ih
      go false h ih = ap₂ C.add (ap (λ b. cond b t.0 C.zero) h) ih ∙ C.add_zero C.zero

  coefficient-without : (e f : E) → X.eq e f ≡ false → (p : List (R × E)) → coefficient (without e p) f ≡ coefficient p f
  coefficient-without e f n [] = refl
  coefficient-without e f n (t ∷ p) = go (X.eq t.1 e) refl (coefficient-without e f n p)
    where
      go : (b : Bool) → X.eq t.1 e ≡ b → coefficient (without e p) f ≡ coefficient p f → coefficient (cond b (without e p) (t ∷ without e p)) f ≡ C.add (cond (X.eq t.1 f) t.0 C.zero) (coefficient p f)
      go true h ih =
          ih ∙ sym (S.zero-add C (coefficient p f))
          ∙ ap (λ b. C.add (cond b t.0 C.zero) (coefficient p f)) (sym (ap (λ g. X.eq g f) (X.eq-same t.1 e h) ∙ n))
      go false h ih = ap (C.add (cond (X.eq t.1 f) t.0 C.zero)) ih

  Same-without : (e : E) (p q : List (R × E)) → Same p q → Same (without e p) (without e q)
  Same-without e p q h f = go (X.eq e f) refl
    where
      go : (b : Bool) → X.eq e f ≡ b → coefficient (without e p) f ≡ coefficient (without e q) f
      go true k = subst (λ g. coefficient (without e p) g ≡ coefficient (without e q) g) (X.eq-same e f k) (coefficient-without_same e p ∙ sym (coefficient-without_same e q))
      go false k = coefficient-without e f k p ∙ h f ∙ sym (coefficient-without e f k q)

-- a map of terms that is additive in the coefficient extends to sums
module _ {R : Type 0} (C : Group R) {E : Type 0} (X : Exponents E) {A : Type 0} (G : Group A) (φ : R → E → A) where
  abbrev pub total : List (R × E) → A
  total [] = G.zero
  total (t ∷ p) = G.add (φ t.0 t.1) (total p)

  module _ (additive : (a b : R) (e : E) → φ (C.add a b) e ≡ G.add (φ a e) (φ b e)) where
    φ-zero : (e : E) → φ C.zero e ≡ G.zero
    φ-zero e = S.zero_from_double G (φ C.zero e) (ap (λ c. φ c e) (sym (C.add_zero C.zero)) ∙ additive C.zero C.zero e)

    total-without : (e : E) (p : List (R × E)) → total p ≡ G.add (φ (coefficient C X p e) e) (total (without C X e p))
    total-without e [] = sym (G.add_zero (φ C.zero e) ∙ φ-zero e)
    total-without e (t ∷ p) = go (X.eq t.1 e) refl (total-without e p)
      where
        go : (b : Bool) → X.eq t.1 e ≡ b → total p ≡ G.add (φ (coefficient C X p e) e) (total (without C X e p))
            → G.add (φ t.0 t.1) (total p) ≡ G.add (φ (C.add (cond b t.0 C.zero) (coefficient C X p e)) e) (total (cond b (without C X e p) (t ∷ without C X e p)))
        go true h ih =
            ap₂ G.add (ap (φ t.0) (X.eq-same t.1 e h)) ih
            ∙ sym (G.add_assoc _ _ _)
            ∙ ap (λ x. G.add x (total (without C X e p))) (sym (additive t.0 (coefficient C X p e) e))
        go false h ih =
            ap (G.add (φ t.0 t.1)) ih
            ∙ S.add_left_comm G _ _ _
            ∙ ap (λ c. G.add (φ c e) (G.add (φ t.0 t.1) (total (without C X e p)))) (sym (S.zero-add C (coefficient C X p e)))

    total_nil : (n : ℕ) (q : List (R × E)) → length q ≤ n → Same C X [] q → G.zero ≡ total q
    total_nil n [] hq s = refl
    total_nil zero (t ∷ q) hq s = absurd (not-suc-le-zero hq)
    total_nil (suc n) (t ∷ q) hq s =
        sym (φ-zero t.1)
        ∙ sym (G.add_zero (φ C.zero t.1))
        ∙ ap₂ G.add (ap (λ c. φ c t.1) (s t.1))
        (total_nil n (without C X t.1 (t ∷ q))
        (subst (λ l. length l ≤ n) (sym (without_head C X t q)) (le_trans (length-without C X t.1 q) (le_of_suc-le-suc hq)))
        (Same-without C X t.1 [] (t ∷ q) s))
        ∙ sym (total-without t.1 (t ∷ q))

    total_fuel : (n : ℕ) (p q : List (R × E)) → length p ≤ n → Same C X p q → total p ≡ total q
    total_fuel n [] q hp s = total_nil (length q) q (le_refl (length q)) s
    total_fuel zero (t ∷ p) q hp s = absurd (not-suc-le-zero hp)
    total_fuel (suc n) (t ∷ p) q hp s =
        total-without t.1 (t ∷ p)
        ∙ ap₂ G.add (ap (λ c. φ c t.1) (s t.1))
        (total_fuel n (without C X t.1 (t ∷ p)) (without C X t.1 q)
        (subst (λ l. length l ≤ n) (sym (without_head C X t p)) (le_trans (length-without C X t.1 p) (le_of_suc-le-suc hp)))
        (Same-without C X t.1 (t ∷ p) q s))
        ∙ sym (total-without t.1 q)

    pub total_same : (p q : List (R × E)) → Same C X p q → total p ≡ total q
    total_same p q s = total_fuel (length p) p q (le_refl (length p)) s

    unfoldable pub extended : Sum C X → A
    extended = lift G.is_set total total_same

-- ---- the group of sums
module _ {R : Type 0} (C : Group R) {E : Type 0} (X : Exponents E) where
  -- the sum of one term
  unfoldable pub mono : R → E → Sum C X
  mono c e = mk ((c, e) ∷ [])

  pub coefficient-append : (p q : List (R × E)) (e : E) → coefficient C X (p ++ q) e ≡ C.add (coefficient C X p e) (coefficient C X q e)
  coefficient-append [] q e = sym (S.zero-add C (coefficient C X q e))
  coefficient-append (t ∷ p) q e = ap (C.add (cond (X.eq t.1 e) t.0 C.zero)) (coefficient-append p q e) ∙ sym (C.add_assoc _ _ _)

  abbrev pub opposite : List (R × E) → List (R × E)
  opposite [] = []
  opposite (t ∷ p) = (C.neg t.0, t.1) ∷ opposite p

  pub coefficient-opposite : (p : List (R × E)) (e : E) → coefficient C X (opposite p) e ≡ C.neg (coefficient C X p e)
  coefficient-opposite [] e = sym (S.neg-zero C)
  coefficient-opposite (t ∷ p) e =
      ap₂ C.add (go (X.eq t.1 e)) (coefficient-opposite p e) ∙ sym (S.neg_of_sum C (cond (X.eq t.1 e) t.0 C.zero) (coefficient C X p e))
    where
      go : (b : Bool) → cond b (C.neg t.0) C.zero ≡ C.neg (cond b t.0 C.zero)
      go true = refl
      go false = sym (S.neg-zero C)

  pub append_right : (p q r : List (R × E)) → Same C X q r → Same C X (p ++ q) (p ++ r)
  append_right p q r s e = coefficient-append p q e ∙ ap (C.add (coefficient C X p e)) (s e) ∙ sym (coefficient-append p r e)

  pub append_left : (q r p : List (R × E)) → Same C X q r → Same C X (q ++ p) (r ++ p)
  append_left q r p s e = coefficient-append q p e ∙ ap (λ x. C.add x (coefficient C X p e)) (s e) ∙ sym (coefficient-append r p e)

  pub opposite_same : (p q : List (R × E)) → Same C X p q → Same C X (opposite p) (opposite q)
  opposite_same p q s e = coefficient-opposite p e ∙ ap C.neg (s e) ∙ sym (coefficient-opposite q e)

  unfoldable pub plus : Sum C X → Sum C X → Sum C X
  plus = lift₂ Quot-set (λ p q. mk (p ++ q)) (λ p q r h. sound (append_right p q r h)) (λ q r p h. sound (append_left q r p h))

  unfoldable pub negative : Sum C X → Sum C X
  negative = lift Quot-set (λ p. mk (opposite p)) (λ p q h. sound (opposite_same p q h))

  unfoldable pub nothing : Sum C X
  nothing = mk []

  -- what holds of no term, and with one more term, holds of each sum
  pub sum_ind : (P : Sum C X → Type 0) → ((s : Sum C X) → IsProp (P s)) → P nothing
      → ((c : R) (e : E) (s : Sum C X) → P s → P (plus (mono c e) s)) → (s : Sum C X) → P s
  unfolding nothing plus mono
  sum_ind P prop z step = ind {r = Same C X} {β = P} prop go
    where
      go : (p : List (R × E)) → P (mk p)
      go [] = z
      go (t ∷ p) = step t.0 t.1 (mk p) (go p)

  pub plus_assoc : (a b c : Sum C X) → plus (plus a b) c ≡ plus a (plus b c)
  unfolding plus
  plus_assoc a b c =
      ind {r = Same C X} {β = λ a. plus (plus a b) c ≡ plus a (plus b c)} (λ a. Quot-set _ _) (λ p.
      ind {r = Same C X} {β = λ b. plus (plus (mk p) b) c ≡ plus (mk p) (plus b c)} (λ b. Quot-set _ _) (λ q.
      ind {r = Same C X} {β = λ c. plus (plus (mk p) (mk q)) c ≡ plus (mk p) (plus (mk q) c)} (λ c. Quot-set _ _) (λ r.
      ap (λ (l : List (R × E)). same_sum l) (append_assoc p q r)) c) b) a
    where
      same_sum : List (R × E) → Sum C X
      same_sum l = mk l

  pub plus_comm : (a b : Sum C X) → plus a b ≡ plus b a
  unfolding plus
  plus_comm a b =
      ind {r = Same C X} {β = λ a. plus a b ≡ plus b a} (λ a. Quot-set _ _) (λ p.
      ind {r = Same C X} {β = λ b. plus (mk p) b ≡ plus b (mk p)} (λ b. Quot-set _ _) (λ q.
      sound {r = Same C X} {a = p ++ q} {b = q ++ p} (λ e. coefficient-append p q e ∙ C.add_comm _ _ ∙ sym (coefficient-append q p e))) b) a

  pub nothing-plus : (a : Sum C X) → plus nothing a ≡ a
  unfolding plus nothing
  nothing-plus = ind {r = Same C X} {β = λ a. plus (mk []) a ≡ a} (λ a. Quot-set _ _) (λ p. refl)

  pub plus-nothing : (a : Sum C X) → plus a nothing ≡ a
  plus-nothing a = plus_comm a nothing ∙ nothing-plus a

  pub plus-negative : (a : Sum C X) → plus a (negative a) ≡ nothing
  unfolding plus negative nothing
  plus-negative =
      ind {r = Same C X} {β = λ a. plus a (negative a) ≡ nothing} (λ a. Quot-set _ _)
      (λ p. sound {r = Same C X} {a = p ++ opposite p} {b = []} (λ e. coefficient-append p (opposite p) e ∙ ap (C.add (coefficient C X p e)) (coefficient-opposite p e) ∙ C.add_neg _))

  abbrev pub sums : Group (Sum C X)
  sums = record {
    is_set = Quot-set;
    zero = nothing;
    add = plus;
    neg = negative;
    add_assoc = plus_assoc;
    add_comm = plus_comm;
    add_zero = plus-nothing;
    add_neg = plus-negative;
  }

  pub mono-add : (a b : R) (e : E) → mono (C.add a b) e ≡ plus (mono a e) (mono b e)
  unfolding mono plus
  mono-add a b e = sound {r = Same C X} {a = (C.add a b, e) ∷ []} {b = (a, e) ∷ (b, e) ∷ []} (λ f. go (X.eq e f))
    where
      go : (t : Bool) → C.add (cond t (C.add a b) C.zero) C.zero ≡ C.add (cond t a C.zero) (C.add (cond t b C.zero) C.zero)
      go true = C.add_assoc a b C.zero
      go false = sym (S.zero-add C (C.add C.zero C.zero))

-- ---- additive maps
module _ {R : Type 0} (C : Group R) {E : Type 0} (X : Exponents E) {A : Type 0} (G : Group A) where
  abbrev pub IsAdditive : (Sum C X → A) → Type 0
  IsAdditive f = (s t : Sum C X) → f (plus C X s t) ≡ G.add (f s) (f t)

  pub additive-nothing : (f : Sum C X → A) → IsAdditive f → f (nothing C X) ≡ G.zero
  additive-nothing f h = S.zero_from_double G (f (nothing C X)) (ap f (sym (plus-nothing C X (nothing C X))) ∙ h (nothing C X) (nothing C X))

  -- additive maps that agree on terms are equal
  pub same_maps : (f g : Sum C X → A) → IsAdditive f → IsAdditive g → ((c : R) (e : E) → f (mono C X c e) ≡ g (mono C X c e)) → (s : Sum C X) → f s ≡ g s
  same_maps f g hf hg h =
      sum_ind C X (λ s. f s ≡ g s) (λ s. G.is_set (f s) (g s)) (additive-nothing f hf ∙ sym (additive-nothing g hg))
      (λ c e s ih. hf (mono C X c e) s ∙ ap₂ G.add (h c e) ih ∙ sym (hg (mono C X c e) s))

  module _ (φ : R → E → A) (additive : (a b : R) (e : E) → φ (C.add a b) e ≡ G.add (φ a e) (φ b e)) where
    pub extended-mono : (c : R) (e : E) → extended C X G φ additive (mono C X c e) ≡ φ c e
    unfolding extended mono
    extended-mono c e = G.add_zero (φ c e)

    total-append : (p q : List (R × E)) → total C X G φ (p ++ q) ≡ G.add (total C X G φ p) (total C X G φ q)
    total-append [] q = sym (S.zero-add G _)
    total-append (t ∷ p) q = ap (G.add (φ t.0 t.1)) (total-append p q) ∙ sym (G.add_assoc _ _ _)

    pub extended-plus : IsAdditive (extended C X G φ additive)
    unfolding extended plus
    extended-plus s t =
        ind {r = Same C X} {β = λ s. extended C X G φ additive (plus C X s t) ≡ G.add (extended C X G φ additive s) (extended C X G φ additive t)} (λ s. G.is_set _ _) (λ p.
        ind {r = Same C X} {β = λ t. extended C X G φ additive (plus C X (mk p) t) ≡ G.add (extended C X G φ additive (mk p)) (extended C X G φ additive t)} (λ t. G.is_set _ _) (λ q.
        total-append p q) t) s
