use Rattle.std.specs.Prelude.{◌≡◌, ℕ, zero, suc, ◌<◌, ◌≤◌, ◌==◌, ◌&&◌, Bool, true, false, List, [], ◌∷◌, Option, None, Some, if◌then◌else◌}
use mathlib.Core.Path.{refl, sym, ◌∙◌, ap, ap₂, fun_ext}
use native.Mathlib.Omega.{arith}
use Rattle.std.proofs.lemmas.Bool.{eqb-true, eq-eqb}
use Rattle.ufl_tree.specs.declared.function.Function.{Function}
use Rattle.ufl_tree.specs.declared.function.Ix.{Ix}
use Rattle.ufl_tree.specs.declared.function.Ix.TheVariants.{Fixed, Named}
use Rattle.ufl_tree.specs.declared.function.Role.{Role}
use Rattle.algebra.specs.RingLaws as L
use Rattle.algebra.specs.Fraction.{Fraction}
use Rattle.calculus.specs.Polynomial.{Polynomial, nil, one, plus, times, negative, constant, coordinate, derivative, coefficient_of, polynomials, plus-nil}
use Rattle.ufl_tree.specs.Term.{Term, num, fun, mark, neg, sum, prod, over, dx, delta, pick, raise, turn, Terms, no_terms, term}
use Rattle.ufl_tree.specs.Indices.{Names, with_name, index_value, index_values}
use Rattle.ufl_tree.specs.Places.{Table, function_place}
use Rattle.ufl_meaning.specs.Operators.{along, at_place, unit_or_nil}
use Rattle.calculus.specs.Integral.{sum_below}
use Rattle.ufl_meaning.specs.Environment.{Environment, HasOnlyUsed, parameter_number, parameter, raised, turned, same_role, same_list}
use Rattle.ufl_meaning.specs.Meaning.{meaning, item_meaning}
use Rattle.perturb.specs.Expanding.{Stands, deltas, by_variable, all_by_variable, linear, all_linear, expand, expand_all, IsReady, AreReady}
use Rattle.lower.specs.Keeping.{IsBelow, AreBelow}
use Rattle.lower.specs.Renaming.{zero_term, Renaming, with_index, renamed, all_renamed}

-- the laws of coefficients that are used; each is landed or a line from one that is
pub record CoefficientLaws : Type 0 where
  pub adds : (t n : ℕ) (p q : Polynomial) → coefficient_of t n (plus p q) ≡ plus (coefficient_of t n p) (coefficient_of t n q)
  pub zero_negates : (t : ℕ) (p : Polynomial) → coefficient_of t 0 (negative p) ≡ negative (coefficient_of t 0 p)
  pub one_negates : (t : ℕ) (p : Polynomial) → coefficient_of t 1 (negative p) ≡ negative (coefficient_of t 1 p)
  pub zero_times : (t : ℕ) (p q : Polynomial) → coefficient_of t 0 (times p q) ≡ times (coefficient_of t 0 p) (coefficient_of t 0 q)
  pub one_times : (t : ℕ) (p q : Polynomial)
      → coefficient_of t 1 (times p q) ≡ plus (times (coefficient_of t 1 p) (coefficient_of t 0 q)) (times (coefficient_of t 0 p) (coefficient_of t 1 q))
  pub zero_free : (t : ℕ) (p : Polynomial) → derivative t p ≡ nil → coefficient_of t 0 p ≡ p
  pub one_free : (t : ℕ) (p : Polynomial) → derivative t p ≡ nil → coefficient_of t 1 p ≡ nil
  pub zero_line : (t : ℕ) (p q : Polynomial) → derivative t p ≡ nil → coefficient_of t 0 (plus p (times (coordinate t) q)) ≡ p
  pub one_line : (t : ℕ) (p q : Polynomial) → derivative t p ≡ nil → derivative t q ≡ nil → coefficient_of t 1 (plus p (times (coordinate t) q)) ≡ q
  pub zero_along : (k i : ℕ) (p : Polynomial) → coefficient_of (parameter_number k) 0 (along i p) ≡ along i (coefficient_of (parameter_number k) 0 p)
  pub one_along : (k i : ℕ) (p : Polynomial) → coefficient_of (parameter_number k) 1 (along i p) ≡ along i (coefficient_of (parameter_number k) 1 p)
  pub of_constant : (t : ℕ) (c : Fraction) → derivative t (constant c) ≡ nil
  pub of_one : (t : ℕ) → derivative t one ≡ nil
  pub of_nil : (t : ℕ) → derivative t nil ≡ nil

below_same : (n : ℕ) (f g : ℕ → Polynomial) → ((k : ℕ) → f k ≡ g k) → sum_below n f ≡ sum_below n g
below_same n f g h = ap (sum_below n) (fun_ext h)

pub le_same : (n : ℕ) → n ≤ n
le_same n = omega arith

-- what is below isn't touched by a name that isn't
pub value_kept : (n i k : ℕ) (v : Names) (at : List Ix) → n ≤ i → AreBelow n at → index_values (with_name i k v) at ≡ index_values v at
value_kept n i k v [] h b = refl
value_kept n i k v (Fixed m ∷ at) h b = ap (λ xs. m ∷ xs) (value_kept n i k v at h b.1)
value_kept n i k v (Named j ∷ at) h b = ap₂ ◌∷◌ (go (j == i) refl) (value_kept n i k v at h b.1)
  where
    go : (t : Bool) → (j == i) ≡ t → (if t then k else v j) ≡ v j
    go true e = absurd (apart e)
      where
        apart : (j == i) ≡ true → ⊥
        apart e = let l : j < n = b.0 in let s : j ≡ i = eqb-true j i e in omega arith
    go false e = refl

module _ (C : CoefficientLaws) (table : Table) where
  c_nil : (t : ℕ) → coefficient_of t 0 nil ≡ nil
  c_nil t = C.zero_free t nil (C.of_nil t)

  c_one_nil : (t : ℕ) → coefficient_of t 1 nil ≡ nil
  c_one_nil t = C.one_free t nil (C.of_nil t)

  below_zero : (t n : ℕ) (f : ℕ → Polynomial) → coefficient_of t 0 (sum_below n f) ≡ sum_below n (λ k. coefficient_of t 0 (f k))
  below_zero t zero f = c_nil t
  below_zero t (suc n) f = C.adds t 0 _ _ ∙ ap (λ p. plus p (coefficient_of t 0 (f n))) (below_zero t n f)

  below_one : (t n : ℕ) (f : ℕ → Polynomial) → coefficient_of t 1 (sum_below n f) ≡ sum_below n (λ k. coefficient_of t 1 (f k))
  below_one t zero f = c_one_nil t
  below_one t (suc n) f = C.adds t 1 _ _ ∙ ap (λ p. plus p (coefficient_of t 1 (f n))) (below_one t n f)

  unit_free : (t i j : ℕ) → derivative t (unit_or_nil i j) ≡ nil
  unit_free t i j = go (i == j)
    where
      go : (b : Bool) → derivative t (if b then one else nil) ≡ nil
      go true = C.of_one t
      go false = C.of_nil t

  place_zero : (t : ℕ) (p : Option ℕ) (f g : ℕ → Polynomial) → ((i : ℕ) → coefficient_of t 0 (f i) ≡ g i) → coefficient_of t 0 (at_place p f) ≡ at_place p g
  place_zero t None f g h = c_nil t
  place_zero t (Some n) f g h = h n

  place_one : (t : ℕ) (p : Option ℕ) (f g : ℕ → Polynomial) → ((i : ℕ) → coefficient_of t 1 (f i) ≡ g i) → coefficient_of t 1 (at_place p f) ≡ at_place p g
  place_one t None f g h = c_one_nil t
  place_one t (Some n) f g h = h n

  -- ---- an environment that is moved by the parameter k
  module _ (k : ℕ) (env moved : Environment)
      (values : (r : Role) (i : ℕ) → coefficient_of (parameter_number k) 0 (moved.value r i) ≡ env.value r i)
      (offsets : (l : ℕ) (b : List ℕ) → coefficient_of (parameter_number k) 0 (moved.offset l b) ≡ env.offset l b) where
    mutual
      pub rest : (n : ℕ) (e : Term) (v : Names) → IsReady n e → coefficient_of (parameter_number k) 0 (meaning table e moved v) ≡ meaning table e env v
      rest n (num c) v h = C.zero_free _ _ (C.of_constant _ _)
      rest n (fun f b) v h = place_zero _ (function_place table f (index_values v b)) _ _ (values f.role)
      rest n (mark m b e) v h = C.adds _ 0 _ _ ∙ ap₂ plus (rest n e v h) (offsets m (index_values v b))
      rest n (neg a) v h = C.zero_negates _ _ ∙ ap negative (rest n a v h)
      rest n (sum a b) v h = C.adds _ 0 _ _ ∙ ap₂ plus (rest n a v h.0) (rest n b v h.1)
      rest n (prod a b) v h = C.zero_times _ _ _ ∙ ap₂ times (rest n a v h.0) (rest n b v h.1)
      rest n (over i d b) v h = below_zero _ d _ ∙ below_same d _ _ (λ j. rest n b (with_name i j v) h.1)
      rest n (dx i b) v h = C.zero_along k _ _ ∙ ap (along (index_value v i)) (rest n b v h)
      rest n (delta i j) v h = C.zero_free _ _ (unit_free _ _ _)
      rest n (pick i ts) v h = all_rest n ts v h (index_value v i)
      rest n (raise l at e) v h = absurd h
      rest n (turn f g e) v h = absurd h

      all_rest : (n : ℕ) (ts : Terms) (v : Names) → AreReady n ts → (i : ℕ) → coefficient_of (parameter_number k) 0 (item_meaning table ts moved v i) ≡ item_meaning table ts env v i
      all_rest n no_terms v h i = c_nil _
      all_rest n (term t ts) v h zero = rest n t v h.0
      all_rest n (term t ts) v h (suc i) = all_rest n ts v h.1 i

    product_one : (a b a' b' : Polynomial) (x y : Polynomial) → coefficient_of (parameter_number k) 1 x ≡ a' → coefficient_of (parameter_number k) 0 y ≡ b
        → coefficient_of (parameter_number k) 0 x ≡ a → coefficient_of (parameter_number k) 1 y ≡ b' → coefficient_of (parameter_number k) 1 (times x y) ≡ plus (times a' b) (times a b')
    product_one a b a' b' x y h i j l = C.one_times _ x y ∙ ap₂ plus (ap₂ times h i) (ap₂ times j l)

    -- ---- by a component of a variable
    module _ (l : ℕ) (c : List ℕ) (still : (r : Role) (i : ℕ) → coefficient_of (parameter_number k) 1 (moved.value r i) ≡ nil)
        (there : (m : ℕ) (b : List ℕ) → coefficient_of (parameter_number k) 1 (moved.offset m b) ≡ (if (m == l) && same_list b c then one else nil)) where
      zero_is : (x : Environment) (v : Names) → meaning table zero_term x v ≡ nil
      zero_is x v = refl

      still_place : (p : Option ℕ) (f : ℕ → Polynomial) → ((i : ℕ) → coefficient_of (parameter_number k) 1 (f i) ≡ nil) → coefficient_of (parameter_number k) 1 (at_place p f) ≡ nil
      still_place None f h = c_one_nil _
      still_place (Some n) f h = h n

      deltas_are : (b at : List Ix) (v : Names) → meaning table (deltas b at) env v ≡ (if same_list (index_values v b) (index_values v at) then one else nil)
      deltas_are [] [] v = refl
      deltas_are [] (j ∷ at) v = refl
      deltas_are (i ∷ b) [] v = refl
      deltas_are (i ∷ b) (j ∷ at) v = ap (times (unit_or_nil (index_value v i) (index_value v j))) (deltas_are b at v) ∙ go (index_value v i == index_value v j) (same_list (index_values v b) (index_values v at))
        where
          go : (s t : Bool) → times (if s then one else nil) (if t then one else nil) ≡ (if s && t then one else nil)
          go true t = L.one-mul polynomials _
          go false t = L.zero-mul polynomials _

      mark_is : (m : ℕ) (b at : List Ix) (v : Names) → index_values v at ≡ c
          → (if (m == l) && same_list (index_values v b) c then one else nil) ≡ meaning table (if m == l then deltas b at else zero_term) env v
      mark_is m b at v h = go (m == l)
        where
          go : (s : Bool) → (if s && same_list (index_values v b) c then one else nil) ≡ meaning table (if s then deltas b at else zero_term) env v
          go true = ap (λ d. if same_list (index_values v b) d then one else nil) (sym h) ∙ sym (deltas_are b at v)
          go false = refl

      mutual
        pub by_variable_is : (n : ℕ) (at : List Ix) → AreBelow n at → (e : Term) (v : Names) → IsReady n e → index_values v at ≡ c
            → coefficient_of (parameter_number k) 1 (meaning table e moved v) ≡ meaning table (by_variable l at e) env v
        by_variable_is n at a (num x) v h w = C.one_free _ _ (C.of_constant _ _)
        by_variable_is n at a (fun f b) v h w = still_place (function_place table f (index_values v b)) _ (still f.role)
        by_variable_is n at a (mark m b e) v h w = C.adds _ 1 _ _ ∙ ap₂ plus (by_variable_is n at a e v h w) (there m (index_values v b) ∙ mark_is m b at v w)
        by_variable_is n at a (neg x) v h w = C.one_negates _ _ ∙ ap negative (by_variable_is n at a x v h w)
        by_variable_is n at a (sum x y) v h w = C.adds _ 1 _ _ ∙ ap₂ plus (by_variable_is n at a x v h.0 w) (by_variable_is n at a y v h.1 w)
        by_variable_is n at a (prod x y) v h w =
            product_one _ _ _ _ _ _ (by_variable_is n at a x v h.0 w) (rest n y v h.1) (rest n x v h.0) (by_variable_is n at a y v h.1 w)
        by_variable_is n at a (over i d b) v h w =
            below_one _ d _ ∙ below_same d _ _ (λ j. by_variable_is n at a b (with_name i j v) h.1 (value_kept n i j v at h.0 a ∙ w))
        by_variable_is n at a (dx i b) v h w = C.one_along k _ _ ∙ ap (along (index_value v i)) (by_variable_is n at a b v h w)
        by_variable_is n at a (delta i j) v h w = C.one_free _ _ (unit_free _ _ _)
        by_variable_is n at a (pick i ts) v h w = all_by_variable_is n at a ts v h w (index_value v i)
        by_variable_is n at a (raise m b e) v h w = absurd h
        by_variable_is n at a (turn f g e) v h w = absurd h

        all_by_variable_is : (n : ℕ) (at : List Ix) → AreBelow n at → (ts : Terms) (v : Names) → AreReady n ts → index_values v at ≡ c → (i : ℕ)
            → coefficient_of (parameter_number k) 1 (item_meaning table ts moved v i) ≡ item_meaning table (all_by_variable l at ts) env v i
        all_by_variable_is n at a no_terms v h w i = c_one_nil _
        all_by_variable_is n at a (term t ts) v h w zero = by_variable_is n at a t v h.0 w
        all_by_variable_is n at a (term t ts) v h w (suc i) = all_by_variable_is n at a ts v h.1 w i

    -- ---- by the function w in the direction d
    module _ (w d : Role) (moves : (r : Role) (i : ℕ) → coefficient_of (parameter_number k) 1 (moved.value r i) ≡ (if same_role r w then env.value d i else nil))
        (fixed : (m : ℕ) (b : List ℕ) → coefficient_of (parameter_number k) 1 (moved.offset m b) ≡ nil) where
      function_is : (f : Function) (b : List Ix) (v : Names) (s : Bool)
          → ((i : ℕ) → coefficient_of (parameter_number k) 1 (moved.value f.role i) ≡ (if s then env.value d i else nil))
          → coefficient_of (parameter_number k) 1 (meaning table (fun f b) moved v) ≡ meaning table (if s then fun (record { role = d; element = f.element }) b else zero_term) env v
      function_is f b v true h = place_one _ (function_place table f (index_values v b)) _ _ h
      function_is f b v false h = place_one _ (function_place table f (index_values v b)) _ (λ i. nil) h ∙ nothing (function_place table f (index_values v b))
        where
          nothing : (p : Option ℕ) → at_place p (λ i. nil) ≡ nil
          nothing None = refl
          nothing (Some n) = refl

      mutual
        pub linear_is : (n : ℕ) (e : Term) (v : Names) → IsReady n e → coefficient_of (parameter_number k) 1 (meaning table e moved v) ≡ meaning table (linear w d e) env v
        linear_is n (num x) v h = C.one_free _ _ (C.of_constant _ _)
        linear_is n (fun f b) v h = function_is f b v (same_role f.role w) (moves f.role)
        linear_is n (mark m b e) v h = C.adds _ 1 _ _ ∙ ap₂ plus (linear_is n e v h) (fixed m (index_values v b)) ∙ plus-nil _
        linear_is n (neg x) v h = C.one_negates _ _ ∙ ap negative (linear_is n x v h)
        linear_is n (sum x y) v h = C.adds _ 1 _ _ ∙ ap₂ plus (linear_is n x v h.0) (linear_is n y v h.1)
        linear_is n (prod x y) v h = product_one _ _ _ _ _ _ (linear_is n x v h.0) (rest n y v h.1) (rest n x v h.0) (linear_is n y v h.1)
        linear_is n (over i d' b) v h = below_one _ d' _ ∙ below_same d' _ _ (λ j. linear_is n b (with_name i j v) h.1)
        linear_is n (dx i b) v h = C.one_along k _ _ ∙ ap (along (index_value v i)) (linear_is n b v h)
        linear_is n (delta i j) v h = C.one_free _ _ (unit_free _ _ _)
        linear_is n (pick i ts) v h = all_linear_is n ts v h (index_value v i)
        linear_is n (raise m b e) v h = absurd h
        linear_is n (turn f g e) v h = absurd h

        all_linear_is : (n : ℕ) (ts : Terms) (v : Names) → AreReady n ts → (i : ℕ)
            → coefficient_of (parameter_number k) 1 (item_meaning table ts moved v i) ≡ item_meaning table (all_linear w d ts) env v i
        all_linear_is n no_terms v h i = c_one_nil _
        all_linear_is n (term t ts) v h zero = linear_is n t v h.0
        all_linear_is n (term t ts) v h (suc i) = all_linear_is n ts v h.1 i

-- ---- what is made is ready
mutual
  pub by_variable_ready : (n l : ℕ) (at : List Ix) (e : Term) → IsReady n e → IsReady n (by_variable l at e)
  by_variable_ready n l at (num x) h = tt
  by_variable_ready n l at (fun f b) h = tt
  by_variable_ready n l at (mark m b e) h = (by_variable_ready n l at e h, go (m == l))
    where
      deltas_ready : (b at : List Ix) → IsReady n (deltas b at)
      deltas_ready [] [] = tt
      deltas_ready [] (j ∷ at) = tt
      deltas_ready (i ∷ b) [] = tt
      deltas_ready (i ∷ b) (j ∷ at) = (tt, deltas_ready b at)

      go : (s : Bool) → IsReady n (if s then deltas b at else zero_term)
      go true = deltas_ready b at
      go false = tt
  by_variable_ready n l at (neg x) h = by_variable_ready n l at x h
  by_variable_ready n l at (sum x y) h = (by_variable_ready n l at x h.0, by_variable_ready n l at y h.1)
  by_variable_ready n l at (prod x y) h = ((by_variable_ready n l at x h.0, h.1), (h.0, by_variable_ready n l at y h.1))
  by_variable_ready n l at (over i d b) h = (h.0, by_variable_ready n l at b h.1)
  by_variable_ready n l at (dx i b) h = by_variable_ready n l at b h
  by_variable_ready n l at (delta i j) h = tt
  by_variable_ready n l at (pick i ts) h = all_by_variable_ready n l at ts h
  by_variable_ready n l at (raise m b e) h = tt
  by_variable_ready n l at (turn f g e) h = tt

  pub all_by_variable_ready : (n l : ℕ) (at : List Ix) (ts : Terms) → AreReady n ts → AreReady n (all_by_variable l at ts)
  all_by_variable_ready n l at no_terms h = tt
  all_by_variable_ready n l at (term t ts) h = (by_variable_ready n l at t h.0, all_by_variable_ready n l at ts h.1)

mutual
  pub linear_ready : (n : ℕ) (w d : Role) (e : Term) → IsReady n e → IsReady n (linear w d e)
  linear_ready n w d (num x) h = tt
  linear_ready n w d (fun f b) h = go (same_role f.role w)
    where
      go : (s : Bool) → IsReady n (if s then fun (record { role = d; element = f.element }) b else zero_term)
      go true = tt
      go false = tt
  linear_ready n w d (mark m b e) h = linear_ready n w d e h
  linear_ready n w d (neg x) h = linear_ready n w d x h
  linear_ready n w d (sum x y) h = (linear_ready n w d x h.0, linear_ready n w d y h.1)
  linear_ready n w d (prod x y) h = ((linear_ready n w d x h.0, h.1), (h.0, linear_ready n w d y h.1))
  linear_ready n w d (over i d' b) h = (h.0, linear_ready n w d b h.1)
  linear_ready n w d (dx i b) h = linear_ready n w d b h
  linear_ready n w d (delta i j) h = tt
  linear_ready n w d (pick i ts) h = all_linear_ready n w d ts h
  linear_ready n w d (raise m b e) h = tt
  linear_ready n w d (turn f g e) h = tt

  pub all_linear_ready : (n : ℕ) (w d : Role) (ts : Terms) → AreReady n ts → AreReady n (all_linear w d ts)
  all_linear_ready n w d no_terms h = tt
  all_linear_ready n w d (term t ts) h = (linear_ready n w d t h.0, all_linear_ready n w d ts h.1)

mutual
  pub later : (m n : ℕ) → m ≤ n → (e : Term) → IsReady n e → IsReady m e
  later m n l (num x) h = tt
  later m n l (fun f b) h = tt
  later m n l (mark k b e) h = later m n l e h
  later m n l (neg x) h = later m n l x h
  later m n l (sum x y) h = (later m n l x h.0, later m n l y h.1)
  later m n l (prod x y) h = (later m n l x h.0, later m n l y h.1)
  later m n l (over i d b) h = (let k = h.0 in omega arith, later m n l b h.1)
  later m n l (dx i b) h = later m n l b h
  later m n l (delta i j) h = tt
  later m n l (pick i ts) h = all_later m n l ts h
  later m n l (raise k b e) h = absurd h
  later m n l (turn f g e) h = absurd h

  all_later : (m n : ℕ) → m ≤ n → (ts : Terms) → AreReady n ts → AreReady m ts
  all_later m n l no_terms h = tt
  all_later m n l (term t ts) h = (later m n l t h.0, all_later m n l ts h.1)

mutual
  pub expand_ready : (e : Term) (r : Renaming) (n : ℕ) → IsReady n (expand e r n)
  expand_ready (num x) r n = tt
  expand_ready (fun f b) r n = tt
  expand_ready (mark m b e) r n = expand_ready e r n
  expand_ready (neg x) r n = expand_ready x r n
  expand_ready (sum x y) r n = (expand_ready x r n, expand_ready y r n)
  expand_ready (prod x y) r n = (expand_ready x r n, expand_ready y r n)
  expand_ready (over i d b) r n = (le_same n, later n (suc n) (omega arith) (expand b (with_index i (Named n) r) (suc n)) (expand_ready b (with_index i (Named n) r) (suc n)))
  expand_ready (dx i b) r n = expand_ready b r n
  expand_ready (delta i j) r n = tt
  expand_ready (pick i ts) r n = all_expand_ready ts r n
  expand_ready (raise l at e) r n = by_variable_ready n l (all_renamed r at) (expand e r n) (expand_ready e r n)
  expand_ready (turn f g e) r n = linear_ready n f.role g.role (expand e r n) (expand_ready e r n)

  all_expand_ready : (ts : Terms) (r : Renaming) (n : ℕ) → AreReady n (expand_all ts r n)
  all_expand_ready no_terms r n = tt
  all_expand_ready (term t ts) r n = (expand_ready t r n, all_expand_ready ts r n)

-- ---- the meaning is kept
module _ (C : CoefficientLaws) (table : Table)
    (only : (k l : ℕ) (b : List ℕ) (env : Environment) → HasOnlyUsed env → HasOnlyUsed (raised l b env))
    (turns : (w d : Role) (env : Environment) → HasOnlyUsed env → HasOnlyUsed (turned w d env))
    (times_one : (t : ℕ) → times (coordinate t) one ≡ coordinate t) where
  index_kept : (n : ℕ) (w v : Names) (r : Renaming) → Stands n w v r → (i : Ix) → index_value v (renamed r i) ≡ index_value w i
  index_kept n w v r s (Fixed k) = refl
  index_kept n w v r s (Named i) = sym (s.agrees i)

  indices_kept : (n : ℕ) (w v : Names) (r : Renaming) → Stands n w v r → (b : List Ix) → index_values v (all_renamed r b) ≡ index_values w b
  indices_kept n w v r s [] = refl
  indices_kept n w v r s (i ∷ b) = ap₂ ◌∷◌ (index_kept n w v r s i) (indices_kept n w v r s b)

  all_below : (n : ℕ) (w v : Names) (r : Renaming) → Stands n w v r → (b : List Ix) → AreBelow n (all_renamed r b)
  all_below n w v r s [] = tt
  all_below n w v r s (Fixed k ∷ b) = (tt, all_below n w v r s b)
  all_below n w v r s (Named i ∷ b) = (s.below i, all_below n w v r s b)

  below_more : (n : ℕ) (x : Ix) → IsBelow n x → IsBelow (suc n) x
  below_more n (Fixed k) h = tt
  below_more n (Named i) h = omega arith

  under : (n i k : ℕ) (w v : Names) (r : Renaming) → Stands n w v r → Stands (suc n) (with_name i k w) (with_name n k v) (with_index i (Named n) r)
  under n i k w v r s = record { agrees = λ j. agree j (j == i); below = λ j. lower j (j == i) }
    where
      kept : (x : Ix) → IsBelow n x → index_value (with_name n k v) x ≡ index_value v x
      kept (Fixed m) h = refl
      kept (Named m) h = go (m == n) refl
        where
          go : (t : Bool) → (m == n) ≡ t → (if t then k else v m) ≡ v m
          go true e = absurd (let q : m ≡ n = eqb-true m n e in omega arith)
          go false e = refl

      own : (n == n) ≡ true → (if n == n then k else v n) ≡ k
      own e = ap (λ t. if t then k else v n) e

      agree : (j : ℕ) (t : Bool) → (if t then k else w j) ≡ index_value (with_name n k v) (if t then Named n else r j)
      agree j true = sym (own (eq-eqb n n refl))
      agree j false = s.agrees j ∙ sym (kept (r j) (s.below j))

      lower : (j : ℕ) (t : Bool) → IsBelow (suc n) (if t then Named n else r j)
      lower j true = omega arith
      lower j false = below_more n (r j) (s.below j)

  raised_zero : (l : ℕ) (c : List ℕ) (env : Environment) → HasOnlyUsed env → (m : ℕ) (b : List ℕ)
      → coefficient_of (parameter_number env.used) 0 ((raised l c env).offset m b) ≡ env.offset m b
  raised_zero l c env u m b = go ((m == l) && same_list b c)
    where
      go : (t : Bool) → coefficient_of (parameter_number env.used) 0 (if t then plus (env.offset m b) (parameter env.used) else env.offset m b) ≡ env.offset m b
      go true = ap (λ p. coefficient_of (parameter_number env.used) 0 (plus (env.offset m b) p)) (sym (times_one _)) ∙ C.zero_line _ _ _ (u.offsets m b env.used (le_same env.used))
      go false = C.zero_free _ _ (u.offsets m b env.used (le_same env.used))

  raised_one : (l : ℕ) (c : List ℕ) (env : Environment) → HasOnlyUsed env → (m : ℕ) (b : List ℕ)
      → coefficient_of (parameter_number env.used) 1 ((raised l c env).offset m b) ≡ (if (m == l) && same_list b c then one else nil)
  raised_one l c env u m b = go ((m == l) && same_list b c)
    where
      go : (t : Bool) → coefficient_of (parameter_number env.used) 1 (if t then plus (env.offset m b) (parameter env.used) else env.offset m b) ≡ (if t then one else nil)
      go true = ap (λ p. coefficient_of (parameter_number env.used) 1 (plus (env.offset m b) p)) (sym (times_one _)) ∙ C.one_line _ _ _ (u.offsets m b env.used (le_same env.used)) (C.of_one _)
      go false = C.one_free _ _ (u.offsets m b env.used (le_same env.used))

  turned_zero : (w d : Role) (env : Environment) → HasOnlyUsed env → (r : Role) (i : ℕ)
      → coefficient_of (parameter_number env.used) 0 ((turned w d env).value r i) ≡ env.value r i
  turned_zero w d env u r i = go (same_role r w)
    where
      go : (t : Bool) → coefficient_of (parameter_number env.used) 0 (if t then plus (env.value r i) (times (parameter env.used) (env.value d i)) else env.value r i) ≡ env.value r i
      go true = C.zero_line _ _ _ (u.values r i env.used (le_same env.used))
      go false = C.zero_free _ _ (u.values r i env.used (le_same env.used))

  turned_one : (w d : Role) (env : Environment) → HasOnlyUsed env → (r : Role) (i : ℕ)
      → coefficient_of (parameter_number env.used) 1 ((turned w d env).value r i) ≡ (if same_role r w then env.value d i else nil)
  turned_one w d env u r i = go (same_role r w)
    where
      go : (t : Bool) → coefficient_of (parameter_number env.used) 1 (if t then plus (env.value r i) (times (parameter env.used) (env.value d i)) else env.value r i) ≡ (if t then env.value d i else nil)
      go true = C.one_line _ _ _ (u.values r i env.used (le_same env.used)) (u.values d i env.used (le_same env.used))
      go false = C.one_free _ _ (u.values r i env.used (le_same env.used))

  mutual
    pub expand_means : (e : Term) (env : Environment) → HasOnlyUsed env → (n : ℕ) (w v : Names) (r : Renaming) → Stands n w v r
        → meaning table (expand e r n) env v ≡ meaning table e env w
    expand_means (num x) env u n w v r s = refl
    expand_means (fun f b) env u n w v r s = ap (λ c. at_place (function_place table f c) (env.value f.role)) (indices_kept n w v r s b)
    expand_means (mark m b e) env u n w v r s = ap₂ plus (expand_means e env u n w v r s) (ap (env.offset m) (indices_kept n w v r s b))
    expand_means (neg x) env u n w v r s = ap negative (expand_means x env u n w v r s)
    expand_means (sum x y) env u n w v r s = ap₂ plus (expand_means x env u n w v r s) (expand_means y env u n w v r s)
    expand_means (prod x y) env u n w v r s = ap₂ times (expand_means x env u n w v r s) (expand_means y env u n w v r s)
    expand_means (over i d b) env u n w v r s = below_same d _ _ (λ k. expand_means b env u (suc n) (with_name i k w) (with_name n k v) (with_index i (Named n) r) (under n i k w v r s))
    expand_means (dx i b) env u n w v r s = ap₂ along (index_kept n w v r s i) (expand_means b env u n w v r s)
    expand_means (delta i j) env u n w v r s = ap₂ unit_or_nil (index_kept n w v r s i) (index_kept n w v r s j)
    expand_means (pick i ts) env u n w v r s = ap (item_meaning table (expand_all ts r n) env v) (index_kept n w v r s i) ∙ all_mean ts env u n w v r s (index_value w i)
    expand_means (raise l at e) env u n w v r s =
        sym (by_variable_is C table env.used env (raised l (index_values w at) env) (λ q i. C.zero_free _ _ (u.values q i env.used (le_same env.used)))
        (raised_zero l (index_values w at) env u) l (index_values w at) (λ q i. C.one_free _ _ (u.values q i env.used (le_same env.used)))
        (raised_one l (index_values w at) env u) n (all_renamed r at) (all_below n w v r s at) (expand e r n) v (expand_ready e r n) (indices_kept n w v r s at))
        ∙ ap (coefficient_of (parameter_number env.used) 1) (expand_means e (raised l (index_values w at) env) (only 0 l (index_values w at) env u) n w v r s)
    expand_means (turn f g e) env u n w v r s =
        sym (linear_is C table env.used env (turned f.role g.role env) (turned_zero f.role g.role env u) (λ m b. C.zero_free _ _ (u.offsets m b env.used (le_same env.used)))
        f.role g.role (turned_one f.role g.role env u) (λ m b. C.one_free _ _ (u.offsets m b env.used (le_same env.used))) n (expand e r n) v (expand_ready e r n))
        ∙ ap (coefficient_of (parameter_number env.used) 1) (expand_means e (turned f.role g.role env) (turns f.role g.role env u) n w v r s)

    all_mean : (ts : Terms) (env : Environment) → HasOnlyUsed env → (n : ℕ) (w v : Names) (r : Renaming) → Stands n w v r → (i : ℕ)
        → item_meaning table (expand_all ts r n) env v i ≡ item_meaning table ts env w i
    all_mean no_terms env u n w v r s i = refl
    all_mean (term t ts) env u n w v r s zero = expand_means t env u n w v r s
    all_mean (term t ts) env u n w v r s (suc i) = all_mean ts env u n w v r s i
