-- The part of a tree with one factor of the trial function, and that with none: coefficients of the parameter that scales it
use Rattle.std.proofs.Common.{◌≡◌, ℕ, zero, suc, List, [], ◌∷◌, map, Bool, true, false, Option, None, Some, if◌then◌else◌, ◌==◌, refl, sym, ◌∙◌, ap, ap₂}
use mathlib.Core.Path.{fun_ext}
use Rattle.algebra.specs.RingLaws as L
use Rattle.calculus.specs.Polynomial.{Polynomial, polynomials, nil, one, plus, times, negative, derivative, coefficient_of, plus-nil}
use Rattle.calculus.specs.Integral.{sum_below}
use Rattle.ufl_tree.specs.declared.function.Function.{Function}
use Rattle.ufl_tree.specs.declared.function.Ix.{Ix}
use Rattle.ufl_tree.specs.declared.function.Role.{Role}
use Rattle.ufl_tree.specs.declared.function.Role.TheVariants.{Trial}
use Rattle.ufl_tree.specs.declared.plain.Plain.{Plain}
use Rattle.ufl_tree.specs.Indices.{Names, with_name, index_value, index_values}
use Rattle.ufl_tree.specs.Places.{Table, function_place}
use Rattle.ufl_tree.specs.Reading.{term_of, terms_of}
use Rattle.ufl_tree.specs.Term.{Term, num, fun, mark, neg, sum, prod, over, dx, delta, pick, raise, turn, Terms, no_terms, term}
use Rattle.ufl_meaning.specs.Environment.{Environment, HasOnlyUsed, parameter, parameter_number, same_role, scaled}
use Rattle.ufl_meaning.specs.Meaning.{meaning, item_meaning}
use Rattle.ufl_meaning.specs.Operators.{along, at_place, unit_or_nil}
use Rattle.lower.specs.Renaming.{zero_term}
use Rattle.perturb.specs.Expanding.{IsReady, AreReady}
use Rattle.perturb.proofs.CoefficientsOf.{coefficient_laws}
use Rattle.perturb.proofs.MeaningKept.{rest, le_same}
use Rattle.integrands.specs.Sides.{without_trial, left_side, left_sides}
use Rattle.integrands.proofs.SubstitutionLaws.{silent, without_means, substituted_ready}

-- ---- items, one by one
pub each_left : (ps : List Plain) → left_sides (terms_of (map term_of ps)) ≡ terms_of (map (λ e. left_side (term_of e)) ps)
each_left [] = refl
each_left (p ∷ ps) = ap (term (left_side (term_of p))) (each_left ps)

-- ---- what the code makes of a product
pub left_product : (e b c a f a' f' : Plain) (s t : Term) → term_of e ≡ prod (term_of b) (term_of c) → a ≡ b → f ≡ c → a' ≡ b → f' ≡ c
    → s ≡ left_side (term_of a) → t ≡ left_side (term_of f)
    → sum (prod s (without_trial (term_of f'))) (prod (without_trial (term_of a')) t) ≡ left_side (term_of e)
left_product e b c a f a' f' s t p g k g' k' q r =
    ap₂ sum (ap₂ prod (q ∙ ap (λ x. left_side (term_of x)) g) (ap (λ x. without_trial (term_of x)) k'))
    (ap₂ prod (ap (λ x. without_trial (term_of x)) g') (r ∙ ap (λ x. left_side (term_of x)) k))
    ∙ sym (ap left_side p)

-- ---- what is expanded stays so
mutual
  pub left_ready : (n : ℕ) (e : Term) → IsReady n e → IsReady n (left_side e)
  left_ready n (num c) h = tt
  left_ready n (fun f at) h = go (same_role f.role Trial)
    where
      go : (t : Bool) → IsReady n (if t then fun f at else zero_term)
      go true = tt
      go false = tt
  left_ready n (mark l at e) h = left_ready n e h
  left_ready n (neg a) h = left_ready n a h
  left_ready n (sum a b) h = (left_ready n a h.0, left_ready n b h.1)
  left_ready n (prod a b) h = ((left_ready n a h.0, substituted_ready n _ b h.1), (substituted_ready n _ a h.0, left_ready n b h.1))
  left_ready n (over i d b) h = (h.0, left_ready n b h.1)
  left_ready n (dx i b) h = left_ready n b h
  left_ready n (delta i j) h = tt
  left_ready n (pick i ts) h = all_left_ready n ts h
  left_ready n (raise l at e) h = absurd h
  left_ready n (turn f g e) h = absurd h

  all_left_ready : (n : ℕ) (ts : Terms) → AreReady n ts → AreReady n (left_sides ts)
  all_left_ready n no_terms h = tt
  all_left_ready n (term t ts) h = (left_ready n t h.0, all_left_ready n ts h.1)

-- ---- the coefficients of the parameter, leaf by leaf
module _ (env : Environment) (u : HasOnlyUsed env) where
  abbrev k : ℕ
  k = parameter_number env.used

  -- a multiple of the parameter
  multiple_zero : (p : Polynomial) → coefficient_of k 0 (times (parameter env.used) p) ≡ nil
  multiple_zero p = ap (coefficient_of k 0) (sym (L.zero-add polynomials _)) ∙ coefficient_laws.zero_line k nil p (coefficient_laws.of_nil k)

  multiple_one : (p : Polynomial) → derivative k p ≡ nil → coefficient_of k 1 (times (parameter env.used) p) ≡ p
  multiple_one p h = ap (coefficient_of k 1) (sym (L.zero-add polynomials _)) ∙ coefficient_laws.one_line k nil p (coefficient_laws.of_nil k) h

  values_zero : (r : Role) (i : ℕ) → coefficient_of k 0 ((scaled Trial env).value r i) ≡ (silent Trial env).value r i
  values_zero r i = go (same_role r Trial)
    where
      go : (t : Bool) → coefficient_of k 0 (if t then times (parameter env.used) (env.value r i) else env.value r i) ≡ (if t then nil else env.value r i)
      go true = multiple_zero _
      go false = coefficient_laws.zero_free _ _ (u.values r i env.used (le_same env.used))

  values_one : (r : Role) (i : ℕ) → coefficient_of k 1 ((scaled Trial env).value r i) ≡ (if same_role r Trial then env.value r i else nil)
  values_one r i = go (same_role r Trial)
    where
      go : (t : Bool) → coefficient_of k 1 (if t then times (parameter env.used) (env.value r i) else env.value r i) ≡ (if t then env.value r i else nil)
      go true = multiple_one _ (u.values r i env.used (le_same env.used))
      go false = coefficient_laws.one_free _ _ (u.values r i env.used (le_same env.used))

  offsets_zero : (l : ℕ) (b : List ℕ) → coefficient_of k 0 (env.offset l b) ≡ env.offset l b
  offsets_zero l b = coefficient_laws.zero_free _ _ (u.offsets l b env.used (le_same env.used))

  offsets_one : (l : ℕ) (b : List ℕ) → coefficient_of k 1 (env.offset l b) ≡ nil
  offsets_one l b = coefficient_laws.one_free _ _ (u.offsets l b env.used (le_same env.used))

  module _ (elements : Table) where
    -- with none
    pub rest_is : (n : ℕ) (e : Term) (v : Names) → IsReady n e → coefficient_of k 0 (meaning elements e (scaled Trial env) v) ≡ meaning elements (without_trial e) env v
    rest_is n e v h =
        rest coefficient_laws elements env.used (silent Trial env) (scaled Trial env) values_zero offsets_zero n e v h ∙ sym (without_means elements Trial env n e v h)

    nil_one : coefficient_of k 1 nil ≡ nil
    nil_one = coefficient_laws.one_free k nil (coefficient_laws.of_nil k)

    below_one : (n : ℕ) (f : ℕ → Polynomial) → coefficient_of k 1 (sum_below n f) ≡ sum_below n (λ j. coefficient_of k 1 (f j))
    below_one zero f = nil_one
    below_one (suc n) f = coefficient_laws.adds k 1 _ _ ∙ ap (λ p. plus p (coefficient_of k 1 (f n))) (below_one n f)

    unit_free : (i j : ℕ) → derivative k (unit_or_nil i j) ≡ nil
    unit_free i j = go (i == j)
      where
        go : (b : Bool) → derivative k (if b then one else nil) ≡ nil
        go true = coefficient_laws.of_one k
        go false = coefficient_laws.of_nil k

    function_one : (p : Option ℕ) (f g : ℕ → Polynomial) → ((i : ℕ) → coefficient_of k 1 (f i) ≡ g i) → coefficient_of k 1 (at_place p f) ≡ at_place p g
    function_one None f g h = nil_one
    function_one (Some i) f g h = h i

    nothing_at : (p : Option ℕ) → at_place p (λ i. nil) ≡ nil
    nothing_at None = refl
    nothing_at (Some i) = refl

    function_is : (f : Function) (at : List Ix) (v : Names) (t : Bool) → ((i : ℕ) → coefficient_of k 1 ((scaled Trial env).value f.role i) ≡ (if t then env.value f.role i else nil))
        → coefficient_of k 1 (meaning elements (fun f at) (scaled Trial env) v) ≡ meaning elements (if t then fun f at else zero_term) env v
    function_is f at v true h = function_one (function_place elements f (index_values v at)) _ _ h
    function_is f at v false h = function_one (function_place elements f (index_values v at)) _ (λ i. nil) h ∙ nothing_at (function_place elements f (index_values v at))

    -- with one
    mutual
      pub left_is : (n : ℕ) (e : Term) (v : Names) → IsReady n e → coefficient_of k 1 (meaning elements e (scaled Trial env) v) ≡ meaning elements (left_side e) env v
      left_is n (num c) v h = coefficient_laws.one_free _ _ (coefficient_laws.of_constant _ _)
      left_is n (fun f at) v h = function_is f at v (same_role f.role Trial) (values_one f.role)
      left_is n (mark l at e) v h = coefficient_laws.adds _ 1 _ _ ∙ ap₂ plus (left_is n e v h) (offsets_one l (index_values v at)) ∙ plus-nil _
      left_is n (neg a) v h = coefficient_laws.one_negates _ _ ∙ ap negative (left_is n a v h)
      left_is n (sum a b) v h = coefficient_laws.adds _ 1 _ _ ∙ ap₂ plus (left_is n a v h.0) (left_is n b v h.1)
      left_is n (prod a b) v h =
          coefficient_laws.one_times _ _ _ ∙ ap₂ plus (ap₂ times (left_is n a v h.0) (rest_is n b v h.1)) (ap₂ times (rest_is n a v h.0) (left_is n b v h.1))
      left_is n (over i d b) v h = below_one d _ ∙ ap (sum_below d) (fun_ext (λ j. left_is n b (with_name i j v) h.1))
      left_is n (dx i b) v h = coefficient_laws.one_along env.used _ _ ∙ ap (along (index_value v i)) (left_is n b v h)
      left_is n (delta i j) v h = coefficient_laws.one_free _ _ (unit_free _ _)
      left_is n (pick i ts) v h = item_left n ts v h (index_value v i)
      left_is n (raise l at e) v h = absurd h
      left_is n (turn f g e) v h = absurd h

      item_left : (n : ℕ) (ts : Terms) (v : Names) → AreReady n ts → (i : ℕ) → coefficient_of k 1 (item_meaning elements ts (scaled Trial env) v i) ≡ item_meaning elements (left_sides ts) env v i
      item_left n no_terms v h i = nil_one
      item_left n (term t ts) v h zero = left_is n t v h.0
      item_left n (term t ts) v h (suc i) = item_left n ts v h.1 i
