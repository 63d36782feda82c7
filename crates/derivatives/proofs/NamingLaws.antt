-- The names of a tree: one item further, and what depends on them alone
use Rattle.std.proofs.Common.{◌≡◌, ℕ, zero, suc, max, List, [], ◌∷◌, ◌<◌, ◌≤◌, ◌+◌, ◌++◌, ◌==◌, length, take, get_or, map, Bool, true, false, if◌then◌else◌, refl, sym, ◌∙◌, ap, ap₂, arith}
use mathlib.Core.Path.{fun_ext}
use Rattle.std.proofs.lemmas.Grind.{take_at_read}
use Rattle.ufl_tree.specs.declared.function.Ix.{Ix}
use Rattle.ufl_tree.specs.declared.function.Ix.TheVariants.{Fixed, Named}
use Rattle.ufl_tree.specs.declared.plain.Plain.{Plain}
use Rattle.ufl_tree.specs.Indices.{Names, with_name, index_value, index_values}
use Rattle.ufl_tree.specs.Places.{Table, function_place}
use Rattle.ufl_tree.specs.Reading.{term_of, terms_of}
use Rattle.ufl_tree.specs.Term.{Term, num, fun, mark, neg, sum, prod, over, dx, delta, pick, raise, turn, Terms, no_terms, term}
use Rattle.calculus.specs.Polynomial.{plus, times, negative, coefficient_of}
use Rattle.calculus.specs.Integral.{sum_below}
use Rattle.ufl_meaning.specs.Environment.{Environment, parameter_number, raised, turned}
use Rattle.ufl_meaning.specs.Meaning.{meaning, item_meaning}
use Rattle.ufl_meaning.specs.Operators.{along, at_place, unit_or_nil}
use Rattle.lower.specs.Keeping.{above, all_above}
use Rattle.lower.specs.Renaming.{Renaming, with_index, renamed, all_renamed}
use Rattle.perturb.specs.Expanding.{by_variable, linear, expand, expand_all}
use Rattle.derivatives.specs.Naming.{term_above, terms_above}

-- ---- one item further
names-push : (ps : List Plain) (p : Plain) → terms_above (terms_of (map term_of (ps ++ p ∷ []))) ≡ max (terms_above (terms_of (map term_of ps))) (term_above (term_of p))
names-push [] p = omega arith
names-push (x ∷ ps) p = omega (arith, names-push ps p)

pub names_next : (ps : List Plain) (i : ℕ) (p : Plain) (most own new : ℕ) → i < length ps → p ≡ get_or ps i p → most ≡ terms_above (terms_of (map term_of (take i ps))) → own ≡ term_above (term_of p)
    → new ≡ max most own → new ≡ terms_above (terms_of (map term_of (take (i + 1) ps)))
names_next ps i p most own new h e was is now =
    now ∙ ap₂ max was is ∙ sym (names-push (take i ps) p) ∙ sym (ap (λ x. terms_above (terms_of (map term_of x))) ((take_at_read ps i p h).1 ∙ ap (λ y. take i ps ++ y ∷ []) (sym e)))

-- ---- the same below m
abbrev pub Agree : {A : Type 0} → ℕ → (ℕ → A) → (ℕ → A) → Type 0
Agree m f g = (i : ℕ) → i < m → f i ≡ g i

-- one name more that both have
agree_with : {A : Type 0} (m i : ℕ) (x : A) (f g : ℕ → A) → Agree m f g → Agree m (λ j. if j == i then x else f j) (λ j. if j == i then x else g j)
agree_with m i x f g h j p = go (j == i)
  where
    go : (s : Bool) → (if s then x else f j) ≡ (if s then x else g j)
    go true = refl
    go false = h j p

first : (a b n : ℕ) → max a b ≤ n → a ≤ n
first a b n h = omega (arith, h)

second : (a b n : ℕ) → max a b ≤ n → b ≤ n
second a b n h = omega (arith, h)

module _ (m : ℕ) where
  same_index : (r q : Renaming) → Agree m r q → (i : Ix) → above i ≤ m → renamed r i ≡ renamed q i
  same_index r q h (Fixed k) p = refl
  same_index r q h (Named i) p = h i (omega (arith, p))

  same_indices : (r q : Renaming) → Agree m r q → (at : List Ix) → all_above at ≤ m → all_renamed r at ≡ all_renamed q at
  same_indices r q h [] p = refl
  same_indices r q h (i ∷ at) p = ap₂ ◌∷◌ (same_index r q h i (first (above i) (all_above at) m p)) (same_indices r q h at (second (above i) (all_above at) m p))

  -- what a tree becomes depends on its own names alone
  mutual
    pub same_expand : (e : Term) (r q : Renaming) (n : ℕ) → Agree m r q → term_above e ≤ m → expand e r n ≡ expand e q n
    same_expand (num c) r q n h p = refl
    same_expand (fun f at) r q n h p = ap (fun f) (same_indices r q h at p)
    same_expand (mark l at e) r q n h p = ap₂ (mark l) (same_indices r q h at (first (all_above at) (term_above e) m p)) (same_expand e r q n h (second (all_above at) (term_above e) m p))
    same_expand (neg a) r q n h p = ap neg (same_expand a r q n h p)
    same_expand (sum a b) r q n h p = ap₂ sum (same_expand a r q n h (first (term_above a) (term_above b) m p)) (same_expand b r q n h (second (term_above a) (term_above b) m p))
    same_expand (prod a b) r q n h p = ap₂ prod (same_expand a r q n h (first (term_above a) (term_above b) m p)) (same_expand b r q n h (second (term_above a) (term_above b) m p))
    same_expand (over i d b) r q n h p =
        ap (over n d) (same_expand b (with_index i (Named n) r) (with_index i (Named n) q) (suc n) (agree_with m i (Named n) r q h) (second (suc i) (term_above b) m p))
    same_expand (dx i b) r q n h p = ap₂ dx (same_index r q h i (first (above i) (term_above b) m p)) (same_expand b r q n h (second (above i) (term_above b) m p))
    same_expand (delta i j) r q n h p = ap₂ delta (same_index r q h i (first (above i) (above j) m p)) (same_index r q h j (second (above i) (above j) m p))
    same_expand (pick i ts) r q n h p = ap₂ pick (same_index r q h i (first (above i) (terms_above ts) m p)) (all_same_expand ts r q n h (second (above i) (terms_above ts) m p))
    same_expand (raise l at e) r q n h p = ap₂ (by_variable l) (same_indices r q h at (first (all_above at) (term_above e) m p)) (same_expand e r q n h (second (all_above at) (term_above e) m p))
    same_expand (turn f g e) r q n h p = ap (linear f.role g.role) (same_expand e r q n h p)

    all_same_expand : (ts : Terms) (r q : Renaming) (n : ℕ) → Agree m r q → terms_above ts ≤ m → expand_all ts r n ≡ expand_all ts q n
    all_same_expand no_terms r q n h p = refl
    all_same_expand (term t ts) r q n h p = ap₂ term (same_expand t r q n h (first (term_above t) (terms_above ts) m p)) (all_same_expand ts r q n h (second (term_above t) (terms_above ts) m p))

  same_value : (v w : Names) → Agree m v w → (i : Ix) → above i ≤ m → index_value v i ≡ index_value w i
  same_value v w h (Fixed k) p = refl
  same_value v w h (Named i) p = h i (omega (arith, p))

  same_values : (v w : Names) → Agree m v w → (at : List Ix) → all_above at ≤ m → index_values v at ≡ index_values w at
  same_values v w h [] p = refl
  same_values v w h (i ∷ at) p = ap₂ ◌∷◌ (same_value v w h i (first (above i) (all_above at) m p)) (same_values v w h at (second (above i) (all_above at) m p))

  -- and so does what it means
  module _ (elements : Table) where
    mutual
      pub same_meaning : (e : Term) (env : Environment) (v w : Names) → Agree m v w → term_above e ≤ m → meaning elements e env v ≡ meaning elements e env w
      same_meaning (num c) env v w h p = refl
      same_meaning (fun f at) env v w h p = ap (λ b. at_place (function_place elements f b) (env.value f.role)) (same_values v w h at p)
      same_meaning (mark l at e) env v w h p = ap₂ plus (same_meaning e env v w h (second (all_above at) (term_above e) m p)) (ap (env.offset l) (same_values v w h at (first (all_above at) (term_above e) m p)))
      same_meaning (neg a) env v w h p = ap negative (same_meaning a env v w h p)
      same_meaning (sum a b) env v w h p = ap₂ plus (same_meaning a env v w h (first (term_above a) (term_above b) m p)) (same_meaning b env v w h (second (term_above a) (term_above b) m p))
      same_meaning (prod a b) env v w h p = ap₂ times (same_meaning a env v w h (first (term_above a) (term_above b) m p)) (same_meaning b env v w h (second (term_above a) (term_above b) m p))
      same_meaning (over i d b) env v w h p =
          ap (sum_below d) (fun_ext (λ k. same_meaning b env (with_name i k v) (with_name i k w) (agree_with m i k v w h) (second (suc i) (term_above b) m p)))
      same_meaning (dx i b) env v w h p = ap₂ along (same_value v w h i (first (above i) (term_above b) m p)) (same_meaning b env v w h (second (above i) (term_above b) m p))
      same_meaning (delta i j) env v w h p = ap₂ unit_or_nil (same_value v w h i (first (above i) (above j) m p)) (same_value v w h j (second (above i) (above j) m p))
      same_meaning (pick i ts) env v w h p =
          ap (item_meaning elements ts env v) (same_value v w h i (first (above i) (terms_above ts) m p)) ∙ same_item ts env v w h (second (above i) (terms_above ts) m p) (index_value w i)
      same_meaning (raise l at e) env v w h p =
          ap (λ b. coefficient_of (parameter_number env.used) 1 (meaning elements e (raised l b env) v)) (same_values v w h at (first (all_above at) (term_above e) m p))
          ∙ ap (coefficient_of (parameter_number env.used) 1) (same_meaning e (raised l (index_values w at) env) v w h (second (all_above at) (term_above e) m p))
      same_meaning (turn f g e) env v w h p = ap (coefficient_of (parameter_number env.used) 1) (same_meaning e (turned f.role g.role env) v w h p)

      same_item : (ts : Terms) (env : Environment) (v w : Names) → Agree m v w → terms_above ts ≤ m → (i : ℕ) → item_meaning elements ts env v i ≡ item_meaning elements ts env w i
      same_item no_terms env v w h p i = refl
      same_item (term t ts) env v w h p zero = same_meaning t env v w h (first (term_above t) (terms_above ts) m p)
      same_item (term t ts) env v w h p (suc i) = same_item ts env v w h (second (term_above t) (terms_above ts) m p) i
