-- Functions in place of others: what is expanded stays so, and the meaning is that of the tree where these are the functions
use Rattle.std.proofs.Common.{◌≡◌, ℕ, zero, suc, List, [], ◌∷◌, map, Bool, true, false, Option, None, Some, if◌then◌else◌, refl, ap, ap₂}
use mathlib.Core.Path.{fun_ext}
use Rattle.calculus.specs.Polynomial.{nil, plus, times, negative}
use Rattle.calculus.specs.Integral.{sum_below}
use Rattle.ufl_tree.specs.declared.function.Function.{Function}
use Rattle.ufl_tree.specs.declared.function.Ix.{Ix}
use Rattle.ufl_tree.specs.declared.function.Role.{Role}
use Rattle.ufl_tree.specs.declared.plain.Plain.{Plain}
use Rattle.ufl_tree.specs.Indices.{Names, with_name, index_value, index_values}
use Rattle.ufl_tree.specs.Places.{Table, function_place}
use Rattle.ufl_tree.specs.Reading.{term_of, terms_of}
use Rattle.ufl_tree.specs.Term.{Term, num, fun, mark, neg, sum, prod, over, dx, delta, pick, raise, turn, Terms, no_terms, term}
use Rattle.ufl_meaning.specs.Environment.{Environment, same_role, with_function, exchanged}
use Rattle.ufl_meaning.specs.Meaning.{meaning, item_meaning}
use Rattle.ufl_meaning.specs.Operators.{along, at_place}
use Rattle.lower.specs.Renaming.{zero_term}
use Rattle.perturb.specs.Expanding.{IsReady, AreReady}
use Rattle.integrands.specs.declared.substitution.Substitution.{Substitution}
use Rattle.integrands.specs.declared.substitution.Substitution.TheVariants.{Without, Replaced, Exchanged}
use Rattle.integrands.specs.Substitution.{in_role, put, substituted, all_substituted}

-- ---- items, one by one
pub each_substituted : (s : Substitution) (ps : List Plain) → all_substituted s (terms_of (map term_of ps)) ≡ terms_of (map (λ e. substituted s (term_of e)) ps)
each_substituted s [] = refl
each_substituted s (p ∷ ps) = ap (term (substituted s (term_of p))) (each_substituted s ps)

-- ---- what is expanded stays so
put_ready : (n : ℕ) (s : Substitution) (f : Function) (at : List Ix) → IsReady n (put s f at)
put_ready n (Without w) f at = go (same_role f.role w)
  where
    go : (t : Bool) → IsReady n (if t then zero_term else fun f at)
    go true = tt
    go false = tt
put_ready n (Replaced last by) f at = go (same_role f.role last)
  where
    go : (t : Bool) → IsReady n (if t then in_role by f at else fun f at)
    go true = tt
    go false = tt
put_ready n Exchanged f at = tt

mutual
  pub substituted_ready : (n : ℕ) (s : Substitution) (e : Term) → IsReady n e → IsReady n (substituted s e)
  substituted_ready n s (num c) h = tt
  substituted_ready n s (fun f at) h = put_ready n s f at
  substituted_ready n s (mark l at e) h = substituted_ready n s e h
  substituted_ready n s (neg a) h = substituted_ready n s a h
  substituted_ready n s (sum a b) h = (substituted_ready n s a h.0, substituted_ready n s b h.1)
  substituted_ready n s (prod a b) h = (substituted_ready n s a h.0, substituted_ready n s b h.1)
  substituted_ready n s (over i d b) h = (h.0, substituted_ready n s b h.1)
  substituted_ready n s (dx i b) h = substituted_ready n s b h
  substituted_ready n s (delta i j) h = tt
  substituted_ready n s (pick i ts) h = all_substituted_ready n s ts h
  substituted_ready n s (raise l at e) h = absurd h
  substituted_ready n s (turn f g e) h = absurd h

  all_substituted_ready : (n : ℕ) (s : Substitution) (ts : Terms) → AreReady n ts → AreReady n (all_substituted s ts)
  all_substituted_ready n s no_terms h = tt
  all_substituted_ready n s (term t ts) h = (substituted_ready n s t h.0, all_substituted_ready n s ts h.1)

-- ---- the meaning: a component that is put means in one environment what the function means in the other
module _ (elements : Table) (s : Substitution) (env other : Environment)
    (puts : (f : Function) (at : List Ix) (v : Names) → meaning elements (put s f at) env v ≡ meaning elements (fun f at) other v)
    (offsets : (l : ℕ) (b : List ℕ) → env.offset l b ≡ other.offset l b) where
  mutual
    pub substituted_means : (n : ℕ) (e : Term) (v : Names) → IsReady n e → meaning elements (substituted s e) env v ≡ meaning elements e other v
    substituted_means n (num c) v h = refl
    substituted_means n (fun f at) v h = puts f at v
    substituted_means n (mark l at e) v h = ap₂ plus (substituted_means n e v h) (offsets l (index_values v at))
    substituted_means n (neg a) v h = ap negative (substituted_means n a v h)
    substituted_means n (sum a b) v h = ap₂ plus (substituted_means n a v h.0) (substituted_means n b v h.1)
    substituted_means n (prod a b) v h = ap₂ times (substituted_means n a v h.0) (substituted_means n b v h.1)
    substituted_means n (over i d b) v h = ap (sum_below d) (fun_ext (λ k. substituted_means n b (with_name i k v) h.1))
    substituted_means n (dx i b) v h = ap (along (index_value v i)) (substituted_means n b v h)
    substituted_means n (delta i j) v h = refl
    substituted_means n (pick i ts) v h = item_substituted n ts v h (index_value v i)
    substituted_means n (raise l at e) v h = absurd h
    substituted_means n (turn f g e) v h = absurd h

    item_substituted : (n : ℕ) (ts : Terms) (v : Names) → AreReady n ts → (i : ℕ) → item_meaning elements (all_substituted s ts) env v i ≡ item_meaning elements ts other v i
    item_substituted n no_terms v h i = refl
    item_substituted n (term t ts) v h zero = substituted_means n t v h.0
    item_substituted n (term t ts) v h (suc i) = item_substituted n ts v h.1 i

-- ---- the environments
pub replaced_means : (elements : Table) (last by : Role) (env : Environment) (n : ℕ) (e : Term) (v : Names) → IsReady n e
    → meaning elements (substituted (Replaced last by) e) env v ≡ meaning elements e (with_function last by env) v
replaced_means elements last by env = substituted_means elements (Replaced last by) env (with_function last by env) (λ f at v. go f at v (same_role f.role last)) (λ l b. refl)
  where
    go : (f : Function) (at : List Ix) (v : Names) (t : Bool)
        → meaning elements (if t then in_role by f at else fun f at) env v ≡ at_place (function_place elements f (index_values v at)) (λ i. if t then env.value by i else env.value f.role i)
    go f at v true = refl
    go f at v false = refl

pub exchanged_means : (elements : Table) (env : Environment) (n : ℕ) (e : Term) (v : Names) → IsReady n e
    → meaning elements (substituted Exchanged e) env v ≡ meaning elements e (exchanged env) v
exchanged_means elements env = substituted_means elements Exchanged env (exchanged env) (λ f at v. refl) (λ l b. refl)

-- a function that is 0
abbrev pub silent : Role → Environment → Environment
silent w env = record env { value = λ r i. if same_role r w then nil else env.value r i }

nothing_at : (p : Option ℕ) → nil ≡ at_place p (λ i. nil)
nothing_at None = refl
nothing_at (Some k) = refl

pub without_means : (elements : Table) (w : Role) (env : Environment) (n : ℕ) (e : Term) (v : Names) → IsReady n e
    → meaning elements (substituted (Without w) e) env v ≡ meaning elements e (silent w env) v
without_means elements w env = substituted_means elements (Without w) env (silent w env) (λ f at v. go f at v (same_role f.role w)) (λ l b. refl)
  where
    go : (f : Function) (at : List Ix) (v : Names) (t : Bool)
        → meaning elements (if t then zero_term else fun f at) env v ≡ at_place (function_place elements f (index_values v at)) (λ i. if t then nil else env.value f.role i)
    go f at v true = nothing_at (function_place elements f (index_values v at))
    go f at v false = refl
